-- Each number belongs to one name of one list.
use Rattle.std.proofs.Common.{◌≡◌, ℕ, zero, suc, ◌+◌, ◌-◌, ◌<◌, ◌≤◌, ◌⊎◌, inl, inr, ⊎_elim, Bool, true, false, List, [], ◌∷◌, length, Option, Some, None, option_map, slice_get, nat_lt, refl, ap, sym, ◌∙◌, subst, if◌then◌else◌, arith}
use Rattle.std.proofs.lemmas.Bool.{cases_order, cases_lt, lt-ltb, le-ltb, ltb-false}
use Rattle.std.proofs.lemmas.Option.{slice_get_within, slice_get_past, slice_get-get_or, same_Some}
use Rattle.std.specs.Option.{option_map_or}
use Rattle.cx_vtree.specs.InstanceTree.{Placed, same_name, declared_arrays, arrays_at}
use Rattle.cx_vtree.specs.NameNumbers.{position}
use Rattle.cx_vnets.specs.Numbers.{before, number_in}
use Rattle.cx_text.proofs.OptionLaws.{map_some}
use Rattle.cx_vtree.proofs.InstanceTreeLemmas.{same_is, same_self}

-- the first place of a name has it
pub position_here : (ns : List (List ℕ)) (name : List ℕ) (k : ℕ) → position ns name ≡ Some k → slice_get ns k ≡ Some name
position_here [] name k e = absurd (cc)
position_here (n ∷ ns) name k e = go (λ h. position_here ns name h) (same_name n name) refl e
  where
    rest : (h : ℕ) → position ns name ≡ Some h → suc h ≡ k → slice_get ns h ≡ Some name → slice_get (n ∷ ns) k ≡ Some name
    rest h is same at = subst (λ x. slice_get (n ∷ ns) x ≡ Some name) same at

    go : ((h : ℕ) → position ns name ≡ Some h → slice_get ns h ≡ Some name) → (t : Bool) → same_name n name ≡ t
        → (if t then Some 0 else option_map suc (position ns name)) ≡ Some k → slice_get (n ∷ ns) k ≡ Some name
    go later true is e = let same : 0 ≡ k = cc in subst (λ x. slice_get (n ∷ ns) x ≡ Some name) same (ap Some (same_is n name is))
    go later false is e = let r = map_some suc (position ns name) k e in rest r.0 r.1 r.2 (later r.0 r.1)

-- a name that stands in a list has a first place
pub position_there : (ns : List (List ℕ)) (name : List ℕ) (k : ℕ) → slice_get ns k ≡ Some name → (h : ℕ) × (position ns name ≡ Some h)
position_there [] name k e = absurd (cc)
position_there (n ∷ ns) name zero e =
    let same : n ≡ name = cc in (0, ap (λ t. if t then Some 0 else option_map suc (position ns name)) (subst (λ x. same_name n x ≡ true) same (same_self n)))
position_there (n ∷ ns) name (suc k) e = go (same_name n name) (position_there ns name k e)
  where
    go : (t : Bool) → ((h : ℕ) × (position ns name ≡ Some h)) → (h : ℕ) × ((if t then Some 0 else option_map suc (position ns name)) ≡ Some h)
    go true r = (0, refl)
    go false r = (suc r.0, ap (option_map suc) r.1)

module _ (lists : ℕ → List (List ℕ)) where
  pub before_up : (i j : ℕ) → i ≤ j → before lists i ≤ before lists j
  before_up i zero le = let e : i ≡ 0 = omega arith in ap_le i 0 e
    where
      ap_le : (a b : ℕ) → a ≡ b → before lists a ≤ before lists b
      ap_le a b e = let same : before lists a ≡ before lists b = ap (before lists) e in omega arith
  before_up i (suc j) le = ⊎_elim
      (λ same. let e : before lists i ≡ before lists (suc j) = ap (before lists) same in omega arith)
      (λ order. ⊎_elim
      (λ less.
      let within : i ≤ j = omega arith in
      let up = before_up i j within in
      let step : before lists (suc j) ≡ before lists j + length (lists j) = refl in
      omega arith)
      (λ more. absurd (omega arith))
      order)
      (cases_order i (suc j))

  -- all numbers of a list are below those of a later one
  pub number_below : (i k j : ℕ) (n : List ℕ) → i < j → slice_get (lists i) k ≡ Some n → before lists i + k < before lists j
  number_below i k j n less at =
      let within = slice_get_within (lists i) k n at in
      let up = before_up (suc i) j less in
      let step : before lists (suc i) ≡ before lists i + length (lists i) = refl in
      omega arith

  -- a number belongs to one place of one list
  pub number_once : (i k j h : ℕ) (n p : List ℕ) → slice_get (lists i) k ≡ Some n → slice_get (lists j) h ≡ Some p → before lists i + k ≡ before lists j + h → (i ≡ j) × (k ≡ h) × (n ≡ p)
  number_once i k j h n p at at' same = ⊎_elim
      (λ one.
      let e = ap (before lists) one in
      let k_is : k ≡ h = omega arith in
      (one, k_is, same_Some n p (sym at ∙ ap (λ z. slice_get (lists z) k) one ∙ ap (slice_get (lists j)) k_is ∙ at')))
      (λ order. absurd (⊎_elim
      (λ less. let lt = number_below i k j n less at in omega arith)
      (λ more. let lt = number_below j h i p more at' in omega arith)
      order))
      (cases_order i j)

  -- numbers are in the order of lists, and in each in the order of its names
  pub number_order : (i k j h : ℕ) (n : List ℕ) → slice_get (lists i) k ≡ Some n → (i < j) ⊎ ((i ≡ j) × (k < h)) → before lists i + k < before lists j + h
  number_order i k j h n at order = ⊎_elim
      (λ less. let lt = number_below i k j n less at in omega arith)
      (λ same. let e = ap (before lists) same.0 in let lt = same.1 in omega arith)
      order

  pub order_back : (i k j h : ℕ) (n : List ℕ) → slice_get (lists j) h ≡ Some n → before lists i + k < before lists j + h → (i < j) ⊎ ((i ≡ j) × (k < h))
  order_back i k j h n at lt = ⊎_elim
      (λ one. let e = ap (before lists) one in let k_is : k < h = omega arith in inr (one, k_is))
      (λ order. ⊎_elim
      (λ less. inl less)
      (λ more. absurd (let back = number_below j h i n more at in omega arith))
      order)
      (cases_order i j)

  -- the list and the name of a number
  abbrev pub located : ℕ → ℕ → Option (ℕ × List ℕ)
  located zero f = None
  located (suc i) f = if nat_lt f (before lists i) then located i f else option_map (λ n. (i, n)) (slice_get (lists i) (f - before lists i))

  pub located_here : (b i k : ℕ) (n : List ℕ) → i < b → slice_get (lists i) k ≡ Some n → located b (before lists i + k) ≡ Some (i, n)
  located_here zero i k n lt at = absurd (omega arith)
  located_here (suc b) i k n lt at = ⊎_elim
      (λ same. last same)
      (λ order. ⊎_elim
      (λ less. ap (λ t. if t then located b (before lists i + k) else option_map (λ n. (b, n)) (slice_get (lists b) (before lists i + k - before lists b))) (lt-ltb (before lists i + k) (before lists b) (number_below i k b n less at))
      ∙ located_here b i k n less at)
      (λ more. absurd (omega arith))
      order)
      (cases_order i b)
    where
      last : i ≡ b → located (suc b) (before lists i + k) ≡ Some (i, n)
      last same =
          let first = ap (before lists) same in
          let le : before lists b ≤ before lists i + k = omega arith in
          let place : before lists i + k - before lists b ≡ k = omega arith in
          ap (λ t. if t then located b (before lists i + k) else option_map (λ n. (b, n)) (slice_get (lists b) (before lists i + k - before lists b))) (le-ltb (before lists i + k) (before lists b) le)
          ∙ ap (λ x. option_map (λ n. (b, n)) (slice_get (lists b) x)) place
          ∙ ap (λ j. option_map (λ n. (b, n)) (slice_get (lists j) k)) (sym same)
          ∙ ap (option_map (λ n. (b, n))) at
          ∙ ap (λ j. Some (j, n)) (sym same)

  abbrev pub IsAt : ℕ → ℕ → List ℕ → Type 0
  IsAt f i n = (k : ℕ) × (f ≡ before lists i + k) × (slice_get (lists i) k ≡ Some n)

  pub located_tells : (b f i : ℕ) (n : List ℕ) → located b f ≡ Some (i, n) → IsAt f i n
  located_tells zero f i n e = absurd (cc)
  located_tells (suc b) f i n e = go (located_tells b f i n) (nat_lt f (before lists b)) refl e
    where
      here : (m : List ℕ) → slice_get (lists b) (f - before lists b) ≡ Some m → before lists b ≤ f → b ≡ i → m ≡ n → IsAt f i n
      here m at le same name =
          let place : f ≡ before lists b + (f - before lists b) = omega arith in
          subst (λ j. IsAt f j n) same (f - before lists b, place, at ∙ ap Some name)

      go : (located b f ≡ Some (i, n) → IsAt f i n) → (t : Bool) → nat_lt f (before lists b) ≡ t → (if t then located b f else option_map (λ n. (b, n)) (slice_get (lists b) (f - before lists b))) ≡ Some (i, n) → IsAt f i n
      go lower true is e = lower e
      go lower false is e =
          let r = map_some (λ n. (b, n)) (slice_get (lists b) (f - before lists b)) (i, n) e in
          here r.0 r.1 (ltb-false f (before lists b) is) (ap (λ q. q.0) r.2) (ap (λ q. q.1) r.2)

  -- each number below the count belongs to a name
  pub number_there : (b f : ℕ) → f < before lists b → (i : ℕ) × (k : ℕ) × (n : List ℕ) × (i < b) × (f ≡ before lists i + k) × (slice_get (lists i) k ≡ Some n)
  number_there zero f lt = absurd (omega arith)
  number_there (suc b) f lt = ⊎_elim
      (λ less. let r = number_there b f less in let up : r.0 < suc b = let lower = r.3 in omega arith in (r.0, r.1, r.2, up, r.4, r.5))
      (λ le.
      let step : before lists (suc b) ≡ before lists b + length (lists b) = refl in
      let within : f - before lists b < length (lists b) = omega arith in
      let place : f ≡ before lists b + (f - before lists b) = omega arith in
      let last : b < suc b = omega arith in
      (b, f - before lists b, _, last, place, slice_get-get_or (lists b) (f - before lists b) [] within))
      (cases_lt f (before lists b))

  -- the number of a name by its first place
  pub number_parts : (i : ℕ) (name : List ℕ) (f : ℕ) → number_in lists i name ≡ Some f → (k : ℕ) × (position (lists i) name ≡ Some k) × (before lists i + k ≡ f)
  number_parts i name f e = map_some (λ k. before lists i + k) (position (lists i) name) f e

  pub number_at : (i : ℕ) (name : List ℕ) (f : ℕ) → number_in lists i name ≡ Some f → (k : ℕ) × (slice_get (lists i) k ≡ Some name) × (before lists i + k ≡ f)
  number_at i name f e = let r = number_parts i name f e in (r.0, position_here (lists i) name r.0 r.1, r.2)

  -- a name that stands in a list has a number there
  pub number_of : (i k : ℕ) (name : List ℕ) → slice_get (lists i) k ≡ Some name → (h : ℕ) × (number_in lists i name ≡ Some (before lists i + h)) × (slice_get (lists i) h ≡ Some name)
  number_of i k name at =
      let r = position_there (lists i) name k at in
      (r.0, ap (option_map (λ h. before lists i + h)) r.1, position_here (lists i) name r.0 r.1)

pub array_within : (tree : List Placed) (i a : ℕ) (n : List ℕ) → slice_get (arrays_at tree i) a ≡ Some n → i < length tree
array_within tree i a n at = ⊎_elim (λ lt. lt) (λ le. absurd (past (slice_get tree i) (slice_get_past tree i le) at)) (cases_lt i (length tree))
  where
    past : (o : Option Placed) → o ≡ None → slice_get (declared_arrays (option_map_or (λ p. p.part.decls) o [])) a ≡ Some n → ⊥
    past None e at = cc
    past (Some p) e at = cc
