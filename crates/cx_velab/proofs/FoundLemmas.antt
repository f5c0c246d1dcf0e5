-- The last module of a name, by its number.
use Rattle.std.proofs.Common.{◌≡◌, ℕ, ◌+◌, ◌<◌, ◌≤◌, Bool, true, false, cond, min, List, [], ◌∷◌, ◌++◌, map, length, reverse, take, drop, get_or, Option, Some, None, slice_get, option_map, refl, ap, sym, ◌∙◌, subst, arith, append_assoc, length-append, if◌then◌else◌}
use Rattle.std.specs.HashMap as maps
use Rattle.std.specs.HashMap.{HashMap}
use Rattle.std.proofs.lemmas.List.{reverse-append, reverse-reverse, length-reverse, take-append-drop, length-take, length-take-le, take_at, take-take, take-map, take_more}
use Rattle.std.specs.Borrow.{Bor}
use Rattle.cx_vtree.specs.declared.modules.Module.{Module}
use Rattle.cx_vtree.specs.Plain.{PlainModule}
use Rattle.cx_vtree.specs.PlainParts.{plain_module, plain_modules}
use Rattle.cx_vtree.specs.InstanceTree.{same_name}
use Rattle.cx_vtree.specs.NameNumbers.{number_by}
use Rattle.cx_velab.specs.Trees.{found_from}
use Rattle.cx_velab.specs.Rows.{HasLast}
use Rattle.cx_velab.proofs.Listing.{map-pushed}
use Rattle.cx_text.proofs.ListLaws.{behind, length-map}

abbrev Found : Type 0
Found = PlainModule × List PlainModule

-- it is one of those that are given
found_parts : (rs : List PlainModule) (kind : List ℕ) (p : Found) → found_from rs kind ≡ Some p → (c : List PlainModule) × (rs ≡ c ++ p.0 ∷ p.1)
found_parts [] kind p e = absurd (cc)
found_parts (r ∷ rs) kind p e = go (same_name r.name kind) e (found_parts rs kind p)
  where
    go : (t : Bool) → (if t then Some (r, rs) else found_from rs kind) ≡ Some p → (found_from rs kind ≡ Some p → (c : List PlainModule) × (rs ≡ c ++ p.0 ∷ p.1))
        → (c : List PlainModule) × (r ∷ rs ≡ c ++ p.0 ∷ p.1)
    go true e h = let same : (r, rs) ≡ p = cc in ([], ap (λ (q : Found). q.0 ∷ q.1) same)
    go false e h = let d = h e in (r ∷ d.0, ap (λ l. r ∷ l) d.1)

-- one that stands behind is found there
found_behind : (xs ys : List PlainModule) (kind : List ℕ) (p : Found) → found_from (xs ++ ys) kind ≡ Some p → length p.1 < length ys → found_from ys kind ≡ Some p
found_behind [] ys kind p e less = e
found_behind (x ∷ xs) ys kind p e less = go (same_name x.name kind) e (λ f. found_behind xs ys kind p f less)
  where
    go : (t : Bool) → (if t then Some (x, xs ++ ys) else found_from (xs ++ ys) kind) ≡ Some p → (found_from (xs ++ ys) kind ≡ Some p → found_from ys kind ≡ Some p) → found_from ys kind ≡ Some p
    go true e h =
        let same : (x, xs ++ ys) ≡ p = cc in
        let count : length (xs ++ ys) ≡ length p.1 = ap (λ (q : Found). length q.1) same in
        absurd (omega (arith, less, count, length-append xs ys))
    go false e h = h e

none_behind : (xs ys : List PlainModule) (kind : List ℕ) → found_from (xs ++ ys) kind ≡ None → found_from ys kind ≡ None
none_behind [] ys kind e = e
none_behind (x ∷ xs) ys kind e = go (same_name x.name kind) e (none_behind xs ys kind)
  where
    go : (t : Bool) → (if t then Some (x, xs ++ ys) else found_from (xs ++ ys) kind) ≡ None → (found_from (xs ++ ys) kind ≡ None → found_from ys kind ≡ None) → found_from ys kind ≡ None
    go true e h = absurd (cc)
    go false e h = h e

reversed_parts : (ms : List PlainModule) (count : ℕ) → reverse ms ≡ reverse (drop count ms) ++ reverse (take count ms)
reversed_parts ms count = ap reverse (sym (take-append-drop count ms)) ∙ reverse-append (take count ms) (drop count ms)

-- it stands at the number of those before it
module _ (ms : List PlainModule) (kind : List ℕ) (p : Found) (found : found_from (reverse ms) kind ≡ Some p) where
  in_parts : ms ≡ reverse p.1 ++ (p.0 ∷ reverse (found_parts (reverse ms) kind p found).0)
  in_parts =
      let c = found_parts (reverse ms) kind p found in
      sym (reverse-reverse ms) ∙ ap reverse c.1 ∙ reverse-append c.0 (p.0 ∷ p.1)
      ∙ ap (λ l. l ++ reverse c.0) (reverse-append (p.0 ∷ []) p.1) ∙ append_assoc (reverse p.1) (p.0 ∷ []) (reverse c.0)

  pub found_small : length p.1 < length ms
  found_small =
      let c = found_parts (reverse ms) kind p found in
      let count : length ms ≡ length (reverse p.1) + length (p.0 ∷ reverse c.0) = ap length in_parts ∙ length-append (reverse p.1) (p.0 ∷ reverse c.0) in
      omega (arith, count, length-reverse p.1)

  pub found_at : slice_get ms (length p.1) ≡ Some p.0
  found_at =
      let c = found_parts (reverse ms) kind p found in
      let number : length p.1 ≡ length (reverse p.1) + 0 = omega (arith, length-reverse p.1) in
      ap (λ l. slice_get l (length p.1)) in_parts ∙ behind (reverse p.1) (p.0 ∷ reverse c.0) (length p.1) 0 number

  pub found_before : reverse (take (length p.1) ms) ≡ p.1
  found_before =
      let c = found_parts (reverse ms) kind p found in
      ap (λ l. reverse (take (length p.1) l)) in_parts ∙ ap reverse (take_at (reverse p.1) (p.0 ∷ reverse c.0) (length p.1) (length-reverse p.1)) ∙ reverse-reverse p.1

  -- and among fewer, if these reach past it
  pub found_within : (count : ℕ) → length p.1 < count → found_from (reverse (take count ms)) kind ≡ Some p
  found_within count less =
      let reach : length (reverse (take count ms)) ≡ min count (length ms) = length-reverse (take count ms) ∙ length-take count ms in
      found_behind (reverse (drop count ms)) (reverse (take count ms)) kind p (sym (ap (λ l. found_from l kind) (reversed_parts ms count)) ∙ found)
      (omega (arith, less, found_small, reach))

pub none_within : (ms : List PlainModule) (kind : List ℕ) (count : ℕ) → found_from (reverse ms) kind ≡ None → found_from (reverse (take count ms)) kind ≡ None
none_within ms kind count none =
    none_behind (reverse (drop count ms)) (reverse (take count ms)) kind (sym (ap (λ l. found_from l kind) (reversed_parts ms count)) ∙ none)

-- what has a number was found
numbered : (o : Option Found) (n : ℕ) → Some n ≡ option_map (λ p. length p.1) o → (p : Found) × (o ≡ Some p) × (length p.1 ≡ n)
numbered None n e = absurd (cc)
numbered (Some p) n e = let same : length p.1 ≡ n = cc in (p, refl, same)

unnumbered : (o : Option Found) → None ≡ option_map (λ p. length p.1) o → o ≡ None
unnumbered None e = refl
unnumbered (Some p) e = absurd (cc)

pairs : (m n : PlainModule) (b c : List PlainModule) → m ≡ n → b ≡ c → ◌≡◌ {A = Found} (m, b) (n, c)
pairs m n b c e f = cc

module _ {S : Type 0} (found : HashMap (Bor (List ℕ)) ℕ S) (ms : List PlainModule) (kind : List ℕ) (has : HasLast found ms) where
  pub absent : (count : ℕ) → None ≡ number_by found kind → None ≡ found_from (reverse (take count ms)) kind
  absent count none = sym (none_within ms kind count (unnumbered (found_from (reverse ms) kind) (none ∙ has kind)))

  module _ (n : ℕ) (is : Some n ≡ number_by found kind) where
    at : (p : Found) × (found_from (reverse ms) kind ≡ Some p) × (length p.1 ≡ n)
    at = numbered (found_from (reverse ms) kind) n (is ∙ has kind)

    pub last_small : n < length ms
    last_small = subst (λ k. k < length ms) at.2 (found_small ms kind at.0 at.1)

    pub last_found : (count : ℕ) (m : PlainModule) → n < count → slice_get ms n ≡ Some m → Some (m, reverse (take n ms)) ≡ found_from (reverse (take count ms)) kind
    last_found count m less here =
        let there : slice_get ms n ≡ Some (at.0.0) = subst (λ k. slice_get ms k ≡ Some (at.0.0)) at.2 (found_at ms kind at.0 at.1) in
        let same : m ≡ at.0.0 = cc in
        let before : reverse (take n ms) ≡ at.0.1 = subst (λ k. reverse (take k ms) ≡ at.0.1) at.2 (found_before ms kind at.0 at.1) in
        let within = found_within ms kind at.0 at.1 count (subst (λ k. k < count) (sym at.2) less) in
        subst (λ (q : Found). Some q ≡ found_from (reverse (take count ms)) kind) (sym (pairs m at.0.0 (reverse (take n ms)) at.0.1 same before)) (sym within)

-- those before it, by their number
pub walked : (ms : List PlainModule) (kind : List ℕ) (count : ℕ) (m : PlainModule) (b : List PlainModule) (n : ℕ) → Some (m, reverse b) ≡ found_from (reverse (take count ms)) kind → n ≡ length b
    → Some (m, reverse (take n ms)) ≡ found_from (reverse (take count ms)) kind
walked ms kind count m b n e is =
    let p : Found = (m, reverse b) in
    let small = found_small (take count ms) kind p (sym e) in
    let same : length (reverse b) ≡ n = length-reverse b ∙ sym is in
    let reach = length-take count ms in
    let less : n ≤ count = omega (arith, small, same, reach) in
    let before : reverse (take n (take count ms)) ≡ reverse b = subst (λ k. reverse (take k (take count ms)) ≡ reverse b) same (found_before (take count ms) kind p (sym e)) in
    let here : reverse (take n ms) ≡ reverse b = sym (ap reverse (take-take n count ms less)) ∙ before in
    subst (λ (q : Found). Some q ≡ found_from (reverse (take count ms)) kind) (sym (pairs m m (reverse (take n ms)) (reverse b) refl here)) e

pub first_parts : (modules : List Module) (count : ℕ) → map plain_module (take count modules) ≡ take count (plain_modules modules)
first_parts modules count = sym (take-map plain_module count modules)

-- one module more
pub last_more : {S : Type 0} (found more : HashMap (Bor (List ℕ)) ℕ S) (ms : List PlainModule) (m : PlainModule) (n : ℕ) → HasLast found ms
    → ((q : Bor (List ℕ)) → maps.get (λ x y. same_name x.now y.now) more q ≡ cond (same_name m.name q.now) (Some n) (maps.get (λ x y. same_name x.now y.now) found q))
    → n ≡ length ms → HasLast more (ms ++ m ∷ [])
last_more found more ms m n has up is name =
    up (record { ref_ptr = (0, 0); now = name })
    ∙ go (same_name m.name name) ∙ ap (λ l. option_map (λ p. length p.1) (found_from l name)) (sym (reverse-append ms (m ∷ [])))
  where
    go : (t : Bool) → cond t (Some n) (number_by found name) ≡ option_map (λ p. length p.1) (if t then Some (m, reverse ms) else found_from (reverse ms) name)
    go true = ap Some (is ∙ sym (length-reverse ms))
    go false = has name

pub last_step : {S : Type 0} (found more : HashMap (Bor (List ℕ)) ℕ S) (modules : List Module) (i : ℕ) (x : Module) → HasLast found (take i (plain_modules modules))
    → ((q : Bor (List ℕ)) → maps.get (λ x y. same_name x.now y.now) more q ≡ cond (same_name x.name q.now) (Some i) (maps.get (λ x y. same_name x.now y.now) found q))
    → i < length modules → x ≡ get_or modules i x → HasLast more (take (i + 1) (plain_modules modules))
last_step found more modules i x has up small is =
    let count : length (take i (plain_modules modules)) ≡ i = length-take-le i (plain_modules modules) (omega (arith, small, length-map plain_module modules)) in
    let one : take (i + 1) modules ≡ take i modules ++ x ∷ [] = take_more modules i x small ∙ ap (λ y. take i modules ++ y ∷ []) (sym is) in
    let next : take (i + 1) (plain_modules modules) ≡ take i (plain_modules modules) ++ plain_module x ∷ [] =
    take-map plain_module (i + 1) modules ∙ ap (map plain_module) one ∙ map-pushed plain_module (take i modules) x ∙ ap (λ l. l ++ plain_module x ∷ []) (sym (take-map plain_module i modules)) in
    subst (HasLast more) (sym next) (last_more found more (take i (plain_modules modules)) (plain_module x) i has up (sym count))
