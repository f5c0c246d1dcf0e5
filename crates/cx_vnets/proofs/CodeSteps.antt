-- One more name has a number.
use Rattle.std.proofs.Common.{◌≡◌, ℕ, suc, ◌+◌, Bool, true, false, cond, List, [], ◌∷◌, ◌++◌, length, Option, Some, None, option_map, is_some, refl, ap, sym, ◌∙◌, arith, if◌then◌else◌}
use Rattle.std.specs.Option.{option_or}
use Rattle.std.specs.HashMap as maps
use Rattle.std.specs.HashMap.{HashMap}
use Rattle.std.specs.Map.{lookup}
use Rattle.std.specs.Cmp.Lexicographic.{same_text}
use denote.Ref.{Bor}
use Rattle.cx_vtree.specs.InstanceTree.{same_name}
use Rattle.cx_vnets.specs.ModuleNumbers.{position_from}
use Rattle.cx_vtree.specs.NameNumbers.{position, number_by}
use Rattle.cx_text.proofs.OptionLaws.{none_of, option_or-none}

abbrev by_bytes : Bor (List ℕ) → Bor (List ℕ) → Bool
by_bytes x y = same_name x.now y.now

-- a name without a number gets one
pub entered : {S : Type 0} (m n : HashMap (Bor (List ℕ)) ℕ S) (key : Bor (List ℕ)) (v : ℕ) → is_some (number_by m key.now) ≡ false → maps.Updates by_bytes m n key (Some v)
    → (q : List ℕ) → number_by n q ≡ option_or (number_by m q) (if same_name key.now q then Some v else None)
entered m n key v none up q = up.0 (record { ref_ptr = (0, 0); now = q }) ∙ go (same_name key.now q) refl where
  go : (t : Bool) → same_name key.now q ≡ t → cond t (Some v) (number_by m q) ≡ option_or (number_by m q) (if t then Some v else None)
  go true e = ap (λ o. option_or o (Some v)) (sym (none_of (number_by m key.now) none) ∙ ap (number_by m) (same_text key.now q (sym e)))
  go false e = sym (option_or-none (number_by m q))

-- places by a running number, and from the front
moved : (first : ℕ) (o : Option ℕ) → option_map (λ k. first + 1 + k) o ≡ option_map (λ k. first + k) (option_map suc o)
moved first None = refl
moved first (Some k) = let e : first + 1 + k ≡ first + suc k = omega arith in ap Some e

by_first : (first : ℕ) (t : Bool) (o p : Option ℕ) → p ≡ option_map (λ k. first + 1 + k) o → (if t then Some first else p) ≡ option_map (λ k. first + k) (if t then Some 0 else option_map suc o)
by_first first true o p e = let f : first ≡ first + 0 = omega arith in ap Some f
by_first first false o p e = e ∙ moved first o

position_from-is : (first : ℕ) (ns : List (List ℕ)) (q : List ℕ) → position_from first ns q ≡ option_map (λ k. first + k) (position ns q)
position_from-is first [] q = refl
position_from-is first (n ∷ ns) q = by_first first (same_name n q) (position ns q) (position_from (first + 1) ns q) (position_from-is (first + 1) ns q)

unmoved : (o : Option ℕ) → option_map (λ k. 0 + k) o ≡ o
unmoved None = refl
unmoved (Some k) = let e : 0 + k ≡ k = omega arith in ap Some e

position_from-zero : (ns : List (List ℕ)) (q : List ℕ) → position_from 0 ns q ≡ position ns q
position_from-zero ns q = position_from-is 0 ns q ∙ unmoved (position ns q)

either_place : (t : Bool) (k : ℕ) (p o r : Option ℕ) → p ≡ option_or o r → (if t then Some k else p) ≡ option_or (if t then Some k else o) r
either_place true k p o r e = refl
either_place false k p o r e = e

-- the places in two lists, one behind the other
position_from-append : (first : ℕ) (xs ys : List (List ℕ)) (q : List ℕ) → position_from first (xs ++ ys) q ≡ option_or (position_from first xs q) (position_from (first + length xs) ys q)
position_from-append first [] ys q = let e : first ≡ first + 0 = omega arith in ap (λ k. position_from k ys q) e
position_from-append first (x ∷ xs) ys q =
    let next : first + 1 + length xs ≡ first + length (x ∷ xs) = omega arith in
    either_place (same_name x q) first (position_from (first + 1) (xs ++ ys) q) (position_from (first + 1) xs q) (position_from (first + length (x ∷ xs)) ys q)
    (position_from-append (first + 1) xs ys q ∙ ap (λ k. option_or (position_from (first + 1) xs q) (position_from k ys q)) next)

nothing : {S : Type 0} (m : HashMap (Bor (List ℕ)) ℕ S) (q : List ℕ) → m.entries ≡ [] → number_by m q ≡ None
nothing m q e = ap (lookup (λ (k : Bor (List ℕ)). same_name q k.now)) e

-- the numbers of a list, entered into an empty map
pub numbered : {S : Type 0} (empty m : HashMap (Bor (List ℕ)) ℕ S) (xs : List (List ℕ)) (q : List ℕ) → empty.entries ≡ [] → number_by m q ≡ option_or (number_by empty q) (position_from 0 xs q) → number_by m q ≡ position xs q
numbered empty m xs q is e = e ∙ ap (λ o. option_or o (position_from 0 xs q)) (nothing empty q is) ∙ position_from-zero xs q

-- and those of a second list after them
pub numbered_after : {S : Type 0} (empty m n : HashMap (Bor (List ℕ)) ℕ S) (xs ys : List (List ℕ)) (k : ℕ) (q : List ℕ) → empty.entries ≡ [] → k ≡ length xs
    → number_by m q ≡ option_or (number_by empty q) (position_from 0 xs q) → number_by n q ≡ option_or (number_by m q) (position_from k ys q) → number_by n q ≡ position (xs ++ ys) q
numbered_after empty m n xs ys k q is long e f =
    let behind : k ≡ 0 + length xs = omega arith in
    f ∙ ap (λ o. option_or o (position_from k ys q)) (e ∙ ap (λ o. option_or o (position_from 0 xs q)) (nothing empty q is))
    ∙ ap (λ j. option_or (position_from 0 xs q) (position_from j ys q)) behind ∙ sym (position_from-append 0 xs ys q) ∙ position_from-zero (xs ++ ys) q
