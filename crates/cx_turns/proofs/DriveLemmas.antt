-- The cells of the targets of assignments, in ascending order, are those that the assignments drive.
use Rattle.std.proofs.Common.{◌≡◌, ◌<◌, ℕ, zero, suc, Bool, true, false, ◌||◌, cond, nat_eq, nat_lt, List, [], ◌∷◌, Option, Some, None, slice_get, get_or, length, refl, sym, ap, ◌∙◌, subst, arith, tests}
use Rattle.std.specs.BTreeSet.{insert_key}
use Rattle.std.specs.Ordering.{nat_cmp, match_ordering}
use Rattle.std.specs.List.Sorted.{IsStrictlySortedBy}
use Rattle.std.specs.declared.cmp.Ordering.TheVariants.{Less, Equal, Greater}
use Rattle.std.proofs.lemmas.Map.Keys.{below_from_sorted}
use Rattle.cx_meaning.specs.declared.ports.PortRef.{PortRef}
use Rattle.cx_meaning.specs.declared.ports.PortRef.TheVariants as ports
use Rattle.cx_meaning.specs.Designs.{PlainAssign}
use Rattle.cx_meaning.specs.Instances.{just}
use Rattle.cx_meaning.proofs.InstancesLemmas.{just_is}
use Rattle.cx_meaning.specs.Control.{targets_cell, assigns_drive}
use Rattle.cx_eval_cycle.specs.Passes.{IsAscending, listed_in}
use Rattle.cx_text.proofs.NumberLaws.{from_eq}
use Rattle.cx_text.proofs.BoolLaws.{swapped, once}
use Rattle.cx_text.proofs.OptionLaws.{some_is}

-- the cells, with those of targets
abbrev pub with_target : List ℕ → PortRef → List ℕ
with_target found (ports.Cell c p) = insert_key nat_cmp found c
with_target found (ports.Input n) = found
with_target found (ports.Output n) = found
with_target found (ports.Done g) = found
with_target found (ports.Literal w v) = found

abbrev pub with_targets : List ℕ → List PlainAssign → List ℕ
with_targets found [] = found
with_targets found (a ∷ rest) = with_targets (with_target found a.target) rest

grouped : (a b c : Bool) → (b || a) || c ≡ a || (b || c)
grouped true true c = refl
grouped true false c = refl
grouped false b c = ap (λ x. x || c) (no_more b)
  where
    no_more : (b : Bool) → b || false ≡ b
    no_more true = refl
    no_more false = refl

abbrev placed : ℕ → ℕ → List ℕ → Bool → Bool → List ℕ
placed k x xs s t = match_ordering (cond s Less (cond t Equal Greater)) (k ∷ x ∷ xs) (x ∷ xs) (x ∷ insert_key nat_cmp xs k)

listed_insert : (xs : List ℕ) (k q : ℕ) → listed_in (insert_key nat_cmp xs k) q ≡ nat_eq k q || listed_in xs q
listed_insert [] k q = refl
listed_insert (x ∷ xs) k q = choice (nat_lt k x) (nat_eq k x) refl (listed_insert xs k q)
  where
    choice : (s t : Bool) → nat_eq k x ≡ t → listed_in (insert_key nat_cmp xs k) q ≡ nat_eq k q || listed_in xs q → listed_in (placed k x xs s t) q ≡ nat_eq k q || listed_in (x ∷ xs) q
    choice true t e ih = refl
    choice false true e ih = subst (λ v. listed_in (x ∷ xs) q ≡ nat_eq v q || listed_in (x ∷ xs) q) (sym (from_eq k x e)) (once (nat_eq x q) (listed_in xs q))
    choice false false e ih = ap (λ b. nat_eq x q || b) ih ∙ swapped (nat_eq x q) (nat_eq k q) (listed_in xs q)

listed_target : (found : List ℕ) (t : PortRef) (q : ℕ) → listed_in (with_target found t) q ≡ targets_cell t q || listed_in found q
listed_target found (ports.Cell c p) q = listed_insert found c q ∙ ap (λ b. b || listed_in found q) (sym (just_is c q))
listed_target found (ports.Input n) q = refl
listed_target found (ports.Output n) q = refl
listed_target found (ports.Done g) q = refl
listed_target found (ports.Literal w v) q = refl

listed_targets : (found : List ℕ) (assigns : List PlainAssign) (q : ℕ) → listed_in (with_targets found assigns) q ≡ listed_in found q || assigns_drive assigns q
listed_targets found [] q = sym (no_more (listed_in found q))
  where
    no_more : (b : Bool) → b || false ≡ b
    no_more true = refl
    no_more false = refl
listed_targets found (a ∷ rest) q =
    listed_targets (with_target found a.target) rest q ∙ ap (λ b. b || assigns_drive rest q) (listed_target found a.target q)
    ∙ grouped (listed_in found q) (targets_cell a.target q) (assigns_drive rest q)

pub listed_are_driven : (cells : List ℕ) (assigns : List PlainAssign) → cells ≡ with_targets [] assigns → (q : ℕ) → listed_in cells q ≡ assigns_drive assigns q
listed_are_driven cells assigns e q = ap (λ xs. listed_in xs q) e ∙ listed_targets [] assigns q

-- a number of a list stands at its place
stands : (xs : List ℕ) (k m : ℕ) → slice_get xs k ≡ Some m → (k < length xs) × (get_or xs k 0 ≡ m)
stands [] k m e = absurd (cc)
stands (x ∷ xs) zero m e = (omega arith, some_is x m e)
stands (x ∷ xs) (suc k) m e = let h = stands xs k m e in let l : k < length xs = h.0 in (omega (arith, l), h.1)

pub ascends : (xs : List ℕ) → IsStrictlySortedBy nat_cmp xs → IsAscending xs
ascends xs sorted k m n a b =
    let first = stands xs k m a in
    let second = stands xs (suc k) n b in
    subst (λ v. v < n) first.1 (subst (λ v. get_or xs k 0 < v) second.1 (below_from_sorted xs k (suc k) 0 sorted (omega arith) second.0))
