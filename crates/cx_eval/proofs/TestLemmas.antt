-- The operators up to one that is the port of a test.
use Rattle.std.proofs.Common.{◌≡◌, ◌<◌, ◌≤◌, ℕ, zero, suc, ◌+◌, ◌-◌, List, [], ◌∷◌, Option, Some, None, Bor, get_or, length, slice_get, take, refl, sym, ap, ◌∙◌, subst, arith}
use Rattle.std.specs.Prelude.{IfSome}
use Rattle.std.proofs.lemmas.List.{length-take-le, take-take}
use Rattle.std.proofs.lemmas.Option.{get_or_from_slice_get}
use Rattle.cx_meaning.specs.declared.ports.PortRef.{PortRef}
use Rattle.cx_meaning.specs.declared.ports.PortRef.TheVariants.{Cell}
use Rattle.cx_meaning.specs.declared.sights.Seen.{Seen}
use Rattle.cx_meaning.specs.Instances.{Instance}
use Rattle.cx_design.specs.declared.actives.Active.{Active}
use Rattle.cx_eval_network.proofs.FoundLemmas.{get_some}
use Rattle.cx_eval.specs.declared.sources.Operator.{Operator}
use Rattle.cx_eval.specs.Sources.{AreOperators, EndsAt, IsOperator}

-- WHAT STANDS in the front of a list
module _ {A : Type 0} where
  pub in_front : (n k : ℕ) (xs : List A) → k < n → slice_get (take n xs) k ≡ slice_get xs k
  in_front zero k xs lt = absurd (omega (arith, lt))
  in_front (suc n) k [] lt = refl
  in_front (suc n) zero (x ∷ xs) lt = refl
  in_front (suc n) (suc k) (x ∷ xs) lt = in_front n k xs (omega (arith, lt))

  pub front_below : (n k : ℕ) (xs : List A) (x : A) → slice_get (take n xs) k ≡ Some x → k < n
  front_below zero k xs x e = absurd (cc)
  front_below (suc n) k [] x e = absurd (cc)
  front_below (suc n) zero (y ∷ xs) x e = omega arith
  front_below (suc n) (suc k) (y ∷ xs) x e = let lt = front_below n k xs x e in omega (arith, lt)

-- the front of some operators ends at the one behind it
pub ends_there : (port : PortRef) (operators : List Operator) (place : ℕ) (o : Operator) → place < length operators → o ≡ get_or operators place o → port ≡ Cell o.cell o.port → EndsAt port (take (place + 1) operators)
ends_there port operators place o lt at is = record {
  place = place;
  last = (let count = length-take-le (place + 1) operators (omega (arith, lt)) in omega (arith, count));
  operator = o;
  there = in_front (place + 1) place operators (omega arith) ∙ get_some operators place o lt at;
  is = is;
}

-- and is itself one of operators
pub front_operators : (i : Instance) (active : Active) (operators : List Operator) (n : ℕ) → AreOperators i active operators → AreOperators i active (take n operators)
front_operators i active operators n are place o at =
    let lt = front_below n place operators o at in
    subst (λ before. IsOperator i active before o) (sym (take-take place n operators (omega (arith, lt)))) (are place o (sym (in_front n place operators lt) ∙ at))

pub front_given : (i : Instance) (active other : Active) (operators : List Operator) (some : Option (Bor (List Operator))) → active ≡ other → AreOperators i other operators → IfSome some (λ front. (count : ℕ) × (front.now ≡ take count operators))
    → IfSome some (λ front. AreOperators i active front.now)
front_given i active other operators None same are front = tt
front_given i active other operators (Some front) same are is =
    subst (λ act. AreOperators i act front.now) (sym same) (subst (AreOperators i other) (sym is.1) (front_operators i other operators is.0 are))

-- what the last of them is seen as
pub last_is : (port : PortRef) (operators : List Operator) (slots : List Seen) (value : PortRef → Seen) (x : Seen) → ((place : ℕ) (o : Operator) → slice_get operators place ≡ Some o → slice_get slots place ≡ Some (value (Cell o.cell o.port)))
    → x ≡ get_or slots (length operators - 1) x → EndsAt port operators → x ≡ value port
last_is port operators slots value x found at ends =
    let place : length operators - 1 ≡ ends.place = (let last = ends.last in omega (arith, last)) in
    at ∙ ap (λ n. get_or slots n x) place ∙ get_or_from_slice_get slots ends.place (value (Cell ends.operator.cell ends.operator.port)) x (found ends.place ends.operator ends.there) ∙ ap value (sym ends.is)
