-- The ledger of a turn: of a leaf, of a part, of a half of some arms, of the child of a call.
use Rattle.std.proofs.Common.{◌≡◌, ℕ, ◌+◌, Bool, true, false, Option, Result, Ok, Err, arith}
use Rattle.cx_weave.specs.declared.spares.Spares.{Spares}
use Rattle.cx_weave.specs.declared.strands.Strand.{Strand}
use Rattle.cx_weave.specs.declared.strands.Arms.{Arms}
use Rattle.cx_weave.specs.declared.strands.Arms.TheVariants as halves
use Rattle.cx_weave.specs.Strides.{left_by}
use Rattle.cx_weave.specs.Ledger.{Kind, amount, arms_amount, box_amount, left_amount, arms_left_amount, Ledger, Turned, ArmsTurned, TakesNothing}
use Rattle.cx_weave.proofs.Ledgers.{and_then, beside_rest}
use Rattle.cx_weave.proofs.Amounts.{amount_one}
use Rattle.cx_weave.proofs.PartLedgers.{same_amounts, told_after, told_before}

pub turned_before : {E : Type 0} (old new : Spares) (hand kept : Kind → ℕ) (r : Result (Option Strand) E) → ((x : Kind) → hand x ≡ kept x) → Turned old new kept r → Turned old new hand r
turned_before old new hand kept (Ok left) is l = told_before old new kept hand (λ x. left_amount x left) is l
turned_before old new hand kept (Err fault) is l = tt

pub all_turned_before : {E : Type 0} (old new : Spares) (hand kept : Kind → ℕ) (r : Result (Option Arms) E) → ((x : Kind) → hand x ≡ kept x) → ArmsTurned old new kept r → ArmsTurned old new hand r
all_turned_before old new hand kept (Ok left) is l = told_before old new kept hand (λ x. arms_left_amount x left) is l
all_turned_before old new hand kept (Err fault) is l = tt

-- a leaf of which nothing is left that takes anything
pub leaf_turned : {E : Type 0} (s : Spares) (hand : Kind → ℕ) (r : Result (Option Strand) E) → ((x : Kind) → hand x ≡ 0) → TakesNothing r → Turned s s hand r
leaf_turned s hand (Ok left) none takes = same_amounts s hand (λ x. left_amount x left) (λ x. (let e = none x in let f = takes x in omega (arith, e, f)))
leaf_turned s hand (Err fault) none takes = tt

-- one that stays in its place, or ends
pub leaf_kept : {E : Type 0} (s : Spares) (hand : Kind → ℕ) (leaf : Strand) (r : Result Bool E) → ((x : Kind) → hand x ≡ 0) → ((x : Kind) → amount x leaf ≡ 0) → Turned s s hand (left_by r leaf)
leaf_kept s hand leaf (Ok true) none takes = same_amounts s hand (λ x. amount x leaf) (λ x. (let e = none x in let f = takes x in omega (arith, e, f)))
leaf_kept s hand leaf (Ok false) none takes = same_amounts s hand (λ x. 0) none
leaf_kept s hand leaf (Err fault) none takes = tt

-- a turn of a part, and then what is left around it
pub part_turned : (old mid new : Spares) (part middle : Kind → ℕ) (around : Kind → ℕ) (before between after : Kind → ℕ) → Ledger old mid part middle → Ledger mid new between after → ((x : Kind) → before x ≡ part x + around x) → ((x : Kind) → between x ≡ middle x + around x) → Ledger old new before after
part_turned old mid new part middle around before between after one two first second =
    and_then old mid new part middle between after before after around (λ x. 0) one two first (λ x. (let e = second x in omega (arith, e))) (λ x. omega arith)

-- a part that goes on in its place
pub kept_turned : (old new : Spares) (run part box whole kept : Kind → ℕ) → ((x : Kind) → whole x ≡ box x + run x) → ((x : Kind) → kept x ≡ box x + part x) → Ledger old new run part → Ledger old new whole kept
kept_turned old new run part box whole kept first last l = beside_rest old new run part whole kept box l (λ x. (let e = first x in omega (arith, e))) (λ x. (let e = last x in omega (arith, e)))

-- an arm in its place
pub arm_kept : {E : Type 0} (old new : Spares) (hand run : Kind → ℕ) (kept : Strand) (r : Result Bool E) → ((x : Kind) → hand x ≡ run x) → Turned old new run (left_by r kept) → ArmsTurned old new hand (left_by r (halves.One kept))
arm_kept old new hand run kept (Ok true) is l = told_after old new hand (λ x. amount x kept) (λ x. arms_amount x (halves.One kept)) (λ x. amount_one x kept) (told_before old new run hand (λ x. amount x kept) is l)
arm_kept old new hand run kept (Ok false) is l = told_before old new run hand (λ x. 0) is l
arm_kept old new hand run kept (Err fault) is l = tt

-- the inputs are held, the child takes its turn, and then what is left of the call
pub call_turned : (old mid late new : Spares) (held own part left after : Kind → ℕ) → Ledger old mid held own → Ledger mid late part left → Ledger late new (λ x. box_amount x + own x + left x) after → Ledger old new (λ x. box_amount x + held x + part x) after
call_turned old mid late new held own part left after one two three = record {
  most = λ x. (let a = one.most x in let b = two.most x in let c = three.most x in omega (arith, a, b, c));
  least = λ k. (let a = one.least k in let b = two.least k in let c = three.least k in omega (arith, a, b, c));
  places = λ k. (let a = one.places k in let b = two.places k in let c = three.places k in omega (arith, a, b, c));
}
