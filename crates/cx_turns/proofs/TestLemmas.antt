-- What a test has told, by what its port is seen as.
use Rattle.std.proofs.Common.{◌≡◌, ℕ, Bool, List, Option, Some, None, Result, refl, sym, ap, ◌∙◌, subst}
use Rattle.cx_meaning.specs.declared.ports.PortRef.{PortRef}
use Rattle.cx_meaning.specs.declared.sights.Seen.{Seen}
use Rattle.cx_meaning.specs.declared.sights.FaultKind.{FaultKind}
use Rattle.cx_meaning.specs.declared.sights.FaultKind.TheVariants as faults
use Rattle.cx_meaning.specs.Designs.{PlainDesign}
use Rattle.cx_meaning.specs.Instances.{Instance, Path, State, instance_at, tree_of}
use Rattle.cx_meaning.specs.Truths.{Truth, One, Zero, truth_of}
use Rattle.cx_meaning.specs.Truths as truths
use Rattle.cx_meaning.specs.Sights.{Held, seen}
use Rattle.cx_meaning.specs.Cycles.{fault_at}
use Rattle.cx_meaning.specs.Calls.{test, test_of}
use Rattle.cx_design.specs.declared.actives.PortFault.{PortFault}
use Rattle.cx_design.specs.PlainActives.{plain_active, TellsFault}
use Rattle.cx_state.specs.Tables.{IsNumber}
use Rattle.cx_state.specs.States.{PlainInstance, inputs_held, under_path}
use Rattle.cx_eval.specs.Evaluated.{IsSeen, fault_along}
use Rattle.cx_turns.specs.Tests.{TellsTest, TellsTruth, Tested, comb_active}
use Rattle.cx_text.proofs.ListLaws.{nothing_more}

-- a fault of a port of the instance itself
pub tells_own : (d : PlainDesign) (n : ℕ) (path : Path) (kind : FaultKind) (port : PortRef) → IsNumber d n path → TellsFault (tree_of d) (fault_along path (fault_at kind port)) (record { kind = kind; instance = n; port = port })
tells_own d n path kind port number = record { kind = refl; port = refl; instance = number ∙ ap (λ p. Some p) (sym (nothing_more path)) }

tests_as : (i : Instance) (held : Held) (comb : Option ℕ) (port : PortRef) (s : State) (x : Seen) → x ≡ seen i held (plain_active i (comb_active comb)) s port → test_of port (truth_of x) ≡ test i held port comb s
tests_as i held None port s x e = ap (λ y. test_of port (truth_of y)) e
tests_as i held (Some g) port s x e = ap (λ y. test_of port (truth_of y)) e

tells : (d : PlainDesign) (n : ℕ) (path : Path) (port : PortRef) → IsNumber d n path → (t : Truth) (result : Result Bool PortFault) → TellsTruth n port result t → TellsTest d path result (test_of port t)
tells d n path port number One result e = subst (λ r. TellsTest d path r (test_of port One)) (sym e) refl
tells d n path port number Zero result e = subst (λ r. TellsTest d path r (test_of port Zero)) (sym e) refl
tells d n path port number truths.Conflict result e = subst (λ r. TellsTest d path r (test_of port truths.Conflict)) (sym e) (fault_at faults.Conflict port, tells_own d n path faults.Conflict port number, refl)
tells d n path port number truths.Undefined result e = subst (λ r. TellsTest d path r (test_of port truths.Undefined)) (sym e) (fault_at faults.Undefined port, tells_own d n path faults.Undefined port number, refl)

pub tested : (d : PlainDesign) (rows : List PlainInstance) (n : ℕ) (port : PortRef) (comb : Option ℕ) (x : Seen) (result : Result Bool PortFault) → IsSeen d rows n (comb_active comb) port x → TellsTruth n port result (truth_of x) → Tested d rows n port comb result
tested d rows n port comb x result sees truth path s number stands =
    subst (λ t. TellsTest d path result t) (tests_as (instance_at (tree_of d) path) (inputs_held rows n) comb port (under_path path s) x (sees path s number stands)) (tells d n path port number (truth_of x) result truth)
