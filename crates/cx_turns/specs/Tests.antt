-- What a test has told.
use Rattle.std.specs.Prelude.{◌≡◌, ℕ, Bool, true, false, List, Option, Some, None, Result, Ok, Err}
use Rattle.cx_meaning.specs.declared.ports.PortRef.{PortRef}
use Rattle.cx_meaning.specs.declared.sights.FaultKind.TheVariants as faults
use Rattle.cx_meaning.specs.Truths.{Truth, One, Zero}
use Rattle.cx_meaning.specs.Truths as truths
use Rattle.cx_meaning.specs.Designs.{PlainDesign}
use Rattle.cx_meaning.specs.Instances.{Path, State, instance_at, tree_of}
use Rattle.cx_meaning.specs.Cycles.{Fault}
use Rattle.cx_meaning.specs.Answers.{Test, Holds, Fails, Unclear}
use Rattle.cx_meaning.specs.Calls.{test}
use Rattle.cx_design.specs.declared.actives.Active.{Active}
use Rattle.cx_design.specs.declared.actives.Active.TheVariants as actives
use Rattle.cx_design.specs.declared.actives.PortFault.{PortFault}
use Rattle.cx_design.specs.PlainActives.{TellsFault}
use Rattle.cx_state.specs.Tables.{IsNumber}
use Rattle.cx_state.specs.States.{PlainInstance, inputs_held, StandsFor, under_path}
use Rattle.cx_eval.specs.Evaluated.{fault_along}

abbrev pub TellsTest : PlainDesign → Path → Result Bool PortFault → Test Fault → Type 0
TellsTest d path (Ok true) x = x ≡ Holds
TellsTest d path (Ok false) x = x ≡ Fails
TellsTest d path (Err told) x =
    (fault : Fault) × TellsFault (tree_of d) (fault_along path fault) told × (x ≡ Unclear fault)

-- A TEST IN INSTANCE n, in every state that the rows stand for
abbrev pub Tested : PlainDesign → List PlainInstance → ℕ → PortRef → Option ℕ → Result Bool PortFault → Type 0
Tested d rows n port comb result =
    (path : Path) (s : State) → IsNumber d n path → StandsFor (tree_of d) rows s
    → TellsTest d path result (test (instance_at (tree_of d) path) (inputs_held rows n) port comb (under_path path s))

-- what is active in a test
abbrev pub comb_active : Option ℕ → Active
comb_active None = actives.Nothing
comb_active (Some g) = actives.Group g

-- whether a port that is seen as a truth is 1, or its fault
abbrev pub TellsTruth : ℕ → PortRef → Result Bool PortFault → Truth → Type 0
TellsTruth n port result One = result ≡ Ok true
TellsTruth n port result Zero = result ≡ Ok false
TellsTruth n port result truths.Conflict = result ≡ Err (record { kind = faults.Conflict; instance = n; port = port })
TellsTruth n port result truths.Undefined = result ≡ Err (record { kind = faults.Undefined; instance = n; port = port })
