-- Groups: their turns, and calls of components.
use Rattle.std.specs.Prelude.{ℕ, suc, Bool, true, false, ◌||◌, List, [], ◌∷◌, Option, Some, None}
use Rattle.cx_meaning.specs.declared.ports.PortRef.{PortRef}
use Rattle.cx_meaning.specs.declared.ports.PortRef.TheVariants as ports
use Rattle.cx_meaning.specs.declared.sights.FaultKind.TheVariants as faults
use Rattle.cx_meaning.specs.declared.kinds.GroupKind.{GroupKind}
use Rattle.cx_meaning.specs.declared.kinds.GroupKind.TheVariants as kinds
use Rattle.cx_meaning.specs.Designs.{PlainAssign, group_at, Enable}
use Rattle.cx_prim.specs.Rows.{is_enable_side}
use Rattle.cx_meaning.specs.Rows.{side_of}
use Rattle.cx_meaning.specs.Truths.{Truth, One, Zero, truth_of}
use Rattle.cx_meaning.specs.Truths as truths
use Rattle.cx_meaning.specs.Instances.{Instance, Cells, At, Nothing, OfRow, OfInstance, cell_at, part_of, cells_of, State, under, put, idle}
use Rattle.cx_meaning.specs.Active.{group, comb, capture}
use Rattle.cx_meaning.specs.Sights.{Held, seen}
use Rattle.cx_meaning.specs.Cycles.{Fault, fault_at, Ended, cycle}
use Rattle.cx_meaning.specs.Answers.{Answer, End, More, Meaning, then_do, idle_turn, one_turn, turns_of, Turn, Test, Holds, Fails, Unclear}
use Rattle.cx_meaning.specs.Answers as answers
use Rattle.cx_meaning.specs.Islands.{island, turn_of}

-- A TURN OF A GROUP: its done hole is seen first. Where it is 1 the turn is idle and the last, where it is 0 the turn is a
-- cycle with the group, and where it is no value that is the fault
abbrev pub hole_turn : ℕ → Ended → Truth → Turn State Fault
hole_turn g ended One = answers.Ends
hole_turn g ended Zero = turn_of ended
hole_turn g ended truths.Conflict = answers.Faults (fault_at faults.Conflict (ports.Done g))
hole_turn g ended truths.Undefined = answers.Faults (fault_at faults.Undefined (ports.Done g))

abbrev pub group_turn : Instance → Held → ℕ → State → Turn State Fault
group_turn i held g s = hole_turn g (cycle i held (group g) s) (truth_of (seen i held (group g) s (ports.Done g)))

-- A TEST: the port under the continuous assignments and the comb group
abbrev pub test_of : PortRef → Truth → Test Fault
test_of port One = Holds
test_of port Zero = Fails
test_of port truths.Conflict = Unclear (fault_at faults.Conflict port)
test_of port truths.Undefined = Unclear (fault_at faults.Undefined port)

abbrev pub test : Instance → Held → PortRef → Option ℕ → State → Test Fault
test i held port with_group s = test_of port (truth_of (seen i held (comb with_group) s port))

-- the component cell of which a target is a port
abbrev pub if_instance : At → ℕ → Option ℕ → Option ℕ
if_instance Nothing c later = later
if_instance (OfRow row) c later = later
if_instance (OfInstance child) c later = Some c

abbrev pub called_by : Cells → PortRef → Option ℕ → Option ℕ
called_by cells (ports.Cell c p) later = if_instance (cell_at cells c) c later
called_by cells (ports.Input n) later = later
called_by cells (ports.Output n) later = later
called_by cells (ports.Done g) later = later
called_by cells (ports.Literal w v) later = later

abbrev pub called_in : Cells → List PlainAssign → Option ℕ
called_in cells [] = None
called_in cells (a ∷ rest) = called_by cells a.target (called_in cells rest)

-- the component cell that a group calls, if any: the first of which it drives a port
abbrev pub called : Instance → ℕ → Option ℕ
called i g = called_in (cells_of i) (group_at (part_of i) g).assigns

abbrev pub enables_at : At → ℕ → Bool
enables_at Nothing p = false
enables_at (OfRow row) p = is_enable_side (side_of row p)
enables_at (OfInstance child) p = false

abbrev pub enables_primitive : Cells → PortRef → Bool
enables_primitive cells (ports.Cell c p) = enables_at (cell_at cells c) p
enables_primitive cells (ports.Input n) = false
enables_primitive cells (ports.Output n) = false
enables_primitive cells (ports.Done g) = false
enables_primitive cells (ports.Literal w v) = false

abbrev pub captures_in : Cells → List PlainAssign → Bool
captures_in cells [] = false
captures_in cells (a ∷ rest) = enables_primitive cells a.target || captures_in cells rest

-- a call group captures where it drives an enabling port of a primitive cell
abbrev pub captures : Instance → ℕ → Bool
captures i g = captures_in (cells_of i) (group_at (part_of i) g).assigns

-- a fault of the child at a cell
abbrev pub fault_below : ℕ → Fault → Fault
fault_below c f = record { kind = f.kind; path = c ∷ f.path; port = f.port }

-- a run of the child at a cell, as a run of the instance
abbrev pub lift_answer : ℕ → State → Answer State Fault → Answer State Fault
lift_answer c s (End own t) = End (put c own s) t
lift_answer c s (answers.Fault f t) = answers.Fault (fault_below c f) t
lift_answer c s More = More

-- the inputs of a call, seen under its group: the ports of a component cell are go, its inputs, its outputs, done
abbrev pub inputs_of_call : Instance → Held → ℕ → ℕ → State → Held
inputs_of_call i held g c s input = seen i held (group g) s (ports.Cell c (suc input))

-- after the child's turns: an idle turn; or, where registers are captured, the capture cycle and an idle turn
abbrev pub after_child : Instance → Held → ℕ → ℕ → Bool → Meaning State Fault
after_child i held g c true s n =
    one_turn (idle i) (λ s1. turn_of (cycle i held (capture g c) s1)) (idle_turn (idle i)) s n
after_child i held g c false s n = idle_turn (idle i) s n

-- A CALL: the inputs are seen in its first turn and held; the child's control runs from the child's state with them
abbrev pub call : Instance → (ℕ → Held → Meaning State Fault) → Held → ℕ → ℕ → Meaning State Fault
call i child held g c s n =
    then_do (lift_answer c s (child c (inputs_of_call i held g c s) (under c s) n)) n
    (after_child i held g c (captures i g))

abbrev pub call_or_turns : Instance → (ℕ → Held → Meaning State Fault) → Held → ℕ → Option ℕ → Meaning State Fault
call_or_turns i child held g (Some c) s n = call i child held g c s n
call_or_turns i child held g None s n = turns_of (idle i) (group_turn i held g) s n

-- THE ENABLE OF A GROUP; child gives the meaning of the control of the child at a cell, with its inputs held
abbrev pub enable_kind : Instance → (ℕ → Held → Meaning State Fault) → Held → ℕ → GroupKind → Meaning State Fault
enable_kind i child held g kinds.Plain s n = call_or_turns i child held g (called i g) s n
enable_kind i child held g kinds.Comb s n = call_or_turns i child held g (called i g) s n
enable_kind i child held g (kinds.Timed length) s n = island i held (Enable g) s n

abbrev pub enable : Instance → (ℕ → Held → Meaning State Fault) → Held → ℕ → Meaning State Fault
enable i child held g s n = enable_kind i child held g (group_at (part_of i) g).kind s n
