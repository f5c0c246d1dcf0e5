-- The machines of the leaves of control in an instance: a group, an island, a call.
use Rattle.std.specs.Prelude.{ℕ, zero, suc, nat_lt, Bool, true, false, [], ◌∷◌, Option, Some, None, if◌then◌else◌}
use Rattle.cx_meaning.specs.declared.ports.PortRef.TheVariants as ports
use Rattle.cx_meaning.specs.declared.kinds.GroupKind.{GroupKind}
use Rattle.cx_meaning.specs.declared.kinds.GroupKind.TheVariants as kinds
use Rattle.cx_meaning.specs.Designs.{PlainForm, Enable, group_at}
use Rattle.cx_meaning.specs.Instances.{Instance, cell_at, cells_of, part_of, State, Set, just, input_count}
use Rattle.cx_meaning.specs.Active.{nothing, entries, group, capture}
use Rattle.cx_meaning.specs.Truths.{truth_of}
use Rattle.cx_meaning.specs.Sights.{Held, seen}
use Rattle.cx_meaning.specs.Cycles.{Fault, cycle}
use Rattle.cx_meaning.specs.Answers.{Turn}
use Rattle.cx_meaning.specs.Answers as answers
use Rattle.cx_meaning.specs.Control.{form_drives}
use Rattle.cx_meaning.specs.Islands.{form_length, first_unclear, unless_unclear, turn_of, is_one}
use Rattle.cx_meaning.specs.Calls.{group_turn, test, called, captures, inputs_of_call}
use Rattle.cx_laws.specs.Samples.{Samples, says, active_by, begun_by}
use Rattle.cx_lockstep.specs.Worlds.{Control, At, Done, Machine, is_done}
use Rattle.cx_lockstep.specs.Machines.{idle_machine}
use Rattle.cx_lockstep.specs.Statements.{LeafMachines}
use Rattle.cx_control.specs.Codings.{Coding, Bank, region_bank, unit_coding}
use Rattle.cx_control.specs.Sampling.{samples_now}
use Rattle.cx_control.specs.Spots.{Spot, Cell, Number, Input, Holds, Kept, cells_in, held_in, pull, own_input, spots_of}

-- what is kept at a spot after a turn that came to a state
abbrev pub held_after : State → (x : Spot) → Option (Holds x)
held_after after (Cell path) = Some (after path)
held_after after (Number path n) = None
held_after after (Input n) = None

abbrev pub written : Bool → State → (x : Spot) → Option (Holds x)
written true after x = held_after after x
written false after x = None

-- a leaf of one place: it ends with an idle turn, and else it stays
abbrev pub turn_next : {S F : Type 0} → Turn S F → Control (Unit {0})
turn_next answers.Ends = Done
turn_next (answers.Goes after) = At tt
turn_next (answers.Faults fault) = At tt

abbrev pub turn_writes : {F : Type 0} → Set → Turn State F → (x : Spot) → Option (Holds x)
turn_writes set answers.Ends x = None
turn_writes set (answers.Goes after) x = written (spots_of set x) after x
turn_writes set (answers.Faults fault) x = None

abbrev pub turn_faults : {S F : Type 0} → Turn S F → Bool
turn_faults answers.Ends = false
turn_faults (answers.Goes after) = false
turn_faults (answers.Faults fault) = true

-- A GROUP that calls nothing
abbrev pub group_machine : Instance → ℕ → Machine Spot Holds
group_machine i g = record {
  Place = Unit {0};
  start = At tt;
  step = λ p s. turn_next (group_turn i (held_in s) g (cells_in s));
  writes = λ p s x. turn_writes (form_drives (part_of i) (Enable g)) (group_turn i (held_in s) g (cells_in s)) x;
  faults = λ p s. turn_faults (group_turn i (held_in s) g (cells_in s));
}

-- AN ISLAND: a cycle and samples, and one idle turn
pub data InIsland : Type 0 where
  Cycle : (t : ℕ) (kept : Samples) → InIsland
  LastTurn : InIsland

abbrev pub no_samples : Samples
no_samples n = false

abbrev pub island_start : ℕ → Control InIsland
island_start zero = At LastTurn
island_start (suc n) = At (Cycle 0 no_samples)

module _ (i : Instance) (form : PlainForm) where
  -- the samples of this cycle
  abbrev pub sampled_now : ℕ → Samples → Kept → Samples
  sampled_now t kept s = samples_now (part_of i) (says (seen i (held_in s) nothing (cells_in s))) t form kept

  abbrev pub island_now : ℕ → Samples → Kept → Turn State Fault
  island_now t kept s =
      unless_unclear (first_unclear (seen i (held_in s) nothing (cells_in s))
      (begun_by (part_of i) (sampled_now t kept s) t form))
      (cycle i (held_in s) (entries (active_by (part_of i) (sampled_now t kept s) t form)) (cells_in s))

  abbrev pub next_cycle : ℕ → Samples → Control InIsland
  next_cycle t kept = if nat_lt (suc t) (form_length (part_of i) form) then At (Cycle (suc t) kept) else At LastTurn

  abbrev pub island_step : InIsland → Kept → Control InIsland
  island_step (Cycle t kept) s = next_cycle t (sampled_now t kept s)
  island_step LastTurn s = Done

  abbrev pub island_writes : InIsland → Kept → (x : Spot) → Option (Holds x)
  island_writes (Cycle t kept) s x = turn_writes (form_drives (part_of i) form) (island_now t kept s) x
  island_writes LastTurn s x = None

  abbrev pub island_faults : InIsland → Kept → Bool
  island_faults (Cycle t kept) s = turn_faults (island_now t kept s)
  island_faults LastTurn s = false

  abbrev pub island_machine : Machine Spot Holds
  island_machine =
      record {
        Place = InIsland;
        start = island_start (form_length (part_of i) form);
        step = island_step;
        writes = island_writes;
        faults = island_faults;
      }

-- CONTROL with its places as numbers
pub record Coded : Type 1 where
  pub machine : Machine Spot Holds
  pub coding : Coding (Machine.Place machine)

abbrev pub nothing_coded : Coded
nothing_coded = record { machine = idle_machine Spot Holds; coding = unit_coding }

-- its numbers at a place
abbrev pub code_of : (child : Coded) → Control (Machine.Place child.machine) → ℕ → ℕ
code_of child = Bank.code (region_bank child.coding)

-- where the control of the child at a cell stands
abbrev pub child_at : (child : Coded) → ℕ → Kept → Control (Machine.Place child.machine)
child_at child c s = Bank.decode (region_bank child.coding) (λ n. s (Number (c ∷ []) n))

-- A CALL is one place. Where the hole is 1 the turn is idle and the last; else the child moves, or the registers capture
module _ (i : Instance) (child : Coded) (g c : ℕ) (capturing : Bool) where
  -- what its own inputs are seen as
  abbrev pub inputs_now : Kept → Held
  inputs_now s n = own_input (input_count (cell_at (cells_of i) c)) (inputs_of_call i (held_in s) g c (cells_in s)) n

  abbrev pub captured_now : Kept → Bool
  captured_now s = is_one (truth_of (seen i (held_in s) (group g) (cells_in s) (ports.Done g)))

  abbrev pub hole_now : Control (Machine.Place child.machine) → Kept → Bool
  hole_now p s = if capturing then captured_now s else is_done p

  abbrev pub capture_now : Kept → Turn State Fault
  capture_now s = turn_of (cycle i (held_in s) (capture g c) (cells_in s))

  -- the child's cells and numbers, for its go; or what is captured
  abbrev pub child_writes : Control (Machine.Place child.machine) → Kept → (x : Spot) → Option (Holds x)
  child_writes (At p) s (Cell []) = None
  child_writes (At p) s (Cell (e ∷ path)) =
      if just c e then Machine.writes child.machine p (pull c (inputs_now s) s) (Cell path) else None
  child_writes (At p) s (Number [] n) = None
  child_writes (At p) s (Number (e ∷ []) n) =
      if just c e then Some (code_of child (Machine.step child.machine p (pull c (inputs_now s) s)) n)
      else None
  child_writes (At p) s (Number (e ∷ f ∷ path) n) =
      if just c e then Machine.writes child.machine p (pull c (inputs_now s) s) (Number (f ∷ path) n)
      else None
  child_writes (At p) s (Input n) = None
  child_writes Done s x = if capturing then turn_writes (form_drives (part_of i) (Enable g)) (capture_now s) x else None

  abbrev pub call_writes : Control (Machine.Place child.machine) → Kept → (x : Spot) → Option (Holds x)
  call_writes p s x = if hole_now p s then None else child_writes p s x

  abbrev pub child_faults : Control (Machine.Place child.machine) → Kept → Bool
  child_faults (At p) s = Machine.faults child.machine p (pull c (inputs_now s) s)
  child_faults Done s = if capturing then turn_faults (capture_now s) else false

  abbrev pub call_machine : Machine Spot Holds
  call_machine = record {
    Place = Unit {0};
    start = At tt;
    step = λ p s. if hole_now (child_at child c s) s then Done else At tt;
    writes = λ p s x. call_writes (child_at child c s) s x;
    faults = λ p s. if hole_now (child_at child c s) s then false else child_faults (child_at child c s) s;
  }

-- THE LEAVES of an instance over the control of its children
module _ (i : Instance) (children : ℕ → Coded) where
  abbrev pub called_machine : ℕ → Option ℕ → Machine Spot Holds
  called_machine g None = group_machine i g
  called_machine g (Some c) = call_machine i (children c) g c (captures i g)

  abbrev pub kind_machine : ℕ → GroupKind → Machine Spot Holds
  kind_machine g kinds.Plain = called_machine g (called i g)
  kind_machine g kinds.Comb = called_machine g (called i g)
  kind_machine g (kinds.Timed n) = island_machine i (Enable g)

  abbrev pub leaf_machines : LeafMachines Spot Holds Fault
  leaf_machines = record {
    enable = λ g. kind_machine g (group_at (part_of i) g).kind;
    island = λ form. island_machine i form;
    test = λ port comb s. test i (held_in s) port comb (cells_in s);
  }
