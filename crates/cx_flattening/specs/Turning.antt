-- A turn of the flat instance beside a turn of the tree.
use Rattle.std.specs.Prelude.{◌≡◌, ℕ, ◌<◌, [], Option, Some, length}
use Rattle.cx_meaning.specs.Instances.{Instance, part_of, State}
use Rattle.cx_meaning.specs.Active.{comb}
use Rattle.cx_meaning.specs.Cycles.{Fault}
use Rattle.cx_meaning.specs.Answers.{Turn, Ends, Goes, Faults, Test, Holds, Fails, Unclear}
use Rattle.cx_flattening.specs.Embedded.{IsFlattened, Stands}
use Rattle.cx_flattening.specs.Fair.{AllFair}
use Rattle.cx_flattening.specs.Seeing.{NoCircle}
use Rattle.cx_flattening.specs.FlatFaults.{flat_fault}

-- it is the last where that is, goes on to a state of the same cells, or has the fault
abbrev pub TurnAs : Instance → Turn State Fault → Turn State Fault → Type 0
TurnAs i Ends flat = flat ≡ Ends
TurnAs i (Goes after) flat = (z : State) × (flat ≡ Goes z) × Stands i 0 after z
TurnAs i (Faults fault) flat = flat ≡ Faults (flat_fault i 0 fault)

-- a condition says the same, or its port is the fault
abbrev pub TestAs : Instance → Test Fault → Test Fault → Type 0
TestAs i Holds flat = flat ≡ Holds
TestAs i Fails flat = flat ≡ Fails
TestAs i (Unclear fault) flat = flat ≡ Unclear (flat_fault i 0 fault)

-- WHAT IS ASKED of a tree and its flat instance while a group acts, if any
pub record IsGroupBeside (i flat : Instance) (with_group : Option ℕ) : Type 0 where
  pub flattened : IsFlattened i flat
  pub fair : AllFair i
  pub there : (g : ℕ) → with_group ≡ Some g → g < length (part_of i).groups
  pub no_circle : NoCircle i (comb with_group) []
