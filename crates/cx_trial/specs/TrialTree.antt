-- THE DESIGN OF A TRIAL: 16 arms of 8 steps, which add to registers; their sums are stored.
use Rattle.std.specs.Prelude.{ℕ, List, [], ◌∷◌, ◌++◌, Some, None, codes}
use Rattle.cx_ast.specs.PlainTree.{PlainCell, PlainComponent, PlainTree, PlainWire}
use Rattle.cx_trial.specs.TrialParts.{place, up_to, indexed, cell, memory_cell, sum_group, step_group, store_group}
use Rattle.cx_trial.specs.TrialControl.{whole_control}

-- two registers and two adders
abbrev pub arm_cells : ℕ → List PlainCell
arm_cells arm =
    cell (codes "r") arm (codes "std_reg") ∷ cell (codes "s") arm (codes "std_reg")
    ∷ cell (codes "a") arm (codes "std_add") ∷ cell (codes "b") arm (codes "std_add") ∷ []

abbrev pub all_cells : List PlainCell
all_cells = memory_cell ∷ up_to arm_cells 16

-- a group for each step
abbrev pub step_groups : ℕ → ℕ → List PlainWire
step_groups seed arm = up_to (λ step. step_group seed arm step ∷ []) 8

-- those of an arm: its steps, the group that counts, and the store
abbrev pub arm_groups : ℕ → ℕ → List PlainWire
arm_groups seed arm =
    step_groups seed arm
    ++ sum_group (indexed (codes "h") arm) (indexed (codes "b") arm) (indexed (codes "s") arm) 1
    ∷ store_group arm ∷ []

abbrev pub all_groups : ℕ → List PlainWire
all_groups seed = up_to (arm_groups seed) 16

abbrev pub trial_part : ℕ → PlainComponent
trial_part seed = record {
  attributes = [];
  length = None;
  name = codes "main";
  marks = [];
  inputs = [];
  outputs = [];
  cells = all_cells;
  wires = all_groups seed;
  control = Some (whole_control seed);
  place = place;
}

abbrev pub trial_tree : ℕ → PlainTree
trial_tree seed = record { imports = []; components = trial_part seed ∷ [] }
