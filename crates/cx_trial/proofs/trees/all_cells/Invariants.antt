use Rattle.std.proofs.Common.{◌≡◌, ◌≤◌, List, ◌∷◌, map}
use Rattle.cx_ast.specs.PlainTree.{plain_cell}
use Rattle.cx_trial.specs.TrialParts.{up_to, memory_cell}
use Rattle.cx_trial.specs.TrialTree as trial
use Rattle.cx_trial.proofs.trees.all_cells.Given as goal

abbrev pub invariant-loop-arm : goal.invariant-loop-arm
invariant-loop-arm l = (map plain_cell l.cells.items ≡ memory_cell ∷ up_to trial.arm_cells l.arm) × (l.arm ≤ 16)
