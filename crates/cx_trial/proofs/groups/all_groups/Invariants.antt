use Rattle.std.proofs.Common.{◌≡◌, ◌≤◌, List, map}
use Rattle.cx_ast.specs.PlainTree.{plain_wire}
use Rattle.cx_trial.specs.TrialParts.{up_to}
use Rattle.cx_trial.specs.TrialTree as trees
use Rattle.cx_trial.proofs.groups.all_groups.Given as goal

abbrev pub invariant-loop-arm : goal.invariant-loop-arm
invariant-loop-arm l = (map plain_wire l.wires.items ≡ up_to (trees.arm_groups l.fn.seed) l.arm) × (l.arm ≤ 16)
