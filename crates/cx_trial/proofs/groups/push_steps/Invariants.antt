use Rattle.std.proofs.Common.{◌≡◌, ◌≤◌, List, [], ◌∷◌, ◌++◌, map}
use Rattle.cx_ast.specs.PlainTree.{plain_wire}
use Rattle.cx_trial.specs.TrialParts.{up_to, step_group}
use Rattle.cx_trial.proofs.groups.push_steps.Given as goal

abbrev pub invariant-loop-step : goal.invariant-loop-step
invariant-loop-step l = (map plain_wire l.wires.items ≡ map plain_wire l.fn.wires.items ++ up_to (λ step. step_group l.fn.seed l.fn.arm step ∷ []) l.step) × (l.step ≤ 8)
