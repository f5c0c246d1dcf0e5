use Rattle.std.proofs.Common.{◌≡◌, ◌≤◌, List, [], ◌∷◌, map}
use Rattle.cx_ast.specs.PlainStatements.{plain_statement}
use Rattle.cx_trial.specs.TrialParts.{up_to}
use Rattle.cx_trial.specs.TrialControl as trial
use Rattle.cx_trial.proofs.control.arm_of.Given as goal

abbrev pub invariant-loop-step : goal.invariant-loop-step
invariant-loop-step l = (map plain_statement l.steps.items ≡ up_to (λ step. trial.step_of l.fn.seed l.fn.arm step ∷ []) l.step) × (l.step ≤ 8)
