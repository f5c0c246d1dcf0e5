use Rattle.std.proofs.Common.{◌≡◌, ◌≤◌, ◌+◌, ◌*◌, List, [], ◌∷◌, map}
use Rattle.cx_ast.specs.PlainStatements.{plain_statement}
use Rattle.cx_trial.specs.TrialParts.{up_to}
use Rattle.cx_trial.specs.TrialControl as trial
use Rattle.cx_trial.proofs.control.quarter_of.Given as goal

abbrev pub invariant-loop-arm : goal.invariant-loop-arm
invariant-loop-arm l = (map plain_statement l.arms.items ≡ up_to (λ arm. trial.arm_of l.fn.seed (4 * l.fn.quarter + arm) ∷ []) l.arm) × (l.arm ≤ 4)
