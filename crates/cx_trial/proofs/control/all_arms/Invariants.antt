use Rattle.std.proofs.Common.{◌≡◌, ◌≤◌, List, [], ◌∷◌, map}
use Rattle.cx_ast.specs.PlainStatements.{plain_statement}
use Rattle.cx_trial.specs.TrialParts.{up_to}
use Rattle.cx_trial.specs.TrialControl as trial
use Rattle.cx_trial.proofs.control.all_arms.Given as goal

abbrev pub invariant-loop-quarter : goal.invariant-loop-quarter
invariant-loop-quarter l = (map plain_statement l.quarters.items ≡ up_to (λ quarter. trial.quarter_of l.fn.seed quarter ∷ []) l.quarter) × (l.quarter ≤ 4)
