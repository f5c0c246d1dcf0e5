use Rattle.std.proofs.Common.{◌≡◌, ◌≤◌, List, [], ◌∷◌, map, codes}
use Rattle.cx_ast.specs.PlainStatements.{plain_statement}
use Rattle.cx_trial.specs.TrialParts.{up_to, indexed}
use Rattle.cx_trial.specs.TrialControl as trial
use Rattle.cx_trial.proofs.control.whole_control.Given as goal

abbrev pub invariant-loop-arm : goal.invariant-loop-arm
invariant-loop-arm l = (map plain_statement l.parts.items ≡ trial.all_arms l.fn.seed ∷ up_to (λ arm. trial.enable (indexed (codes "t") arm) ∷ []) l.arm) × (l.arm ≤ 16)
