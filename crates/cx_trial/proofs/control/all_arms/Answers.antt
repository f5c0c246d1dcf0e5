use Rattle.std.proofs.Common.{[], ◌∷◌, map, ap, arith}
use Rattle.cx_ast.specs.PlainStatements.{plain_statement}
use Rattle.cx_trial.proofs.LoopLemmas.{begun, ended, pushed}
use Rattle.cx_trial.proofs.control.all_arms.Goals as goal

pub loop-quarter-init : goal.loop-quarter-init
loop-quarter-init c = (begun _ [] (map plain_statement c.new-quarters.result.items) (ap (map plain_statement) c.new-quarters.ensures.items), omega arith)

pub loop-quarter-preserved : goal.loop-quarter-preserved
loop-quarter-preserved c =
    let below = c.loop-quarter-test.true in
    (pushed plain_statement _ [] c.loop-quarter.quarters.items c.push.new.self.items c.in_ok-quarter_of.field-0 c.loop-quarter.quarter c.loop-quarter.invariant.0 c.in_ok-push.ensures.items (ap (λ s. s ∷ []) c.in_ok-quarter_of.ensures), omega (arith, below))
