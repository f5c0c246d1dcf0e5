use Rattle.std.proofs.Common.{[], ◌∷◌, map, ap, arith}
use Rattle.cx_ast.specs.PlainStatements.{plain_statement}
use Rattle.cx_trial.proofs.LoopLemmas.{begun, ended, pushed}
use Rattle.cx_trial.proofs.control.quarter_of.Goals as goal

pub loop-arm-init : goal.loop-arm-init
loop-arm-init c = (begun _ [] (map plain_statement c.new-arms.result.items) (ap (map plain_statement) c.new-arms.ensures.items), omega arith)

pub loop-arm-preserved : goal.loop-arm-preserved
loop-arm-preserved c =
    let below = c.loop-arm-test.true in
    (pushed plain_statement _ [] c.loop-arm.arms.items c.push.new.self.items c.in_ok-arm_of.field-0 c.loop-arm.arm c.loop-arm.invariant.0 c.in_ok-push.ensures.items (ap (λ s. s ∷ []) c.in_ok-arm_of.ensures), omega (arith, below))
