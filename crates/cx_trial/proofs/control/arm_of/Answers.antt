use Rattle.std.proofs.Common.{[], ◌∷◌, map, ap, arith}
use Rattle.cx_ast.specs.PlainStatements.{plain_statement}
use Rattle.cx_trial.proofs.LoopLemmas.{begun, ended, pushed}
use Rattle.cx_trial.proofs.control.arm_of.Goals as goal

pub loop-step-init : goal.loop-step-init
loop-step-init c = (begun _ [] (map plain_statement c.new-steps.result.items) (ap (map plain_statement) c.new-steps.ensures.items), omega arith)

pub loop-step-preserved : goal.loop-step-preserved
loop-step-preserved c =
    let below = c.loop-step-test.true in
    (pushed plain_statement _ [] c.loop-step.steps.items c.push.new.self.items c.in_ok-step_of.field-0 c.loop-step.step c.loop-step.invariant.0 c.in_ok-push.ensures.items (ap (λ s. s ∷ []) c.in_ok-step_of.ensures), omega (arith, below))
