use Rattle.std.proofs.Common.{◌∷◌, [], map, refl, ap, arith}
use Rattle.cx_ast.specs.PlainTree.{plain_wire}
use Rattle.cx_trial.proofs.LoopLemmas.{begun, pushed}
use Rattle.cx_trial.proofs.groups.push_steps.Goals as goal

pub loop-step-init : goal.loop-step-init
loop-step-init c = (begun _ (map plain_wire c.args.wires.now.items) (map plain_wire c.args.wires.now.items) refl, omega arith)

pub loop-step-preserved : goal.loop-step-preserved
loop-step-preserved c =
    let below = c.loop-step-test.true in (
      pushed plain_wire _ (map plain_wire c.args.wires.now.items) c.loop-step.wires.items c.push.new.self.items c.in_ok-step_group.field-0 c.loop-step.step c.loop-step.invariant.0
          c.in_ok-push.ensures.items (ap (λ s. s ∷ []) c.in_ok-step_group.ensures),
      omega (arith, below),
    )
