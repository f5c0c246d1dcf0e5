use Rattle.std.proofs.Common.{[], map, ap, arith}
use Rattle.cx_ast.specs.PlainTree.{plain_wire}
use Rattle.cx_trial.proofs.LoopLemmas.{begun, turned}
use Rattle.cx_trial.proofs.groups.all_groups.Goals as goal

pub loop-arm-init : goal.loop-arm-init
loop-arm-init c = (begun _ [] (map plain_wire c.new-wires.result.items) (ap (map plain_wire) c.new-wires.ensures.items), omega arith)

pub loop-arm-preserved : goal.loop-arm-preserved
loop-arm-preserved c =
    let below = c.loop-arm-test.true in (
      turned _ [] (map plain_wire c.loop-arm.wires.items) (map plain_wire c.push_arm.new.wires.items) c.loop-arm.arm c.loop-arm.invariant.0 c.in_ok-push_arm.ensures,
      omega (arith, below),
    )
