use Rattle.std.proofs.Common.{◌≡◌, codes, map}
use Rattle.cx_ast.specs.PlainTree.{plain_wire}
use Rattle.cx_trial.specs.TrialParts.{indexed, sum_group, store_group}
use Rattle.cx_trial.specs.TrialTree.{step_groups}
use Rattle.cx_trial.proofs.LoopLemmas.{appended, two_behind}
use Rattle.cx_trial.proofs.groups.push_arm.Goals as goal

pub returns : goal.returns
returns c =
    let name = c.in_ok-name.ensures in
    let adder = c.in_ok-adder.ensures in
    let register = c.in_ok-register.ensures in
    let of_adder = c.bytes.ensures.value in
    let of_register = c.bytes-2.ensures.value in
    let counts : plain_wire c.in_ok-sum_group.field-0 ≡ sum_group (indexed (codes "h") c.args.arm) (indexed (codes "b") c.args.arm) (indexed (codes "s") c.args.arm) 1 = (let made = c.in_ok-sum_group.ensures in cc) in
    two_behind (map plain_wire c.args.wires.now.items) (map plain_wire c.push_steps.new.wires.items) (map plain_wire c.push.new.self.items) (map plain_wire c.push-2.new.self.items)
    (step_groups c.args.seed c.args.arm) _ (store_group c.args.arm) c.in_ok-push_steps.ensures
    (appended plain_wire c.push_steps.new.wires.items c.push.new.self.items c.in_ok-sum_group.field-0 _ c.in_ok-push.ensures.items counts)
    (appended plain_wire c.push.new.self.items c.push-2.new.self.items c.in_ok-store_group.field-0 _ c.in_ok-push-2.ensures.items c.in_ok-store_group.ensures)
