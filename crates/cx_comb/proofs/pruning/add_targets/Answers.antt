use Rattle.std.proofs.Common.{rules, ◌+◌, ◌<◌, length, take, sym}
use Rattle.cx_rules.specs.Ports.{component_of}
use Rattle.cx_design.specs.PlainDesigns.{plain_design}
use Rattle.cx_design.specs.PlainForms.{plain_assign, plain_assigns}
use Rattle.cx_design_leads.proofs.EdgeLemmas.{map_take_more}
use Rattle.cx_comb.proofs.TargetLemmas.{no_targets, more_targets}
use Rattle.cx_comb.proofs.pruning.add_targets.Goals as goal

pub loop-assign-init : goal.loop-assign-init
loop-assign-init c = no_targets (component_of (plain_design c.args.design.now) c.args.number) c.args.targets.now.items

pub loop-assign-preserved : goal.loop-assign-preserved
loop-assign-preserved c =
    let i = component_of (plain_design c.args.design.now) c.args.number in
    let xs = c.args.assigns.now in
    let k = c.loop-assign.assign-index in
    let x = c.assign-item.result in
    let here : k < length xs = search rules in
    more_targets i (plain_assigns (take k xs)) (plain_assigns (take (k + 1) xs)) (plain_assign x) c.args.targets.now.items c.loop-assign.targets.items c.add_target.new.targets.items
    (λ b. map_take_more plain_assign xs k x b here (sym c.assign-item.is)) c.loop-assign.invariant c.in_ok-add_target.ensures.value
