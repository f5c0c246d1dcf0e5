use Rattle.std.proofs.Common.{rules, [], ◌+◌, ◌<◌, ◌≤◌, length, map, take, sym, ap, ◌∙◌, subst, arith}
use Rattle.std.proofs.lemmas.List.{take_all}
use Rattle.cx_meaning.specs.Designs.{PlainComponent}
use Rattle.cx_rules.specs.Ports.{component_of}
use Rattle.cx_design.specs.PlainDesigns.{plain_design}
use Rattle.cx_design.specs.PlainForms.{plain_assigns, plain_group}
use Rattle.cx_design_leads.proofs.EdgeLemmas.{map_take_more}
use Rattle.cx_comb.specs.Pruning.{HasTargets, AddsTargets}
use Rattle.cx_comb.proofs.TargetLemmas.{none_yet, more_groups}
use Rattle.cx_comb.proofs.pruning.group_targets.Goals as goal

pub loop-group-init : goal.loop-group-init
loop-group-init c = let i = component_of (plain_design c.args.design.now) c.args.number in subst (HasTargets i []) (sym c.new-targets.ensures.items) (none_yet i)

pub loop-group-preserved : goal.loop-group-preserved
loop-group-preserved c =
    let i = component_of (plain_design c.args.design.now) c.args.number in
    let xs = c.as_slice-groups.result.now in
    let k = c.loop-group.group-index in
    let x = c.group-item.result in
    let here : k < length xs = search rules in
    more_groups i (map plain_group (take k xs)) (map plain_group (take (k + 1) xs)) (plain_group x) c.loop-group.targets.items c.add_targets.new.targets.items
    (λ b. map_take_more plain_group xs k x b here (sym c.group-item.is)) c.loop-group.invariant
    (subst (λ l. AddsTargets i (plain_assigns l) c.loop-group.targets.items c.add_targets.new.targets.items) c.as_slice.ensures.value c.in_ok-add_targets.ensures.value)

pub returns : goal.returns
returns c =
    let i = component_of (plain_design c.args.design.now) c.args.number in
    let xs = c.as_slice-groups.result.now in
    let past : length xs ≤ c.loop-group.group-index = omega arith in
    let all = ap (map plain_group) (take_all c.loop-group.group-index xs past ∙ c.as_slice-groups.ensures.value) ∙ ap (λ (part : PlainComponent). part.groups) c.component.ensures.value in
    record { value = subst (λ l. HasTargets i l c.loop-group.targets.items) all c.loop-group.invariant }
