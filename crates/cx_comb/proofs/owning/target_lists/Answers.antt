use Rattle.std.proofs.Common.{rules, ◌≡◌, ◌∙◌, ◌+◌, ◌∷◌, ◌++◌, [], ◌<◌, ◌≤◌, length, map, take, sym, ap, subst, arith}
use Rattle.std.proofs.lemmas.List.{map-append, take_all, take_more}
use Rattle.cx_graphs.specs.Graphs.{edges_of}
use Rattle.cx_meaning.specs.Designs.{PlainComponent}
use Rattle.cx_rules.specs.Ports.{component_of}
use Rattle.cx_design.specs.PlainDesigns.{plain_design}
use Rattle.cx_design.specs.PlainForms.{plain_assigns, plain_group}
use Rattle.cx_comb.specs.Owning.{AreTargetLists}
use Rattle.cx_comb.specs.Pruning.{AddsTargets}
use Rattle.cx_comb.proofs.TargetLemmas.{no_lists, more_lists}
use Rattle.cx_comb.proofs.owning.target_lists.Goals as goal

pub loop-group-init : goal.loop-group-init
loop-group-init c = let i = component_of (plain_design c.args.design.now) c.args.number in subst (λ l. AreTargetLists i [] (edges_of l)) (sym c.new-lists.ensures.items) (no_lists i)

pub loop-group-preserved : goal.loop-group-preserved
loop-group-preserved c =
    let i = component_of (plain_design c.args.design.now) c.args.number in
    let xs = c.as_slice-groups.result.now in
    let k = c.loop-group.group-index in
    let x = c.group-item.result in
    let here : k < length xs = search rules in
    let more : map plain_group (take (k + 1) xs) ≡ map plain_group (take k xs) ++ plain_group x ∷ [] =
    ap (map plain_group) (take_more xs k x here ∙ ap (λ y. take k xs ++ y ∷ []) (sym c.group-item.is)) ∙ map-append plain_group (take k xs) (x ∷ []) in
    more_lists i (map plain_group (take k xs)) (map plain_group (take (k + 1) xs)) (plain_group x) c.loop-group.lists.items c.push.new.self.items c.add_targets.new.targets more
    c.in_ok-push.ensures.items c.loop-group.invariant
    (subst (λ l. AddsTargets i (plain_assigns l) [] c.add_targets.new.targets.items) c.as_slice.ensures.value
    (subst (λ l. AddsTargets i (plain_assigns c.as_slice.result.now) l c.add_targets.new.targets.items) c.new-list.ensures.items c.in_ok-add_targets.ensures.value))

pub returns : goal.returns
returns c =
    let i = component_of (plain_design c.args.design.now) c.args.number in
    let xs = c.as_slice-groups.result.now in
    let past : length xs ≤ c.loop-group.group-index = omega arith in
    let all = ap (map plain_group) (take_all c.loop-group.group-index xs past ∙ c.as_slice-groups.ensures.value) ∙ ap (λ (part : PlainComponent). part.groups) c.component.ensures.value in
    record { value = subst (λ l. AreTargetLists i l (edges_of c.loop-group.lists.items)) all c.loop-group.invariant }
