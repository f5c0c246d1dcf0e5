use Rattle.std.proofs.Common.{◌≡◌, ◌<◌, length, map, get_or, sym, ap, ◌∙◌, subst}
use Rattle.std.proofs.lemmas.List.{length-map}
use Rattle.cx_meaning.specs.Designs.{PlainComponent, no_group, component_at, group_at}
use Rattle.cx_design.specs.PlainDesigns.{plain_design}
use Rattle.cx_design.specs.PlainForms.{plain_group}
use Rattle.cx_comb.proofs.BreakLemmas.{group_told}
use Rattle.cx_design.proofs.GroupsLemmas.{got_group}
use Rattle.cx_comb.proofs.telling.add_group.Goals as goal

pub bounds-groups-group : goal.bounds-groups-group
bounds-groups-group c =
    subst (λ n. c.args.group < n)
    (sym (ap length c.as_slice-groups.ensures.value ∙ sym (length-map c.component.result.now.groups.items plain_group) ∙ ap (λ (p : PlainComponent). length p.groups) c.component.ensures.value)) c.requires.group

pub returns : goal.returns
returns c =
    let d = plain_design c.args.design.now in
    let k = c.args.number in
    let g = c.args.group in
    let groups = c.as_slice-groups.result.now in
    let x = c.index-groups-group.result in
    let here : g < length groups =
    subst (λ n. g < n) (sym (ap length c.as_slice-groups.ensures.value ∙ sym (length-map c.component.result.now.groups.items plain_group) ∙ ap (λ (p : PlainComponent). length p.groups) c.component.ensures.value)) c.requires.group in
    let is : plain_group x ≡ group_at (component_at d k) g =
    got_group groups g x here c.index-groups-group.is ∙ ap (λ l. get_or (map plain_group l) g no_group) c.as_slice-groups.ensures.value ∙ ap (λ (p : PlainComponent). group_at p g) c.component.ensures.value in
    record { value = group_told d k g (plain_group x) c.args.found c.args.first.now c.add_break.new.first c.if-not-found.false is c.in_ok-add_break.ensures.value }
