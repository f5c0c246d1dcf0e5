use Rattle.std.proofs.Common.{◌≡◌, ◌<◌, length, map, sym, ap, subst, ◌∙◌}
use Rattle.std.proofs.lemmas.List.{length-map}
use Rattle.cx_graphs.specs.Graphs.{edges_of}
use Rattle.cx_meaning.specs.Designs.{component_at}
use Rattle.cx_design.specs.PlainForms.{plain_group}
use Rattle.cx_design.specs.PlainDesigns.{plain_design}
use Rattle.cx_race.specs.Cells.{cells_in_group, targets_in_group}
use Rattle.cx_race.proofs.Bounds.{are_footprints}
use Rattle.cx_race.proofs.parts.footprints_of.Goals as goal

pub returns : goal.returns
returns c =
    let d = plain_design c.args.design.now in
    let k = c.args.number in
    let part = component_at d k in
    let within : k < length d.components = subst (λ n. k < n) (sym (length-map c.args.design.now.components.items _)) c.requires.within in
    let groups : map plain_group c.as_slice.result.now ≡ part.groups = ap (λ l. map plain_group l) c.as_slice.ensures.value ∙ ap (λ p. p.groups) c.component-part.ensures.value in
    let groups_again : map plain_group c.as_slice-2.result.now ≡ part.groups = ap (λ l. map plain_group l) c.as_slice-2.ensures.value ∙ ap (λ p. p.groups) c.component-part.ensures.value in
    let driven : edges_of c.in_ok-driven.field-0.items ≡ map targets_in_group part.groups = c.in_ok-driven.ensures.value ∙ ap (λ l. map targets_in_group l) groups in
    let named : edges_of c.in_ok-named.field-0.items ≡ map cells_in_group part.groups = c.in_ok-named.ensures.value ∙ ap (λ l. map cells_in_group l) groups_again in
    record {
      value = are_footprints d c.args.design.now.keeps k within (record { links = c.in_ok-links.field-0; driven = c.in_ok-driven.field-0; named = c.in_ok-named.field-0 }) c.in_ok-links.ensures.links driven named;
    }
