use Rattle.std.proofs.Common.{◌≡◌, ◌<◌, ℕ, Some, None, length, slice_get, sym, ◌∙◌, ap, subst, arith}
use Rattle.std.proofs.lemmas.List.{length-map}
use Rattle.cx_meaning.specs.Designs.{PlainCell, component_at}
use Rattle.cx_meaning.proofs.InstancesLemmas.{at_cell, at_kind}
use Rattle.cx_design.specs.PlainForms.{plain_cell, plain_kind, plain_component}
use Rattle.cx_design.specs.PlainDesigns.{plain_design}
use Rattle.cx_design_parts.proofs.CellLemmas.{at_component, part_there}
use Rattle.cx_design_parts.proofs.cells.stands_at.Goals as goal

pub component-requires-in-Part : goal.component-requires-in-Part
component-requires-in-Part c =
    let items = c.args.design.now.components.items in
    let long = length-map items plain_component in
    record {
      within = subst (λ n. c.in-Part.part < n) long (part_there (plain_design c.args.design.now) c.args.number c.args.cell c.in-Part.part (plain_cell c.in-Some.cell.now) c.args.design.now.keeps
          (subst (λ n. c.args.number < n) (sym long) c.requires.within)
          (ap (λ part. slice_get part.cells c.args.cell) (sym c.component.ensures.value) ∙ c.in-Some.ensures.some)
          (ap plain_kind c.in-Part.is));
    }

pub returns-in-None : goal.returns-in-None
returns-in-None c =
    let d = plain_design c.args.design.now in
    let some_component : 0 < length d.components = omega (arith, length-map c.args.design.now.components.items plain_component, c.requires.within) in
    let at = at_component d c.args.number c.args.cell (length d.components) some_component in
    record { value = at.1 ∙ ap (λ o. at_cell at.0 o) (ap (λ part. slice_get part.cells c.args.cell) (sym c.component.ensures.value) ∙ c.in-None.ensures.none) }

pub returns-in-Prim : goal.returns-in-Prim
returns-in-Prim c =
    let d = plain_design c.args.design.now in
    let some_component : 0 < length d.components = omega (arith, length-map c.args.design.now.components.items plain_component, c.requires.within) in
    let at = at_component d c.args.number c.args.cell (length d.components) some_component in
    record {
      value = at.1 ∙ ap (λ o. at_cell at.0 o) (ap (λ part. slice_get part.cells c.args.cell) (sym c.component.ensures.value) ∙ c.in-Some.ensures.some)
          ∙ ap (λ kind. at_kind at.0 (plain_kind kind)) c.in-Prim.is;
    }

pub returns-in-Part : goal.returns-in-Part
returns-in-Part c =
    let d = plain_design c.args.design.now in
    let some_component : 0 < length d.components = omega (arith, length-map c.args.design.now.components.items plain_component, c.requires.within) in
    let at = at_component d c.args.number c.args.cell (length d.components) some_component in
    record {
      value = (
        at.0 c.in-Part.part,
        at.1 ∙ ap (λ o. at_cell at.0 o) (ap (λ part. slice_get part.cells c.args.cell) (sym c.component.ensures.value) ∙ c.in-Some.ensures.some)
            ∙ ap (λ kind. at_kind at.0 (plain_kind kind)) c.in-Part.is,
        at.2 c.in-Part.part ∙ sym c.component-in-Part.ensures.value,
      );
    }
