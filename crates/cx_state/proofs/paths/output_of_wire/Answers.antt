use Rattle.std.proofs.Common.{◌≡◌, [], refl, sym, ◌∙◌, subst}
use Rattle.cx_rules.specs.Ports.{cell_name, path_of}
use Rattle.cx_rules.specs.FullPaths.{own_path}
use Rattle.cx_design.specs.PlainForms.{plain_component}
use Rattle.cx_state.proofs.WireLemmas.{wire_told, no_wire, name_there, name_past, if_none, if_some}
use Rattle.cx_state.proofs.paths.output_of_wire.Goals as goal

pub returns-in-Some-clause-none : goal.returns-in-Some-clause-none
returns-in-Some-clause-none c =
    let part = plain_component c.args.part.now in
    let named : cell_name part.cells c.in-Cell.cell ≡ c.bytes.result.now =
    name_there c.args.part.now.cells.items c.as_slice.result.now c.in-Cell.cell c.in-Some.cell.now c.as_slice.ensures.value c.in-Some.ensures.lookup.3.0 c.in-Some.ensures.lookup.1
    ∙ sym c.bytes.ensures.value in
    if_none c.without_point.result
    (λ ends i own. subst (λ port. own_path i port ≡ path_of i port) (sym c.in-Cell.is) (no_wire part c.in-Cell.cell c.in-Cell.field-1 i own c.bytes.result.now named ends))
    c.without_point.ensures.none

pub returns-in-Some-clause-some : goal.returns-in-Some-clause-some
returns-in-Some-clause-some c =
    let part = plain_component c.args.part.now in
    let named : cell_name part.cells c.in-Cell.cell ≡ c.bytes.result.now =
    name_there c.args.part.now.cells.items c.as_slice.result.now c.in-Cell.cell c.in-Some.cell.now c.as_slice.ensures.value c.in-Some.ensures.lookup.3.0 c.in-Some.ensures.lookup.1
    ∙ sym c.bytes.ensures.value in
    if_some c.without_point.result
    (λ output told i own. subst (λ port. own_path i port ≡ output.now) (sym c.in-Cell.is) (wire_told part c.in-Cell.cell c.in-Cell.field-1 i own c.bytes.result.now named told.0 ∙ sym told.1))
    c.without_point.ensures.some

pub returns-in-None-clause-none : goal.returns-in-None-clause-none
returns-in-None-clause-none c i own =
    let part = plain_component c.args.part.now in
    subst (λ port. own_path i port ≡ path_of i port) (sym c.in-Cell.is)
    (no_wire part c.in-Cell.cell c.in-Cell.field-1 i own [] (name_past c.args.part.now.cells.items c.as_slice.result.now c.in-Cell.cell c.as_slice.ensures.value c.in-None.ensures.lookup.3) refl)
