use Rattle.std.proofs.Common.{◌∙◌, ap}
use Rattle.cx_numbering.specs.Names.{number_of, cell_port_names, found_cell_ports, primitive_of, component_among}
use Rattle.cx_names.specs.Sites.{tree_at}
use Rattle.cx_names.proofs.PortLemmas.{is_of_named}
use Rattle.cx_names.proofs.operands.port_number.Goals as goal

pub returns-in-Component : goal.returns-in-Component
returns-in-Component c =
    let tree = tree_at c.args.site.now in
    let kind = c.in-Some.found.now.kind in
    c.component_port.ensures
    ∙ ap (λ k. number_of c.args.port.now (cell_port_names k)) (is_of_named (primitive_of kind) c.in-Some.found.now.numbers.items (component_among kind tree.components) _ c.in-Component.ensures.value)
    ∙ ap (λ o. number_of c.args.port.now (found_cell_ports tree o)) c.in-Some.ensures
