use Rattle.std.proofs.Common.{◌∙◌, sym}
use Rattle.cx_names_scopes.proofs.NameLemmas.{component_port}
use Rattle.cx_names_scopes.proofs.kinds.CellKind.has_port.Goals as goal

pub returns-in-Component : goal.returns-in-Component
returns-in-Component c =
    let index = rw c.in-Component.is at c.requires in
    rw c.in-Component.is (c.is_component_port.ensures ∙ sym (component_port c.args.port.now _ _ c.in-Component.index.now.inputs c.in-Component.index.now.outputs index.inputs index.outputs))
