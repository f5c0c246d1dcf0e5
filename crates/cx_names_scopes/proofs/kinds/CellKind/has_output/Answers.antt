use Rattle.std.proofs.Common.{◌∙◌, sym}
use Rattle.cx_names_scopes.proofs.NameLemmas.{component_output}
use Rattle.cx_names_scopes.proofs.kinds.CellKind.has_output.Goals as goal

pub returns-in-Component : goal.returns-in-Component
returns-in-Component c =
    let index = rw c.in-Component.is at c.requires in
    rw c.in-Component.is (c.is_component_output.ensures ∙ sym (component_output c.args.port.now _ c.in-Component.index.now.outputs index.outputs))
