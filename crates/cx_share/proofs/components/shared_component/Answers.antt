use Rattle.std.proofs.Common.{◌∙◌, ℕ, List, ap, map, option_map}
use Rattle.cx_ast.specs.PlainTree as ast
use Rattle.cx_copies.specs.Naming.{named_wire}
use Rattle.cx_ast.specs.PlainStatements.{plain_block}
use Rattle.cx_names_scopes.specs.Numbered.{number_in}
use Rattle.cx_design.specs.PlainForms.{plain_component}
use Rattle.cx_sharing.specs.SharedTree.{left_cells}
use Rattle.cx_share.specs.Naming.{name_by}
use Rattle.cx_share.proofs.TreeLemmas.{component_made}
use Rattle.cx_share.proofs.components.shared_component.Goals as goal

pub returns : goal.returns
returns c =
    let part = plain_component c.args.part.now in
    let names = c.in_ok-names.names in
    let name = λ (cell : List ℕ). name_by (number_in names.numbers cell) names.names.items cell in
    record {
      value = component_made part (ast.plain_component c.args.item.now) name c.in_ok-attributes.attributes.items c.in_ok-name.name c.in_ok-marks.marks.items (map ast.plain_port c.in_ok-inputs.inputs.items) (map ast.plain_port c.in_ok-outputs.outputs.items)
          (map ast.plain_cell c.in_ok-cells.cells.items) (map ast.plain_wire c.in_ok-wires.wires.items) (option_map plain_block c.in_ok-control.control) c.in_ok-names.ensures.value
          (c.in_ok-attributes.ensures.value ∙ c.as_slice.ensures.value) c.in_ok-name.ensures.value (c.in_ok-marks.ensures.value ∙ c.as_slice-2.ensures.value)
          (c.in_ok-inputs.ensures.value ∙ ap (map ast.plain_port) c.as_slice-3.ensures.value) (c.in_ok-outputs.ensures.value ∙ ap (map ast.plain_port) c.as_slice-4.ensures.value)
          (c.in_ok-cells.ensures.value part c.requires.keepers ∙ ap (λ xs. left_cells part 0 (map ast.plain_cell xs)) c.as_slice-5.ensures.value)
          (c.in_ok-wires.ensures.value ∙ ap (λ xs. map (named_wire name) (map ast.plain_wire xs)) c.as_slice-6.ensures.value)
          c.in_ok-control.ensures.value;
    }
