-- The shared tree: the given cells are removed, and where one was named, the cell that stands for it is named.
use Rattle.std.specs.Prelude.{ℕ, suc, List, [], ◌∷◌, Option, Some, None, map, option_map, if◌then◌else◌}
use Rattle.cx_ast.specs.PlainTree as ast
use Rattle.cx_copies.specs.Naming.{named_wire, named_block}
use Rattle.cx_meaning.specs.Designs.{PlainComponent}
use Rattle.cx_rules.specs.Ports.{cell_name}
use Rattle.cx_numbering.specs.Names.{number_of}
use Rattle.cx_numbering.specs.DesignOf.{design_of}
use Rattle.cx_sharing.specs.Giving.{keeper, stays}

-- of the cell of a number the name of the cell that stands for it. part is the component of the design
abbrev pub keeper_name : PlainComponent → Option ℕ → List ℕ → List ℕ
keeper_name part None name = name
keeper_name part (Some c) name = cell_name part.cells (keeper part c)

-- and of the cell of a name; a name that no cell has stays
abbrev pub kept_name : PlainComponent → List ℕ → List ℕ
kept_name part name = keeper_name part (number_of name (map (λ cell. cell.name) part.cells)) name

-- the cells that stay, the first of the list having number c
abbrev pub left_cells : PlainComponent → ℕ → List ast.PlainCell → List ast.PlainCell
left_cells part c [] = []
left_cells part c (cell ∷ cells) =
    if stays part c then cell ∷ left_cells part (suc c) cells else left_cells part (suc c) cells

abbrev pub shared_component : PlainComponent → ast.PlainComponent → ast.PlainComponent
shared_component part item = record {
  attributes = item.attributes;
  length = item.length;
  name = item.name;
  marks = item.marks;
  inputs = item.inputs;
  outputs = item.outputs;
  cells = left_cells part 0 item.cells;
  wires = map (named_wire (kept_name part)) item.wires;
  control = option_map (named_block (kept_name part)) item.control;
  place = item.place;
}

-- each component of a tree beside that of its design
abbrev pub shared_components : List PlainComponent → List ast.PlainComponent → List ast.PlainComponent
shared_components parts [] = []
shared_components [] (item ∷ items) = item ∷ items
shared_components (part ∷ parts) (item ∷ items) = shared_component part item ∷ shared_components parts items

abbrev pub shared_tree : ast.PlainTree → ast.PlainTree
shared_tree tree =
    record {
      imports = tree.imports;
      components = shared_components (design_of tree).components tree.components;
    }
