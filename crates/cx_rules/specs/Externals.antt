-- The external memories of a design.
use Rattle.std.specs.Prelude.{ℕ, ◌/◌, Bool, true, false, List, [], ◌∷◌, length, take}
use Rattle.cx_text.specs.Loading.{PlainRow}
use Rattle.cx_meaning.specs.Designs.{PlainKind, OfPrimitive, OfComponent, PlainCell, PlainDesign, component_at}
use Rattle.cx_rules.specs.Wellformed.{first_number}

-- the numbers of a memory are the width of its words, the size of each dimension, and the width of each address
abbrev pub sizes_in : List ℕ → List ℕ
sizes_in [] = []
sizes_in (width ∷ rest) = take (length rest / 2) rest

abbrev pub numbers_of : PlainKind → List ℕ
numbers_of (OfPrimitive primitive) = primitive.numbers
numbers_of (OfComponent k) = []

abbrev pub row_for : PlainCell → PlainRow
row_for cell =
    record {
      name = cell.name;
      width = first_number (numbers_of cell.kind);
      sizes = sizes_in (numbers_of cell.kind);
    }

abbrev pub if_external : Bool → PlainCell → List PlainRow → List PlainRow
if_external true cell rest = row_for cell ∷ rest
if_external false cell rest = rest

-- the external ones among cells, in cell order
abbrev pub rows_of : List PlainCell → List PlainRow
rows_of [] = []
rows_of (cell ∷ cells) = if_external cell.external cell (rows_of cells)

-- those of main
abbrev pub external_rows : PlainDesign → List PlainRow
external_rows d = rows_of (component_at d d.main).cells
