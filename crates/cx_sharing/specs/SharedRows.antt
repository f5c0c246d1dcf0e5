-- What is told of sharing: the components in source order, of each the given cells in cell order, beside the cells that stand for them.
use Rattle.std.specs.Prelude.{ℕ, zero, suc, List, [], ◌∷◌, flat_map, length, if◌then◌else◌}
use Rattle.cx_ast.specs.PlainTree as ast
use Rattle.cx_meaning.specs.Designs.{PlainComponent}
use Rattle.cx_rules.specs.Ports.{cell_name}
use Rattle.cx_numbering.specs.DesignOf.{design_of}
use Rattle.cx_sharing.specs.declared.rows.SharedRow.{SharedRow}
use Rattle.cx_sharing.specs.Giving.{keeper, stays}

abbrev pub row_of : PlainComponent → ℕ → SharedRow
row_of part c =
    record {
      component = part.name;
      cell = cell_name part.cells c;
      kept = cell_name part.cells (keeper part c);
    }

-- of so many cells from number c on
abbrev pub rows_from : PlainComponent → ℕ → ℕ → List SharedRow
rows_from part c zero = []
rows_from part c (suc more) =
    if stays part c then rows_from part (suc c) more else row_of part c ∷ rows_from part (suc c) more

abbrev pub rows_of : PlainComponent → List SharedRow
rows_of part = rows_from part 0 (length part.cells)

abbrev pub shared_rows : ast.PlainTree → List SharedRow
shared_rows tree = flat_map rows_of (design_of tree).components
