-- What `share` writes of a tree.
use Rattle.std.specs.Prelude.{ℕ, List, ◌∷◌, ◌++◌, codes, flat_map}
use Rattle.cx_ast.specs.PlainTree.{PlainTree}
use Rattle.cx_print.specs.Printed.{AppendsTree}
use Rattle.cx_sharing.specs.declared.rows.SharedRow.{SharedRow}
use Rattle.cx_sharing.specs.SharedTree.{shared_tree}
use Rattle.cx_sharing.specs.SharedRows.{shared_rows}

-- // shared COMPONENT CELL KEPT
abbrev pub row_line : SharedRow → List ℕ
row_line row = codes "// shared" ++ (32 ∷ row.component) ++ (32 ∷ row.cell) ++ (32 ∷ row.kept) ++ codes "\n"

abbrev pub lines : List SharedRow → List ℕ
lines rows = flat_map row_line rows

-- WRITTEN: the lines of the rows, and behind them a text that is read as the shared tree apart from places
abbrev pub IsSharedText : PlainTree → List ℕ → Type 0
IsSharedText tree written = AppendsTree (shared_tree tree) (lines (shared_rows tree)) written
