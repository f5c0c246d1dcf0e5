-- What `promote` writes of a tree.
use Rattle.std.specs.Prelude.{ℕ, List, ◌∷◌, ◌++◌, codes, decimal, flat_map}
use Rattle.cx_ast.specs.PlainTree.{PlainTree}
use Rattle.cx_print.specs.Printed.{AppendsTree}
use Rattle.cx_promotion.specs.declared.rows.PromotedRow.{PromotedRow}
use Rattle.cx_promotion.specs.Rewriting.{IsPromotedTree}

-- // promoted COMPONENT GROUP N
abbrev pub row_line : PromotedRow → List ℕ
row_line row =
    codes "// promoted" ++ (32 ∷ row.component) ++ (32 ∷ row.group) ++ (32 ∷ decimal row.cycles)
    ++ codes "\n"

abbrev pub lines : List PromotedRow → List ℕ
lines rows = flat_map row_line rows

-- WRITTEN: the lines of the rows of the promoted tree, and behind them a text that is read as that tree apart from places
pub record IsPromotedText (tree : PlainTree) (written : List ℕ) : Type 0 where
  pub new : PlainTree
  pub rows : List PromotedRow
  pub promoted : IsPromotedTree tree new rows
  pub printed : AppendsTree new (lines rows) written
