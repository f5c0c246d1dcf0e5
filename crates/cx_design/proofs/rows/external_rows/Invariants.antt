use Rattle.std.proofs.Common.{◌≡◌, ◌++◌, map, drop}
use Rattle.cx_text.specs.Loading.{plain_rows}
use Rattle.cx_rules.specs.Externals.{rows_of}
use Rattle.cx_design.specs.PlainForms.{plain_cell}
use Rattle.cx_design.proofs.rows.external_rows.Given as goal

-- the rows so far, and those of the cells that are left, are all
abbrev pub invariant-loop-cell : goal.invariant-loop-cell
invariant-loop-cell l = plain_rows l.rows.items ++ rows_of (map plain_cell (drop l.cell-index l.cells)) ≡ rows_of (map plain_cell l.cells)
