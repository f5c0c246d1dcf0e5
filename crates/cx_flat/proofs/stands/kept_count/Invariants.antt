use Rattle.std.proofs.Common.{◌≡◌, ◌+◌, drop, length, map}
use Rattle.cx_design.specs.PlainForms.{plain_cell}
use Rattle.cx_flattening.specs.Flattened.{kept}
use Rattle.cx_flat.specs.Tables.{kids_of, plain_table}
use Rattle.cx_flat.proofs.stands.kept_count.Given as goal

-- those so far, and those of the cells that are left, are all
abbrev pub invariant-loop-cell : goal.invariant-loop-cell
invariant-loop-cell l =
    l.count + length (kept (kids_of (plain_table l.table) (map plain_cell (drop l.cell-index l.cells))) (map plain_cell (drop l.cell-index l.cells)))
    ≡ length (kept (kids_of (plain_table l.table) (map plain_cell l.cells)) (map plain_cell l.cells))
