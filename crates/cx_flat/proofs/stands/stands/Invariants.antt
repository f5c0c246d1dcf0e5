use Rattle.std.proofs.Common.{◌≡◌, ◌++◌, drop, map}
use Rattle.cx_design.specs.PlainForms.{plain_cell}
use Rattle.cx_flat.specs.Stands.{stands_from, stands_of}
use Rattle.cx_flat.specs.Tables.{kids_of, plain_table}
use Rattle.cx_flat.proofs.stands.stands.Given as goal

-- those so far, and where the cells that are left stand, are all
abbrev pub invariant-loop-cell : goal.invariant-loop-cell
invariant-loop-cell l =
    l.all.items ++ stands_from l.next.kept l.next.block (kids_of (plain_table l.table) (map plain_cell (drop l.cell-index l.cells)))
    ≡ stands_of (kids_of (plain_table l.table) (map plain_cell l.cells)) (map plain_cell l.cells)
