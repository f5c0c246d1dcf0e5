use Rattle.std.proofs.Common.{◌≡◌, ◌++◌, drop, map}
use Rattle.cx_design.specs.PlainForms.{plain_cell}
use Rattle.cx_flattening.specs.Flattened.{blocks}
use Rattle.cx_flat.specs.Tables.{kids_of, plain_table}
use Rattle.cx_flat.proofs.cells.with_blocks.Given as goal

-- the cells so far, and the blocks of the cells that are left, are all
abbrev pub invariant-loop-cell : goal.invariant-loop-cell
invariant-loop-cell l =
    map plain_cell l.all.items ++ blocks (kids_of (plain_table l.table) (map plain_cell (drop l.cell-index l.cells))) (map plain_cell (drop l.cell-index l.cells))
    ≡ map plain_cell l.fn.front.items ++ blocks (kids_of (plain_table l.table) (map plain_cell l.cells)) (map plain_cell l.cells)
