use Rattle.std.proofs.Common.{◌≡◌, ◌++◌, drop, map}
use Rattle.cx_design.specs.PlainForms.{plain_cell}
use Rattle.cx_flattening.specs.Flattened.{inner_cell}
use Rattle.cx_flat.proofs.cells.with_inner_cells.Given as goal

-- the cells so far, and those of the cells that are left, are all
abbrev pub invariant-loop-one : goal.invariant-loop-one
invariant-loop-one l =
    map plain_cell l.all.items ++ map (inner_cell (plain_cell l.cell)) (map plain_cell (drop l.one-index l.inner))
    ≡ map plain_cell l.fn.front.items ++ map (inner_cell (plain_cell l.cell)) (map plain_cell l.inner)
