use Rattle.std.proofs.Common.{◌≡◌, ◌++◌, drop, map}
use Rattle.cx_design.specs.PlainForms.{plain_cell}
use Rattle.cx_flat.specs.Callers.{kids_in, part_of}
use Rattle.cx_flat.specs.Places.{cell_places, listed, plain_instances}
use Rattle.cx_flat.proofs.places.with_cells.Given as goal

-- the places so far, and those below the cells that are left, are all
abbrev pub invariant-loop-cell : goal.invariant-loop-cell
invariant-loop-cell l =
    plain_instances l.all.items ++ cell_places (kids_in l.caller) (part_of l.caller) (listed l.lists) l.number (map plain_cell (drop l.cell-index l.caller.part.now.cells.items))
    ≡ plain_instances l.fn.front.items ++ cell_places (kids_in l.caller) (part_of l.caller) (listed l.lists) 0 (part_of l.caller).cells
