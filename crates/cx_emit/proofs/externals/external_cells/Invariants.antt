use Rattle.std.proofs.Common.{◌≡◌, ◌++◌, drop, map}
use Rattle.cx_design.specs.PlainForms.{plain_cell}
use Rattle.cx_vtree.specs.PlainParts.{plain_external}
use Rattle.cx_emit.specs.Sources.{cell_externals}
use Rattle.cx_emit.specs.Numbered.{lists_from}
use Rattle.cx_emit.proofs.externals.external_cells.Given as goal

-- those so far, and those that are left, are all
abbrev pub invariant-loop-number : goal.invariant-loop-number
invariant-loop-number l =
    map plain_external l.externals.items ++ lists_from cell_externals l.number (map plain_cell (drop l.number l.cells))
    ≡ lists_from cell_externals 0 (map plain_cell l.cells)
