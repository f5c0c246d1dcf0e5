use Rattle.std.proofs.Common.{◌≡◌, ◌+◌, drop, length, map}
use Rattle.cx_meaning.specs.Instances.{externals_from}
use Rattle.cx_design.specs.PlainForms.{plain_cell}
use Rattle.cx_profile.proofs.instrumenting.externals.Given as goal

-- the count so far, and that of the cells that are left, are the whole count
abbrev pub invariant-loop-cell : goal.invariant-loop-cell
invariant-loop-cell l = l.count + length (externals_from 0 (map plain_cell (drop l.cell-index l.cells))) ≡ length (externals_from 0 (map plain_cell l.cells))
