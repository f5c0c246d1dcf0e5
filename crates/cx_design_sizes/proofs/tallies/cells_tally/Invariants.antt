use Rattle.std.proofs.Common.{◌≡◌, map, drop}
use Rattle.cx_design.specs.PlainForms.{plain_cell}
use Rattle.cx_design_sizes.specs.Tallies as counts
use Rattle.cx_design_sizes.proofs.StepLemmas.{IsSmall}
use Rattle.cx_design_sizes.proofs.tallies.cells_tally.Given as goal

abbrev pub invariant-loop-cell : goal.invariant-loop-cell
invariant-loop-cell l = (counts.beside l.tally (counts.cells_tally l.tallies (map plain_cell (drop l.cell-index l.cells))) ≡ counts.cells_tally l.tallies (map plain_cell l.cells)) × IsSmall l.tally
