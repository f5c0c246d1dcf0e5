use Rattle.std.proofs.Common.{◌≤◌, map, drop, length}
use Rattle.cx_velab.specs.Rows.{placed_of}
use Rattle.cx_vsim.specs.Mains.{HasMainFrom}
use Rattle.cx_vsim.proofs.arrays.main_numbers.Given as goal

abbrev pub invariant-loop-i : goal.invariant-loop-i
invariant-loop-i l = record {
  main : HasMainFrom l.numbers l.i (map placed_of (drop l.i l.rows));
  within : l.i ≤ length l.rows;
}

abbrev pub decreases-loop-i : goal.decreases-loop-i
decreases-loop-i l = l.i
