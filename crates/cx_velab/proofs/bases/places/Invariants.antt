use Rattle.std.proofs.Common.{◌≡◌, map}
use Rattle.cx_velab.specs.Rows.{placed_of}
use Rattle.cx_vnets.specs.Numbers.{nets_before, arrays_before}
use Rattle.cx_velab.specs.Tables.{all_places}
use Rattle.cx_velab.proofs.bases.places.Given as goal

abbrev pub invariant-loop-row : goal.invariant-loop-row
invariant-loop-row l = record {
  placed : l.places.items ≡ all_places (map placed_of l.rows) l.row-index;
  nets : l.nets ≡ nets_before (map placed_of l.rows) l.row-index;
  arrays : l.arrays ≡ arrays_before (map placed_of l.rows) l.row-index;
}
