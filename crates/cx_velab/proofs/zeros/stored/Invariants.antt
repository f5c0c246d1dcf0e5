use Rattle.std.proofs.Common.{◌≡◌, ◌++◌, map, drop}
use Rattle.cx_vnets.specs.Stores.{plain_words}
use Rattle.cx_velab.specs.Rows.{placed_of}
use Rattle.cx_velab.specs.Tables.{all_zeros, all_zero_arrays}
use Rattle.cx_velab.proofs.zeros.stored.Given as goal

abbrev pub invariant-loop-row : goal.invariant-loop-row
invariant-loop-row l = record {
  nets : l.nets.items ++ all_zeros (map placed_of (drop l.row-index l.rows)) ≡ all_zeros (map placed_of l.rows);
  arrays : map plain_words l.arrays.items ++ all_zero_arrays (map placed_of (drop l.row-index l.rows)) ≡ all_zero_arrays (map placed_of l.rows);
}
