use Rattle.std.proofs.Common.{◌≡◌, ℕ, ◌<◌, length, map, Some, slice_get}
use Rattle.cx_vtree.specs.InstanceTree.{Placed}
use Rattle.cx_velab.specs.Rows.{placed_of}
use Rattle.cx_velab.specs.Parts.{HasPart, AreFound}
use Rattle.cx_velab.proofs.parts.all_parts.Given as goal

abbrev pub invariant-loop-i : goal.invariant-loop-i
invariant-loop-i l = record {
  found : AreFound (map placed_of l.rows) l.found l.list.items l.codes.items;
  count : length l.of_rows.items ≡ l.i;
  each : (k : ℕ) (p : Placed) → k < l.i → slice_get (map placed_of l.rows) k ≡ Some p → (j : ℕ) × (slice_get l.of_rows.items k ≡ Some j) × HasPart l.list.items l.codes.items j p.part;
}
