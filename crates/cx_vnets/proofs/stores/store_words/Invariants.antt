use Rattle.std.proofs.Common.{◌≡◌, ℕ, drop, map}
use Rattle.cx_vnets.specs.Arrays.{IsEven, array_width}
use Rattle.cx_vnets.specs.Stores.{plain_words, after_writes}
use Rattle.cx_vnets.proofs.stores.store_words.Given as goal

abbrev pub invariant-loop-number : goal.invariant-loop-number
invariant-loop-number l = record {
  value : after_writes (drop l.number l.stores) (drop l.number l.writes) (map plain_words l.arrays) ≡ after_writes l.stores l.writes (map plain_words l.fn.arrays);
  even : IsEven l.arrays;
  widths : (a : ℕ) → array_width l.arrays a ≡ array_width l.fn.arrays a;
}
