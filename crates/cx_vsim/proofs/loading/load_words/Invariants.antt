use Rattle.std.proofs.Common.{◌≡◌, map, take}
use Rattle.cx_text.specs.Loading.{plain_loaded}
use Rattle.cx_vnets.specs.Stores.{plain_words}
use Rattle.cx_vsim.specs.Arrays.{CanTake, with_arrays}
use Rattle.cx_vsim.proofs.loading.load_words.Given as goal

abbrev pub invariant-loop-i : goal.invariant-loop-i
invariant-loop-i l = record {
  far : map plain_words l.arrays ≡ with_arrays (take l.i l.numbers) (take l.i (plain_loaded l.loaded)) (map plain_words l.fn.arrays);
  can : CanTake l.numbers (map plain_words l.arrays) (plain_loaded l.loaded);
}
