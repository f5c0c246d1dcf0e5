use Rattle.std.proofs.Common.{◌≡◌, map, take}
use Rattle.cx_text.specs.Loading.{plain_loaded, with_words}
use Rattle.cx_vnets.specs.Stores.{plain_words}
use Rattle.cx_vsim.specs.Stands.{words_by}
use Rattle.cx_vsim.specs.Arrays.{AllGivenFit, CanGive}
use Rattle.cx_vsim.proofs.unloading.unload_words.Given as goal

abbrev pub invariant-loop-i : goal.invariant-loop-i
invariant-loop-i l = record {
  far : plain_loaded l.into ≡ with_words (plain_loaded l.fn.into) (words_by (take l.i l.numbers) (map plain_words l.arrays));
  can : CanGive l.numbers (map plain_words l.arrays) (plain_loaded l.into);
  fit : AllGivenFit (take l.i l.numbers) (map plain_words l.arrays);
}
