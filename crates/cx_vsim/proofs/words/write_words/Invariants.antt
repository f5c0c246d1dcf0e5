use Rattle.std.proofs.Common.{◌≡◌, length, take}
use Rattle.cx_vsim.specs.WordNumbers.{words_of_width}
use Rattle.cx_vsim.proofs.words.write_words.Given as goal

abbrev pub invariant-loop-n : goal.invariant-loop-n
invariant-loop-n l = record {
  zero : l.array.zero ≡ l.fn.array.zero;
  sized : length l.array.words.items ≡ length (words_of_width l.width l.words);
  far : take l.n l.array.words.items ≡ take l.n (words_of_width l.width l.words);
}
