use Rattle.std.proofs.Common.{◌≡◌, All, length, take}
use Rattle.cx_bits.specs.BitVector.{Fits}
use Rattle.cx_vsim.specs.WordNumbers.{numbers_of}
use Rattle.cx_vsim.proofs.words.read_words.Given as goal

abbrev pub invariant-loop-n : goal.invariant-loop-n
invariant-loop-n l = record {
  sized : length l.words ≡ length (numbers_of l.array.words.items);
  fits : All Fits (take l.n l.array.words.items);
  far : take l.n l.words ≡ take l.n (numbers_of l.array.words.items);
}
