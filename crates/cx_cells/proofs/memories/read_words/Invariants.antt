use Rattle.std.proofs.Common.{◌≡◌, length, take}
use Rattle.cx_prim.specs.CellStates.{words_of}
use Rattle.cx_cells.proofs.memories.read_words.Given as goal

abbrev pub invariant-loop-n : goal.invariant-loop-n
invariant-loop-n l = record {
  sized : length l.words ≡ length (words_of l.held);
  far : take l.n l.words ≡ take l.n (words_of l.held);
}
