use Rattle.std.proofs.Common.{◌≡◌, take}
use Rattle.cx_cells.proofs.words.widened.Given as goal

abbrev pub invariant-loop-word : goal.invariant-loop-word
invariant-loop-word l = l.wide.items ≡ take l.word-index l.words
