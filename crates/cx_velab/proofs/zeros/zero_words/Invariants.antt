use Rattle.std.proofs.Common.{◌≡◌}
use Rattle.std.specs.Prelude.{replicate}
use Rattle.cx_bits.specs.BitVector.{zero_of}
use Rattle.cx_velab.proofs.zeros.zero_words.Given as goal

abbrev pub invariant-loop-index : goal.invariant-loop-index
invariant-loop-index l = l.words.items ≡ replicate l._index (zero_of l.width)
