use Rattle.cx_share.proofs.BitLemmas.{KeptTo}
use Rattle.cx_share.proofs.marks.keep_words.Given as goal

-- the first words are kept where the others have them
abbrev pub invariant-loop-number : goal.invariant-loop-number
invariant-loop-number l = KeptTo l.number l.initial.words.items l.others l.words.items
