use Rattle.cx_share.proofs.BitLemmas.{JoinedTo}
use Rattle.cx_share.proofs.marks.join_words.Given as goal

-- the first words are joined
abbrev pub invariant-loop-number : goal.invariant-loop-number
invariant-loop-number l = JoinedTo l.number l.initial.words.items l.others l.words.items
