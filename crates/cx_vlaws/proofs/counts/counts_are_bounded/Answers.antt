use Rattle.cx_vlaws.proofs.CountLemmas.{counts_bounded}
use Rattle.cx_vlaws.proofs.TallyLemmas.{arrays_within_words}
use Rattle.cx_vlaws.proofs.counts.counts_are_bounded.Goals as goal

pub returns-clause-nets : goal.returns-clause-nets
returns-clause-nets c source sound = (counts_bounded source sound).0

pub returns-clause-instances : goal.returns-clause-instances
returns-clause-instances c source sound = (counts_bounded source sound).1

pub returns-clause-words : goal.returns-clause-words
returns-clause-words c source sound = (counts_bounded source sound).2

pub returns-clause-arrays : goal.returns-clause-arrays
returns-clause-arrays c source sound = arrays_within_words source sound
