use Rattle.cx_vlaws.proofs.TallyLemmas.{array_words}
use Rattle.cx_vlaws.proofs.counts.arrays_have_words.Goals as goal

pub returns : goal.returns
returns c source i k n w size sound there = array_words source sound i k n w size there
