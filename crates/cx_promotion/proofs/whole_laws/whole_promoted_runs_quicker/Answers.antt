use Rattle.cx_promotion.proofs.WholeDesigns.{design_quickens, again_quickens, words_stay}
use Rattle.cx_promotion.proofs.whole_laws.whole_promoted_runs_quicker.Goals as goal

pub returns-clause-quickens : goal.returns-clause-quickens
returns-clause-quickens c = λ old new design accepted undone made. design_quickens old new design accepted made undone

pub returns-clause-again : goal.returns-clause-again
returns-clause-again c = λ old new again design accepted undone made same. again_quickens old new design accepted made undone again same

pub returns-clause-words : goal.returns-clause-words
returns-clause-words c = λ old new s design accepted made. words_stay old new design accepted made s
