use Rattle.cx_promote.proofs.AcceptedPromoted.{tree_quickens, again_tree_quickens, tree_words_stay}
use Rattle.cx_promote.proofs.laws.promoted_trees_run_quicker.Goals as goal

pub returns-clause-quickens : goal.returns-clause-quickens
returns-clause-quickens c = λ tree new rows design accepted undone is. tree_quickens tree new rows design accepted is undone

pub returns-clause-again : goal.returns-clause-again
returns-clause-again c = λ tree new again rows design accepted undone is same. again_tree_quickens tree new rows design accepted is undone again same

pub returns-clause-words : goal.returns-clause-words
returns-clause-words c = λ tree new rows s design accepted is. tree_words_stay tree new rows design accepted is s
