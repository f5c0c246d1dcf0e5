use Rattle.cx_rewritten.proofs.PromotedLemmas.{promoted_read, ends_no_later}
use Rattle.cx_rewritten.proofs.laws.promoted_texts_end_no_later.Goals as goal

pub returns-clause-read : goal.returns-clause-read
returns-clause-read c = promoted_read

pub returns-clause-runs : goal.returns-clause-runs
returns-clause-runs c = λ tree written source accepted design p.
    ends_no_later tree p.new written (promoted_read tree written source p)
    (c.promoted_is_accepted.ensures.accepted tree p.new p.rows design accepted p.promoted)
    (λ undone. c.promoted_trees_run_quicker.ensures.quickens tree p.new p.rows design accepted undone p.promoted)
    (λ s. c.promoted_trees_run_quicker.ensures.words tree p.new p.rows s design accepted p.promoted)
