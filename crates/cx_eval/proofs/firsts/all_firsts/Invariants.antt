use Rattle.cx_design.specs.PlainDesigns.{plain_design}
use Rattle.cx_eval.proofs.FirstLemmas.{HaveFirstsOf}
use Rattle.cx_eval.proofs.firsts.all_firsts.Given as goal

-- the instances so far
abbrev pub invariant-loop-instance : goal.invariant-loop-instance
invariant-loop-instance l = HaveFirstsOf (plain_design l.design) l.table.rows.items l.instance l.firsts.items
