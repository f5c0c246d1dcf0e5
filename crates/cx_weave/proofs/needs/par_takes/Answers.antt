use Rattle.std.proofs.Common.{sym, subst, arith}
use Rattle.cx_weave.specs.Rows.{Covers}
use Rattle.cx_weave.specs.Takes as takes
use Rattle.cx_weave.proofs.needs.par_takes.Goals as goal

pub returns-in-Arms : goal.returns-in-Arms
returns-in-Arms c = subst (λ k. Covers c.sum_of.result (takes.par_takes k c.args.arms)) (sym c.in-Arms.is) (c.sum_of.ensures c.args.arms c.args.arms (λ less. omega arith) (λ less. omega arith))
