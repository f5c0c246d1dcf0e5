use Rattle.std.proofs.Common.{◌≡◌, subst}
use Rattle.cx_design.specs.PlainDesigns.{plain_design}
use Rattle.cx_eval.specs.Evaluated.{IsSeen}
use Rattle.cx_turns.specs.Machines.{design_of, rows_of}
use Rattle.cx_turns.proofs.TestLemmas.{tested}
use Rattle.cx_turns.proofs.machine.test.Goals as goal

pub returns-clause-tested : goal.returns-clause-tested
returns-clause-tested c =
    tested (design_of c.args.plan.now) (rows_of c.args.machine.now) c.args.instance c.args.port c.args.comb c.seen-seen.result c.verdict.result
    (subst (λ a. IsSeen (design_of c.args.plan.now) (rows_of c.args.machine.now) c.args.instance a c.args.port c.seen-seen.result) c.active_with-active.ensures
    (subst (λ e. IsSeen (plain_design e) (rows_of c.args.machine.now) c.args.instance c.active_with-active.result c.args.port c.seen-seen.result) c.requires.machine.evaluator c.seen-seen.ensures.value))
    c.verdict.ensures
