use Rattle.std.proofs.Common.{Ok, ap, ◌∙◌, subst}
use Rattle.cx_turns.specs.Machines.{design_of, rows_of}
use Rattle.cx_weave.specs.declared.strands.Strand.TheVariants as strands
use Rattle.cx_weave.specs.Ledger.{Turned, amount}
use Rattle.cx_weave.specs.Strands.{plain_strand}
use Rattle.cx_weave.specs.Strides.{HasStepped, left_by}
use Rattle.cx_weave.proofs.Amounts.{amount_idling}
use Rattle.cx_weave.proofs.LevelSteps.{idle_instead}
use Rattle.cx_weave.proofs.PartLedgers.{told_after}
use Rattle.cx_weave.proofs.StrandFolds.{is_idling}
use Rattle.cx_weave.proofs.levels.step_innermost.Goals as goal

pub returns-in-Ok-true-clause-stepped : goal.returns-in-Ok-true-clause-stepped
returns-in-Ok-true-clause-stepped c =
    subst (λ r. HasStepped (design_of c.args.plan.now) (rows_of c.args.machine.now) (rows_of c.step.new.machine) c.args.instance (plain_strand c.args.strand.now) c.args.leaf (left_by r c.step.new.strand)) (c.in-Ok-true.is ∙ ap (λ b. Ok b) c.in-Ok-true.field-0-test) c.step.ensures.stepped

pub returns-in-Ok-true-clause-ledger : goal.returns-in-Ok-true-clause-ledger
returns-in-Ok-true-clause-ledger c =
    subst (λ r. Turned c.args.spares.now c.step.new.spares (λ x. amount x c.args.strand.now) (left_by r c.step.new.strand)) (c.in-Ok-true.is ∙ ap (λ b. Ok b) c.in-Ok-true.field-0-test) c.step.ensures.ledger

pub returns-in-Ok-false-clause-stepped : goal.returns-in-Ok-false-clause-stepped
returns-in-Ok-false-clause-stepped c =
    idle_instead (design_of c.args.plan.now) (rows_of c.args.machine.now) (rows_of c.step.new.machine) c.args.instance (plain_strand c.args.strand.now) c.args.leaf strands.Idling is_idling
    (subst (λ r. HasStepped (design_of c.args.plan.now) (rows_of c.args.machine.now) (rows_of c.step.new.machine) c.args.instance (plain_strand c.args.strand.now) c.args.leaf (left_by r c.step.new.strand)) (c.in-Ok-false.is ∙ ap (λ b. Ok b) c.in-Ok-false.field-0-test) c.step.ensures.stepped)

pub returns-in-Ok-false-clause-ledger : goal.returns-in-Ok-false-clause-ledger
returns-in-Ok-false-clause-ledger c =
    told_after c.args.spares.now c.step.new.spares (λ x. amount x c.args.strand.now) (λ x. 0) (λ x. amount x strands.Idling) amount_idling
    (subst (λ r. Turned c.args.spares.now c.step.new.spares (λ x. amount x c.args.strand.now) (left_by r c.step.new.strand)) (c.in-Ok-false.is ∙ ap (λ b. Ok b) c.in-Ok-false.field-0-test) c.step.ensures.ledger)
