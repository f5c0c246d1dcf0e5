use Rattle.std.proofs.Common.{rules, ◌≡◌, ◌-◌, ◌+◌, suc, sym, ap, ◌∙◌, subst, arith}
use Rattle.cx_design.specs.PlainForms.{plain_statement}
use Rattle.cx_turns.specs.Machines.{design_of}
use Rattle.cx_weave.specs.declared.strands.Strand.{Strand}
use Rattle.cx_weave.specs.declared.strands.Strand.TheVariants as strands
use Rattle.cx_weave.specs.Ledger.{amount, box_amount}
use Rattle.cx_weave.specs.Strides.{OpensAs}
use Rattle.cx_weave.proofs.Amounts.{amount_repeat}
use Rattle.cx_weave.proofs.OpenSteps.{repeat_next}
use Rattle.cx_weave.proofs.OpenSupplies.{round_asked}
use Rattle.cx_weave.proofs.PartLedgers.{next_boxed, one_place}
use Rattle.cx_weave.proofs.StrandFolds.{is_repeat}
use Rattle.cx_weave.proofs.parts.next_round.Goals as goal

pub give_box-requires : goal.give_box-requires
give_box-requires c = record { place = one_place c.args.spares.now c.requires.supplied.places }

pub open_statement-run-requires-clause-supplied : goal.open_statement-run-requires-clause-supplied
open_statement-run-requires-clause-supplied c = round_asked (design_of c.args.plan.now) c.args.instance c.args.spares.now (plain_statement c.args.body.now) c.requires.supplied

pub returns-clause-leaves : goal.returns-clause-leaves
returns-clause-leaves c =
    let d = design_of c.args.plan.now in
    let some : c.args.rounds ≡ suc (c.args.rounds - 1) = (let n = c.if-rounds-eq0.false in first_of (omega (arith, n), search (rules, n))) in
    repeat_next d c.args.instance c.args.rounds (c.args.rounds - 1) (plain_statement c.args.body.now) (strands.InRepeat c.refilled-run.result (c.args.rounds - 1) c.args.body) c.refilled-run.result.value some (is_repeat c.refilled-run.result (c.args.rounds - 1) c.args.body)
    (subst (OpensAs d c.args.instance (plain_statement c.args.body.now)) (sym c.refilled-run.ensures) c.open_statement-run.ensures.opens) c.requires.body

pub returns-clause-ledger : goal.returns-clause-ledger
returns-clause-ledger c =
    next_boxed c.args.spares.now c.open_statement-run.new.spares c.open_statement-run.result (strands.InRepeat c.refilled-run.result (c.args.rounds - 1) c.args.body) c.open_statement-run.ensures.ledger
    (λ x. amount_repeat x c.refilled-run.result (c.args.rounds - 1) c.args.body ∙ ap (λ (s : Strand). box_amount x + amount x s) c.refilled-run.ensures)
