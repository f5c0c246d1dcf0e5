use Rattle.std.proofs.Common.{◌+◌, ap, ◌∙◌}
use Rattle.cx_design.specs.PlainForms.{plain_statement}
use Rattle.cx_turns.specs.Machines.{design_of}
use Rattle.cx_weave.specs.declared.strands.Strand.{Strand}
use Rattle.cx_weave.specs.declared.strands.Strand.TheVariants as strands
use Rattle.cx_weave.specs.Ledger.{amount, box_amount}
use Rattle.cx_weave.proofs.Amounts.{amount_loop}
use Rattle.cx_weave.proofs.OpenSupplies.{body_asked, body_box, boxed}
use Rattle.cx_weave.proofs.parts.open_loop.Goals as goal

pub open_statement-run-requires-clause-supplied : goal.open_statement-run-requires-clause-supplied
open_statement-run-requires-clause-supplied c = body_asked (design_of c.args.plan.now) c.args.instance c.args.spares.now (plain_statement c.args.body.now) c.requires.supplied

pub take_box-run-requires : goal.take_box-run-requires
take_box-run-requires c = record {
  some = body_box (design_of c.args.plan.now) c.args.instance c.args.spares.now c.open_statement-run.new.spares (plain_statement c.args.body.now) c.open_statement-run.result c.requires.supplied c.open_statement-run.ensures.opens c.open_statement-run.ensures.ledger;
}

pub returns-clause-ledger : goal.returns-clause-ledger
returns-clause-ledger c =
    boxed c.args.spares.now c.open_statement-run.new.spares c.take_box-run.new.spares c.open_statement-run.result (strands.InLoop c.take_box-run.result c.args.port c.args.comb c.args.body) c.open_statement-run.ensures.ledger c.take_box-run.ensures.ledger
    (λ x. amount_loop x c.take_box-run.result c.args.port c.args.comb c.args.body ∙ ap (λ (s : Strand). box_amount x + amount x s) c.take_box-run.ensures.value)
