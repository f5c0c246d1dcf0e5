use Rattle.std.proofs.Common.{rules, ◌≡◌, ◌+◌, [], ◌∷◌, length, sym, ap, ◌∙◌, subst}
use Rattle.cx_design.specs.PlainForms.{plain_statement}
use Rattle.cx_turns.specs.Machines.{design_of}
use Rattle.cx_weave.specs.declared.strands.Strand.{Strand}
use Rattle.cx_weave.specs.declared.strands.Strand.TheVariants as strands
use Rattle.cx_weave.specs.Ledger.{amount, box_amount}
use Rattle.cx_weave.specs.Strides.{OpensAs}
use Rattle.cx_weave.proofs.Amounts.{amount_seq}
use Rattle.cx_weave.proofs.OpenSteps.{first_stands, later_stand, none_are, seq_ended, seq_next}
use Rattle.cx_weave.proofs.OpenSupplies.{next_asked}
use Rattle.cx_weave.proofs.PartLedgers.{next_boxed, one_place}
use Rattle.cx_weave.proofs.StrandFolds.{is_seq}
use Rattle.cx_weave.proofs.parts.next_part.Goals as goal

pub give_box-requires : goal.give_box-requires
give_box-requires c = record { place = one_place c.args.spares.now c.requires.supplied.places }

pub open_statement-run-requires-clause-statement : goal.open_statement-run-requires-clause-statement
open_statement-run-requires-clause-statement c =
    let are : c.args.later.now ≡ c.in-Some.part.now ∷ c.in-Some.later.now = search rules in
    first_stands (design_of c.args.plan.now) c.args.instance c.args.later.now c.in-Some.later.now c.in-Some.part.now are c.requires.later

pub open_statement-run-requires-clause-supplied : goal.open_statement-run-requires-clause-supplied
open_statement-run-requires-clause-supplied c =
    let are : c.args.later.now ≡ c.in-Some.part.now ∷ c.in-Some.later.now = search rules in
    next_asked (design_of c.args.plan.now) c.args.instance c.args.spares.now c.args.later.now c.in-Some.later.now c.in-Some.part.now are c.requires.supplied

pub returns-in-Some-clause-leaves : goal.returns-in-Some-clause-leaves
returns-in-Some-clause-leaves c =
    let d = design_of c.args.plan.now in
    let are : c.args.later.now ≡ c.in-Some.part.now ∷ c.in-Some.later.now = search rules in
    seq_next d c.args.instance c.args.later.now c.in-Some.later.now c.in-Some.part.now (strands.InSeq c.refilled-first.result c.in-Some.later) c.refilled-first.result.value are (is_seq c.refilled-first.result c.in-Some.later)
    (subst (OpensAs d c.args.instance (plain_statement c.in-Some.part.now)) (sym c.refilled-first.ensures) c.open_statement-run.ensures.opens) (later_stand d c.args.instance c.args.later.now c.in-Some.later.now c.in-Some.part.now are c.requires.later)

pub returns-in-Some-clause-ledger : goal.returns-in-Some-clause-ledger
returns-in-Some-clause-ledger c =
    next_boxed c.args.spares.now c.open_statement-run.new.spares c.open_statement-run.result (strands.InSeq c.refilled-first.result c.in-Some.later) c.open_statement-run.ensures.ledger
    (λ x. amount_seq x c.refilled-first.result c.in-Some.later ∙ ap (λ (s : Strand). box_amount x + amount x s) c.refilled-first.ensures)

pub returns-in-None-clause-leaves : goal.returns-in-None-clause-leaves
returns-in-None-clause-leaves c =
    let count : length c.args.later.now ≡ 0 = (let e = c.in-None.ensures.cases in search (rules, e)) in
    let none : c.args.later.now ≡ [] = none_are c.args.later.now count in
    seq_ended (design_of c.args.plan.now) c.args.instance c.args.later.now none
