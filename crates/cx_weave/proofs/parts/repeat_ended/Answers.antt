use Rattle.std.proofs.Common.{◌≡◌, ◌+◌, None, sym, ap, ◌∙◌, subst}
use Rattle.cx_design.specs.PlainForms.{plain_statement}
use Rattle.cx_orders.specs.Steps.{repeat_left}
use Rattle.cx_turns.specs.Machines.{design_of, StandsIn}
use Rattle.cx_weave.specs.Ledger.{Ledger, box_amount, left_amount}
use Rattle.cx_weave.specs.Strands.{ARepeat, body_of, plain_strand, rounds_of}
use Rattle.cx_weave.specs.Strides.{LeavesAs}
use Rattle.cx_weave.specs.Supplied.{Supplied}
use Rattle.cx_weave.specs.Takes.{box_takes, need}
use Rattle.cx_weave.proofs.StrandFolds.{is_repeat}
use Rattle.cx_weave.proofs.parts.repeat_ended.Goals as goal

pub next_round-left-requires-clause-body : goal.next_round-left-requires-clause-body
next_round-left-requires-clause-body c =
    let whole : plain_strand c.args.strand.now ≡ ARepeat (plain_strand c.in-InRepeat.run'.value) c.in-InRepeat.left (plain_statement c.in-InRepeat.body.now) = ap plain_strand (sym c.replace.ensures.value ∙ c.in-InRepeat.is) ∙ is_repeat c.in-InRepeat.run' c.in-InRepeat.left c.in-InRepeat.body in
    subst (StandsIn (design_of c.args.plan.now) c.args.instance) (ap body_of whole) c.requires.body

pub next_round-left-requires-clause-supplied : goal.next_round-left-requires-clause-supplied
next_round-left-requires-clause-supplied c =
    let whole : plain_strand c.args.strand.now ≡ ARepeat (plain_strand c.in-InRepeat.run'.value) c.in-InRepeat.left (plain_statement c.in-InRepeat.body.now) = ap plain_strand (sym c.replace.ensures.value ∙ c.in-InRepeat.is) ∙ is_repeat c.in-InRepeat.run' c.in-InRepeat.left c.in-InRepeat.body in
    subst (λ b. Supplied (design_of c.args.plan.now) c.args.instance c.args.spares.now (λ k i. box_takes k + need k i b) box_amount) (ap body_of whole) c.requires.supplied

pub returns-clause-leaves : goal.returns-clause-leaves
returns-clause-leaves c =
    let d = design_of c.args.plan.now in
    let whole : plain_strand c.args.strand.now ≡ ARepeat (plain_strand c.in-InRepeat.run'.value) c.in-InRepeat.left (plain_statement c.in-InRepeat.body.now) = ap plain_strand (sym c.replace.ensures.value ∙ c.in-InRepeat.is) ∙ is_repeat c.in-InRepeat.run' c.in-InRepeat.left c.in-InRepeat.body in
    subst (λ o. LeavesAs d c.args.instance None o (λ i. repeat_left i (rounds_of (plain_strand c.args.strand.now)) (body_of (plain_strand c.args.strand.now)))) (sym c.put.ensures)
    (subst (λ p. LeavesAs d c.args.instance None c.next_round-left.result (λ i. repeat_left i (rounds_of p) (body_of p))) (sym whole) c.next_round-left.ensures.leaves)

pub returns-clause-ledger : goal.returns-clause-ledger
returns-clause-ledger c = subst (λ o. Ledger c.args.spares.now c.next_round-left.new.spares box_amount (λ x. left_amount x o)) (sym c.put.ensures) c.next_round-left.ensures.ledger
