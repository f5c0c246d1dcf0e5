use Rattle.std.proofs.Common.{◌≡◌, ◌+◌, None, sym, ap, ◌∙◌, subst}
use Rattle.cx_design.specs.PlainForms.{plain_statements}
use Rattle.cx_orders.specs.Steps.{seq_left}
use Rattle.cx_turns.specs.Machines.{design_of, StandIn}
use Rattle.cx_weave.specs.Ledger.{Ledger, box_amount, left_amount}
use Rattle.cx_weave.specs.Strands.{later_of, plain_strand}
use Rattle.cx_weave.specs.Strides.{LeavesAs}
use Rattle.cx_weave.specs.Supplied.{Supplied}
use Rattle.cx_weave.specs.Takes.{box_takes, needs}
use Rattle.cx_weave.proofs.StrandFolds.{is_seq}
use Rattle.cx_weave.proofs.parts.seq_ended.Goals as goal

pub next_part-left-requires-clause-later : goal.next_part-left-requires-clause-later
next_part-left-requires-clause-later c =
    let list : later_of (plain_strand c.args.strand.now) ≡ plain_statements c.in-InSeq.later.now = ap (λ s. later_of (plain_strand s)) (sym c.replace.ensures.value ∙ c.in-InSeq.is) ∙ ap later_of (is_seq c.in-InSeq.first c.in-InSeq.later) in
    subst (StandIn (design_of c.args.plan.now) c.args.instance) list c.requires.later

pub next_part-left-requires-clause-supplied : goal.next_part-left-requires-clause-supplied
next_part-left-requires-clause-supplied c =
    let list : later_of (plain_strand c.args.strand.now) ≡ plain_statements c.in-InSeq.later.now = ap (λ s. later_of (plain_strand s)) (sym c.replace.ensures.value ∙ c.in-InSeq.is) ∙ ap later_of (is_seq c.in-InSeq.first c.in-InSeq.later) in
    subst (λ l. Supplied (design_of c.args.plan.now) c.args.instance c.args.spares.now (λ k i. box_takes k + needs k i l) box_amount) list c.requires.supplied

pub returns-clause-leaves : goal.returns-clause-leaves
returns-clause-leaves c =
    let d = design_of c.args.plan.now in
    let list : later_of (plain_strand c.args.strand.now) ≡ plain_statements c.in-InSeq.later.now = ap (λ s. later_of (plain_strand s)) (sym c.replace.ensures.value ∙ c.in-InSeq.is) ∙ ap later_of (is_seq c.in-InSeq.first c.in-InSeq.later) in
    subst (λ o. LeavesAs d c.args.instance None o (λ i. seq_left i (later_of (plain_strand c.args.strand.now)))) (sym c.put.ensures)
    (subst (λ l. LeavesAs d c.args.instance None c.next_part-left.result (λ i. seq_left i l)) (sym list) c.next_part-left.ensures.leaves)

pub returns-clause-ledger : goal.returns-clause-ledger
returns-clause-ledger c = subst (λ o. Ledger c.args.spares.now c.next_part-left.new.spares box_amount (λ x. left_amount x o)) (sym c.put.ensures) c.next_part-left.ensures.ledger
