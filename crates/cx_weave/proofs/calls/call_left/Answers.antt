use Rattle.std.proofs.Common.{Bool, Some, ap}
use Rattle.cx_weave.specs.declared.strands.Strand.TheVariants as strands
use Rattle.cx_weave.specs.Strides.{kept_if}
use Rattle.cx_weave.proofs.Amounts.{amount_call, amount_capture, amount_closing}
use Rattle.cx_weave.proofs.IslandSupplies.{call_box_place, call_ended, call_inputs_place, call_kept}
use Rattle.cx_weave.proofs.calls.call_left.Goals as goal

pub give_box-requires : goal.give_box-requires
give_box-requires c = record { place = call_box_place c.args.spares.now c.args.inputs (kept_if c.args.goes c.args.child.value) c.requires.places }

pub give_inputs-requires : goal.give_inputs-requires
give_inputs-requires c = record { place = call_inputs_place c.args.spares.now c.args.inputs (kept_if c.args.goes c.args.child.value) c.give_box.new.spares c.requires.places c.give_box.ensures.ledger }

pub returns-then-goes-clause-ledger : goal.returns-then-goes-clause-ledger
returns-then-goes-clause-ledger c =
    call_kept c.args.spares.now c.args.inputs (kept_if c.args.goes c.args.child.value) c.args.child.value (strands.InCall c.args.group c.args.cell (Some c.args.inputs) c.args.child) (ap (λ (g : Bool). kept_if g c.args.child.value) c.if-goes.true)
    (λ x. amount_call x c.args.group c.args.cell (Some c.args.inputs) c.args.child)

pub returns-then-row-clause-ledger : goal.returns-then-row-clause-ledger
returns-then-row-clause-ledger c =
    call_ended c.args.spares.now c.args.inputs (kept_if c.args.goes c.args.child.value) c.give_box.new.spares c.give_inputs.new.spares (strands.Capturing c.args.group c.args.cell) (ap (λ (g : Bool). kept_if g c.args.child.value) c.if-goes.false) c.give_box.ensures.ledger c.give_inputs.ensures.ledger
    (λ x. amount_capture x c.args.group c.args.cell)

pub returns-else-row-clause-ledger : goal.returns-else-row-clause-ledger
returns-else-row-clause-ledger c =
    call_ended c.args.spares.now c.args.inputs (kept_if c.args.goes c.args.child.value) c.give_box.new.spares c.give_inputs.new.spares (strands.Closing c.args.group) (ap (λ (g : Bool). kept_if g c.args.child.value) c.if-goes.false) c.give_box.ensures.ledger c.give_inputs.ensures.ledger
    (λ x. amount_closing x c.args.group)
