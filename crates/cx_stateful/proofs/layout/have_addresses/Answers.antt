use Rattle.std.proofs.Common.{sym, ◌∙◌, ap, is_some}
use Rattle.cx_stateful.proofs.LocateLemmas.{have_addresses-step, have_addresses-missing}
use Rattle.cx_stateful.proofs.layout.have_addresses.Goals as goal

pub returns-then-is_none : goal.returns-then-is_none
returns-then-is_none c = record {
  value =
      sym (have_addresses-missing c.args.sizes.now c.args.inputs.now c.loop-port.port c.loop-port-test.true (ap is_some (sym c.input_at.ensures.value) ∙ c.if-is_none.ensures))
      ∙ c.loop-port.invariant;
}

pub loop-port-preserved : goal.loop-port-preserved
loop-port-preserved c =
    sym (have_addresses-step c.args.sizes.now c.args.inputs.now c.loop-port.port c.loop-port-test.true (ap is_some (sym c.input_at.ensures.value) ∙ c.if-is_none.ensures))
    ∙ c.loop-port.invariant
