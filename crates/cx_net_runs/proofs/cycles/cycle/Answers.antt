use Rattle.cx_net_runs.proofs.CycleLemmas.{with_inputs, none_wants, cycle_next}
use Rattle.cx_net_runs.proofs.cycles.cycle.Goals as goal

pub returns-in-Some-clause-value : goal.returns-in-Some-clause-value
returns-in-Some-clause-value c = λ net s look stands whole.
    let m = c.args.machine.now in
    let at = with_inputs net s m c.trees_can_be_built.ensures c.args.reset c.args.go c.args.stored.now c.set_inputs.new.stored c.set_inputs.ensures.inputs stands in
    absurd (none_wants net s m c.set_inputs.new.stored c.args.reset c.args.go at look whole c.in-Some._net c.in-Some.ensures.value)

pub returns-clause-value : goal.returns-clause-value
returns-clause-value c = λ net s look stands whole.
    let m = c.args.machine.now in
    let at = with_inputs net s m c.trees_can_be_built.ensures c.args.reset c.args.go c.args.stored.now c.set_inputs.new.stored c.set_inputs.ensures.inputs stands in
    cycle_next net s m c.set_inputs.new.stored c.args.reset c.args.go at c.values.new.bench c.in_default.ensures.ready c.in_default.ensures.value c.trees_can_be_built.ensures c.codes_have_widths.ensures look whole
    c.end_cycle.new.stored c.end_cycle.ensures.with_reset c.end_cycle.ensures.without
