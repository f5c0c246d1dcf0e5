use Rattle.std.proofs.Common.{true, false, ◌∙◌}
use Rattle.cx_net_runs.proofs.CycleLemmas.{with_inputs, none_wants, done_told}
use Rattle.cx_net_runs.proofs.cycles.tells_done.Goals as goal

pub returns-in-Some-clause-stands : goal.returns-in-Some-clause-stands
returns-in-Some-clause-stands c = λ net s stands.
    (0, 1, with_inputs net s c.args.machine.now c.trees_can_be_built.ensures false true c.args.stored.now c.set_inputs.new.stored c.set_inputs.ensures.inputs stands)

pub returns-in-Some-clause-value : goal.returns-in-Some-clause-value
returns-in-Some-clause-value c = λ net s look stands whole.
    let m = c.args.machine.now in
    let at = with_inputs net s m c.trees_can_be_built.ensures false true c.args.stored.now c.set_inputs.new.stored c.set_inputs.ensures.inputs stands in
    absurd (none_wants net s m c.set_inputs.new.stored false true at look whole c.in-Some._net c.in-Some.ensures.value)

pub returns-clause-stands : goal.returns-clause-stands
returns-clause-stands c = λ net s stands.
    (0, 1, with_inputs net s c.args.machine.now c.trees_can_be_built.ensures false true c.args.stored.now c.set_inputs.new.stored c.set_inputs.ensures.inputs stands)

pub returns-clause-value : goal.returns-clause-value
returns-clause-value c = λ net s look stands whole.
    let m = c.args.machine.now in
    let at = with_inputs net s m c.trees_can_be_built.ensures false true c.args.stored.now c.set_inputs.new.stored c.set_inputs.ensures.inputs stands in
    c.shows_done.ensures ∙ done_told net s m c.set_inputs.new.stored false true at c.values.new.bench c.in_default.ensures.ready c.in_default.ensures.value look whole
