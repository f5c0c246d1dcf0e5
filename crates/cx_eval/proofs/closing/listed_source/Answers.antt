use Rattle.std.proofs.lemmas.Option.{IfSome_then}
use Rattle.std.proofs.lemmas.Result.{on_ok_weaker}
use Rattle.cx_eval.proofs.SourceLemmas.{another_seen, fixed_seen, inputs_plan, part_listed, state_seen}
use Rattle.cx_eval.proofs.closing.listed_source.Goals as goal

pub returns-in-Fixed-clause-seen : goal.returns-in-Fixed-clause-seen
returns-in-Fixed-clause-seen c = λ i h known.
    let active = c.args.of.now.active.now in
    fixed_seen i active c.args.operators.now.items c.args.port.now (part_listed i c.args.of.now active c.args.port.now h c.requires.listed) c.in-Fixed.seen c.in-Fixed.is

pub returns-in-State-clause-seen : goal.returns-in-State-clause-seen
returns-in-State-clause-seen c = λ i h known.
    let active = c.args.of.now.active.now in
    state_seen i active c.args.operators.now.items c.args.port.now (part_listed i c.args.of.now active c.args.port.now h c.requires.listed) c.in-State.cell c.in-State.port c.in-State.is

pub returns-in-Port-clause-seen : goal.returns-in-Port-clause-seen
returns-in-Port-clause-seen c = IfSome_then c.source.result c.source.ensures.value
    (λ source f i h known.
    let active = c.args.of.now.active.now in
    another_seen i active c.args.operators.now.items c.args.port.now (part_listed i c.args.of.now active c.args.port.now h c.requires.listed) c.in-Port.other source c.in-Port.is (f i c.args.operators.now.items h known))

pub returns-in-Inputs-clause-operators : goal.returns-in-Inputs-clause-operators
returns-in-Inputs-clause-operators c = on_ok_weaker c.add_operator.result
    (λ f i h known before.
    let active = c.args.of.now.active.now in
    f i h known (inputs_plan i active c.args.operators.now.items c.args.port.now (part_listed i c.args.of.now active c.args.port.now h c.requires.listed) c.in-Inputs.cell c.in-Inputs.port c.in-Inputs.reads c.in-Inputs.is) before)
    c.add_operator.ensures.operators
