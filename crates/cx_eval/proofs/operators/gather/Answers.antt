use Rattle.std.proofs.Common.{◌<◌, Some, None, length, refl, ◌∙◌, arith}
use Rattle.std.proofs.lemmas.List.{get_or-set_other, length-set}
use Rattle.std.specs.Prelude.{nat_lt}
use Rattle.cx_meaning.specs.declared.sights.Seen.TheVariants.{Conflict, Undefined, Value}
use Rattle.cx_eval_drives.proofs.GatherLemmas.{so_far_next}
use Rattle.cx_eval_network.proofs.GatheredLemmas.{gathered_end}
use Rattle.cx_eval_network.specs.Askings.{asked_of}
use Rattle.cx_eval.proofs.SourceLaws.{lacks_there, seen_there}
use Rattle.cx_eval.proofs.operators.gather.Goals as goal

pub returns-in-Conflict-clause-lacks : goal.returns-in-Conflict-clause-lacks
returns-in-Conflict-clause-lacks c = λ look show. (
  c.loop-port.port,
  lacks_there (asked_of c.args.asking.now) c.args.slots.now c.args.sources.now look (length c.args.inputs.now) c.loop-port.port c.loop-port.inputs c.index-sources-port.result Conflict show c.loop-port-test.true c.requires.within
      c.loop-port.invariant.sized c.index-sources-port.is c.in-Conflict.ensures.value refl (c.loop-port.invariant.far look show),
)

pub returns-in-Undefined-clause-lacks : goal.returns-in-Undefined-clause-lacks
returns-in-Undefined-clause-lacks c = λ look show. (
  c.loop-port.port,
  lacks_there (asked_of c.args.asking.now) c.args.slots.now c.args.sources.now look (length c.args.inputs.now) c.loop-port.port c.loop-port.inputs c.index-sources-port.result Undefined show c.loop-port-test.true c.requires.within
      c.loop-port.invariant.sized c.index-sources-port.is c.in-Undefined.ensures.value refl (c.loop-port.invariant.far look show),
)

pub loop-port-preserved : goal.loop-port-preserved
loop-port-preserved c =
    let sized = c.loop-port.invariant.sized in
    let within = c.requires.within in
    let port = c.loop-port.port in
    let lt : port < length c.args.sources.now = c.loop-port-test.true in
    let bits = Some c.in-Value.bits in
    record {
      sized = length-set c.loop-port.inputs port bits ∙ sized;
      far = λ look show.
          so_far_next look (λ q. nat_lt q (length c.args.sources.now)) (length c.args.inputs.now) port c.loop-port.inputs bits (omega (arith, lt, within)) (omega (arith, lt, within, sized)) (c.loop-port.invariant.far look show)
          (seen_there (asked_of c.args.asking.now) c.args.slots.now c.args.sources.now look port c.index-sources-port.result (Value c.in-Value.bits) show lt c.index-sources-port.is c.in-Value.ensures.value);
      bare = λ n le. get_or-set_other c.loop-port.inputs port n bits None (λ e. omega (arith, le, e)) ∙ c.loop-port.invariant.bare n (omega (arith, le));
    }

pub returns-clause-given : goal.returns-clause-given
returns-clause-given c = λ look show.
    let past = c.loop-port-test.false in
    gathered_end look (length c.args.sources.now) (length c.args.inputs.now) c.loop-port.port c.loop-port.inputs c.loop-port.invariant.sized (omega (arith, past)) c.loop-port.invariant.bare (c.loop-port.invariant.far look show)
