use Rattle.std.proofs.Common.{length, take, refl, ◌∙◌, arith}
use Rattle.std.proofs.lemmas.List.{length-set}
use Rattle.std.proofs.lemmas.Option.{slice_get_read}
use Rattle.cx_meaning.specs.declared.ports.PortRef.TheVariants.{Cell}
use Rattle.cx_eval_network.specs.Askings.{asked_of}
use Rattle.cx_eval.proofs.SourceLaws.{all_found, first_found, next_found, shown_by}
use Rattle.cx_eval.proofs.operators.find_operators.Goals as goal

pub operator_seen-seen-requires-clause-inputs : goal.operator_seen-seen-requires-clause-inputs
operator_seen-seen-requires-clause-inputs c = λ q source there.
    let asking = c.args.asking.now in
    let operators = c.args.operators.now in
    let place = c.loop-place.place in
    let o = c.index-operators-place.result in
    let at = slice_get_read operators (length operators) place o refl c.loop-place-test.true c.index-operators-place.is in
    shown_by asking c.requires.can.can (take place operators) c.loop-place.slots (first_found (asked_of asking) operators place c.loop-place.slots c.loop-place.invariant.far) (Cell o.cell q) source
    ((c.requires.operators place o at).inputs q source there)

pub loop-place-preserved : goal.loop-place-preserved
loop-place-preserved c =
    let operators = c.args.operators.now in
    let place = c.loop-place.place in
    let o = c.index-operators-place.result in
    let at = slice_get_read operators (length operators) place o refl c.loop-place-test.true c.index-operators-place.is in
    let lt = c.loop-place-test.true in
    let room = c.requires.room in
    let sized = c.loop-place.invariant.sized in
    record {
      sized = length-set c.loop-place.slots place c.operator_seen-seen.result ∙ sized;
      far = next_found (asked_of c.args.asking.now) operators place c.loop-place.slots o c.operator_seen-seen.result c.loop-place.invariant.far at (omega (arith, lt, room, sized)) c.operator_seen-seen.ensures.value;
    }

pub returns : goal.returns
returns c =
    let past = c.loop-place-test.false in
    record { found = all_found (asked_of c.args.asking.now) c.args.operators.now c.loop-place.place c.loop-place.slots c.loop-place.invariant.far (omega (arith, past)) }
