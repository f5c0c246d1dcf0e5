use Rattle.std.proofs.Common.{◌≤◌, ◌<◌, length, arith}
use Rattle.std.proofs.lemmas.Result.{err_from_is_err_and}
use Rattle.cx_eval.specs.Looked.{seen_from}
use Rattle.cx_eval.proofs.WalkLemmas.{plain_begin, plain_end, plain_next, plain_stops, plain_within}
use Rattle.cx_eval.proofs.looking.demand_plain.Goals as goal

pub loop-number-init : goal.loop-number-init
loop-number-init c = record {
  ready = c.requires.ready;
  fits = c.requires.fits;
  far = plain_begin (seen_from c.args.asking.now c.args.first) c.args.stepping.now.primitive.now c.args.stepping.now c.args.state.now c.args.inputs.now c.requires.enabling c.requires.stepping;
}

pub demand_asked-requires-clause-within : goal.demand_asked-requires-clause-within
demand_asked-requires-clause-within c =
    let s = c.args.stepping.now in
    let lt : c.loop-number.number < length s.plain.items = omega (arith, c.loop-number-test.true, c.len-number-end.ensures, s.plain.ok) in
    plain_within (seen_from c.args.asking.now c.args.first) s.primitive.now s c.args.state.now c.args.inputs.now c.requires.enabling c.loop-number.number c.loop-number.inputs c.loop-number.invariant.far lt c.index-port.result.now c.index-port.ensures

pub loop-number-preserved : goal.loop-number-preserved
loop-number-preserved c =
    let s = c.args.stepping.now in
    let lt : c.loop-number.number < length s.plain.items = omega (arith, c.loop-number-test.true, c.len-number-end.ensures, s.plain.ok) in
    record {
      ready = c.demand_asked.ensures.ready;
      fits = c.demand_asked.ensures.fits;
      far =
          plain_next (seen_from c.args.asking.now c.args.first) s.primitive.now s c.args.state.now c.args.inputs.now c.requires.enabling c.loop-number.number c.loop-number.inputs c.loop-number.invariant.far lt
          c.index-port.result.now c.index-port.ensures c.demand_asked.new.inputs c.demand_asked.ensures.kept c.in_ok-demand_asked.ensures.stands;
    }

pub returns-clause-stand : goal.returns-clause-stand
returns-clause-stand c =
    let s = c.args.stepping.now in
    let past : length s.plain.items ≤ c.loop-number.number = omega (arith, c.loop-number-test.false, c.len-number-end.ensures, s.plain.ok) in
    plain_end (seen_from c.args.asking.now c.args.first) s.primitive.now s c.args.state.now c.args.inputs.now c.requires.enabling c.loop-number.number c.loop-number.inputs c.loop-number.invariant.far past

pub returns-in_err-demand_asked-clause-stops : goal.returns-in_err-demand_asked-clause-stops
returns-in_err-demand_asked-clause-stops c =
    let s = c.args.stepping.now in
    let lt : c.loop-number.number < length s.plain.items = omega (arith, c.loop-number-test.true, c.len-number-end.ensures, s.plain.ok) in
    let told = err_from_is_err_and c.from_residual.result c.from_residual.ensures.1 in
    rw (told.1, told.2)
    (plain_stops (seen_from c.args.asking.now c.args.first) s.primitive.now s c.args.state.now c.args.inputs.now c.requires.enabling c.loop-number.number c.loop-number.inputs c.loop-number.invariant.far lt
    c.index-port.result.now c.index-port.ensures c.in_err-demand_asked.field-0.0 c.in_err-demand_asked.ensures.lacks c.in_err-demand_asked.ensures.asked)
