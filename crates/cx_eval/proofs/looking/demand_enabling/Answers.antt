use Rattle.std.proofs.Common.{◌≤◌, ◌<◌, length, arith}
use Rattle.std.proofs.lemmas.Result.{err_from_is_err_and}
use Rattle.cx_prim.specs.Table.{row_of}
use Rattle.cx_eval_network.proofs.ShortLemmas.{rows_are_short}
use Rattle.cx_eval.specs.Looked.{seen_from}
use Rattle.cx_eval.proofs.WalkLemmas.{enabling_begin, enabling_next, enabling_quiet, enabling_stand, enabling_stops, enabling_within}
use Rattle.cx_eval.proofs.looking.demand_enabling.Goals as goal

pub loop-number-init : goal.loop-number-init
loop-number-init c = record {
  ready = c.requires.ready;
  fits = c.requires.fits;
  far = enabling_begin (seen_from c.args.asking.now c.args.first) c.args.stepping.now.primitive.now c.args.stepping.now c.requires.stepping c.args.inputs.now;
}

pub demand_at-requires : goal.demand_at-requires
demand_at-requires c =
    let s = c.args.stepping.now in
    let lt : c.loop-number.number < length s.enabling.items = omega (arith, c.loop-number-test.true, c.len-number-end.ensures, s.enabling.ok) in
    let within =
    enabling_within (seen_from c.args.asking.now c.args.first) s.primitive.now s c.loop-number.number c.loop-number.inputs c.loop-number.quiet c.loop-number.invariant.far lt c.index-port.result.now c.index-port.ensures in
    let short = rows_are_short s.primitive.now in
    let count = c.loop-number.invariant.fits.count in
    record {
      can = c.requires.can;
      ready = c.loop-number.invariant.ready;
      sources = c.requires.sources c.index-port.result.now within;
      node = c.requires.nodes.within c.index-port.result.now within;
      few = omega (arith, within, short);
      within = omega (arith, within, count);
    }

pub returns-in_err-zero-clause-stops : goal.returns-in_err-zero-clause-stops
returns-in_err-zero-clause-stops c =
    let s = c.args.stepping.now in
    let lt : c.loop-number.number < length s.enabling.items = omega (arith, c.loop-number-test.true, c.len-number-end.ensures, s.enabling.ok) in
    let told = err_from_is_err_and c.from_residual.result c.from_residual.ensures.1 in
    rw (told.1, told.2)
    (enabling_stops (seen_from c.args.asking.now c.args.first) s.primitive.now s c.loop-number.number c.loop-number.inputs c.loop-number.quiet c.loop-number.invariant.far lt c.index-port.result.now c.index-port.ensures
    c.in_err-zero.field-0.0 c.in_err-zero.ensures.lacks)

pub loop-number-preserved : goal.loop-number-preserved
loop-number-preserved c =
    let s = c.args.stepping.now in
    let lt : c.loop-number.number < length s.enabling.items = omega (arith, c.loop-number-test.true, c.len-number-end.ensures, s.enabling.ok) in
    record {
      ready = c.demand_at.ensures.ready;
      fits = c.demand_at.ensures.fits (row_of s.primitive.now).ports c.requires.nodes.wide c.loop-number.invariant.fits;
      far =
          enabling_next (seen_from c.args.asking.now c.args.first) s.primitive.now s c.loop-number.number c.loop-number.inputs c.loop-number.quiet c.loop-number.invariant.far lt c.index-port.result.now c.index-port.ensures
          c.demand_at.new.inputs c.in_ok-zero.zero c.demand_at.ensures.kept c.in_ok-zero.ensures.stands;
    }

pub returns-clause-stand : goal.returns-clause-stand
returns-clause-stand c =
    let s = c.args.stepping.now in
    let past : length s.enabling.items ≤ c.loop-number.number = omega (arith, c.loop-number-test.false, c.len-number-end.ensures, s.enabling.ok) in
    enabling_stand (seen_from c.args.asking.now c.args.first) s.primitive.now s c.loop-number.number c.loop-number.inputs c.loop-number.quiet c.loop-number.invariant.far past

pub returns-clause-quiet : goal.returns-clause-quiet
returns-clause-quiet c =
    let s = c.args.stepping.now in
    let past : length s.enabling.items ≤ c.loop-number.number = omega (arith, c.loop-number-test.false, c.len-number-end.ensures, s.enabling.ok) in
    enabling_quiet (seen_from c.args.asking.now c.args.first) s.primitive.now s c.loop-number.number c.loop-number.inputs c.loop-number.quiet c.loop-number.invariant.far past
