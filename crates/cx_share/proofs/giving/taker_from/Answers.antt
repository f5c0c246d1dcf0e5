use Rattle.std.proofs.Common.{◌∙◌, ◌<◌, length, sym, ap, arith}
use Rattle.cx_design.specs.PlainForms.{plain_component}
use Rattle.cx_sharing.specs.Giving as giving
use Rattle.cx_share.proofs.GiveLemmas.{kept_at, near_at, within_kept}
use Rattle.cx_share.proofs.RefusedLemmas.{none_next}
use Rattle.cx_share.proofs.giving.taker_from.Goals as goal

pub takes-requires-clause-kept : goal.takes-requires-clause-kept
takes-requires-clause-kept c =
    let inside : c.loop-number.number < length c.args.kept.now = omega (arith, c.loop-number-test.true, c.requires.to) in
    within_kept c.args.cell c.args.kept.now c.loop-number.number c.index-kept-number.result inside c.index-kept-number.is c.requires.kept

pub takes-requires-clause-near : goal.takes-requires-clause-near
takes-requires-clause-near c =
    let inside : c.loop-number.number < length c.args.kept.now = omega (arith, c.loop-number-test.true, c.requires.to) in
    near_at (plain_component c.args.part.now) c.args.kept.now c.loop-number.number c.index-kept-number.result inside c.index-kept-number.is c.requires.near

pub loop-number-preserved : goal.loop-number-preserved
loop-number-preserved c =
    let inside : c.loop-number.number < length c.args.kept.now = omega (arith, c.loop-number-test.true, c.requires.to) in
    none_next _ c.args.from c.loop-number.number c.loop-number.invariant
    (ap (giving.takes (plain_component c.args.part.now) c.args.cell) (kept_at c.args.kept.now c.loop-number.number c.index-kept-number.result inside c.index-kept-number.is)
    ∙ sym c.takes.ensures.value ∙ c.if-takes.false)
