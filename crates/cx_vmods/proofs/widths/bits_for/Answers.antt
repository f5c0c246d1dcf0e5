use Rattle.std.proofs.Common.{◌≤◌, ◌<◌, ◌^◌, ◌≡◌, arith, sym, ◌∙◌}
use Rattle.cx_vmods.proofs.BitLemmas.{bits_for-all, bits_from-enough, bits_from-few, bits_from-last, one_moved}
use Rattle.cx_vmods.proofs.widths.bits_for.Goals as goal

pub loop-width-init : goal.loop-width-init
loop-width-init c = bits_for-all c.args.numbers

pub returns-then-from-width-clause-value : goal.returns-then-from-width-clause-value
returns-then-from-width-clause-value c =
    let moved = one_moved c.loop-width.width c.loop-width-test.true in
    let enough : c.args.numbers ≤ 2 ^ c.loop-width.width = omega (arith, moved, c.from.ensures, c.if-from-width.true) in
    sym (c.loop-width.invariant ∙ bits_from-enough _ c.loop-width.width c.args.numbers enough)

pub loop-width-preserved : goal.loop-width-preserved
loop-width-preserved c =
    let moved = one_moved c.loop-width.width c.loop-width-test.true in
    let few : 2 ^ c.loop-width.width < c.args.numbers = omega (arith, moved, c.from.ensures, c.if-from-width.false) in
    c.loop-width.invariant ∙ bits_from-few c.loop-width.width c.args.numbers c.loop-width-test.true few

pub returns-clause-value : goal.returns-clause-value
returns-clause-value c =
    let last : c.loop-width.width ≡ 32 = omega (arith, c.loop-width-test.false, c.loop-width.auto.width-end) in
    sym (c.loop-width.invariant ∙ bits_from-last c.loop-width.width c.args.numbers c.loop-width-test.false ∙ last)
