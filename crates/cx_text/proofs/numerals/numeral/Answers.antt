use Rattle.std.proofs.Common.{◌<◌, ◌≤◌, ◌^◌, length, drop-cons, get_or, rules, subst, arith}
use Rattle.std.proofs.lemmas.List.{drop_all}
use Rattle.cx_text.proofs.NumeralLemmas.{numeral_stuck, numeral_done, none_unless}
use Rattle.cx_text.proofs.numerals.numeral.Goals as goal

pub returns-in_err-value : goal.returns-in_err-value
returns-in_err-value c =
    let inside : c.loop-byte.byte-index < length c.args.digits.now = omega arith in
    none_unless c.from_residual.result _ _ c.from_residual.ensures
    (numeral_stuck c.args.base c.loop-byte.value (get_or c.args.digits.now c.loop-byte.byte-index 0) _ _ c.args.digits.now (omega arith) c.loop-byte.invariant (drop-cons c.args.digits.now c.loop-byte.byte-index 0 inside) c.in_err-value.ensures)

pub returns : goal.returns
returns c =
    let past : length c.args.digits.now ≤ c.loop-byte.byte-index = omega arith in
    let whole = numeral_done c.args.base c.loop-byte.value _ c.args.digits.now c.loop-byte.invariant (drop_all c.loop-byte.byte-index c.args.digits.now past) in
    let some : 0 < length c.args.digits.now = search (rules, c.if-is_empty.ensures) in
    (((some, whole.0), subst (λ n. n < 2 ^ 128) whole.1 c.loop-byte.invariant.fits), whole.1)
