use Rattle.std.proofs.Common.{◌∙◌, ◌≡◌, ◌<◌, length, sym, arith}
use Rattle.cx_text.proofs.OptionLaws.{some_is}
use Rattle.cx_shape_calls.proofs.BoundLemmas.{bound_same, bound_one}
use Rattle.cx_shape_calls.proofs.invokes.mark_input.Goals as goal

pub returns-in_default : goal.returns-in_default
returns-in_default c =
    let marks = c.args.marks.now in
    record {
      value = λ inputs a is bound. bound_same c.args.cell inputs a c.args.port is (length marks.items) marks.items bound c.input_number.result c.input_number.ensures.value
          (λ n h e. c.in_default.not-Some n e);
    }

pub returns-then-input-len : goal.returns-then-input-len
returns-then-input-len c =
    let marks = c.args.marks.now in
    let within : c.in-Some.input < length marks.items = omega (arith, c.if-input-len.true, c.len.ensures, marks.ok.0) in
    record {
      value = λ inputs a is bound. bound_one c.args.cell inputs a c.args.port is (length marks.items) marks.items bound c.input_number.result c.input_number.ensures.value
          c.in-Some.input c.in-Some.is within;
    }

pub returns-else-input-len : goal.returns-else-input-len
returns-else-input-len c =
    let marks = c.args.marks.now in
    record {
      value = λ inputs a is bound. bound_same c.args.cell inputs a c.args.port is (length marks.items) marks.items bound c.input_number.result c.input_number.ensures.value
          (λ n h e.
          let same : c.in-Some.input ≡ n = some_is c.in-Some.input n (sym c.in-Some.is ∙ e) in
          omega (arith, h, same, c.if-input-len.false, c.len.ensures, marks.ok.0));
    }
