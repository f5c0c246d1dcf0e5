use Rattle.std.proofs.Common.{sym, ap, ◌∙◌}
use Rattle.std.specs.Str.Parse.{digits_value}
use Rattle.cx_vread_exprs.specs.Numbers.{overflows, literal_value}
use Rattle.cx_vread_exprs.specs.Tokens.{capped}
use Rattle.cx_vread_exprs.proofs.Literals.{literal_fits, literal_told}
use Rattle.cx_vread_exprs.proofs.numbers.literal_of.Goals as goal

pub returns-in-Some : goal.returns-in-Some
returns-in-Some c =
    c.fitting.ensures
    ∙ literal_fits (digits_value 10 c.args.width.now) (digits_value 16 c.args.digits.now) c.in-Some.bits
    (sym (c.in-Some.ensures ∙ ap (λ a. literal_value a c.value.result) c.value-width.ensures ∙ ap (literal_value (capped (digits_value 10 c.args.width.now))) c.value.ensures))

pub returns-in-None : goal.returns-in-None
returns-in-None c =
    literal_told (digits_value 10 c.args.width.now) c.args.digits.now c.overflows.result c.stand_for.result
    (sym (c.in-None.ensures ∙ ap (λ a. literal_value a c.value.result) c.value-width.ensures ∙ ap (literal_value (capped (digits_value 10 c.args.width.now))) c.value.ensures))
    c.overflows.ensures.most c.requires.digits c.requires.some_digit
    (sym (c.overflows.ensures.value ∙ ap (λ a. overflows a c.args.digits.now) c.value-width.ensures)) c.stand_for.ensures
