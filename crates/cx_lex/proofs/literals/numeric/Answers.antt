use Rattle.std.proofs.Common.{sym, subst}
use Rattle.std.specs.Str.Parse.{AllDigits}
use Rattle.cx_lex.proofs.DigitLemmas.{front_digits}
use Rattle.cx_lex.proofs.literals.numeric.Goals as goal

pub literal-requires : goal.literal-requires
literal-requires c = subst (AllDigits 10) (sym c.span.ensures.front) (front_digits 10 c.args.text.now)

pub number-requires : goal.number-requires
number-requires c = subst (AllDigits 10) (sym c.span.ensures.front) (front_digits 10 c.args.text.now)
