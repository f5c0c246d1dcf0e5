use Rattle.std.proofs.Common.{sym, subst}
use Rattle.std.specs.Str.Parse.{AllDigits}
use Rattle.cx_lex.proofs.DigitLemmas.{front_digits}
use Rattle.cx_lex.proofs.literals.literal.Goals as goal

pub valued-requires-clause-digits : goal.valued-requires-clause-digits
valued-requires-clause-digits c = subst (AllDigits c.in-Some-base.base) (sym c.span.ensures.front) (front_digits c.in-Some-base.base c.in-Some.text.now)
