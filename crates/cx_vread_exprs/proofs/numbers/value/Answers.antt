use Rattle.cx_vread_exprs.proofs.Numerals.{capped_numeral}
use Rattle.cx_vread_exprs.proofs.numbers.value.Goals as goal

pub returns : goal.returns
returns c = capped_numeral c.args.base c.args.digits.now c.numeral.result c.numeral.ensures c.requires.base c.requires.digits c.requires.some
