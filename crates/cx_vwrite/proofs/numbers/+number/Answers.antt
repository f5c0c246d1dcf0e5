use Rattle.cx_vwrite.proofs.NumberText.{digits_end}
use Rattle.cx_vwrite.proofs.numbers.+number.Goals as goal

pub returns : goal.returns
returns t c = digits_end c.args.base c.args.n _ _ _ c.in_ok-digit.ensures c.in_ok-number.ensures c.requires.low c.if-n-base.false
