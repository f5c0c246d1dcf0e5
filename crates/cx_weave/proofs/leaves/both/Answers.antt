use Rattle.cx_weave.proofs.Amounts.{amount_both}
use Rattle.cx_weave.proofs.leaves.both.Goals as goal

pub returns-clause-amount : goal.returns-clause-amount
returns-clause-amount c x = amount_both x _ c.args.one c.args.other
