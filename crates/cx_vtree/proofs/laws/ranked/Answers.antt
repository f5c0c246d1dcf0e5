use Rattle.cx_vtree.proofs.Ranks.{ranked_value}
use Rattle.cx_vtree.proofs.laws.ranked.Goals as goal

pub returns : goal.returns
returns c tree m rank down i name some = ranked_value tree m rank down i name some
