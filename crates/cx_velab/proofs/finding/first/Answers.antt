use Rattle.cx_velab.proofs.FoundLemmas.{first_parts}
use Rattle.cx_velab.proofs.finding.first.Goals as goal

pub returns-then-count-modules : goal.returns-then-count-modules
returns-then-count-modules c = first_parts c.args.modules.now c.args.count
