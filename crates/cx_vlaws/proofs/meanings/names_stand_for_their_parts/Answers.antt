use Rattle.cx_vlaws.proofs.MeaningLemmas.{port-means, decl-means}
use Rattle.cx_vlaws.proofs.meanings.names_stand_for_their_parts.Goals as goal

pub returns-clause-ports : goal.returns-clause-ports
returns-clause-ports c source i k p sound e = port-means source sound i k p e

pub returns-clause-decls : goal.returns-clause-decls
returns-clause-decls c source i k d sound e = decl-means source sound i k d e
