use Rattle.cx_vlaws.specs.Widths.{scope_at}
use Rattle.cx_vlaws.proofs.OriginLemmas.{source_net}
use Rattle.cx_vlaws.proofs.MeaningLemmas.{net_meant, driven_net, array_meant}
use Rattle.cx_vlaws.proofs.meanings.meant_is_there.Goals as goal

pub returns-clause-sources : goal.returns-clause-sources
returns-clause-sources c tree i n e = net_meant tree i n (source_net (scope_at tree i n) e)

pub returns-clause-driven : goal.returns-clause-driven
returns-clause-driven c tree i n e = net_meant tree i n (driven_net (scope_at tree i n) e)

pub returns-clause-arrays : goal.returns-clause-arrays
returns-clause-arrays c tree i n e = array_meant tree i n e
