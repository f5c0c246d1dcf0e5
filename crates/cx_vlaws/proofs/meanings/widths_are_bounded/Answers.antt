use Rattle.cx_vlaws.proofs.MeaningLemmas.{port_wide, decl_wide, net_wide}
use Rattle.cx_vlaws.proofs.meanings.widths_are_bounded.Goals as goal

pub returns-clause-ports : goal.returns-clause-ports
returns-clause-ports c source i k p sound e = port_wide source sound i k p e

pub returns-clause-decls : goal.returns-clause-decls
returns-clause-decls c source i k d sound e = decl_wide source sound i k d e

pub returns-clause-nets : goal.returns-clause-nets
returns-clause-nets c source i n sound e = net_wide source sound i n e
