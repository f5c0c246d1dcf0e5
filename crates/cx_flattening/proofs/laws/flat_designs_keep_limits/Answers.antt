use Rattle.cx_flattening.proofs.FlatLimits.{keeps_cells, keeps_instances, keeps_depth, keeps_words}
use Rattle.cx_flattening.proofs.FlatCounts.{keeps_groups}
use Rattle.cx_flattening.proofs.FlatRepeats.{keeps_repeats}
use Rattle.cx_flattening.proofs.laws.flat_designs_keep_limits.Goals as goal

pub returns-clause-cells : goal.returns-clause-cells
returns-clause-cells c d at place name design accepted breaks = keeps_cells d design accepted at place name breaks

pub returns-clause-instances : goal.returns-clause-instances
returns-clause-instances c d at place name design accepted breaks = keeps_instances d design accepted at place name breaks

pub returns-clause-depth : goal.returns-clause-depth
returns-clause-depth c d at place name design accepted breaks = keeps_depth d design accepted at place name breaks

pub returns-clause-words : goal.returns-clause-words
returns-clause-words c d at place name design accepted breaks = keeps_words d design accepted at place name breaks

pub returns-clause-groups : goal.returns-clause-groups
returns-clause-groups c d at place name design accepted undone breaks = keeps_groups d design accepted undone at place name breaks

pub returns-clause-repeats : goal.returns-clause-repeats
returns-clause-repeats c d at place name design accepted breaks = keeps_repeats d accepted design at place name breaks
