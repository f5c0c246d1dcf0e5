use Rattle.cx_flattening.proofs.FlatSizes.{flat_count}
use Rattle.cx_flattening.proofs.FlatLimits.{design_instances, design_depth, design_words}
use Rattle.cx_flattening.proofs.laws.flat_sizes_are_counted.Goals as goal

pub returns-clause-cells : goal.returns-clause-cells
returns-clause-cells c i = flat_count i

pub returns-clause-instances : goal.returns-clause-instances
returns-clause-instances c d design = design_instances d design

pub returns-clause-depth : goal.returns-clause-depth
returns-clause-depth c d design = design_depth d design

pub returns-clause-words : goal.returns-clause-words
returns-clause-words c d design = design_words d design
