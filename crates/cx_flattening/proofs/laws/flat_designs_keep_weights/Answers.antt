use Rattle.cx_flattening.proofs.FlatWeights.{design_weight, keeps_weight}
use Rattle.cx_flattening.proofs.FlatIslandLimits.{keeps_statements}
use Rattle.cx_flattening.proofs.FlatDesignSizes.{design_sizes}
use Rattle.cx_flattening.proofs.FlatStageSeven.{keeps_limits}
use Rattle.cx_flattening.proofs.laws.flat_designs_keep_weights.Goals as goal

pub returns-clause-counted : goal.returns-clause-counted
returns-clause-counted c d design accepted undone = design_weight d design accepted undone

pub returns-clause-weight : goal.returns-clause-weight
returns-clause-weight c d at place name design accepted undone breaks = keeps_weight d design accepted undone at place name breaks

pub returns-clause-statements : goal.returns-clause-statements
returns-clause-statements c d at place name design accepted undone breaks = keeps_statements d design accepted undone at place name breaks

pub returns-clause-size : goal.returns-clause-size
returns-clause-size c d design accepted undone = design_sizes d design accepted undone

pub returns-clause-limits : goal.returns-clause-limits
returns-clause-limits c d design accepted undone = keeps_limits d design accepted undone
