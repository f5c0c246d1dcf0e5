use Rattle.cx_flattening.proofs.FlatStarts.{flat_start}
use Rattle.cx_flattening.proofs.FlatTrees.{flat_tree}
use Rattle.cx_flattening.proofs.laws.flat_trees_are_flattened.Goals as goal

pub returns-clause-cells : goal.returns-clause-cells
returns-clause-cells c d design = flat_tree d design

pub returns-clause-starts : goal.returns-clause-starts
returns-clause-starts c d words design = flat_start d design words
