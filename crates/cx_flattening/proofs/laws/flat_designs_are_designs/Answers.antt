use Rattle.cx_flattening.proofs.FlatWeighs.{size_within_weight}
use Rattle.cx_flattening.proofs.FlatWellformed.{is_design}
use Rattle.cx_flattening.proofs.laws.flat_designs_are_designs.Goals as goal

pub returns-clause-parts : goal.returns-clause-parts
returns-clause-parts c d design = size_within_weight d design

pub returns-clause-design : goal.returns-clause-design
returns-clause-design c d design accepted undone plain = is_design d design accepted undone plain
