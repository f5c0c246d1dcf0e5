use Rattle.cx_flattening.proofs.FlatRows.{flat_design_flat, flat_rows}
use Rattle.cx_flattening.proofs.laws.flat_designs_are_flat.Goals as goal

pub returns-clause-flat : goal.returns-clause-flat
returns-clause-flat c d = flat_design_flat d

pub returns-clause-rows : goal.returns-clause-rows
returns-clause-rows c d design = flat_rows d design
