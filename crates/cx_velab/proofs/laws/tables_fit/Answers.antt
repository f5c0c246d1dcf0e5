use Rattle.cx_velab.proofs.FitsLemmas.{nets_fit_by, sets_fit_by, stores_fit_by}
use Rattle.cx_velab.proofs.laws.tables_fit.Goals as goal

pub returns-clause-nets : goal.returns-clause-nets
returns-clause-nets c = nets_fit_by c.code_widths.ensures

pub returns-clause-sets : goal.returns-clause-sets
returns-clause-sets c = sets_fit_by c.code_widths.ensures

pub returns-clause-stores : goal.returns-clause-stores
returns-clause-stores c = stores_fit_by c.code_widths.ensures
