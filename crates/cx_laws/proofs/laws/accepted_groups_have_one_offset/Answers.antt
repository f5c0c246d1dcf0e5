use Rattle.cx_laws.proofs.ApartLemmas.{one_offset}
use Rattle.cx_laws.proofs.laws.accepted_groups_have_one_offset.Goals as goal

pub returns : goal.returns
returns c = λ d path v h t e accepted stands i. one_offset d accepted v h t path stands e i
