use Rattle.cx_laws.proofs.ApartLemmas.{entries_acyclic}
use Rattle.cx_laws.proofs.laws.accepted_entries_are_acyclic.Goals as goal

pub returns : goal.returns
returns c = λ d path v h t design accepted stands. entries_acyclic d design accepted v h t path stands
