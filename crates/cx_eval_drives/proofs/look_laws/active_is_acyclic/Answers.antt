use Rattle.cx_eval_drives.proofs.ActiveLemmas.{active_acyclic}
use Rattle.cx_eval_drives.proofs.look_laws.active_is_acyclic.Goals as goal

pub returns : goal.returns
returns c d path active design accepted can = active_acyclic d path active design accepted (λ v h t stands. c.accepted_entries_are_acyclic.ensures d path v h t design accepted stands) can
