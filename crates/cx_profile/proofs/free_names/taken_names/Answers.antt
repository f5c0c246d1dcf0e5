use Rattle.cx_names_scopes.proofs.NameLemmas.{numbers_start}
use Rattle.cx_profile.proofs.free_names.taken_names.Goals as goal

pub loop-number-init : goal.loop-number-init
loop-number-init c = λ n. numbers_start _ n _ (c.new-taken.ensures n)
