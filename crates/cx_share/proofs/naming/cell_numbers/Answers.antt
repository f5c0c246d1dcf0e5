use Rattle.cx_names_scopes.proofs.NameLemmas.{numbers_start}
use Rattle.cx_share.proofs.naming.cell_numbers.Goals as goal

pub loop-number-init : goal.loop-number-init
loop-number-init c = λ n. numbers_start _ n _ (c.new-numbers.ensures n)
