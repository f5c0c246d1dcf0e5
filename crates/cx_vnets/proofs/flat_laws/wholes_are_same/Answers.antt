use Rattle.cx_vnets.proofs.WholeLooks.{whole_by_values, values_by_look}
use Rattle.cx_vnets.proofs.flat_laws.wholes_are_same.Goals as goal

pub returns : goal.returns
returns c tree m n s stands memory apart values long = (λ all. whole_by_values tree m n s stands memory values long all, λ whole. values_by_look tree m n s stands memory values long apart whole)
