use Rattle.std.proofs.Common.{refl}
use Rattle.cx_vnets.proofs.FlatValues.{value_by_name, value_by_number}
use Rattle.cx_vnets.proofs.flat_laws.values_are_same.Goals as goal

pub returns : goal.returns
returns c tree m n s stands memory i k name v there = (λ has. value_by_name tree m n s stands memory has i k name refl there, λ has. value_by_number tree m n s stands memory has k there)
