use Rattle.std.proofs.Common.{subst, sym}
use Rattle.cx_vnets.specs.Search.{IsFirstWithout}
use Rattle.cx_vnets.proofs.FlatValues.{loop_by_name, loop_by_number}
use Rattle.cx_vnets.proofs.flat_laws.loops_are_same.Goals as goal

pub returns : goal.returns
returns c tree m n s stands memory f i k net = (
  λ first. loop_by_name tree m n s stands memory f i k net.name net.number net.stands_there first,
  λ first. subst (IsFirstWithout n s) (sym net.number) (loop_by_number tree m n s stands memory i k first),
)
