use Rattle.cx_vnets.specs.Search.{Ready}
use Rattle.cx_vnets.proofs.search.try_in_order.Given as goal

abbrev pub invariant-loop-net : goal.invariant-loop-net
invariant-loop-net l = Ready l.nets l.stored l.marks l.values
