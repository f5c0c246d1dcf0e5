use Rattle.cx_vnets.specs.Readers.{AreBehind}
use Rattle.cx_vnets.proofs.ranks.are_behind.Given as goal

abbrev pub invariant-loop-net : goal.invariant-loop-net
invariant-loop-net l = AreBehind l.nets l.order l.ranks l.net
