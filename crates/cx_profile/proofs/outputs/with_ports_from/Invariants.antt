use Rattle.std.proofs.Common.{◌≡◌, ◌++◌}
use Rattle.cx_profile.specs.Growing as growing
use Rattle.cx_profile.proofs.outputs.with_ports_from.Given as goal

abbrev pub invariant-loop-number : goal.invariant-loop-number
invariant-loop-number l = l.all.items ≡ l.fn.ports.items ++ growing.ports_from l.cell l.first l.number
