use Rattle.std.proofs.Common.{◌≡◌}
use Rattle.cx_profile.specs.Growing as growing
use Rattle.cx_profile.proofs.outputs.register_ports.Given as goal

abbrev pub invariant-loop-number : goal.invariant-loop-number
invariant-loop-number l = l.ports.items ≡ growing.register_ports l.first l.number
