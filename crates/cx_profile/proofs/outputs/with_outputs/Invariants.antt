use Rattle.std.proofs.Common.{◌≡◌, ◌++◌, ◌*◌}
use Rattle.cx_profile.specs.Growing as growing
use Rattle.cx_profile.proofs.outputs.with_outputs.Given as goal

abbrev pub invariant-loop-number : goal.invariant-loop-number
invariant-loop-number l = l.all.items ≡ l.fn.outputs.items ++ growing.new_outputs l.names (2 * l.own) l.number
