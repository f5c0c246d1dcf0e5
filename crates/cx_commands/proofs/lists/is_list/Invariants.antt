use Rattle.std.proofs.Common.{◌≡◌, ◌≤◌, All, length}
use Rattle.cx_commands.specs.Lists.{IsChoice}
use Rattle.cx_commands.proofs.lists.is_list.Given as goal

abbrev pub invariant-loop-part : goal.invariant-loop-part
invariant-loop-part l = (l.count ≡ length l.yielded) × (l.count ≤ 4096) × All (λ part. IsChoice part.now) l.yielded
