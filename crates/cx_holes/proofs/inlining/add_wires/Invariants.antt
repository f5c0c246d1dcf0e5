use Rattle.std.proofs.Common.{◌≡◌, ◌++◌, replicate}
use Rattle.cx_holes.proofs.inlining.add_wires.Given as goal

-- so many wires are added
abbrev pub invariant-loop : goal.invariant-loop
invariant-loop l = l.wires.items ≡ l.initial.wires.items ++ replicate l.counter 1
