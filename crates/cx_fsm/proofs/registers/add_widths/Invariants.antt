use Rattle.std.proofs.Common.{◌≡◌, ◌++◌, replicate}
use Rattle.cx_fsm.proofs.registers.add_widths.Given as goal

-- so many so far
abbrev pub invariant-loop : goal.invariant-loop
invariant-loop l = l.widths.items ≡ l.initial.widths.items ++ replicate l.counter l.width
