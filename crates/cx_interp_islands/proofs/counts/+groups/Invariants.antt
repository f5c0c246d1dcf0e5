use Rattle.std.proofs.Common.{◌≤◌, ◌-◌, ◌^◌, ◌≡◌, ◌+◌, drop}
use Rattle.cx_design.specs.PlainForms.{plain_statements}
use Rattle.cx_interp_islands.specs.Rooms as plain
use Rattle.cx_design_sizes.specs.Capped.{capped}
use Rattle.cx_interp_islands.proofs.counts.+groups.Given as goal

abbrev pub invariant-groups_in-loop-statement : goal.invariant-groups_in-loop-statement
invariant-groups_in-loop-statement l = (capped (l.count + plain.groups_in (plain_statements (drop l.statement-index l.parts))) ≡ capped (plain.groups_in (plain_statements l.parts))) × (l.count ≤ 2 ^ 64 - 1)
