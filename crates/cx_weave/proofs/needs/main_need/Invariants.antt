use Rattle.std.proofs.Common.{◌-◌}
use Rattle.cx_turns.specs.Machines.{design_of}
use Rattle.cx_weave.specs.Rows.{CoversFrom, HasRow}
use Rattle.cx_weave.proofs.needs.main_need.Given as goal

-- a row for each instance, of which the last ones are filled
abbrev pub invariant-loop-behind : goal.invariant-loop-behind
invariant-loop-behind l = HasRow (design_of l.plan) l.table.items × CoversFrom (design_of l.plan) l.piece l.table.items (l.count - l.behind)
