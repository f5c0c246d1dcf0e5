use Rattle.std.proofs.Common.{◌≡◌, length}
use Rattle.cx_rules.specs.Ports.{component_of}
use Rattle.cx_design.specs.PlainDesigns.{plain_design}
use Rattle.cx_turns.specs.GroupRows.{AreRows}
use Rattle.cx_turns.proofs.tables.group_table.Given as goal

-- a row for each group so far
abbrev pub invariant-loop-group : goal.invariant-loop-group
invariant-loop-group l = record {
  count : length l.rows.items ≡ l.group;
  right : AreRows (component_of (plain_design l.design) l.number) l.rows.items;
}
