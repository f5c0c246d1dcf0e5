use Rattle.std.proofs.Common.{◌≡◌, length}
use Rattle.cx_design.specs.PlainDesigns.{plain_design}
use Rattle.cx_turns.specs.GroupRows.{AreRight}
use Rattle.cx_turns.proofs.tables.component_tables.Given as goal

-- a table for each component so far
abbrev pub invariant-loop-number : goal.invariant-loop-number
invariant-loop-number l = record {
  count : length l.tables.items ≡ l.number;
  right : AreRight (plain_design l.design) l.tables.items;
}
