use Rattle.std.proofs.Common.{◌≤◌, ◌-◌, ◌^◌, ◌≡◌, ◌+◌, drop}
use Rattle.cx_design.specs.PlainForms.{plain_component, plain_statements}
use Rattle.cx_rules.specs.Counts as counts
use Rattle.cx_design_sizes.specs.Capped.{capped}
use Rattle.cx_limits.specs.Rows.{plain_inners}
use Rattle.cx_limits.proofs.counting.+occurrences.Given as goal

-- what is counted so far, and what is left, is all
abbrev pub invariant-counted_in-loop-statement : goal.invariant-counted_in-loop-statement
invariant-counted_in-loop-statement l =
    (capped (l.count + counts.counted_in (plain_component l.part) (plain_inners l.below) (plain_statements (drop l.statement-index l.parts))) ≡ capped (counts.counted_in (plain_component l.part) (plain_inners l.below) (plain_statements l.parts)))
    × (l.count ≤ 2 ^ 64 - 1)
