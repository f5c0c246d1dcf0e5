use Rattle.std.proofs.Common.{◌≤◌, ◌-◌, ◌^◌, ◌≡◌, ◌+◌, max, drop}
use Rattle.cx_design.specs.PlainForms.{plain_component, plain_statements}
use Rattle.cx_meaning.specs.Islands as plain
use Rattle.cx_design_sizes.specs.Capped.{capped}
use Rattle.cx_design_sizes.proofs.islands.+length.Given as goal

abbrev pub invariant-sum_length-loop-statement : goal.invariant-sum_length-loop-statement
invariant-sum_length-loop-statement l = (capped (l.length + plain.sum_length (plain_component l.part) (plain_statements (drop l.statement-index l.parts))) ≡ capped (plain.sum_length (plain_component l.part) (plain_statements l.parts))) × (l.length ≤ 2 ^ 64 - 1)

abbrev pub invariant-max_length-loop-statement : goal.invariant-max_length-loop-statement
invariant-max_length-loop-statement l = (capped (max l.length (plain.max_length (plain_component l.part) (plain_statements (drop l.statement-index l.arms)))) ≡ capped (plain.max_length (plain_component l.part) (plain_statements l.arms))) × (l.length ≤ 2 ^ 64 - 1)
