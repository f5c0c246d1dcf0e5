use Rattle.std.proofs.Common.{◌≤◌, ◌-◌, ◌^◌, ◌≡◌, ◌+◌, max, drop}
use Rattle.cx_design.specs.PlainForms.{plain_component, plain_statements}
use Rattle.cx_rules.specs.Invokes as invokes
use Rattle.cx_design_sizes.specs.Capped.{capped}
use Rattle.cx_limits.proofs.lasts.+length.Given as goal

abbrev pub invariant-sum_lasts-loop-statement : goal.invariant-sum_lasts-loop-statement
invariant-sum_lasts-loop-statement l = (capped (l.length + invokes.sum_lasts (plain_component l.part) (plain_statements (drop l.statement-index l.parts))) ≡ capped (invokes.sum_lasts (plain_component l.part) (plain_statements l.parts))) × (l.length ≤ 2 ^ 64 - 1)

abbrev pub invariant-max_lasts-loop-statement : goal.invariant-max_lasts-loop-statement
invariant-max_lasts-loop-statement l = (capped (max l.length (invokes.max_lasts (plain_component l.part) (plain_statements (drop l.statement-index l.arms)))) ≡ capped (invokes.max_lasts (plain_component l.part) (plain_statements l.arms))) × (l.length ≤ 2 ^ 64 - 1)
