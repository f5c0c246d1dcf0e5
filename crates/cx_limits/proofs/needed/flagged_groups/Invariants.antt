use Rattle.std.proofs.Common.{◌≡◌, ◌≤◌, ◌+◌, ◌-◌, ◌^◌, drop, map, length}
use Rattle.cx_rules.specs.Sizes.{groups_size}
use Rattle.cx_design.specs.PlainForms.{plain_group}
use Rattle.cx_design_sizes.specs.Capped.{capped}
use Rattle.cx_limits.specs.Inners.{flagged}
use Rattle.cx_limits.proofs.needed.flagged_groups.Given as goal

-- what is counted so far, and what is left, is all
abbrev pub invariant-loop-number : goal.invariant-loop-number
invariant-loop-number l =
    let left = flagged (drop l.number l.flags) (map plain_group (drop l.number l.groups)) in
    let all = flagged l.flags (map plain_group l.groups) in
    record {
      groups : capped (l.needed.groups + length left) ≡ capped (length all);
      size : capped (l.needed.size + groups_size left) ≡ capped (groups_size all);
      few : l.needed.groups ≤ 2 ^ 64 - 1;
      small : l.needed.size ≤ 2 ^ 64 - 1;
    }
