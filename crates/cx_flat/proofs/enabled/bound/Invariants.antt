use Rattle.std.proofs.Common.{◌≡◌, ◌≤◌, ℕ, drop}
use Rattle.cx_rules.specs.Counts.{is_one_of}
use Rattle.cx_flat.proofs.enabled.bound.Given as goal

-- past the bound none of those so far is one of the groups
abbrev pub invariant-loop-group : goal.invariant-loop-group
invariant-loop-group l = (g : ℕ) → l.bound ≤ g → is_one_of g (drop l.group-index l.groups) ≡ is_one_of g l.groups
