use Rattle.std.proofs.Common.{◌≡◌, ◌++◌, drop, map}
use Rattle.cx_design.specs.PlainForms.{plain_group}
use Rattle.cx_profile.proofs.free_names.with_group_names.Given as goal

-- the names so far, and those of the groups that are left, are all
abbrev pub invariant-loop-group : goal.invariant-loop-group
invariant-loop-group l = l.all.items ++ map (λ group. group.name) (map plain_group (drop l.group-index l.groups)) ≡ l.fn.names.items ++ map (λ group. group.name) (map plain_group l.groups)
