use Rattle.std.proofs.Common.{◌≡◌, ◌++◌, drop, map}
use Rattle.cx_design.specs.PlainForms.{plain_group}
use Rattle.cx_static.proofs.copies.copied_groups.Given as goal

-- the copies so far, and those of the parts that are left, are all
abbrev pub invariant-loop-group : goal.invariant-loop-group
invariant-loop-group l = map plain_group l.copies.items ++ map plain_group (drop l.group-index l.groups) ≡ map plain_group l.groups
