use Rattle.std.proofs.Common.{◌≡◌, ◌+◌, drop, map}
use Rattle.cx_design.specs.PlainForms.{plain_cell, plain_group}
use Rattle.cx_profile.specs.Counted as specs
use Rattle.cx_profile.proofs.counted.counted.Given as goal

-- the count so far, and that of the groups that are left, are the whole count
abbrev pub invariant-loop-group : goal.invariant-loop-group
invariant-loop-group l = l.count + specs.counted_among (map plain_cell l.cells) (map plain_group (drop l.group-index l.groups)) ≡ specs.counted_among (map plain_cell l.cells) (map plain_group l.groups)
