use Rattle.std.proofs.Common.{◌≡◌, ◌++◌, drop, map}
use Rattle.cx_design.specs.PlainForms.{plain_cell, plain_group}
use Rattle.cx_profile.specs.Walks.{counted_rows}
use Rattle.cx_profile.proofs.entries.with_own_groups.Given as goal

-- the rows so far, and those of the groups that are left, are all
abbrev pub invariant-loop-own : goal.invariant-loop-own
invariant-loop-own l =
    l.all.items ++ counted_rows (map plain_cell l.part.cells.items) l.instance l.names l.group (map plain_group (drop l.own-index l.part.groups.items))
    ≡ l.fn.groups.items ++ counted_rows (map plain_cell l.part.cells.items) l.instance l.names 0 (map plain_group l.part.groups.items)
