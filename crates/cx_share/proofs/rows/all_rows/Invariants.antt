use Rattle.std.proofs.Common.{◌≡◌, ◌++◌, drop, flat_map, map}
use Rattle.cx_design.specs.PlainForms.{plain_component}
use Rattle.cx_sharing.specs.SharedRows.{rows_of}
use Rattle.cx_share.proofs.rows.all_rows.Given as goal

-- the rows so far, and those of the components that are left, are all
abbrev pub invariant-loop-number : goal.invariant-loop-number
invariant-loop-number l = l.rows.items ++ flat_map rows_of (map plain_component (drop l.number l.parts)) ≡ flat_map rows_of (map plain_component l.parts)
