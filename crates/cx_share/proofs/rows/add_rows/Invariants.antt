use Rattle.std.proofs.Common.{◌≡◌, ◌++◌, ◌-◌, length}
use Rattle.cx_design.specs.PlainForms.{plain_component}
use Rattle.cx_sharing.specs.SharedRows.{rows_from, rows_of}
use Rattle.cx_share.proofs.rows.add_rows.Given as goal

-- the rows so far, and those of the cells that are left, are all
abbrev pub invariant-loop-number : goal.invariant-loop-number
invariant-loop-number l = l.rows.items ++ rows_from (plain_component l.part) l.number (length l.part.cells.items - l.number) ≡ l.initial.rows.items ++ rows_of (plain_component l.part)
