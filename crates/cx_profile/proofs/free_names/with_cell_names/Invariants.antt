use Rattle.std.proofs.Common.{◌≡◌, ◌++◌, drop, map}
use Rattle.cx_design.specs.PlainForms.{plain_cell}
use Rattle.cx_profile.proofs.free_names.with_cell_names.Given as goal

-- the names so far, and those of the cells that are left, are all
abbrev pub invariant-loop-cell : goal.invariant-loop-cell
invariant-loop-cell l = l.all.items ++ map (λ cell. cell.name) (map plain_cell (drop l.cell-index l.cells)) ≡ l.fn.names.items ++ map (λ cell. cell.name) (map plain_cell l.cells)
