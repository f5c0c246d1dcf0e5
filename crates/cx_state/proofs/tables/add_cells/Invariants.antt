use Rattle.std.proofs.Common.{◌≡◌, ◌+◌, ◌≤◌, ◌++◌, map, drop, length}
use Rattle.cx_design.specs.PlainForms.{plain_cell}
use Rattle.cx_state.specs.Filling.{numbered, placed, total}
use Rattle.cx_state.proofs.tables.add_cells.Given as goal

abbrev pub invariant-loop-cell : goal.invariant-loop-cell
invariant-loop-cell l = record {
  room : l.next + total l.tallies (map plain_cell (drop l.cell l.cells)) ≤ length l.rows;
  children : l.children.items ++ numbered l.tallies (map plain_cell (drop l.cell l.cells)) l.next ≡ l.fn.children.items ++ numbered l.tallies (map plain_cell l.cells) (l.number + 1);
  rows : placed l.tallies (map plain_cell (drop l.cell l.cells)) l.number l.cell l.next l.rows ≡ placed l.tallies (map plain_cell l.cells) l.number 0 (l.number + 1) l.fn.rows;
}
