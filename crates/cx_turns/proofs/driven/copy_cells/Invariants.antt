use Rattle.std.proofs.Common.{◌≡◌, ◌≤◌, take}
use Rattle.std.specs.Prelude.{vec_len, vec_capacity}
use Rattle.cx_turns.proofs.driven.copy_cells.Given as goal

-- the cells so far are listed
abbrev pub invariant-loop-cell : goal.invariant-loop-cell
invariant-loop-cell l = record {
  items : l.cells.items ≡ take l.cell-index l.driven;
  count : vec_len l.cells ≡ l.cell-index;
  room : vec_capacity l.fn.cells ≤ vec_capacity l.cells;
}
