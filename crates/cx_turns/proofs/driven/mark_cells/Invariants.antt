use Rattle.std.proofs.Common.{◌≡◌, ◌||◌, ◌≤◌, ℕ, length, take}
use Rattle.std.specs.Prelude.{vec_capacity}
use Rattle.cx_eval_cycle.specs.Passes.{listed_in}
use Rattle.cx_turns.specs.Marks.{Lists, is_marked}
use Rattle.cx_turns.proofs.driven.mark_cells.Given as goal

-- the cells so far are marked and listed
abbrev pub invariant-loop-cell : goal.invariant-loop-cell
invariant-loop-cell l = record {
  length : length l.marks ≡ length l.fn.marks;
  marked : (c : ℕ) → is_marked l.marks c ≡ (listed_in (take l.cell-index l.driven) c || is_marked l.fn.marks c);
  lists : Lists l.marks l.cells.items;
  room : vec_capacity l.fn.cells ≤ vec_capacity l.cells;
}
