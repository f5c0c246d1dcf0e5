use Rattle.std.proofs.Common.{◌≡◌, ℕ, ◌<◌, ◌||◌, false, drop, get_or, length, map}
use Rattle.cx_design.specs.PlainForms.{plain_cell}
use Rattle.cx_wiring.specs.Reached.{components_of, has_number}
use Rattle.cx_fsm.proofs.ordering.mark_cells.Given as goal

-- what is marked so far, and what is left to mark, is all
abbrev pub invariant-loop-cell : goal.invariant-loop-cell
invariant-loop-cell l = record {
  count : length l.marks.items ≡ length l.initial.marks.items;
  right : (k : ℕ) → k < length l.initial.marks.items
      → (get_or l.marks.items k false || has_number k (components_of (map plain_cell (drop l.cell-index l.cells))))
      ≡ (get_or l.initial.marks.items k false || has_number k (components_of (map plain_cell l.cells)));
}
