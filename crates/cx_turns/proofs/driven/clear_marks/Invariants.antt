use Rattle.std.proofs.Common.{◌≡◌, ◌&&◌, not, ℕ, length, take}
use Rattle.cx_eval_cycle.specs.Passes.{listed_in}
use Rattle.cx_turns.specs.Marks.{is_marked}
use Rattle.cx_turns.proofs.driven.clear_marks.Given as goal

-- the listed cells so far have lost their marks
abbrev pub invariant-loop-cell : goal.invariant-loop-cell
invariant-loop-cell l = (length l.marks ≡ length l.fn.marks) × ((c : ℕ) → is_marked l.marks c ≡ (not (listed_in (take l.cell-index l.cells) c) && is_marked l.fn.marks c))
