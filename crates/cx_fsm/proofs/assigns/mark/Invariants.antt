use Rattle.std.proofs.Common.{◌≡◌, ℕ, ◌<◌, ◌||◌, false, drop, get_or, length, map}
use Rattle.cx_static.specs.PlainLowered.{plain_occurrence}
use Rattle.cx_wiring.specs.Assignments.{occurs_among}
use Rattle.cx_fsm.proofs.assigns.mark.Given as goal

-- what is marked so far, and what is left to mark, is all
abbrev pub invariant-loop-occurrence : goal.invariant-loop-occurrence
invariant-loop-occurrence l = record {
  count : length l.marks.items ≡ length l.initial.marks.items;
  right : (g : ℕ) → g < length l.initial.marks.items
      → (get_or l.marks.items g false || occurs_among g (map plain_occurrence (drop l.occurrence-index l.occurrences)))
      ≡ (get_or l.initial.marks.items g false || occurs_among g (map plain_occurrence l.occurrences));
}
