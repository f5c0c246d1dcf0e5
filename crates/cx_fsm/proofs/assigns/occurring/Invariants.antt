use Rattle.std.proofs.Common.{◌≡◌, ℕ, ◌<◌, ◌||◌, false, drop, get_or, length, map}
use Rattle.cx_static.specs.PlainLowered.{plain_island}
use Rattle.cx_wiring.specs.Assignments.{occurs_in}
use Rattle.cx_fsm.proofs.assigns.occurring.Given as goal

-- what is marked so far, and what the islands that are left have, is all
abbrev pub invariant-loop-island : goal.invariant-loop-island
invariant-loop-island l = record {
  count : length l.marks.items ≡ l.groups;
  right : (g : ℕ) → g < l.groups → (get_or l.marks.items g false || occurs_in g (map plain_island (drop l.island-index l.islands))) ≡ occurs_in g (map plain_island l.islands);
}
