use Rattle.std.proofs.Common.{◌≡◌, ℕ, ◌<◌, ◌||◌, false, drop, get_or, length}
use Rattle.cx_static.specs.PlainLowered.{plain_lowereds}
use Rattle.cx_fsm.specs.Rounds.{below_marked}
use Rattle.cx_fsm.proofs.ordering.spread.Given as goal

-- what is marked so far, and what is left to mark, is all
abbrev pub invariant-loop-component : goal.invariant-loop-component
invariant-loop-component l =
    let d = plain_lowereds l.design in
    record {
      count : length l.further.items ≡ length l.marks;
      right : (k : ℕ) → k < length l.marks
          → (get_or l.further.items k false || below_marked d l.component (drop l.component l.marks) k) ≡ (get_or l.marks k false || below_marked d 0 l.marks k);
    }
