use Rattle.std.proofs.Common.{◌≡◌, ℕ, ◌-◌, ◌++◌, filter}
use Rattle.cx_static.specs.PlainLowered.{plain_lowereds}
use Rattle.cx_wiring.specs.Reached.{numbers_from, has_number, reached_from, count}
use Rattle.cx_fsm.proofs.ordering.reached.Given as goal

-- those so far, and those of what is left, are all
abbrev pub invariant-loop-component : goal.invariant-loop-component
invariant-loop-component l =
    let d = plain_lowereds l.design in
    let is_reached = λ (k : ℕ). has_number k (reached_from d (count d) d.main) in
    l.list.items ++ filter is_reached (numbers_from l.component (count d - l.component)) ≡ filter is_reached (numbers_from 0 (count d))
