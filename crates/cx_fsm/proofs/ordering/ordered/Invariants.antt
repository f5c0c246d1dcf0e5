use Rattle.std.proofs.Common.{◌≡◌, ℕ, ◌-◌, ◌++◌, ◌+◌, nat_eq, filter, flat_map, get_or}
use Rattle.cx_wiring.specs.Reached.{numbers_from}
use Rattle.cx_fsm.proofs.ordering.ordered.Given as goal

-- those so far, and those of the heights that are left, are all
abbrev pub invariant-loop-height : goal.invariant-loop-height
invariant-loop-height l =
    let at_height = λ (h : ℕ). filter (λ k. nat_eq (get_or l.heights.items k 0) h) l.reached.items in
    l.list.items ++ flat_map at_height (numbers_from l.height (l.levels + 1 - l.height)) ≡ flat_map at_height (numbers_from 0 (l.levels + 1))
