use Rattle.std.proofs.Common.{◌≡◌, ◌++◌, nat_eq, drop, filter, get_or}
use Rattle.cx_fsm.proofs.ordering.add_height.Given as goal

-- those so far, and those of what is left, are all
abbrev pub invariant-loop-component : goal.invariant-loop-component
invariant-loop-component l =
    l.list.items ++ filter (λ k. nat_eq (get_or l.heights k 0) l.height) (drop l.component-index l.reached)
    ≡ l.initial.list.items ++ filter (λ k. nat_eq (get_or l.heights k 0) l.height) l.reached
