use Rattle.std.proofs.Common.{◌≡◌, ◌++◌, drop, map}
use Rattle.cx_static.specs.PlainLowered.{plain_lowered, plain_lowereds}
use Rattle.cx_fsm.specs.Rounds.{height_above, raised}
use Rattle.cx_fsm.proofs.ordering.raised.Given as goal

-- those so far, and those of what is left, are all
abbrev pub invariant-loop-component : goal.invariant-loop-component
invariant-loop-component l =
    let d = plain_lowereds l.design in
    l.higher.items ++ map (λ c. height_above d l.heights c.part.cells) (map plain_lowered (drop l.component-index l.component-items)) ≡ raised d l.heights
