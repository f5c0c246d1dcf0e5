use Rattle.std.proofs.Common.{◌≡◌, ◌++◌, length, map}
use Rattle.std.specs.Vec.Iter.{into_iter_items, into_iter_len}
use Rattle.cx_net.specs.PlainNets.{plain_net_component}
use Rattle.cx_holes.specs.Inlining.{inlined_component}
use Rattle.cx_holes.proofs.inlining.components_without_holes.Given as goal

-- the components so far, and those that are left, are all
abbrev pub invariant-loop-component : goal.invariant-loop-component
invariant-loop-component l =
    (map plain_net_component l.list.items ++ map inlined_component (map plain_net_component (into_iter_items l.component-iterator))
    ≡ map inlined_component (map plain_net_component l.fn.components.items))
    × (into_iter_len l.component-iterator ≡ length (into_iter_items l.component-iterator))
