use Rattle.std.proofs.Common.{◌≡◌, ◌++◌, drop, filter_map, map, slice_get}
use Rattle.cx_net.specs.PlainNets.{plain_net_component}
use Rattle.cx_static.specs.PlainLowered.{plain_lowereds}
use Rattle.cx_wiring.specs.Wiring.{net_component}
use Rattle.cx_fsm.proofs.building.net_components.Given as goal

-- the components so far, and those that are left, are all
abbrev pub invariant-loop-number : goal.invariant-loop-number
invariant-loop-number l =
    let d = plain_lowereds l.design in
    map plain_net_component l.parts.items ++ map (net_component d) (filter_map (slice_get d.components) (drop l.number-index l.order))
    ≡ map (net_component d) (filter_map (slice_get d.components) l.order)
