use Rattle.std.proofs.Common.{◌≡◌, ◌≤◌, drop, length, map}
use Rattle.cx_net.specs.PlainNets.{plain_net_component, plain_net_driver}
use Rattle.cx_emit.specs.Driven.{driven_by}
use Rattle.cx_emit.specs.PlainForms.{plain_cell_ports, plain_driven}
use Rattle.cx_emit.proofs.driven.Driven.of.Given as goal

-- what the drivers from `left` on drive
abbrev pub invariant-loop-left : goal.invariant-loop-left
invariant-loop-left l = record {
  value : plain_driven l.driven ≡ driven_by (plain_net_component l.part) (map plain_cell_ports l.cells) (map plain_net_driver (drop l.left l.part.drivers.items));
  within : l.left ≤ length l.part.drivers.items;
}

abbrev pub decreases-loop-left : goal.decreases-loop-left
decreases-loop-left l = l.left
