use Rattle.std.proofs.Common.{◌≡◌, ◌++◌, drop, map}
use Rattle.cx_graphs.specs.Graphs.{edges_of}
use Rattle.cx_design.specs.PlainForms.{plain_component}
use Rattle.cx_limits.specs.Order.{edges_from}
use Rattle.cx_limits.proofs.order.component_graph.Given as goal

-- the edges so far, and those of the components that are left, are all
abbrev pub invariant-loop-part : goal.invariant-loop-part
invariant-loop-part l = edges_of l.graph.items ++ edges_from (map plain_component (drop l.part-index l.components)) ≡ edges_from (map plain_component l.components)
