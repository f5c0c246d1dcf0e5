use Rattle.std.proofs.Common.{◌≡◌, ◌++◌, drop, map}
use Rattle.cx_design.specs.PlainForms.{plain_component}
use Rattle.cx_graphs.specs.Graphs.{edges_of}
use Rattle.cx_design_copies.specs.Reaching.{edges_between}
use Rattle.cx_design_copies.proofs.reaching.component_graph.Given as goal

-- the edges so far, and those of the components that are left, are all
abbrev pub invariant-loop-part : goal.invariant-loop-part
invariant-loop-part l = edges_of l.graph.items ++ edges_between (map plain_component (drop l.part-index l.parts)) ≡ edges_between (map plain_component l.parts)
