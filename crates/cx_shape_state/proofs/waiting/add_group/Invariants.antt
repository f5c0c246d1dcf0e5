use Rattle.std.proofs.Common.{◌≡◌, drop, flat_map, length, map}
use Rattle.cx_rules.specs.Ports.{component_of}
use Rattle.cx_design.specs.PlainDesigns.{plain_design}
use Rattle.cx_design.specs.PlainForms.{plain_assign}
use Rattle.cx_graphs.specs.Graphs.{edges_of}
use Rattle.cx_shape_state.specs.Waits.{group_waits}
use Rattle.cx_shape_state.specs.Joining.{joined}
use Rattle.cx_shape_state.proofs.waiting.add_group.Given as goal

-- the graph so far, with the assignments that are left
abbrev pub invariant-loop-assign : goal.invariant-loop-assign
invariant-loop-assign l =
    let f = group_waits (component_of (plain_design l.design) l.number) in
    record {
      count : length l.graph.items ≡ length l.initial.graph.items;
      value : joined (edges_of l.graph.items) 0 (λ c. flat_map (f c) (map plain_assign (drop l.assign-index l.assigns))) ≡ joined (edges_of l.initial.graph.items) 0 (λ c. flat_map (f c) (map plain_assign l.assigns));
    }
