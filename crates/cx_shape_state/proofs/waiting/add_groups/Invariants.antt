use Rattle.std.proofs.Common.{◌≡◌, drop, flat_map, length, map}
use Rattle.cx_rules.specs.Ports.{component_of}
use Rattle.cx_design.specs.PlainDesigns.{plain_design}
use Rattle.cx_design.specs.PlainForms.{plain_group}
use Rattle.cx_graphs.specs.Graphs.{edges_of}
use Rattle.cx_shape_state.specs.Waits.{group_waits}
use Rattle.cx_shape_state.specs.Joining.{joined}
use Rattle.cx_shape_state.proofs.waiting.add_groups.Given as goal

-- the graph so far, with the groups that are left
abbrev pub invariant-loop-group : goal.invariant-loop-group
invariant-loop-group l =
    let f = group_waits (component_of (plain_design l.design) l.number) in
    record {
      count : length l.graph.items ≡ length l.initial.graph.items;
      value : joined (edges_of l.graph.items) 0 (λ c. flat_map (λ g. flat_map (f c) g.assigns) (map plain_group (drop l.group-index l.groups)))
          ≡ joined (edges_of l.initial.graph.items) 0 (λ c. flat_map (λ g. flat_map (f c) g.assigns) (map plain_group l.groups));
    }
