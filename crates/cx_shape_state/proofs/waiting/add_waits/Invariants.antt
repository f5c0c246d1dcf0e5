use Rattle.std.proofs.Common.{◌≡◌, ℕ, List, drop, flat_map, length}
use Rattle.cx_meaning.specs.declared.ports.PlacedPort.{PlacedPort}
use Rattle.cx_rules.specs.Ports.{component_of}
use Rattle.cx_design.specs.PlainDesigns.{plain_design}
use Rattle.cx_graphs.specs.Graphs.{edges_of}
use Rattle.cx_shape_state.specs.Waits.{basis_of, waits_on}
use Rattle.cx_shape_state.specs.Joining.{with_edges}
use Rattle.cx_shape_state.proofs.waiting.add_waits.Given as goal

-- the graph so far, with the ports that are left
abbrev pub invariant-loop-port : goal.invariant-loop-port
invariant-loop-port l =
    let i = component_of (plain_design l.design) l.number in
    let f : PlacedPort → List ℕ = λ p. waits_on l.cell (basis_of i l.inputs p.port) in
    record {
      count : length l.graph.items ≡ length l.initial.graph.items;
      value : with_edges (edges_of l.graph.items) l.cell (flat_map f (drop l.port-index l.ports)) ≡ with_edges (edges_of l.initial.graph.items) l.cell (flat_map f l.ports);
    }
