use Rattle.std.proofs.Common.{rules, ◌∙◌, ℕ, List, ap, drop, get_or, flat_map}
use Rattle.std.proofs.lemmas.List.{drop_more, drop_all}
use Rattle.cx_meaning.specs.declared.ports.PlacedPort.{PlacedPort}
use Rattle.cx_meaning.specs.declared.ports.PortRef.TheVariants.{Cell}
use Rattle.cx_rules.specs.Ports.{component_of}
use Rattle.cx_design.specs.PlainDesigns.{plain_design}
use Rattle.cx_graphs.specs.Graphs.{edges_of}
use Rattle.cx_shape_state.specs.Waits.{basis_of, waits_on}
use Rattle.cx_shape_state.specs.Joining.{with_edges}
use Rattle.cx_shape_state.proofs.Joins.{next_edges, all_edges}
use Rattle.cx_shape_state.proofs.waiting.add_waits.Goals as goal

pub loop-port-preserved : goal.loop-port-preserved
loop-port-preserved c =
    let i = component_of (plain_design c.args.design.now) c.args.number in
    let f : PlacedPort → List ℕ = λ p. waits_on c.args.cell (basis_of i c.args.inputs p.port) in
    let ports = c.args.ports.now in
    let k = c.loop-port.port-index in
    let none : PlacedPort = record { port = Cell 0 0; place = record { line = 0; column = 0 } } in
    let g = edges_of c.loop-port.graph.items in
    record {
      count = c.in_ok-add_wait.ensures.count ∙ c.loop-port.invariant.count;
      value = next_edges f k c.args.cell ports (get_or ports k none) g (edges_of c.add_wait.new.graph.items) (with_edges (edges_of c.args.graph.now.items) c.args.cell (flat_map f ports))
          (drop_more ports k none (search rules))
          (c.in_ok-add_wait.ensures.value ∙ ap (λ b. with_edges g c.args.cell (waits_on c.args.cell b)) c.basis_of.ensures.value)
          c.loop-port.invariant.value;
    }

pub returns-clause-value : goal.returns-clause-value
returns-clause-value c =
    let i = component_of (plain_design c.args.design.now) c.args.number in
    let f : PlacedPort → List ℕ = λ p. waits_on c.args.cell (basis_of i c.args.inputs p.port) in
    let ports = c.args.ports.now in
    all_edges f c.args.cell (drop c.loop-port.port-index ports) (edges_of c.loop-port.graph.items) (with_edges (edges_of c.args.graph.now.items) c.args.cell (flat_map f ports))
    (drop_all c.loop-port.port-index ports (search rules)) c.loop-port.invariant.value
