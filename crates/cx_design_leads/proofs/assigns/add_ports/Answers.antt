use Rattle.std.proofs.Common.{rules, ◌≡◌, ◌+◌, ◌<◌, get_or, length, take, ◌∙◌}
use Rattle.cx_graphs.specs.Graphs.{edges_of}
use Rattle.cx_meaning.specs.declared.ports.PortRef.TheVariants.{Cell}
use Rattle.cx_meaning.specs.declared.ports.PlacedPort.{PlacedPort}
use Rattle.cx_design_leads.proofs.EdgeLemmas.{in_take_more, take_more_has, more_ports}
use Rattle.cx_text.proofs.ListLaws.{get_same}
use Rattle.cx_design_leads.proofs.assigns.add_ports.Goals as goal

pub loop-port-preserved : goal.loop-port-preserved
loop-port-preserved c =
    let none : PlacedPort = record { port = Cell 0 0; place = record { line = 0; column = 0 } } in
    let ports = c.args.ports.now in
    let k = c.loop-port.port-index in
    let p = get_or ports k none in
    let here : k < length ports = search rules in
    let same : get_or ports k p ≡ p = get_same ports k p none here in
    record {
      len = c.in_ok-add_port.ensures.len ∙ c.loop-port.invariant.len;
      value = λ i h. more_ports i (edges_of c.args.graph.now.items) (edges_of c.loop-port.graph.items) (edges_of c.add_port.new.graph.items) c.args.from (take k ports) (take (k + 1) ports) p
          (λ q. in_take_more ports k p q here same) (λ q. take_more_has ports k p q here same) (c.loop-port.invariant.value i h) (c.in_ok-add_port.ensures.value i h);
    }
