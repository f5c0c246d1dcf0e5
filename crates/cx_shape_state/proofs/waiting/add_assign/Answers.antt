use Rattle.std.proofs.Common.{◌<◌, ◌∙◌, List, ap, sym, subst, flat_map}
use Rattle.cx_meaning.specs.declared.ports.PlacedPort.{PlacedPort}
use Rattle.cx_rules.specs.Ports.{component_of}
use Rattle.cx_design.specs.PlainDesigns.{plain_design}
use Rattle.cx_design.specs.PlainForms.{plain_assign}
use Rattle.cx_graphs.specs.Graphs.{edges_of}
use Rattle.cx_shape_state.specs.Waits.{basis_of, waits_on}
use Rattle.cx_shape_state.specs.Joining.{with_edges}
use Rattle.cx_shape_state.proofs.Cells.{reader_within}
use Rattle.cx_shape_state.proofs.WaitLemmas.{no_reader, one_reader}
use Rattle.cx_shape_state.proofs.waiting.add_assign.Goals as goal

pub returns-in_default-clause-value : goal.returns-in_default-clause-value
returns-in_default-clause-value c =
    no_reader (component_of (plain_design c.args.design.now) c.args.number) c.args.inputs (plain_assign c.args.assign.now) (edges_of c.args.graph.now.items) (sym c.reader.ensures.value ∙ c.in_default.is)

pub add_wait-requires : goal.add_wait-requires
add_wait-requires c =
    let i = component_of (plain_design c.args.design.now) c.args.number in
    record { cell = subst (λ k. c.in-Some.cell < k) (sym c.requires.count) (reader_within i c.args.assign.now.target c.in-Some.cell (sym c.in-Some.ensures.value)) }

pub add_waits-requires-clause-cell : goal.add_waits-requires-clause-cell
add_waits-requires-clause-cell c =
    let i = component_of (plain_design c.args.design.now) c.args.number in
    subst (λ k. c.in-Some.cell < k) (sym (c.in_ok-add_wait.ensures.count ∙ c.requires.count)) (reader_within i c.args.assign.now.target c.in-Some.cell (sym c.in-Some.ensures.value))

pub returns-clause-value : goal.returns-clause-value
returns-clause-value c =
    let i = component_of (plain_design c.args.design.now) c.args.number in
    let cell = c.in-Some.cell in
    let g = edges_of c.args.graph.now.items in
    one_reader i c.args.inputs (plain_assign c.args.assign.now) g (edges_of c.add_wait.new.graph.items) (edges_of c.add_waits.new.graph.items) cell (sym c.in-Some.ensures.value)
    (c.in_ok-add_wait.ensures.value ∙ ap (λ b. with_edges g cell (waits_on cell b)) c.basis_of.ensures.value)
    (c.in_ok-add_waits.ensures.value ∙ ap (λ (ps : List PlacedPort). with_edges (edges_of c.add_wait.new.graph.items) cell (flat_map (λ (p : PlacedPort). waits_on cell (basis_of i c.args.inputs p.port)) ps)) (c.as_slice.ensures.value ∙ c.in_ok-operands.ensures.value))
