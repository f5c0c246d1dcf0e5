use Rattle.std.proofs.Common.{rules, ap, sym, subst, length, ◌≡◌, ◌∙◌, ◌<◌, List, ℕ, flat_map, map}
use Rattle.std.proofs.lemmas.List.{length-map}
use Rattle.cx_meaning.specs.Instances.{cell_count, cells_of}
use Rattle.cx_rules.specs.Ports.{component_of}
use Rattle.cx_design.specs.declared.groups.Assign.{Assign}
use Rattle.cx_design.specs.declared.groups.Group.{Group}
use Rattle.cx_design.specs.declared.components.Component.{Component}
use Rattle.cx_design.specs.PlainDesigns.{plain_design}
use Rattle.cx_design.specs.PlainForms.{plain_component, plain_assigns, plain_group}
use Rattle.cx_graphs.specs.Graphs.{edges_of}
use Rattle.cx_graphs.specs.Edges.{no_edges}
use Rattle.cx_graphs.proofs.EdgeLemmas.{length-no_edges}
use Rattle.cx_meaning.specs.Designs.{PlainDesign, component_at}
use Rattle.cx_shape_state.specs.Joining.{joined}
use Rattle.cx_shape_state.specs.Waits.{always_waits, group_waits}
use Rattle.cx_design_parts.proofs.ReadLemmas.{component_cells}
use Rattle.cx_shape_state.proofs.WaitLemmas.{graph_is}
use Rattle.cx_rules.proofs.PortsLemmas.{part_is}
use Rattle.cx_shape_state.proofs.waiting.waits.Goals as goal

cells_are : (d : PlainDesign) (k : ℕ) (part : Component) → k < length d.components → plain_component part ≡ component_at d k → length part.cells.items ≡ cell_count (cells_of (component_of d k))
cells_are d k part within e = sym (length-map part.cells.items _) ∙ ap (λ p. length p.cells) e ∙ sym (component_cells d k within)

pub add_always-requires-clause-count : goal.add_always-requires-clause-count
add_always-requires-clause-count c =
    let d = plain_design c.args.design.now in
    let count = cells_are d c.args.number c.component-part.result.now (subst (λ k. c.args.number < k) (sym (length-map c.args.design.now.components.items _)) c.requires.within) c.component-part.ensures.value in
    let len : c.len.result ≡ length c.component-part.result.now.cells.items = search rules in
    sym (length-map c.in_ok-graph.graph.items _) ∙ ap length c.in_ok-graph.ensures.value ∙ length-no_edges c.len.result ∙ len ∙ count

pub add_groups-requires-clause-count : goal.add_groups-requires-clause-count
add_groups-requires-clause-count c =
    let d = plain_design c.args.design.now in
    let count = cells_are d c.args.number c.component-part.result.now (subst (λ k. c.args.number < k) (sym (length-map c.args.design.now.components.items _)) c.requires.within) c.component-part.ensures.value in
    let len : c.len.result ≡ length c.component-part.result.now.cells.items = search rules in
    c.in_ok-add_always.ensures.count ∙ sym (length-map c.in_ok-graph.graph.items _) ∙ ap length c.in_ok-graph.ensures.value ∙ length-no_edges c.len.result ∙ len ∙ count

pub returns : goal.returns
returns c =
    let d = plain_design c.args.design.now in
    let i = component_of d c.args.number in
    let part = c.component-part.result.now in
    let count = cells_are d c.args.number part (subst (λ k. c.args.number < k) (sym (length-map c.args.design.now.components.items _)) c.requires.within) c.component-part.ensures.value in
    let len : c.len.result ≡ length c.component-part.result.now.cells.items = search rules in
    record {
      value = graph_is i c.args.inputs (plain_component part) (edges_of c.in_ok-graph.graph.items) (edges_of c.add_always.new.graph.items) (edges_of c.add_groups.new.graph.items)
          (part_is d c.args.number ∙ sym c.component-part.ensures.value)
          (c.in_ok-graph.ensures.value ∙ ap no_edges (len ∙ count))
          (c.in_ok-add_always.ensures.value ∙ ap (λ (ls : List Assign). joined (edges_of c.in_ok-graph.graph.items) 0 (λ n. flat_map (always_waits i c.args.inputs n) (plain_assigns ls))) c.as_slice.ensures.value)
          (c.in_ok-add_groups.ensures.value ∙ ap (λ (ls : List Group). joined (edges_of c.add_always.new.graph.items) 0 (λ n. flat_map (λ g. flat_map (group_waits i n) g.assigns) (map plain_group ls))) c.as_slice-2.ensures.value);
    }
