use Rattle.std.proofs.Common.{rules, ◌≡◌, ◌∙◌, length, subst}
use Rattle.cx_graphs.specs.Graphs.{edges_of}
use Rattle.cx_graphs.specs.Additions.{Adds}
use Rattle.cx_graphs.proofs.Additions.{same_nodes}
use Rattle.cx_rules.specs.Ports.{component_of}
use Rattle.cx_design.specs.PlainDesigns.{plain_design}
use Rattle.cx_design_leads.specs.Links.{OfCell, OfCells}
use Rattle.cx_design_leads.proofs.NodeLemmas.{cells_of_part}
use Rattle.cx_design_leads.proofs.EdgeLemmas.{no_cells, more_cells}
use Rattle.cx_design_leads.proofs.rows.add_cells.Goals as goal

pub loop-cell-init : goal.loop-cell-init
loop-cell-init c = no_cells (component_of (plain_design c.args.design.now) c.args.number) (edges_of c.args.graph.now.items)

pub add_cell-requires : goal.add_cell-requires
add_cell-requires c =
    let i = component_of (plain_design c.args.design.now) c.args.number in
    record {
      within = c.requires.within;
      nodes = c.requires.nodes;
      graph = same_nodes c.args.graph.now.items c.loop-cell.graph.items (OfCells i c.loop-cell.cell) c.loop-cell.invariant ∙ c.requires.graph;
    }

pub loop-cell-preserved : goal.loop-cell-preserved
loop-cell-preserved c =
    let i = component_of (plain_design c.args.design.now) c.args.number in
    let mid = edges_of c.loop-cell.graph.items in
    let after = edges_of c.add_cell.new.graph.items in
    more_cells i (edges_of c.args.graph.now.items) mid after c.loop-cell.cell c.loop-cell.invariant
    (subst (λ p. Adds mid (OfCell i p) after) c.in_ok-cell_number.ensures.value c.in_ok-add_cell.ensures.value)

pub returns : goal.returns
returns c =
    let design = c.args.design.now in
    let i = component_of (plain_design design) c.args.number in
    let part = c.component.result.now in
    let end : c.loop-cell.cell ≡ length part.cells.items = search rules in
    record {
      value = subst (λ n. Adds (edges_of c.args.graph.now.items) (OfCells i n) (edges_of c.loop-cell.graph.items))
          (end ∙ cells_of_part design.components.items design.main c.args.number part c.requires.within c.component.ensures.value) c.loop-cell.invariant;
    }
