use Rattle.std.proofs.Common.{◌≡◌, ap, ◌∙◌, subst}
use Rattle.cx_graphs.specs.Graphs.{edges_of}
use Rattle.cx_graphs.specs.Additions.{Adds, IsBare}
use Rattle.cx_meaning.specs.Designs.{PlainComponent}
use Rattle.cx_meaning.specs.Instances.{part_of}
use Rattle.cx_rules.specs.Ports.{component_of}
use Rattle.cx_design.specs.PlainDesigns.{plain_design}
use Rattle.cx_design.specs.PlainForms.{plain_assigns}
use Rattle.cx_design_leads.specs.Links.{OfAssigns}
use Rattle.cx_design_leads.proofs.NodeLemmas.{part_is}
use Rattle.cx_design_leads.proofs.EdgeLemmas.{continuous_edges}
use Rattle.cx_design_leads.proofs.leading.continuous_leads.Goals as goal

pub returns : goal.returns
returns c =
    let design = c.args.design.now in
    let i = component_of (plain_design design) c.args.number in
    let part = c.component.result.now in
    let g = edges_of c.in_ok-graph.graph.items in
    let h = edges_of c.add_assigns.new.graph.items in
    let k = edges_of c.add_cells.new.graph.items in
    let is : plain_assigns c.as_slice-always.result.now ≡ (part_of i).always =
    ap plain_assigns c.as_slice-always.ensures.value ∙ ap (λ (p : PlainComponent). p.always) (part_is design.components.items design.main c.args.number part c.component.ensures.value) in
    record {
      value = continuous_edges i g h k (subst (λ n. IsBare n g) (c.count.ensures.value i c.requires.nodes) c.in_ok-graph.ensures.value)
          (subst (λ l. Adds g (OfAssigns i l) h) is c.in_ok-add_assigns.ensures.value) c.in_ok-add_cells.ensures.value;
    }
