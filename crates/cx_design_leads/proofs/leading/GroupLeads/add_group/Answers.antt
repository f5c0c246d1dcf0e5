use Rattle.std.proofs.Common.{◌≡◌, ◌<◌, length, sym, ap, ◌∙◌, subst}
use Rattle.std.proofs.lemmas.List.{length-map}
use Rattle.cx_graphs.specs.Graphs.{edges_of}
use Rattle.cx_graphs.specs.Additions.{Adds}
use Rattle.cx_meaning.specs.Designs.{PlainComponent, group_at}
use Rattle.cx_meaning.specs.Instances.{part_of}
use Rattle.cx_rules.specs.Ports.{component_of}
use Rattle.cx_design.specs.PlainDesigns.{plain_design}
use Rattle.cx_design.specs.PlainForms.{plain_assigns, plain_group}
use Rattle.cx_design_leads.specs.Links.{OfAssigns}
use Rattle.cx_design_leads.proofs.NodeLemmas.{part_is}
use Rattle.cx_design_leads.proofs.EdgeLemmas.{found_assigns, group_edges}
use Rattle.cx_design_leads.proofs.leading.GroupLeads.add_group.Goals as goal

pub returns : goal.returns
returns c =
    let design = c.args.design.now in
    let i = component_of (plain_design design) c.args.number in
    let part = c.component-part.result.now in
    let x = c.index.result.now in
    let g = edges_of c.args.self.now.edges.items in
    let h = edges_of c.add_assigns.new.self.edges.items in
    let here : c.args.group < length part.groups.items =
    subst (λ n. c.args.group < n) (sym (ap (λ (p : PlainComponent). length p.groups) c.component-part.ensures.value) ∙ length-map part.groups.items plain_group) c.requires.group in
    let is : plain_assigns c.as_slice-assigns.result.now ≡ (group_at (part_of i) c.args.group).assigns =
    ap plain_assigns c.as_slice-assigns.ensures.value ∙ found_assigns part.groups.items c.args.group x here c.index.ensures
    ∙ ap (λ (p : PlainComponent). (group_at p c.args.group).assigns) (part_is design.components.items design.main c.args.number part c.component-part.ensures.value) in
    record {
      value = record {
        spread = c.in_ok-add_assigns.ensures.spread;
        edges = group_edges i c.args.group g h c.requires.clear.bare (subst (λ l. Adds g (OfAssigns i l) h) is c.in_ok-add_assigns.ensures.value);
      };
    }
