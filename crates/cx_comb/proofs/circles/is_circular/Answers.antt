use Rattle.std.proofs.Common.{◌≡◌, ◌<◌, length, sym, ◌∙◌, subst}
use Rattle.std.proofs.lemmas.List.{length-map}
use Rattle.cx_graphs.specs.Graphs.{Bounded, edges_of}
use Rattle.cx_graphs.specs.Walks.{IsReady}
use Rattle.cx_rules.specs.Ports.{component_of}
use Rattle.cx_design.specs.PlainDesigns.{plain_design}
use Rattle.cx_design.specs.PlainForms.{plain_component}
use Rattle.cx_design_leads.specs.Nodes.{node_count}
use Rattle.cx_comb.proofs.CircleFacts.{pruned_length}
use Rattle.cx_comb.proofs.CycleLemmas.{group_found}
use Rattle.cx_comb.proofs.circles.is_circular.Goals as goal

pub meets_circle-requires : goal.meets_circle-requires
meets_circle-requires c =
    let i = component_of (plain_design c.args.design.now) c.args.number in
    let long : length c.args.pruned.now ≡ node_count i = sym (length-map c.args.pruned.now (λ v. v.items)) ∙ pruned_length i (edges_of c.args.pruned.now) c.requires.pruned in
    record {
      pruned = (i, c.requires.pruned, c.requires.owners, c.in_ok-add_group.ensures.value);
      len = c.requires.len ∙ sym long;
      walk = subst (λ n. IsReady n c.args.walk.now) (sym long) c.requires.walk;
    }

pub clear-requires : goal.clear-requires
clear-requires c =
    let group = c.in_ok-add_group.ensures.value in
    record { within = subst (λ n. Bounded n c.add_group.new.self.targets.items) (sym group.spread.same_length ∙ length-map c.add_group.new.self.edges.items (λ v. v.items)) group.spread.within }

pub returns : goal.returns
returns c =
    let design = c.args.design.now in
    let d = plain_design design in
    let k = c.args.number in
    let i = component_of d k in
    let group = c.in_ok-add_group.ensures.value in
    let serves = c.requires.pruned in
    let pruned = edges_of c.args.pruned.now in
    let more = c.add_group.new.self in
    let found = c.in_ok-found.found in
    let long : length c.args.pruned.now ≡ node_count i = sym (length-map c.args.pruned.now (λ v. v.items)) ∙ pruned_length i pruned serves in
    let within : k < length d.components = subst (λ n. k < n) (sym (length-map design.components.items plain_component)) c.requires.within in
    record {
      walk = subst (λ n. IsReady n c.meets_circle.new.walk) long c.in_ok-found.ensures.walk;
      more = c.clear.ensures.value (node_count i) group.spread;
      value = group_found d k design.keeps within serves.graph serves.edges c.args.group serves.marks pruned (edges_of more.edges.items) more.targets.items found serves.no_circle serves.is_pruned group.edges
          group.spread.from_targets
          c.in_ok-found.ensures.value;
    }
