use Rattle.std.proofs.Common.{rules, ◌<◌, length, slice_set, sym, ◌∙◌, subst}
use Rattle.std.proofs.lemmas.List.{length-map, length-set}
use Rattle.cx_text.proofs.MemberLaws.{in_left}
use Rattle.cx_text.specs.Members.{In}
use Rattle.cx_graphs.specs.Graphs.{edges_of}
use Rattle.cx_graphs.proofs.Lists.{the_last}
use Rattle.cx_graphs.proofs.Additions.{cleared}
use Rattle.cx_design_leads.proofs.EdgeLemmas.{spread_less}
use Rattle.cx_design_leads.proofs.leading.GroupLeads.clear.Goals as goal

pub index_mut-requires : goal.index_mut-requires
index_mut-requires c =
    let t = c.in-Some.target in
    let h : t < length c.loop-target.self.edges.items = c.loop-target.invariant.within t (subst (λ l. In l t) (sym c.in-Some.ensures.some) (the_last c.last.new.nodes.items t)) in
    search rules

pub loop-target-preserved : goal.loop-target-preserved
loop-target-preserved c =
    let t = c.in-Some.target in
    let lists = c.loop-target.self.edges.items in
    let rest = c.last.new.nodes.items in
    let list = c.clear.new.self in
    let e = c.in-Some.ensures.some in
    let h : t < length lists = c.loop-target.invariant.within t (subst (λ l. In l t) (sym e) (the_last rest t)) in
    record {
      within = λ n i. subst (λ k. n < k) (sym (length-set lists t list)) (c.loop-target.invariant.within n (subst (λ l. In l n) (sym e) (in_left rest _ n i)));
      spread = λ count s. spread_less count (edges_of lists) (edges_of (slice_set lists t list)) c.loop-target.self.targets.items rest t e
          (length-map (slice_set lists t list) (λ v. v.items) ∙ length-set lists t list ∙ sym (length-map lists (λ v. v.items)))
          (cleared lists t list h c.clear.ensures.items) (c.loop-target.invariant.spread count s);
    }

pub returns : goal.returns
returns c = record {
  value = λ count s.
      let now = c.loop-target.invariant.spread count s in
      record {
        bare = record { same_length = now.same_length; no_edges = λ m n i. subst (λ l. In l m) c.in_default.ensures.none (now.from_targets m n i) };
        no_targets = c.in_default.ensures.none_left;
      };
}
