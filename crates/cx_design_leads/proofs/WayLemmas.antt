-- Ways of nodes and chains of ports.
use Rattle.std.proofs.Common.{◌≡◌, ℕ, inl, inr, ⊎_elim, Some, sym, subst}
use Rattle.cx_text.proofs.MemberLaws.{in_either, in_left, in_right}
use Rattle.cx_text.specs.Members.{In}
use Rattle.cx_graphs.specs.Graphs.{Edges, targets_of}
use Rattle.cx_graphs.specs.Ways.{Targets, Way, edge, further, both}
use Rattle.cx_meaning.specs.declared.ports.PortRef.{PortRef}
use Rattle.cx_meaning.specs.Instances.{Instance}
use Rattle.cx_meaning.specs.Active.{Active, nothing, group}
use Rattle.cx_rules.specs.Footprints.{Leads, Depends, at_once, by_way_of}
use Rattle.cx_design_leads.specs.Nodes.{node_of}
use Rattle.cx_design_leads.specs.Edges.{Between, HasEdges, LeadsInGroup}
use Rattle.cx_design_leads.proofs.NodeLemmas.{distinct}
use Rattle.cx_design_leads.proofs.DriverLemmas.{leads_by_group, by_group_leads}

-- a chain of ports from one node to another
pub record Chain (i : Instance) (act : Active) (m n : ℕ) : Type 0 where
  pub from : PortRef
  pub to : PortRef
  pub is_from : node_of i from ≡ Some m
  pub is_to : node_of i to ≡ Some n
  pub depends : Depends i act from to

module _ (i : Instance) (act : Active) (targets : Targets) (sound : (m n : ℕ) → In (targets m) n → Between i (Leads i act) m n) where
  pub way_depends : {m n : ℕ} → Way targets m n → Chain i act m n
  way_depends {m} {n} (edge e) = let b = sound m n e in record { from = b.from; to = b.to; is_from = b.is_from; is_to = b.is_to; depends = at_once b.leads }
  way_depends {m} {n} (further k e w) =
      let b = sound m k e in
      let r = way_depends w in
      record {
        from = b.from;
        to = r.to;
        is_from = b.is_from;
        is_to = r.is_to;
        depends = by_way_of b.to b.leads (subst (λ p. Depends i act p r.to) (sym (distinct i b.to r.from k b.is_to r.is_from)) r.depends);
      }

module _ (i : Instance) (act : Active) (targets : Targets) (all : (m n : ℕ) → Between i (Leads i act) m n → In (targets m) n)
    (has : (p q : PortRef) → Leads i act p q → (m : ℕ) × (node_of i p ≡ Some m)) where
  pub node_way : {p q : PortRef} (n : ℕ) → node_of i q ≡ Some n → Depends i act p q → (m : ℕ) × (node_of i p ≡ Some m) × Way targets m n
  node_way {p} {q} n e (at_once l) =
      let m = has p q l in (m.0, m.1, edge (all m.0 n (record { from = p; to = q; is_from = m.1; is_to = e; leads = l })))
  node_way {p} {q} n e (by_way_of r l d) =
      let w = node_way n e d in
      let m = has p r l in
      (m.0, m.1, further w.0 (all m.0 w.0 (record { from = p; to = r; is_from = m.1; is_to = w.1; leads = l })) w.2)

-- what leads on by the continuous assignments does so under each group
pub bare_between : (i : Instance) (g m n : ℕ) → Between i (Leads i nothing) m n → Between i (Leads i (group g)) m n
bare_between i g m n b = record { from = b.from; to = b.to; is_from = b.is_from; is_to = b.is_to; leads = by_group_leads i g b.from b.to m b.is_from (inl b.leads) }

-- under a group the edges of the graph and those of the group
module _ (i : Instance) (g : ℕ) (graph more : Edges) (bare : HasEdges i (Leads i nothing) graph) (own : HasEdges i (LeadsInGroup i g) more) where
  pub group_sound : (m n : ℕ) → In (both graph more m) n → Between i (Leads i (group g)) m n
  group_sound m n e =
      ⊎_elim
      (λ j. bare_between i g m n (bare.sound m n j))
      (λ j. let b = own.sound m n j in record { from = b.from; to = b.to; is_from = b.is_from; is_to = b.is_to; leads = by_group_leads i g b.from b.to m b.is_from (inr b.leads) })
      (in_either (targets_of graph m) (targets_of more m) n e)

  pub group_all : (m n : ℕ) → Between i (Leads i (group g)) m n → In (both graph more m) n
  group_all m n b =
      ⊎_elim
      (λ l. in_left (targets_of graph m) (targets_of more m) n (bare.all m n (record { from = b.from; to = b.to; is_from = b.is_from; is_to = b.is_to; leads = l })))
      (λ l. in_right (targets_of graph m) (targets_of more m) n (own.all m n (record { from = b.from; to = b.to; is_from = b.is_from; is_to = b.is_to; leads = l })))
      (leads_by_group i g b.from b.to m b.is_from b.leads)
