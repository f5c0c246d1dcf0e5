-- The circles of groups, one after the other, and what their search asks.
use Rattle.std.proofs.Common.{◌≡◌, ℕ, zero, suc, ◌<◌, Bool, true, ⊎_elim, Some, List, [], ◌∷◌, ◌++◌, length, replicate, slice_get, refl, sym, ◌∙◌, subst}
use Rattle.std.specs.Prelude.{◌↔◌, IsTrue}
use Rattle.cx_text.specs.Members.{In}
use Rattle.cx_graphs.specs.Graphs.{Edges, IsGraph, edges_of, targets_of}
use Rattle.cx_graphs.specs.Ways.{HasCircle, LeadsWithin}
use Rattle.cx_graphs.proofs.Lists.{get_last, some_is}
use Rattle.cx_meaning.specs.declared.ports.PortRef.{PortRef}
use Rattle.cx_meaning.specs.Instances.{Instance, part_of}
use Rattle.cx_meaning.specs.Active.{nothing, group}
use Rattle.cx_rules.specs.Footprints.{Leads}
use Rattle.cx_rules.specs.RaceRule.{HasCycle}
use Rattle.cx_design_leads.specs.Nodes.{node_count}
use Rattle.cx_design_leads.specs.Edges.{HasEdges, IsGroupOf, LeadsInGroup}
use Rattle.cx_design_leads.specs.declared.leading.GroupLeads.{GroupLeads}
use Rattle.cx_design_leads.proofs.NodeLemmas.{within}
use Rattle.cx_comb.specs.Circles.{AreCircles, AreGroupCircles}
use Rattle.cx_comb.specs.Pruning.{IsPruned, ServesGroups}

pub no_circles : (i : Instance) → AreGroupCircles i []
no_circles i g found e = absurd (cc)

pub more_circles : (i : Instance) (before after : List Bool) (found : Bool) (g : ℕ) → length before ≡ g → after ≡ before ++ found ∷ [] → AreGroupCircles i before → IsTrue found ↔ HasCycle i (group g) → AreGroupCircles i after
more_circles i before after found g long e are is h other f =
    ⊎_elim
    (λ x. are h other x)
    (λ x. subst (λ b. IsTrue b ↔ HasCycle i (group h)) x.1 (subst (λ k. IsTrue found ↔ HasCycle i (group k)) (sym (x.0 ∙ long)) is))
    (get_last before found other h (subst (λ l. slice_get l h ≡ Some other) e f))

all_true : (count g : ℕ) (found : Bool) → slice_get (replicate count true) g ≡ Some found → found ≡ true
all_true zero g found e = absurd (cc)
all_true (suc count) zero found e = sym (some_is true found e)
all_true (suc count) (suc g) found e = all_true count g found e

-- where the continuous assignments have a circle, so they have with each group
pub all_circles : (i : Instance) (flags : List Bool) (count : ℕ) → flags ≡ replicate count true → length flags ≡ length (part_of i).groups → HasCycle i nothing → ((g : ℕ) → HasCycle i (group g)) → AreCircles i true flags
all_circles i flags count e long bare all = record {
  bare = (λ t. bare, λ h. refl);
  count = long;
  grouped = λ g found f. (λ t. all g, λ h. all_true count g found (subst (λ l. slice_get l g ≡ Some found) e f));
}

edges_within : (i : Instance) (relation : PortRef → PortRef → Type 0) (g : Edges) → HasEdges i relation g → (m n : ℕ) → In (targets_of g m) n → n < node_count i
edges_within i relation g h m n e = let b = h.sound m n e in within i b.to n b.is_to

pub leads_graph : (i : Instance) (relation : PortRef → PortRef → Type 0) (g : Edges) → HasEdges i relation g → IsGraph g
leads_graph i relation g h n m e = subst (λ k. m < k) (sym h.same_length) (edges_within i relation g h n m e)

pub served : (i : Instance) (graph pruned : Edges) → HasEdges i (Leads i nothing) graph → (HasCircle (targets_of graph) → ⊥) → (marks : List Bool) × IsPruned i graph marks pruned → ServesGroups i pruned
served i graph pruned edges none p = record { graph = graph; marks = p.0; edges = edges; no_circle = none; is_pruned = p.1 }

pub pruned_length : (i : Instance) (pruned : Edges) → ServesGroups i pruned → length pruned ≡ node_count i
pruned_length i pruned s = s.is_pruned.kept.same_length ∙ s.edges.same_length

pub pruned_graph : (i : Instance) (pruned : Edges) → ServesGroups i pruned → IsGraph pruned
pruned_graph i pruned s n m e = subst (λ k. m < k) (sym (pruned_length i pruned s)) (edges_within i (Leads i nothing) s.graph s.edges n m (s.is_pruned.kept.sound n m e))

pub group_within : (i : Instance) (g : ℕ) (more : GroupLeads) → IsGroupOf i g more → LeadsWithin (node_count i) (edges_of more.edges.items)
group_within i g more h n m e = edges_within i (LeadsInGroup i g) (edges_of more.edges.items) h.edges n m e
