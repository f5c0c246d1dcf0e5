-- Ports that depend on themselves are circles of nodes.
use Rattle.std.proofs.Common.{◌≡◌, ℕ, ◌<◌, Bool, Some, List, length, sym, ◌∙◌, subst}
use Rattle.std.specs.Prelude.{◌↔◌, IsTrue}
use denote.Struct.Props.{props}
use Rattle.std.proofs.Math.Logic.{∥∥₁_elim}
use Rattle.cx_text.specs.Members.{In}
use Rattle.cx_graphs.specs.Graphs.{Edges, targets_of, Marked}
use Rattle.cx_graphs.specs.Ways.{Targets, Way, HasCircle, HasCircleFrom, both}
use Rattle.cx_meaning.specs.declared.ports.PortRef.{PortRef}
use Rattle.cx_meaning.specs.Designs.{PlainDesign}
use Rattle.cx_meaning.specs.Instances.{Instance}
use Rattle.cx_meaning.specs.Active.{Active, nothing, group}
use Rattle.cx_rules.specs.Footprints.{Leads, Depends, at_once, by_way_of}
use Rattle.cx_rules.specs.RaceRule.{HasCycle}
use Rattle.cx_rules.specs.Ports.{component_of}
use Rattle.cx_rules.specs.Wellformed.{IsDesign}
use Rattle.cx_design_leads.specs.Nodes.{node_of}
use Rattle.cx_design_leads.specs.Edges.{Between, HasEdges, LeadsInGroup}
use Rattle.cx_design_leads.proofs.NodeLemmas.{distinct}
use Rattle.cx_design_leads.proofs.WayLemmas.{way_depends, node_way, bare_between, group_sound, group_all}
use Rattle.cx_design_leads.proofs.ThereLemmas.{leads_there}
use Rattle.cx_design_leads.proofs.EdgeLemmas.{driven_from}
use Rattle.cx_comb.specs.Pruning.{IsPruned}
use Rattle.cx_comb.proofs.PruneLemmas.{circle_kept, pruned_circle}
use Rattle.cx_text.proofs.OptionLaws.{some_is}

module _ (i : Instance) (act : Active) (targets : Targets) (sound : (m n : ℕ) → In (targets m) n → Between i (Leads i act) m n) where
  pub circle_cycle : HasCircle targets → HasCycle i act
  circle_cycle (n, w) =
      let r = way_depends i act targets sound w in (r.from, subst (λ p. Depends i act r.from p) (sym (distinct i r.from r.to n r.is_from r.is_to)) r.depends)

module _ (i : Instance) (act : Active) (targets : Targets) (all : (m n : ℕ) → Between i (Leads i act) m n → In (targets m) n)
    (has : (p q : PortRef) → Leads i act p q → (m : ℕ) × (node_of i p ≡ Some m)) where
  first_node : {p q : PortRef} → Depends i act p q → (m : ℕ) × (node_of i p ≡ Some m)
  first_node {p} {q} (at_once l) = has p q l
  first_node {p} {q} (by_way_of r l d) = has p r l

  pub cycle_circle : HasCycle i act → HasCircle targets
  cycle_circle (p, d) =
      let m = first_node d in
      let w = node_way i act targets all has m.0 m.1 d in
      let same : w.0 ≡ m.0 = some_is w.0 m.0 (sym w.1 ∙ m.1) in
      (m.0, subst (λ k. Way targets k m.0) same w.2)

-- a circle of the continuous assignments is one under each group
pub bare_cycles : (i : Instance) (g : ℕ) (graph : Edges) → HasEdges i (Leads i nothing) graph → HasCircle (targets_of graph) → HasCycle i (group g)
bare_cycles i g graph bare circle =
    circle_cycle i (group g) (targets_of graph) (λ m n e. bare_between i g m n (bare.sound m n e)) circle

-- what is found of the continuous assignments, and of a group in the pruned graph
module _ (d : PlainDesign) (k : ℕ) (keeps : ∥ IsDesign d ∥₁) (within : k < length d.components) (graph : Edges) (bare : HasEdges (component_of d k) (Leads (component_of d k) nothing) graph) where
  abbrev at : Instance
  at = component_of d k

  pub bare_found : (found : Bool) → IsTrue found ↔ HasCircle (targets_of graph) → IsTrue found ↔ HasCycle at nothing
  bare_found found is = (
    λ t. circle_cycle at nothing (targets_of graph) bare.sound (is.0 t),
    λ cycle. ∥∥₁_elim keeps (hlevel props) (λ design. is.1 (cycle_circle at nothing (targets_of graph) bare.all (λ p q l. leads_there d k design within nothing p q l) cycle)),
  )

  pub group_found : (g : ℕ) (marks : List Bool) (pruned more : Edges) (starts : List ℕ) (found : Bool) → (HasCircle (targets_of graph) → ⊥) → IsPruned at graph marks pruned
      → HasEdges at (LeadsInGroup at g) more → ((m n : ℕ) → In (targets_of more m) n → In starts m)
      → IsTrue found ↔ HasCircleFrom (both pruned more) starts → IsTrue found ↔ HasCycle at (group g)
  group_found g marks pruned more starts found none p own begins is = (
    λ t. circle_cycle at (group g) (both graph more) (group_sound at g graph more bare own) (pruned_circle graph more pruned starts p.kept.sound (is.0 t)),
    λ cycle. ∥∥₁_elim keeps (hlevel props) (λ design. is.1 (circle_kept graph more pruned (Marked marks) p.kept.all
        (λ m n e. let a = driven_from at g m n (own.sound m n e) in p.driven g a.0 m a.1 a.2) p.along
        starts begins none (cycle_circle at (group g) (both graph more) (group_all at g graph more bare own) (λ p q l. leads_there d k design within (group g) p q l) cycle))),
  )
