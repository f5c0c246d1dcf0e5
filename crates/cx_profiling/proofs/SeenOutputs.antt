-- THE OUTPUTS THAT A COMPONENT HAD are seen alike in the whole tree, and nothing leads in a circle in it.
use Rattle.std.proofs.Common.{◌≡◌, ℕ, zero, suc, ◌<◌, [], length, refl}
use Rattle.cx_text.proofs.MemberLaws.{in_at}
use Rattle.cx_text.specs.Members.{In}
use Rattle.cx_meaning.specs.declared.ports.PortRef.TheVariants as ports
use Rattle.cx_meaning.specs.declared.sights.Seen.{Seen}
use Rattle.cx_meaning.specs.Designs.{PlainDesign, component_at}
use Rattle.cx_meaning.specs.Instances.{cells_of, State, under, tree_within}
use Rattle.cx_meaning.specs.Active.{nothing, entries}
use Rattle.cx_meaning.specs.Islands.{History, active_in, form_flat}
use Rattle.cx_meaning.specs.Sights.{unheld, Sees, seen}
use Rattle.cx_rules.specs.Circles.{IsAcyclic, AcyclicBelow}
use Rattle.cx_rules.specs.Items.{Visited, statements_in}
use Rattle.cx_rules.specs.Accepted.{IsAccepted}
use Rattle.cx_rules.specs.Wellformed.{IsDesign}
use Rattle.cx_rules.proofs.CircleLemmas.{within_acyclic, within_group, node_acyclic}
use Rattle.cx_rules.proofs.CirclesLemmas.{cells_below}
use Rattle.cx_laws.proofs.ApartLemmas.{stand_apart}
use Rattle.cx_laws.proofs.EdgeLemmas.{no_shared_circle}
use Rattle.cx_rewrites.specs.Tallies.{Tally, at_cell}
use Rattle.cx_profiling.specs.Growing.{Grown}
use Rattle.cx_profiling.specs.Instrumented.{with_counts}
use Rattle.cx_profiling.proofs.ListedCells.{at_component}
use Rattle.cx_profiling.proofs.GrownTrees.{InTree, child_in_tree}
use Rattle.cx_profiling.proofs.SightLemmas.{KidsAlike, seen_grows}
use Rattle.cx_profiling.proofs.GrownCycles.{grown_rows, grown_kid}

module _ (d : PlainDesign) (design : IsDesign d) (accepted : IsAccepted d) (grown_accepted : IsAccepted (with_counts d)) where
  -- circles
  pub below_here : (m k : ℕ) → AcyclicBelow (cells_of (tree_within d m k))
  below_here m k = cells_below (tree_within d m k) (within_acyclic d accepted m k)

  pub below_there : (m k : ℕ) → AcyclicBelow (cells_of (tree_within (with_counts d) m k))
  below_there m k = cells_below (tree_within (with_counts d) m k) (within_acyclic (with_counts d) grown_accepted m k)

  pub entries_here : (m k : ℕ) → k < length d.components → (v : Visited) → In (statements_in (component_at d k)) v → (h : History) (t : ℕ)
      → IsAcyclic (tree_within d (suc m) k) (entries (active_in h t (form_flat (component_at d k) v.form 0 [])))
  entries_here m k within v stands h t =
      no_shared_circle (tree_within d (suc m) k) (entries (active_in h t (form_flat (component_at d k) v.form 0 []))) (stand_apart d accepted k within v stands h t design) (node_acyclic d accepted (suc m) k)
      (λ g there. within_group d accepted (suc m) k g there)

  abbrev SeenOut : ℕ → ℕ → Type 0
  SeenOut m k = (τ : Tally) (s t : State) → Grown (tree_within d m k) τ s t → (n : ℕ) (x : Seen) → n < length (component_at d k).outputs
      → Sees (tree_within d m k) unheld nothing s (ports.Output n) x → seen (tree_within (with_counts d) m k) unheld nothing t (ports.Output n) ≡ x

  pub outputs_seen : (m k : ℕ) → InTree d m k → SeenOut m k
  outputs_seen zero k at τ s t grown n x few sees = absurd at.deep_enough
  outputs_seen (suc m) k at τ s t grown n x few sees =
      seen_grows d design m k at nothing unheld unheld (λ input less. refl) s t (grown_rows d design m k at τ s t grown)
      (λ c cell e stands is n x few sees. outputs_seen m e (child_in_tree d design at cell e (in_at (component_at d k).cells c cell stands) is) (at_cell c τ) (under c s) (under c t)
      (grown_kid d design m k at τ s t grown c (tree_within d m e) (at_component (tree_within d m) (component_at d k).cells c cell e stands is)) n x few sees)
      (node_acyclic (with_counts d) grown_accepted (suc m) k) (below_there (suc m) k) (ports.Output n) x few sees

  pub kids_seen : (m k : ℕ) (at : InTree d (suc m) k) (τ : Tally) (s t : State) → Grown (tree_within d (suc m) k) τ s t → KidsAlike d design m k at s t
  kids_seen m k at τ s t grown c cell e stands is n x few sees =
      outputs_seen m e (child_in_tree d design at cell e (in_at (component_at d k).cells c cell stands) is) (at_cell c τ) (under c s) (under c t)
      (grown_kid d design m k at τ s t grown c (tree_within d m e) (at_component (tree_within d m) (component_at d k).cells c cell e stands is)) n x few sees
