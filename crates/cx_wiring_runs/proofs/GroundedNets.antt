-- The net of every accepted design is grounded: in every state that comes every node has a value.
use Rattle.std.proofs.Common.{◌≡◌, true, ℕ, ◌<◌, ◌≤◌, Bool, List, [], length, refl, sym, ap, ◌∙◌, subst, arith}
use Rattle.cx_bits.specs.BitVector.{BitVector}
use Rattle.cx_meaning.specs.Designs.{PlainComponent, PlainDesign}
use Rattle.cx_meaning.specs.Instances as instances
use Rattle.cx_meaning.specs.Instances.{Instance, Cells, Path, part_of, tree_of, instance_at}
use Rattle.cx_meaning.specs.Active.{Active}
use Rattle.cx_rules.specs.Flat.{IsFlat}
use Rattle.cx_rules.specs.Accepted.{IsAccepted}
use Rattle.cx_rules.specs.Circles.{IsAcyclic}
use Rattle.cx_rules.specs.Items.{Dynamic}
use Rattle.cx_rules.specs.Wellformed.{IsDesign}
use Rattle.cx_rules.proofs.CircleLemmas.{instance_acyclic, instance_group}
use Rattle.cx_control.specs.Together.{IsTogether}
use Rattle.cx_control.proofs.InstanceLemmas.{instance_ports, instance_outputs}
use Rattle.cx_control.proofs.TogetherLemmas.{together_acyclic, groups_acyclic, instance_unshared}
use Rattle.cx_net.specs.NetTree.{NetInstance, net_part, net_tree}
use Rattle.cx_net.specs.NetMeaning.{NetState, AWire, NetHas, outside, truth_bit, Node, is_node}
use Rattle.cx_net.specs.NetRuns.{Comes, IsGrounded, AreWords}
use Rattle.cx_static.specs.Lowering.{lowered_component, lowered_of}
use Rattle.cx_wiring.specs.PartNets.{timers_of, wired_in, net_of_instance}
use Rattle.cx_wiring.specs.Wiring.{groups, first_of_control, net_of}
use Rattle.cx_wiring.proofs.NetTrees.{net_tree-net_of}
use Rattle.cx_wiring_runs.proofs.SeamRules.{seam_rules}
use Rattle.cx_wiring_runs.proofs.FreeOutputs.{outputs_free}
use Rattle.cx_wiring_runs.proofs.SettledLooks.{IsSettled, settled_look}
use Rattle.cx_wiring_runs.proofs.CellForms.{TableTree, net_table, forms_come, AreForms}
use Rattle.cx_wiring_runs.proofs.GroundTree.{Ruled, Down, tree_known}
use Rattle.cx_meaning.proofs.DesignsLemmas.{same_part}
use Rattle.cx_rules.proofs.CirclesLemmas.{own_acyclic}
use Rattle.cx_rules.proofs.FoundLemmas.{source_in}

module _ (d : PlainDesign) (design : IsDesign d) (flat : IsFlat d) (accepted : IsAccepted d) where
  -- nothing leads in a circle under what control may have active at once
  instance_together : (path : Path) (act : Active) → IsTogether (part_of (instance_at (tree_of d) path)).control act → IsAcyclic (instance_at (tree_of d) path) act
  instance_together path act together =
      let bare = own_acyclic (instance_at (tree_of d) path) (instance_acyclic d accepted path) in
      together_acyclic (instance_at (tree_of d) path) (instance_ports d design path)
      (λ x i n names. let r = source_in x.assign _ names in instance_outputs d accepted path x i r.0 r.1 n r.2)
      bare (groups_acyclic (instance_at (tree_of d) path) bare (instance_group d accepted path)) together Dynamic (instance_unshared d accepted path)

  -- numbers of instances are not asked for
  abbrev pub unnumbered : Instance → NetState → ℕ → ℕ
  unnumbered i v n = 0

  all_ruled : Ruled d unnumbered (tree_of d)
  all_ruled path = record { seam = seam_rules d design flat accepted path; free = outputs_free d accepted path; acyclic = instance_together path }

  abbrev tree : NetInstance
  tree = net_of_instance (wired_in d) timers_of unnumbered (tree_of d)

  pub tree_is : net_tree (net_of (lowered_of d)) ≡ tree
  tree_is = net_tree-net_of d design unnumbered

  -- main has no inputs
  no_input : (i : Instance) (m : ℕ) → m < length (net_part (net_of_instance (wired_in d) timers_of unnumbered i)).inputs → (part_of i).inputs ≡ [] → ⊥
  no_input (instances.Node part cells) m less bare = let none : m < 0 = subst (λ x. m < length x) bare less in omega (arith, none)

  -- EVERY NODE has a value in a state whose cells have their forms, where the wires of islands have bits
  pub tree_valued : (go : Bool) (s : NetState) → AreForms (net_of_instance (wired_in d) timers_of unnumbered (tree_of d)) s.cell
      → ((path : Path) (part : PlainComponent) (cells : Cells) → Down d unnumbered (tree_of d) path (instances.Node part cells) → (n : ℕ) (v : BitVector) → groups (lowered_component part) ≤ n
      → n < first_of_control (lowered_component part) → NetHas (net_of_instance (wired_in d) timers_of unnumbered (tree_of d)) go s path (AWire n) v → (b : Bool) × (v ≡ truth_bit b))
      → (path : Path) (n : Node) → is_node (net_of_instance (wired_in d) timers_of unnumbered (tree_of d)) path n ≡ true → (v : BitVector) × NetHas (net_of_instance (wired_in d) timers_of unnumbered (tree_of d)) go s path n v
  tree_valued go s forms narrow path n there =
      let settled = settled_look tree go s in
      let bare : (part_of (tree_of d)).inputs ≡ [] = ap (λ (x : PlainComponent). x.inputs) (same_part d (length d.components) d.main) ∙ design.main_bare.0 in
      let known = tree_known d unnumbered (tree_of d) all_ruled (outside go) s settled.0 (IsSettled.solves settled.1) forms (truth_bit go, refl) (λ m less. absurd (no_input (tree_of d) m less bare))
      (λ p part cells down m v low high e. narrow p part cells down m v low high (IsSettled.right settled.1 p (AWire m) v e)) path n there in
      (known.0, IsSettled.right settled.1 path n known.0 known.1)

  module _ (narrow : (loaded : List (List ℕ)) → AreWords d loaded → (go : Bool) (s : NetState) → Comes (net_tree (net_of (lowered_of d))) loaded go s → (path : Path) (part : PlainComponent) (cells : Cells) → Down d unnumbered (tree_of d) path (instances.Node part cells)
      → (n : ℕ) (v : BitVector) → groups (lowered_component part) ≤ n → n < first_of_control (lowered_component part) → NetHas (net_tree (net_of (lowered_of d))) go s path (AWire n) v → (b : Bool) × (v ≡ truth_bit b)) where
    tree_grounded : IsGrounded (AreWords d) tree
    tree_grounded loaded fits go s comes =
        tree_valued go s (forms_come tree loaded (subst TableTree tree_is (net_table (net_of (lowered_of d)))) go s comes)
        (λ p part cells down m v low high has. narrow loaded fits go s (subst (λ t. Comes t loaded go s) (sym tree_is) comes) p part cells down m v low high (subst (λ t. NetHas t go s p (AWire m) v) (sym tree_is) has))

    -- EVERY NODE has a value in every state that comes, where the wires of islands have bits
    pub grounded_where : IsGrounded (AreWords d) (net_tree (net_of (lowered_of d)))
    grounded_where = subst (IsGrounded (AreWords d)) (sym tree_is) tree_grounded
