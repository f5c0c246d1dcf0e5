-- In the net of an accepted design every node has a value in each state that holds what its rows and registers can, whatever go is.
use Rattle.std.proofs.Common.{◌≡◌, ℕ, ◌<◌, ◌≤◌, Bool, true, sym, subst}
use Rattle.cx_bits.specs.BitVector.{BitVector}
use Rattle.cx_meaning.specs.Designs.{PlainComponent, PlainDesign}
use Rattle.cx_meaning.specs.Instances as instances
use Rattle.cx_meaning.specs.Instances.{Cells, Path, tree_of}
use Rattle.cx_rules.specs.Flat.{IsFlat}
use Rattle.cx_rules.specs.Accepted.{IsAccepted}
use Rattle.cx_rules.specs.Wellformed.{IsDesign}
use Rattle.cx_net.specs.NetTree.{NetInstance, net_tree}
use Rattle.cx_net.specs.NetMeaning.{NetState, Node, AWire, NetHas, truth_bit}
use Rattle.cx_static.specs.Lowering.{lowered_component, lowered_of}
use Rattle.cx_wiring.specs.PartNets.{timers_of, wired_in, net_of_instance}
use Rattle.cx_wiring.specs.NetBits.{is_bit}
use Rattle.cx_wiring.specs.Wiring.{groups, first_of_control, net_of}
use Rattle.cx_wiring.proofs.FitNets.{net_fits}
use Rattle.cx_wiring.proofs.FitTargets.{targets_there}
use Rattle.cx_wiring.proofs.FitTrees.{bit_value}
use Rattle.cx_wiring.proofs.WideNets.{rows_are_wide, net_wide}
use Rattle.cx_wiring_runs.proofs.CellForms.{AreForms}
use Rattle.cx_wiring_runs.proofs.GroundTree.{Down}
use Rattle.cx_wiring_runs.proofs.GroundedRuns.{HasLook, whole_look}
use Rattle.cx_wiring_runs.proofs.GroundedNets.{tree_is, tree_valued}
use Rattle.cx_wiring_runs.proofs.DesignHolds.{HoldsNet}
use Rattle.cx_wiring_runs.proofs.DesignGrounded.{unnumbered, wire_bit}
use Rattle.cx_emitted.proofs.FormLemmas.{net_forms}

module _ (d : PlainDesign) (design : IsDesign d) (flat : IsFlat d) (accepted : IsAccepted d) where
  abbrev whole : NetInstance
  whole = net_of_instance (wired_in d) timers_of (unnumbered d) (tree_of d)

  tree_same : net_tree (net_of (lowered_of d)) ≡ whole
  tree_same = tree_is d design flat accepted

  narrow : (go : Bool) (s : NetState) → HoldsNet d design flat accepted s → (path : Path) (part : PlainComponent) (cells : Cells) → Down d (unnumbered d) (tree_of d) path (instances.Node part cells)
      → (n : ℕ) (v : BitVector) → groups (lowered_component part) ≤ n → n < first_of_control (lowered_component part) → NetHas whole go s path (AWire n) v → (b : Bool) × (v ≡ truth_bit b)
  narrow go s holds path part cells down n v low high has =
      bit_value (net_of (lowered_of d)) (net_fits d design flat accepted) (targets_there d design flat accepted) (net_wide d design) rows_are_wide go s holds path (AWire n)
      (subst (λ t. is_bit t path (AWire n) ≡ true) (sym tree_same) (wire_bit d (tree_of d) path part cells down n low high)) v (subst (λ t. NetHas t go s path (AWire n) v) (sym tree_same) has)

  -- SO THERE IS A WHOLE LOOK
  pub has_look : (go : Bool) (s : NetState) → HoldsNet d design flat accepted s → HasLook (net_tree (net_of (lowered_of d))) go s
  has_look go s holds =
      let forms = subst (λ t. AreForms t s.cell) tree_same (net_forms (net_of (lowered_of d)) s holds) in
      subst (λ t. HasLook t go s) (sym tree_same) (whole_look whole go s (tree_valued d design flat accepted go s forms (narrow go s holds)))
