-- The net of an accepted design holds what its rows and registers can, from the reset on, so that a whole look of it solves the equations.
use Rattle.std.proofs.Common.{◌≡◌, ℕ, ◌<◌, Bool, true, false, List, [], length, Option, Some, None, IsSome, refl, sym, ap, ◌∙◌, subst}
use Rattle.cx_bits.specs.BitVector.{BitVector}
use Rattle.cx_text.specs.Loading.{FitsRows}
use Rattle.cx_meaning.specs.declared.kinds.PortDecl.{PortDecl}
use Rattle.cx_meaning.specs.Designs.{PlainDesign}
use Rattle.cx_meaning.specs.Instances.{Path, tree_of}
use Rattle.cx_rules.specs.Flat.{IsFlat}
use Rattle.cx_rules.specs.Accepted.{IsAccepted}
use Rattle.cx_rules.specs.Wellformed.{IsDesign}
use Rattle.cx_rules.specs.Ports.{declared_width}
use Rattle.cx_net.specs.Nets.{PlainNetComponent}
use Rattle.cx_net.specs.NetTree.{NetInstance, net_part, net_tree}
use Rattle.cx_net.specs.NetMeaning.{NetState, Node, NetLook, NetHas, outside, truth_bit}
use Rattle.cx_net.specs.NetEdges.{net_after}
use Rattle.cx_net.specs.NetRuns.{IsWholeLook, AreWords, net_start, Comes, at_reset, at_first, at_next}
use Rattle.cx_net.specs.NetHolds.{Holds}
use Rattle.cx_net.proofs.DriverLemmas.{part-within}
use Rattle.cx_net.proofs.HoldLaws as laws
use Rattle.cx_static.specs.Lowering.{lowered_of}
use Rattle.cx_wiring.specs.Reached.{has_number, order}
use Rattle.cx_wiring.specs.Wiring.{net_of}
use Rattle.cx_wiring.specs.PartNets.{wired_in, timers_of, net_of_instance}
use Rattle.cx_wiring.specs.NetNames.{TreeNames}
use Rattle.cx_wiring.specs.NetBits.{is_bit, input_width}
use Rattle.cx_wiring.proofs.WayLemmas.{count_is, placed}
use Rattle.cx_wiring.proofs.MainLaws.{order_main, rows_of-net_of}
use Rattle.cx_wiring.proofs.NetTrees.{net_tree-net_of}
use Rattle.cx_wiring.proofs.FitNets.{net_fits}
use Rattle.cx_wiring.proofs.FitTargets.{targets_there}
use Rattle.cx_wiring.proofs.WideNets.{rows_are_wide, net_wide}
use Rattle.cx_wiring.proofs.FitTrees.{tree_names, bit_value, bits_are}
use Rattle.cx_wiring_cycles.specs.IslandNumbers.{of_island}
use Rattle.cx_wiring_runs.proofs.WholeLooks.{whole_solves}
use Rattle.cx_wiring_runs.specs.BlockNumbers.{component_numbers}
use Rattle.cx_wiring_runs.specs.Blocks.{block, Solves}
use Rattle.cx_wiring_runs.proofs.StartHolds.{holds_at_start, start_holds}

module _ (d : PlainDesign) (design : IsDesign d) (flat : IsFlat d) (accepted : IsAccepted d) where
  abbrev tree : NetInstance
  tree = net_of_instance (wired_in d) timers_of (component_numbers of_island) (tree_of d)

  pub same : net_tree (net_of (lowered_of d)) ≡ net_of_instance (wired_in d) timers_of (component_numbers of_island) (tree_of d)
  same = net_tree-net_of d design (component_numbers of_island)

  -- the state holds what the net can
  abbrev pub HoldsNet : NetState → Type 0
  HoldsNet v = Holds (net_of (lowered_of d)) (net_of (lowered_of d)).main v

  names : TreeNames (net_of_instance (wired_in d) timers_of (component_numbers of_island) (tree_of d))
  names = subst TreeNames same (tree_names (net_of (lowered_of d)) (net_fits d design flat accepted) (targets_there d design flat accepted))

  bits : (go : Bool) (v : NetState) (look : NetLook) → HoldsNet v → IsWholeLook (net_of_instance (wired_in d) timers_of (component_numbers of_island) (tree_of d)) go v look → (path : Path) (node : Node)
      → is_bit (net_of_instance (wired_in d) timers_of (component_numbers of_island) (tree_of d)) path node ≡ true → (b : Bool) × (look path node ≡ Some (truth_bit b))
  bits =
      subst (λ t. (go : Bool) (v : NetState) (look : NetLook) → HoldsNet v → IsWholeLook t go v look → (path : Path) (node : Node) → is_bit t path node ≡ true → (b : Bool) × (look path node ≡ Some (truth_bit b))) same
      (bits_are (net_of (lowered_of d)) (net_fits d design flat accepted) (targets_there d design flat accepted) (net_wide d design) rows_are_wide)

  -- main has no inputs
  bare : (net_part (net_of_instance (wired_in d) timers_of (component_numbers of_island) (tree_of d))).inputs ≡ []
  bare =
      let main_here : has_number d.main (order (lowered_of d)) ≡ true = order_main (lowered_of d) (subst (λ n. d.main < n) (sym (count_is d design)) design.main_there) in
      ap (λ t. (net_part t).inputs) (sym same) ∙ ap (λ (x : PlainNetComponent). x.inputs) (part-within (net_of (lowered_of d)) (length (net_of (lowered_of d)).components) (net_of (lowered_of d)).main ∙ placed d design d.main main_here)
      ∙ design.main_bare.0

  no_input : (n w : ℕ) → input_width (net_of_instance (wired_in d) timers_of (component_numbers of_island) (tree_of d)) n ≡ Some w → ⊥
  no_input n w e = let none : None ≡ Some w = sym (ap (λ (decls : List PortDecl). declared_width decls n) bare) ∙ e in cc

  some_value : (o : Option BitVector) → IsSome o → (x : BitVector) × (o ≡ Some x)
  some_value None i = absurd cc
  some_value (Some x) i = (x, refl)

  -- A WHOLE LOOK SOLVES, whatever go is
  pub design_solves : (go : Bool) (v : NetState) (look : NetLook) → HoldsNet v → IsWholeLook (net_of_instance (wired_in d) timers_of (component_numbers of_island) (tree_of d)) go v look
      → Solves (block (wired_in d) timers_of (component_numbers of_island) (tree_of d)) (outside go) v look
  design_solves go v look holds whole = record {
    whole = λ path n t. some_value (look path n) (whole.whole path n t);
    by_rule = λ path n t. whole_solves (net_of_instance (wired_in d) timers_of (component_numbers of_island) (tree_of d)) names go v look whole path n t;
    bits = λ path n t. bits go v look holds whole path n t;
    go = (go, refl);
    inputs = λ n w e. absurd (no_input n w e);
    bit_inputs = λ n e. absurd (no_input n 1 e);
  }

  -- AN EDGE
  pub design_holds_on : (go : Bool) (v : NetState) (look : NetLook) → HoldsNet v → IsWholeLook (net_of_instance (wired_in d) timers_of (component_numbers of_island) (tree_of d)) go v look → HoldsNet (net_after (net_of_instance (wired_in d) timers_of (component_numbers of_island) (tree_of d)) false go v look)
  design_holds_on =
      subst (λ t. (go : Bool) (v : NetState) (look : NetLook) → HoldsNet v → IsWholeLook t go v look → HoldsNet (net_after t false go v look)) same
      (laws.holds_on (net_of (lowered_of d)) (net_fits d design flat accepted) (net_wide d design) rows_are_wide)

  -- THE RESET
  first_holds : (words : List (List ℕ)) (look : NetLook) → AreWords d words → HoldsNet (net_after (net_tree (net_of (lowered_of d))) true false (net_start (net_tree (net_of (lowered_of d))) words) look)
  first_holds words look (memories, fits, is) =
      subst (λ ws. HoldsNet (net_after (net_tree (net_of (lowered_of d))) true false (net_start (net_tree (net_of (lowered_of d))) ws) look)) is
      (start_holds (net_of (lowered_of d)) (net_fits d design flat accepted) memories (subst (λ rows. FitsRows rows memories) (sym (rows_of-net_of d design.main_there)) fits) look)

  pub design_holds_first : (words : List (List ℕ)) (look : NetLook) → AreWords d words
      → HoldsNet (net_after (net_of_instance (wired_in d) timers_of (component_numbers of_island) (tree_of d)) true false
      (net_start (net_of_instance (wired_in d) timers_of (component_numbers of_island) (tree_of d)) words) look)
  design_holds_first = subst (λ t. (words : List (List ℕ)) (look : NetLook) → AreWords d words → HoldsNet (net_after t true false (net_start t words) look)) same first_holds

  -- EVERY STATE that comes
  pub comes_hold : (words : List (List ℕ)) → AreWords d words → (go : Bool) (v : NetState) → Comes (net_tree (net_of (lowered_of d))) words go v → HoldsNet v
  comes_hold words given false v at_reset = by given
    where
      by : AreWords d words → HoldsNet (net_start (net_tree (net_of (lowered_of d))) words)
      by (memories, fits, is) =
          subst (λ ws. HoldsNet (net_start (net_tree (net_of (lowered_of d))) ws)) is
          (holds_at_start (net_of (lowered_of d)) (net_fits d design flat accepted) memories (subst (λ rows. FitsRows rows memories) (sym (rows_of-net_of d design.main_there)) fits))
  comes_hold words given true v (at_first look whole) = first_holds words look given
  comes_hold words given true v (at_next {s} look before whole) =
      laws.holds_on (net_of (lowered_of d)) (net_fits d design flat accepted) (net_wide d design) rows_are_wide true s look (comes_hold words given true s before) whole

  -- and so each node of one bit has a bit
  pub comes_bits : (words : List (List ℕ)) → AreWords d words → (go : Bool) (s : NetState) → Comes (net_tree (net_of (lowered_of d))) words go s → (path : Path) (node : Node) → is_bit (net_tree (net_of (lowered_of d))) path node ≡ true
      → (v : BitVector) → NetHas (net_tree (net_of (lowered_of d))) go s path node v → (b : Bool) × (v ≡ truth_bit b)
  comes_bits words given go s comes =
      bit_value (net_of (lowered_of d)) (net_fits d design flat accepted) (targets_there d design flat accepted) (net_wide d design) rows_are_wide go s (comes_hold words given go s comes)
