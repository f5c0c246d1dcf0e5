-- The net of an accepted design is grounded: the wires of its islands are bits in every state that comes.
use Rattle.std.proofs.Common.{◌≡◌, ℕ, zero, suc, ◌<◌, ◌≤◌, ◌==◌, true, false, List, [], ◌∷◌, sym, ap, ◌∙◌, subst, arith}
use Rattle.std.specs.Option.{option_map_or}
use Rattle.cx_prim.specs.Rows.{Row}
use Rattle.cx_meaning.specs.Designs.{PlainComponent, PlainDesign}
use Rattle.cx_meaning.specs.Instances as instances
use Rattle.cx_meaning.specs.Instances.{Instance, Cells, no_cells, a_primitive, an_instance, OfInstance, cell_at, Path, tree_of}
use Rattle.cx_rules.specs.Flat.{IsFlat}
use Rattle.cx_rules.specs.Accepted.{IsAccepted}
use Rattle.cx_rules.specs.Wellformed.{IsDesign}
use Rattle.cx_net.specs.NetTree.{net_tree}
use Rattle.cx_net.specs.NetMeaning.{NetState, Node, AWire}
use Rattle.cx_net.specs.NetRuns.{IsGrounded, AreWords}
use Rattle.cx_static.specs.Lowering.{lowered_component, lowered_of}
use Rattle.cx_wiring.specs.PartNets.{timers_of, wired_in, net_of_instance, net_of_cells}
use Rattle.cx_wiring.specs.NetBits.{is_bit, is_bit_below}
use Rattle.cx_wiring.specs.Wiring.{groups, bits, plain_wires, first_of_control, net_of}
use Rattle.cx_wiring.proofs.NetTrees.{net_tree-net_of}
use Rattle.cx_wiring.proofs.NetTargets.{bit_wire}
use Rattle.cx_wiring_runs.proofs.GroundTree.{Down}
use Rattle.cx_wiring_runs.proofs.GroundedNets.{grounded_where}
use Rattle.cx_wiring_runs.proofs.DesignHolds.{comes_bits}
use Rattle.cx_text.proofs.ListLaws.{front}

module _ (d : PlainDesign) where
  -- numbers of instances are not asked for
  abbrev pub unnumbered : Instance → NetState → ℕ → ℕ
  unnumbered i v n = 0

  bit_child : (cells : Cells) (more : List Row) (c : ℕ) (kid : Instance) → cell_at cells c ≡ OfInstance kid → (path : Path) (node : Node)
      → is_bit_below (net_of_cells (wired_in d) timers_of unnumbered cells more) c path node ≡ is_bit (net_of_instance (wired_in d) timers_of unnumbered kid) path node
  bit_child no_cells more c kid at path node = absurd cc
  bit_child (a_primitive row rest) more zero kid at path node = absurd cc
  bit_child (a_primitive row rest) more (suc c) kid at path node = bit_child rest more c kid at path node
  bit_child (an_instance child rest) more zero kid at path node = let same : child ≡ kid = cc in ap (λ i. is_bit (net_of_instance (wired_in d) timers_of unnumbered i) path node) same
  bit_child (an_instance child rest) more (suc c) kid at path node = bit_child rest more c kid at path node

  -- the wires of islands are of one bit
  pub wire_bit : (i : Instance) (path : Path) (part : PlainComponent) (cells : Cells) → Down d unnumbered i path (instances.Node part cells) → (n : ℕ) → groups (lowered_component part) ≤ n → n < first_of_control (lowered_component part)
      → is_bit (net_of_instance (wired_in d) timers_of unnumbered i) path (AWire n) ≡ true
  wire_bit i [] part cells down n low high =
      subst (λ j. is_bit (net_of_instance (wired_in d) timers_of unnumbered j) [] (AWire n) ≡ true) (sym down)
      (ap (λ o. option_map_or (λ w. w == 1) o false) (front (plain_wires (lowered_component part)) _ n 1 (bit_wire (groups (lowered_component part)) (bits (lowered_component part)) n low (omega arith))))
  wire_bit (instances.Node outer others) (c ∷ path) part cells (kid, at, down) n low high = bit_child others (timers_of outer) c kid at path (AWire n) ∙ wire_bit kid path part cells down n low high

  -- THE NET IS GROUNDED
  pub design_grounded : IsDesign d → IsFlat d → IsAccepted d → IsGrounded (AreWords d) (net_tree (net_of (lowered_of d)))
  design_grounded design flat accepted =
      grounded_where d design flat accepted (λ loaded fits go s comes path part cells down n v low high has.
      comes_bits d design flat accepted loaded fits go s comes path (AWire n) (subst (λ t. is_bit t path (AWire n) ≡ true) (sym (net_tree-net_of d design unnumbered)) (wire_bit (tree_of d) path part cells down n low high)) v has)
