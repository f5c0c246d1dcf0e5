-- THE PROMOTED TREE keeps the order of its tree: assignments of dones are left out, and invokes stay.
use Rattle.std.proofs.Common.{◌≡◌, ℕ, suc, Bool, true, false, List, [], ◌∷◌, map, flat_map, Option, Some, None, option_map, refl, ap, subst, if◌then◌else◌}
use Rattle.cx_text.specs.declared.places.Place.{Place}
use Rattle.cx_ast.specs.declared.operands.OperandForm.{OperandForm}
use Rattle.cx_ast.specs.PlainStatements as statements
use Rattle.cx_ast.specs.PlainTree as ast
use Rattle.cx_meaning.specs.Instances.{Instance}
use Rattle.cx_rules.specs.Ports.{component_of}
use Rattle.cx_numbering.specs.DesignOf.{design_of}
use Rattle.cx_promotion.specs.Rewriting.{BELOW_CONTROL, is_hole_item, bare_enable, promote_assigns, promote_group, promote_block, length_of, is_long, enables, promote_wire, promote_component, components_from}
use Rattle.cx_promote.proofs.ControlPromoted.{block_invokes}
use Rattle.cx_rewritten.specs.Ordered.{wire_places, invoke_places, places_in, AreOf, none_left, left_out, one_kept, StandAs}
use Rattle.cx_rewritten.proofs.OrderLemmas.{all_of, both_of}

-- ASSIGNMENTS
abbrev places : List ast.PlainAssign → List Place
places assigns = map (λ a. a.place) assigns

module _ (enabling : OperandForm → Bool) where
  bare_place : (a : ast.PlainAssign) → a.place ≡ (bare_enable enabling a).place
  bare_place a = by (enabling a.target.form)
    where
      by : (b : Bool) → a.place ≡ (if b then record a { guard = None } else a).place
      by true = refl
      by false = refl

  assigns_stand : (list : List ast.PlainAssign) → AreOf (places (promote_assigns enabling list)) (places list)
  assigns_stand [] = none_left
  assigns_stand (a ∷ rest) = by (is_hole_item a.target.form) (assigns_stand rest)
    where
      by : (b : Bool) → AreOf (places (promote_assigns enabling rest)) (places rest)
          → AreOf (places (if b then promote_assigns enabling rest else bare_enable enabling a ∷ promote_assigns enabling rest)) (a.place ∷ places rest)
      by true more = left_out more
      by false more = subst (λ p. AreOf (p ∷ places (promote_assigns enabling rest)) (a.place ∷ places rest)) (bare_place a) (one_kept more)

  group_stands : (length : Option ℕ) (g : ast.PlainGroup) → AreOf (places (promote_group enabling length g).assigns) (places g.assigns)
  group_stands None g = all_of (places g.assigns)
  group_stands (Some n) g = assigns_stand g.assigns

-- INVOKES stay
control_places : (long : List ℕ → Bool) (c : Option statements.PlainBlock) → invoke_places (option_map (promote_block long BELOW_CONTROL true) c) ≡ invoke_places c
control_places long None = refl
control_places long (Some block) = ap (map (λ k. k.place)) (block_invokes long BELOW_CONTROL true block)

-- A COMPONENT
module _ (tree : ast.PlainTree) (part : ast.PlainComponent) (i : Instance) where
  wires_stand : (ws : List ast.PlainWire) → AreOf (flat_map wire_places (map (promote_wire tree part i) ws)) (flat_map wire_places ws)
  wires_stand [] = none_left
  wires_stand (ast.Group g ∷ ws) = both_of (group_stands (enables tree part i) (length_of tree part i g) g) (wires_stand ws)
  wires_stand (ast.Assign a ∷ ws) = one_kept (wires_stand ws)

  part_stands : AreOf (places_in (promote_component tree part i)) (places_in part)
  part_stands =
      both_of (wires_stand part.wires)
      (subst (λ ps. AreOf (invoke_places (option_map (promote_block (is_long tree part i) BELOW_CONTROL true) part.control)) ps) (control_places (is_long tree part i) part.control) (all_of _))

-- ALL OF THEM
pub components_stand : (tree : ast.PlainTree) (k : ℕ) (parts : List ast.PlainComponent) → StandAs (components_from tree k parts) parts
components_stand tree k [] = tt
components_stand tree k (part ∷ parts) = (part_stands tree part (component_of (design_of tree) k), components_stand tree (suc k) parts)
