-- The net of a component from its parts.
use Rattle.std.proofs.Common.{◌≡◌, ℕ, ◌+◌, ◌-◌, List, [], ◌∷◌, ◌++◌, Option, Some, None, length, map, filter_map, replicate, refl, sym, ap, ap₂, ◌∙◌, append_assoc, arith, length-append}
use Rattle.std.specs.List.{cons_option}
use Rattle.std.proofs.lemmas.List.{length-replicate}
use Rattle.cx_meaning.specs.declared.kinds.PortDecl.{PortDecl}
use Rattle.cx_meaning.specs.Designs.{PlainCell}
use Rattle.cx_net.specs.Nets.{PlainNetDriver, PlainNetComponent}
use Rattle.cx_static.specs.Islands.{PlainIsland, PlainLowered, PlainLowereds}
use Rattle.cx_wiring.specs.Counts.{wires_of}
use Rattle.cx_wiring.specs.Control.{control_drivers}
use Rattle.cx_wiring.specs.Assignments.{driven_assigns, assigns_wires, assigns_drivers}
use Rattle.cx_wiring.specs.Trees.{trees, tree_widths}
use Rattle.cx_wiring.specs.Reached.{order}
use Rattle.cx_wiring.specs.Wiring.{groups, first_of_control, bits, plain_wires, component_registers, plain_drivers, component_driven, target_width, cell_in, net_component}

abbrev put : List ℕ → List PortDecl → List PortDecl → List PlainCell → List ℕ → List ℕ → ℕ → List PlainNetDriver → PlainNetComponent
put name inputs outputs cells registers wires holes drivers = record {
  name = name;
  inputs = inputs;
  outputs = outputs;
  cells = cells;
  registers = registers;
  wires = wires;
  holes = holes;
  drivers = drivers;
}

-- the net of a component, part by part
pub component_is : (d : PlainLowereds) (lowered : PlainLowered) (n : List ℕ) (i o : List PortDecl) (c : List PlainCell) (r w : List ℕ) (h : ℕ) (ds : List PlainNetDriver)
    → n ≡ lowered.part.name → i ≡ lowered.part.inputs → o ≡ lowered.part.outputs → c ≡ map (cell_in (order d)) lowered.part.cells → r ≡ component_registers lowered
    → w ≡ plain_wires lowered ++ tree_widths (target_width d lowered) (component_driven lowered) → h ≡ groups lowered + groups lowered
    → ds ≡ trees (length (plain_wires lowered)) (component_driven lowered)
    → put n i o c r w h ds ≡ net_component d lowered
component_is d lowered n i o c r w h ds e₁ e₂ e₃ e₄ e₅ e₆ e₇ e₈ = rw (e₁, e₂, e₃, e₄, e₅, e₆, e₇, e₈) refl

-- the net of one more component, where there is one
module _ (net : PlainLowered → PlainNetComponent) (at : ℕ → Option PlainLowered) (n : ℕ) (rest : List ℕ) (made whole : List PlainNetComponent) where
  pub net_more : (l : PlainLowered) (c : PlainNetComponent) → at n ≡ Some l → c ≡ net l → made ++ map net (filter_map at (n ∷ rest)) ≡ whole → (made ++ c ∷ []) ++ map net (filter_map at rest) ≡ whole
  net_more l c is e h =
      append_assoc made (c ∷ []) (map net (filter_map at rest))
      ∙ ap (λ x. made ++ x ∷ map net (filter_map at rest)) e
      ∙ ap (λ o. made ++ map net (cons_option o (filter_map at rest))) (sym is)
      ∙ h

  pub net_same : at n ≡ None → made ++ map net (filter_map at (n ∷ rest)) ≡ whole → made ++ map net (filter_map at rest) ≡ whole
  net_same is h = ap (λ o. made ++ map net (cons_option o (filter_map at rest))) (sym is) ∙ h

module _ (lowered : PlainLowered) (count first assigns free : ℕ) (counts : count ≡ groups lowered) (begins : first ≡ first_of_control lowered)
    (control : assigns ≡ first + wires_of lowered.part.control) (behind : free ≡ assigns + assigns_wires (driven_assigns lowered)) where
  pub drivers_made : (islands : List PlainIsland) (none some all : List PlainNetDriver) → islands ≡ lowered.islands → none ≡ []
      → some ≡ none ++ control_drivers count islands first lowered.part.control
      → all ≡ some ++ assigns_drivers count assigns (driven_assigns lowered)
      → all ≡ plain_drivers lowered
  drivers_made islands none some all i n s a = rw (a, s, n, i, control, begins, counts) refl

  pub wires_counted : free ≡ length (plain_wires lowered)
  wires_counted =
      let all : free ≡ groups lowered + bits lowered = omega arith in
      all
      ∙ ap₂ (λ a b. a + b) (sym (length-replicate (groups lowered) 32)) (sym (length-replicate (bits lowered) 1))
      ∙ sym (length-append (replicate (groups lowered) 32) (replicate (bits lowered) 1))

-- so many wires, of which the first ones are the offsets of groups
pub wires_split : (lowered : PlainLowered) (count : ℕ) → count ≡ length (plain_wires lowered) → replicate (groups lowered) 32 ++ replicate (count - groups lowered) 1 ≡ plain_wires lowered
wires_split lowered count is =
    let all : length (plain_wires lowered) ≡ groups lowered + bits lowered =
    length-append (replicate (groups lowered) 32) (replicate (bits lowered) 1)
    ∙ ap₂ (λ a b. a + b) (length-replicate (groups lowered) 32) (length-replicate (bits lowered) 1) in
    let rest : count - groups lowered ≡ bits lowered = omega arith in
    ap (λ n. replicate (groups lowered) 32 ++ replicate n 1) rest
