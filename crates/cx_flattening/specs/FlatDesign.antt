-- THE FLAT DESIGN: the flat components that the flat main reaches, in their order.
use Rattle.std.specs.Prelude.{ℕ, zero, suc, Bool, false, ◌||◌, nat_eq, List, [], ◌∷◌, length, map, if◌then◌else◌}
use Rattle.cx_meaning.specs.Designs.{PlainKind, OfPrimitive, OfComponent, PlainCell, PlainComponent, PlainDesign}
use Rattle.cx_rules.specs.Ports.{component_of}
use Rattle.cx_flattening.specs.Copies.{count_if}
use Rattle.cx_flattening.specs.Flattened.{flat_part}

-- one of the cells is of a component with this property
abbrev pub kind_of : (ℕ → Bool) → PlainKind → Bool
kind_of property (OfPrimitive primitive) = false
kind_of property (OfComponent k) = property k

abbrev pub any_of : (ℕ → Bool) → List PlainCell → Bool
any_of property [] = false
any_of property (c ∷ cs) = kind_of property c.kind || any_of property cs

module _ (d : PlainDesign) where
  -- component k flattened, with what is below it
  abbrev pub flat_of : ℕ → PlainComponent
  flat_of k = flat_part (component_of d k)

  -- component j is k, or has in its flat form a cell of one that leads to k, in at most so many steps
  abbrev pub leads_within : ℕ → ℕ → ℕ → Bool
  leads_within zero k j = nat_eq j k
  leads_within (suc n) k j = nat_eq j k || any_of (leads_within n k) (flat_of j).cells

  -- the flat main reaches it
  abbrev pub is_reached : ℕ → Bool
  is_reached k = leads_within (length d.components) k d.main

  -- the numbers that are reached, from k on, and the new number of an old one
  abbrev pub reached_from : ℕ → ℕ → List ℕ
  reached_from k zero = []
  reached_from k (suc n) = if is_reached k then k ∷ reached_from (suc k) n else reached_from (suc k) n

  abbrev pub reached_below : ℕ → ℕ
  reached_below zero = 0
  reached_below (suc k) = count_if (is_reached k) (reached_below k)

  abbrev pub renumbered_kind : PlainKind → PlainKind
  renumbered_kind (OfPrimitive primitive) = OfPrimitive primitive
  renumbered_kind (OfComponent k) = OfComponent (reached_below k)

  abbrev pub renumbered_cell : PlainCell → PlainCell
  renumbered_cell c = record { name = c.name; kind = renumbered_kind c.kind; external = c.external; place = c.place }

  abbrev pub renumbered_part : PlainComponent → PlainComponent
  renumbered_part part = record part { cells = map renumbered_cell part.cells }

  abbrev pub flat_design : PlainDesign
  flat_design =
      record {
        components = map (λ k. renumbered_part (flat_of k)) (reached_from 0 (length d.components));
        main = reached_below d.main;
      }
