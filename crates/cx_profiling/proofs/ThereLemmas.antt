-- Which ports are there, by a design and a component of it alone.
use Rattle.std.proofs.Common.{◌≡◌, ℕ, zero, suc, ◌+◌, ◌<◌, length, Some, refl, sym, ap, ◌∙◌, subst, arith}
use Rattle.std.specs.List.{slice_get}
use Rattle.cx_text.proofs.ListLaws.{there_below, there_at}
use Rattle.cx_prim.specs.Table.{row_of}
use Rattle.cx_meaning.specs.declared.ports.PortRef.{PortRef}
use Rattle.cx_meaning.specs.declared.ports.PortRef.TheVariants as ports
use Rattle.cx_meaning.specs.Designs.{PlainKind, OfPrimitive, OfComponent, PlainCell, PlainComponent, PlainDesign, component_at}
use Rattle.cx_meaning.specs.Instances.{Instance, Node, cell_at, cells_for, tree_within}
use Rattle.cx_meaning.proofs.DesignsLemmas.{same_part}
use Rattle.cx_meaning.proofs.InstancesLemmas.{at_kind, cell_stands}
use Rattle.cx_rules.specs.Ports.{component_of}
use Rattle.cx_rules.specs.Wellformed.{IsThere, port_count}

-- how many ports a cell of a kind has
abbrev pub kind_ports : PlainDesign → PlainKind → ℕ
kind_ports d (OfPrimitive primitive) = length (row_of primitive).ports
kind_ports d (OfComponent k) = 2 + length (component_at d k).inputs + length (component_at d k).outputs

-- the number names a port of a component of the design
abbrev pub Names : PlainDesign → PlainComponent → PortRef → Type 0
Names d part (ports.Cell c p) = (cell : PlainCell) × (slice_get part.cells c ≡ Some cell) × (p < kind_ports d cell.kind)
Names d part (ports.Input n) = n < length part.inputs
Names d part (ports.Output n) = n < length part.outputs
Names d part (ports.Done g) = g < length part.groups
Names d part (ports.Literal w v) = Unit {0}

module _ (d : PlainDesign) (n : ℕ) where
  port_count-kind : (kind : PlainKind) → port_count (at_kind (tree_within d n) kind) ≡ kind_ports d kind
  port_count-kind (OfPrimitive p) = refl
  port_count-kind (OfComponent k) = ap (λ part. 2 + length part.inputs + length part.outputs) (same_part d n k)

  module _ (part : PlainComponent) where
    -- the component on trees of that many levels
    abbrev whole : Instance
    whole = Node part (cells_for (tree_within d n) part.cells)

    at_cell : (c : ℕ) (cell : PlainCell) → slice_get part.cells c ≡ Some cell → port_count (cell_at (cells_for (tree_within d n) part.cells) c) ≡ kind_ports d cell.kind
    at_cell c cell e = ap port_count (cell_stands (tree_within d n) part.cells c cell e) ∙ port_count-kind cell.kind

    names_there : (p : PortRef) → Names d part p → IsThere whole p
    names_there (ports.Cell c p) (cell, e, less) = (there_below part.cells c cell e, subst (λ m. p < m) (sym (at_cell c cell e)) less)
    names_there (ports.Input n) less = less
    names_there (ports.Output n) less = less
    names_there (ports.Done g) less = less
    names_there (ports.Literal w v) any = any

    there_names : (p : PortRef) → IsThere whole p → Names d part p
    there_names (ports.Cell c p) (less, within) = let at = there_at part.cells c less in (at.0, at.1, subst (λ m. p < m) (at_cell c at.0 at.1) within)
    there_names (ports.Input n) less = less
    there_names (ports.Output n) less = less
    there_names (ports.Done g) less = less
    there_names (ports.Literal w v) any = any

module _ (d : PlainDesign) (some : 0 < length d.components) where
  pub tree_on : (m k : ℕ) → 0 < m → (n : ℕ) × (tree_within d m k ≡ Node (component_at d k) (cells_for (tree_within d n) (component_at d k).cells))
  tree_on zero k less = absurd (omega arith)
  tree_on (suc n) k less = (n, refl)

  -- THERE: what a component of the design names
  pub is_there : (k : ℕ) (p : PortRef) → Names d (component_at d k) p → IsThere (component_of d k) p
  is_there k p names = let on = tree_on (length d.components) k some in subst (λ i. IsThere i p) (sym on.1) (names_there d on.0 (component_at d k) p names)

  pub from_there : (k : ℕ) (p : PortRef) → IsThere (component_of d k) p → Names d (component_at d k) p
  from_there k p there = let on = tree_on (length d.components) k some in there_names d on.0 (component_at d k) p (subst (λ i. IsThere i p) on.1 there)
