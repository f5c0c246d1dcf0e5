-- What stands at a cell of a component of a design.
use Rattle.std.proofs.Common.{◌≡◌, ℕ, zero, suc, ◌<◌, List, [], ◌∷◌, Option, Some, None, length, slice_get, inl, inr, sym, ap, subst, arith}
use denote.Struct.Props.{props}
use Rattle.std.proofs.Math.Logic.{∥∥₁_elim}
use Rattle.std.proofs.lemmas.Option.{get_or_from_slice_get}
use Rattle.cx_text.proofs.MemberLaws.{in_at}
use Rattle.cx_text.specs.Members.{In}
use Rattle.cx_rules.specs.Wellformed.{IsDesign, IsKind}
use Rattle.cx_prim.specs.declared.ports.PortRow.{PortRow}
use Rattle.cx_prim.specs.declared.ports.Side.{Side}
use Rattle.cx_prim.specs.declared.ports.Side.TheVariants.{Registered}
use Rattle.cx_meaning.specs.Rows.{side_from}
use Rattle.cx_meaning.specs.Designs.{OfComponent, PlainCell, PlainDesign, component_at}
use Rattle.cx_meaning.specs.Instances.{Instance, part_of, cells_of, cell_at, tree_within}
use Rattle.cx_meaning.proofs.DesignsLemmas.{same_part}
use Rattle.cx_meaning.proofs.InstancesLemmas.{at_cell, at_number}

abbrev side_or : Side → Option PortRow → Side
side_or other None = other
side_or other (Some row) = row.side

pub side_there : (ports : List PortRow) (p : ℕ) (row : PortRow) → slice_get ports p ≡ Some row → row.side ≡ side_from ports p
side_there [] p row e = absurd (cc)
side_there (port ∷ ports) zero row e = ap (λ o. side_or Registered o) (sym e)
side_there (port ∷ ports) (suc p) row e = side_there ports p row e

-- what stands at a cell is what its kind says, by instances of the design's components
pub at_component : (d : PlainDesign) (k c n : ℕ) → 0 < n
    → (child : ℕ → Instance) × (cell_at (cells_of (tree_within d n k)) c ≡ at_cell child (slice_get (component_at d k).cells c)) × ((j : ℕ) → part_of (child j) ≡ component_at d j)
at_component d k c zero h = absurd (omega (arith, h))
at_component d k c (suc n) h = (tree_within d n, at_number (tree_within d n) (component_at d k).cells c, same_part d n)

-- a cell's component is one of the design
pub part_there : (d : PlainDesign) (k c j : ℕ) (cell : PlainCell) → ∥ IsDesign d ∥₁ → k < length d.components
    → slice_get (component_at d k).cells c ≡ Some cell → cell.kind ≡ OfComponent j → j < length d.components
part_there d k c j cell keeps h at kind =
    ∥∥₁_elim keeps (hlevel props) (λ design. subst (λ x. IsKind d x) kind ((design.components k h).cells cell (in_at (component_at d k).cells c cell at)).kind)
