-- An instance whose cells, with those of static components below it, stand among the cells of another; and the states of both.
use Rattle.std.specs.Prelude.{◌≡◌, ℕ, suc, ◌+◌, true, false, List, [], ◌∷◌, length}
use Rattle.cx_prim.specs.Rows.{Row}
use Rattle.cx_prim.specs.CombinationalRows.{unary_row}
use Rattle.cx_meaning.specs.declared.kinds.PortDecl.{PortDecl}
use Rattle.cx_meaning.specs.Designs.{PlainComponent}
use Rattle.cx_meaning.specs.Instances.{Instance, Node, Cells, no_cells, a_primitive, an_instance, OfRow, OfInstance, part_of, cells_of, cell_at, cell_count, State, under}
use Rattle.cx_rules.specs.Ports.{cell_name}
use Rattle.cx_flattening.specs.Whole.{is_static}
use Rattle.cx_flattening.specs.Flattened.{Kids, flat_part, flat_kids, kept_at, start_of, wire_at}

-- a component that is the flat one in all that a run knows and tells of it, and has as many cells
pub record IsLike (one other : PlainComponent) : Type 0 where
  pub inputs : one.inputs ≡ other.inputs
  pub outputs : one.outputs ≡ other.outputs
  pub groups : one.groups ≡ other.groups
  pub always : one.always ≡ other.always
  pub control : one.control ≡ other.control
  pub names : (e : ℕ) → cell_name one.cells e ≡ cell_name other.cells e
  pub count : length one.cells ≡ length other.cells

-- the row of the wire of an output, which gives what it is given
abbrev pub wire_row : ℕ → Row
wire_row width = unary_row width width (λ a. a)

abbrev pub HasWires : List PortDecl → ℕ → Cells → Type 0
HasWires [] e host = Unit {0}
HasWires (output ∷ outputs) e host = (cell_at host e ≡ OfRow (wire_row output.width)) × HasWires outputs (suc e) host

-- ITS CELLS stand among those of the host from cell `first` on, as the flat component has them; a child that is not static is flattened
abbrev mutual
  pub IsEmbedded : Instance → ℕ → Cells → Type 0
  IsEmbedded (Node part cells) first host = AreEmbedded (flat_kids cells) part cells 0 first host

  pub AreEmbedded : Kids → PlainComponent → Cells → ℕ → ℕ → Cells → Type 0
  AreEmbedded kids part no_cells c first host = Unit {0}
  AreEmbedded kids part (a_primitive row rest) c first host =
      (cell_at host (first + kept_at kids c) ≡ OfRow row) × AreEmbedded kids part rest (suc c) first host
  AreEmbedded kids part (an_instance child rest) c first host =
      (is_static child ≡ true → IsEmbedded child (first + start_of kids part c) host
      × HasWires (part_of child).outputs (first + wire_at kids part (flat_part child) c 0) host)
      × (is_static child ≡ false → (twin : Instance)
      × (cell_at host (first + kept_at kids c) ≡ OfInstance twin)
      × IsLike (part_of twin) (flat_part child) × IsEmbedded child 0 (cells_of twin)
      × (cell_count (cells_of twin) ≡ length (flat_part child).cells))
      × AreEmbedded kids part rest (suc c) first host

-- THE FLAT INSTANCE of an instance
abbrev pub IsFlattened : Instance → Instance → Type 0
IsFlattened i flat =
    IsLike (part_of flat) (flat_part i) × IsEmbedded i 0 (cells_of flat)
    × (cell_count (cells_of flat) ≡ length (flat_part i).cells)

-- THE SAME STATE of all its cells, in a state of the host
abbrev mutual
  pub Stands : Instance → ℕ → State → State → Type 0
  Stands (Node part cells) first s z = AllStand (flat_kids cells) part cells 0 first s z

  pub AllStand : Kids → PlainComponent → Cells → ℕ → ℕ → State → State → Type 0
  AllStand kids part no_cells c first s z = Unit {0}
  AllStand kids part (a_primitive row rest) c first s z =
      (z ((first + kept_at kids c) ∷ []) ≡ s (c ∷ [])) × AllStand kids part rest (suc c) first s z
  AllStand kids part (an_instance child rest) c first s z =
      (is_static child ≡ true → Stands child (first + start_of kids part c) (under c s) z)
      × (is_static child ≡ false → Stands child 0 (under c s) (under (first + kept_at kids c) z))
      × AllStand kids part rest (suc c) first s z
