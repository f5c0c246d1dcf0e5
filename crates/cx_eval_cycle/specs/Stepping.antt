-- Cells that can step: those that have an enabling port.
use Rattle.std.specs.Prelude.{◌≡◌, ◌||◌, ℕ, Bool, true, false, List, [], ◌∷◌, Option, Some, None, get_or, length}
use Rattle.cx_prim.specs.declared.ports.PortRow.{PortRow}
use Rattle.cx_prim.specs.declared.ports.Side.{Side}
use Rattle.cx_prim.specs.declared.ports.Side.TheVariants.{Enable, Plain}
use Rattle.cx_prim.specs.Rows.{Row, is_enable_side}
use Rattle.cx_prim.specs.Table.{PrimitiveRow, row_of}
use Rattle.cx_meaning.specs.Rows.{side_of}
use Rattle.cx_meaning.specs.Designs.{PlainKind, OfPrimitive, OfComponent, PlainCell}
use Rattle.cx_eval_cycle.specs.declared.stepping.SteppingCell.{SteppingCell}
use Rattle.cx_eval_cycle.specs.declared.stepping.SteppingCells.{SteppingCells}
use Rattle.cx_eval_cycle.specs.Passes.{IsAscending, kind_at, listed_in}
use Rattle.cx_eval_cycle.specs.Ports.{AreNumbered, is_side}
use Rattle.cx_eval_cycle.specs.Ranges.{AreAddressesOf}

-- whether one of the ports is enabling
abbrev pub any_enables : List PortRow → Bool
any_enables [] = false
any_enables (port ∷ ports) = is_enable_side port.side || any_enables ports

-- the ports of a row that are on a side
abbrev pub on_side : Side → Row → ℕ → Bool
on_side side row p = is_side side (side_of row p)

-- what is known of a cell that can step: its primitive, its enabling ports and its plain inputs, and its addresses
pub record IsStepping (p : PrimitiveRow) (stepping : SteppingCell) : Type 0 where
  pub primitive : stepping.primitive.now ≡ p
  pub enabling : AreNumbered (on_side Enable (row_of p)) (length (row_of p).ports) stepping.enabling.items
  pub plain : AreNumbered (on_side Plain (row_of p)) (length (row_of p).ports) stepping.plain.items
  pub addresses : AreAddressesOf p stepping.addresses

-- what is kept of a cell: nothing where it cannot step
abbrev pub IsKeptOf : Option PlainKind → Option SteppingCell → Type 0
IsKeptOf (Some (OfPrimitive p)) (Some stepping) = IsStepping p stepping
IsKeptOf (Some (OfPrimitive p)) None = any_enables (row_of p).ports ≡ false
IsKeptOf (Some (OfComponent k)) (Some stepping) = ⊥
IsKeptOf (Some (OfComponent k)) None = Unit {0}
IsKeptOf None (Some stepping) = ⊥
IsKeptOf None None = Unit {0}

abbrev pub kept_at : List (Option SteppingCell) → ℕ → Option SteppingCell
kept_at kept c = get_or kept c None

-- of each cell of a component
pub record AreStepping (cells : List PlainCell) (kept : List (Option SteppingCell)) : Type 0 where
  pub count : length kept ≡ length cells
  pub each : (c : ℕ) → IsKeptOf (kind_at cells c) (kept_at kept c)

-- the numbers of those that can step
abbrev pub can_step : Option SteppingCell → Bool
can_step None = false
can_step (Some stepping) = true

pub record HaveNumbers (kept : List (Option SteppingCell)) (numbers : List ℕ) : Type 0 where
  pub ascending : IsAscending numbers
  pub listed : (c : ℕ) → listed_in numbers c ≡ can_step (kept_at kept c)

pub record AreSteppingCells (cells : List PlainCell) (stepping : SteppingCells) : Type 0 where
  pub kept : AreStepping cells stepping.cells.items
  pub numbers : HaveNumbers stepping.cells.items stepping.numbers.items
