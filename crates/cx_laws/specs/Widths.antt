-- What inputs and cells hold, so that what is seen has its width.
use Rattle.std.specs.Prelude.{◌≡◌, ℕ, [], ◌∷◌, ◌++◌, Some}
use Rattle.cx_bits.specs.BitVector.{BitVector}
use Rattle.cx_prim.specs.CellStates.{IsState}
use Rattle.cx_prim.specs.Rows.{Row}
use Rattle.cx_meaning.specs.declared.sights.Seen.TheVariants.{Value}
use Rattle.cx_meaning.specs.Designs.{PlainComponent}
use Rattle.cx_meaning.specs.Instances.{Instance, OfRow, Path, State, cell_at, cells_of, instance_at}
use Rattle.cx_meaning.specs.Sights.{Held}
use Rattle.cx_rules.specs.Ports.{declared_width}

-- each input that is held as a value is held with its declared width
abbrev pub HoldsWidths : PlainComponent → Held → Type 0
HoldsWidths part held = (n : ℕ) (b : BitVector) → held n ≡ Value b → declared_width part.inputs n ≡ Some b.width

-- each primitive cell at and below an instance holds a state of its row
abbrev pub HoldsStates : Instance → State → Type 0
HoldsStates i s =
    (path : Path) (c : ℕ) (row : Row) → cell_at (cells_of (instance_at i path)) c ≡ OfRow row
    → IsState row.shape (s (path ++ c ∷ []))
