-- WHERE A RUN MAY FAULT: at an instance of the tree, and there at a port that may be looked at.
use Rattle.std.specs.Prelude.{◌≡◌, ◌<◌, Bool, false, [], ◌∷◌, length}
use Rattle.cx_meaning.specs.declared.ports.PortRef.{PortRef}
use Rattle.cx_meaning.specs.declared.ports.PortRef.TheVariants as ports
use Rattle.cx_meaning.specs.Instances.{Instance, OfInstance, Path, part_of, cells_of, cell_at}
use Rattle.cx_flattening.specs.Whole.{is_static}
use Rattle.cx_flattening.specs.Levels.{IsKnown}

-- a port of an instance: of a static one no input, which is seen where its source is, no hole, and no literal, which is a value
abbrev pub IsFaulty : Bool → Instance → PortRef → Type 0
IsFaulty static i (ports.Cell c p) = IsKnown i (ports.Cell c p)
IsFaulty static i (ports.Input n) = static ≡ false
IsFaulty static i (ports.Output n) = ⊥
IsFaulty static i (ports.Done g) = (static ≡ false) × (g < length (part_of i).groups)
IsFaulty static i (ports.Literal w v) = static ≡ false

abbrev pub FaultAt : Bool → Instance → Path → PortRef → Type 0
FaultAt static i [] p = IsFaulty static i p
FaultAt static i (c ∷ path) p =
    (child : Instance) × (cell_at (cells_of i) c ≡ OfInstance child)
    × FaultAt (is_static child) child path p
