-- The instances at the cells of an instance.
use Rattle.std.specs.Prelude.{◌≡◌, ℕ, ◌<◌, length}
use Rattle.cx_meaning.specs.declared.ports.PortRef.TheVariants as ports
use Rattle.cx_meaning.specs.declared.sights.Seen.{Seen}
use Rattle.cx_meaning.specs.Designs.{PlainComponent}
use Rattle.cx_meaning.specs.Instances.{Instance, OfInstance, cell_at, cells_of, part_of}
use Rattle.cx_state.specs.Tables.{child_of}
use Rattle.cx_eval_network.specs.Networks.{Asked, seen_at}

-- an instance of a component stands at a cell
abbrev pub PartStands : Instance → ℕ → PlainComponent → Type 0
PartStands i c part = (child : Instance) × (cell_at (cells_of i) c ≡ OfInstance child) × (part_of child ≡ part)

-- one that has an output
abbrev pub HasOutput : Instance → ℕ → ℕ → Type 0
HasOutput i c output =
    (child : Instance) × (cell_at (cells_of i) c ≡ OfInstance child)
    × (output < length (part_of child).outputs)

-- what that output is seen as
abbrev pub child_seen : Asked → ℕ → ℕ → ℕ → Seen
child_seen a n c output = seen_at a (child_of a.rows a.children n c) (ports.Output output)
