-- What stays as it is: cells that nothing active drives, and cells that an idle turn leaves alone.
use Rattle.std.specs.Prelude.{◌≡◌, ℕ, true, ◌∷◌, None}
use Rattle.cx_meaning.specs.Designs.{PlainComponent}
use Rattle.cx_meaning.specs.Instances.{Instance, Path, State, idle}
use Rattle.cx_meaning.specs.Active.{Active}
use Rattle.cx_meaning.specs.Control.{group_drives}

-- no active group drives the cell
abbrev pub IsUndriven : PlainComponent → Active → ℕ → Type 0
IsUndriven part act c = (g : ℕ) → group_drives part g c ≡ true → act.offset g ≡ None

-- an idle turn leaves the cell, and what is below it, as it is
abbrev pub IsSettledAt : Instance → State → ℕ → Type 0
IsSettledAt i s c = (below : Path) → idle i s (c ∷ below) ≡ s (c ∷ below)

-- the cell, and what is below it, is after as it was before
abbrev pub IsKeptAt : State → State → ℕ → Type 0
IsKeptAt before after c = (below : Path) → after (c ∷ below) ≡ before (c ∷ below)
