-- An island at its place.
use Rattle.std.specs.Prelude.{ℕ}
use Rattle.cx_static.specs.Islands.{PlainIsland}
use Rattle.cx_static.specs.PlainLowered.{plain_island}
use Rattle.cx_wiring.specs.Stands.{Stand}
use Rattle.cx_fsm.specs.PlainStands.{plain_stand}
use Rattle.cx_fsm.specs.declared.islands.Place.{Place}

-- what is said of an island of a component of so many groups, where its statement stands, with the first of its wires
abbrev pub at_place : {A : Type 0} → (ℕ → Stand → ℕ → PlainIsland → A) → Place → A
at_place said p = said p.groups (plain_stand p.stand) p.first (plain_island p.island.now)
