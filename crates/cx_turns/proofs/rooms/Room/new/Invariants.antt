use Rattle.std.proofs.Common.{ℕ, ◌<◌}
use Rattle.std.specs.Vec.{vec_len, vec_capacity}
use Rattle.cx_meaning.specs.Designs.{component_at}
use Rattle.cx_design.specs.PlainDesigns.{plain_design}
use Rattle.cx_turns.specs.Rooms.{PartFits}
use Rattle.cx_turns.proofs.rooms.Room.new.Given as goal

-- there is room for the components so far
abbrev pub invariant-loop-component : goal.invariant-loop-component
invariant-loop-component l = (k : ℕ) → k < l.component-index → PartFits (component_at (plain_design l.design) k) (vec_len l.samples) (vec_capacity l.entries)
