use Rattle.std.proofs.Common.{◌≤◌, take, map}
use Rattle.std.specs.Vec.{vec_len, vec_capacity}
use Rattle.cx_design_parts.specs.Items.{plain_visited}
use Rattle.cx_turns.specs.Rooms.{ListFits}
use Rattle.cx_turns.proofs.rooms.add_component.Given as goal

-- there is room for the statements so far
abbrev pub invariant-loop-statement : goal.invariant-loop-statement
invariant-loop-statement l =
    ListFits (take l.statement-index (map plain_visited l.statement-items)) (vec_len l.samples) (vec_capacity l.entries)
    × (vec_len l.initial.samples ≤ vec_len l.samples)
    × (vec_capacity l.initial.entries ≤ vec_capacity l.entries)
