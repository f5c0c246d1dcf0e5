use Rattle.std.proofs.Common.{map}
use Rattle.cx_eval.proofs.MakingLemmas.{HaveFirstRooms}
use Rattle.cx_eval.proofs.tables.rooms_of.Given as goal

-- the components so far
abbrev pub invariant-loop-number : goal.invariant-loop-number
invariant-loop-number l = HaveFirstRooms l.tables.parts.items l.number (map (λ own. own.items) l.rooms.items)
