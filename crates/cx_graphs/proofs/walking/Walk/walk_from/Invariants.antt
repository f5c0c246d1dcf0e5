use Rattle.std.proofs.Common.{◌+◌, ◌*◌, length, [], ◌∷◌}
use Rattle.cx_graphs.specs.Graphs.{edges_of}
use Rattle.cx_graphs.specs.Ways.{both}
use Rattle.cx_graphs.specs.Walks.{AllCome, Is, IsWalkOf, NoFresher, fresh_count}
use Rattle.cx_graphs.specs.declared.walking.Mark.TheVariants as mark
use Rattle.cx_graphs.proofs.walking.Walk.walk_from.Given as goal

-- no circle is met yet, and the path comes from the start
abbrev pub invariant-loop-step : goal.invariant-loop-step
invariant-loop-step l = record {
  walk : IsWalkOf (both (edges_of l.graph) (edges_of l.more)) (length l.graph) l.self;
  comes : AllCome (both (edges_of l.graph) (edges_of l.more)) (l.start ∷ []) l.self.path.items;
  no_fresher : NoFresher l.fn.self.marks.items l.self.marks.items;
  begun : Is l.self.marks.items l.start mark.Fresh → ⊥;
}

-- a node that comes onto the path is no longer fresh, and counts twice before
abbrev pub decreases-loop-step : goal.decreases-loop-step
decreases-loop-step l = length l.self.path.items + 2 * fresh_count l.self.marks.items
