use Rattle.std.proofs.Common.{◌≡◌, ℕ, [], length, take}
use Rattle.cx_text.specs.Members.{In}
use Rattle.cx_graphs.specs.Graphs.{edges_of}
use Rattle.cx_graphs.specs.Ways.{both}
use Rattle.cx_graphs.specs.Walks.{Is, IsWalkOf}
use Rattle.cx_graphs.specs.declared.walking.Mark.TheVariants as mark
use Rattle.cx_graphs.proofs.walking.Walk.walk_all.Given as goal

-- no circle is met yet, and the starts so far are walked
abbrev pub invariant-loop-start : goal.invariant-loop-start
invariant-loop-start l = record {
  walk : IsWalkOf (both (edges_of l.graph) (edges_of l.more)) (length l.graph) l.self;
  no_path : l.self.path.items ≡ [];
  begun : (n : ℕ) → In (take l.start-index l.starts) n → Is l.self.marks.items n mark.Fresh → ⊥;
}
