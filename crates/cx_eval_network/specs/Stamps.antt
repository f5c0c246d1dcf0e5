-- Marks of nodes that have stamps: all of them are forgotten where another stamp counts.
use Rattle.std.specs.Prelude.{◌≡◌, ℕ, ◌+◌, ◌<◌, ◌≤◌, nat_eq, List, Option, Some, None, map, slice_get, slice_set, if◌then◌else◌}
use Rattle.cx_eval_network.specs.declared.marks.NodeMark.{NodeMark}
use Rattle.cx_eval_network.specs.declared.marks.NodeMark.TheVariants.{Unseen, Open, Known}
use Rattle.cx_eval_network.specs.declared.marks.StampedMark.{StampedMark}

-- what is known of a node by its mark: its value, where this has the stamp that counts; where it has the one before, that it waits
abbrev pub mark_at : ℕ → StampedMark → NodeMark
mark_at stamp m =
    if nat_eq m.stamp stamp then Known m.seen
    else (if nat_eq (m.stamp + 1) stamp then Open else Unseen)

abbrev pub marks_at : ℕ → List StampedMark → List NodeMark
marks_at stamp marks = map (mark_at stamp) marks

-- no mark has a later one
pub record AreStamped (stamp : ℕ) (marks : List StampedMark) : Type 0 where
  pub counts : 0 < stamp
  pub each : (n : ℕ) (m : StampedMark) → slice_get marks n ≡ Some m → m.stamp ≤ stamp

-- a node is known as another one, where what is known of this is its value
abbrev pub followed : List NodeMark → ℕ → Option NodeMark → List NodeMark
followed marks node None = marks
followed marks node (Some Unseen) = marks
followed marks node (Some Open) = marks
followed marks node (Some (Known x)) = slice_set marks node (Known x)

-- the same of marks with their stamps
abbrev pub copied : ℕ → List StampedMark → ℕ → Option StampedMark → List StampedMark
copied stamp marks node None = marks
copied stamp marks node (Some m) = if nat_eq m.stamp stamp then slice_set marks node m else marks
