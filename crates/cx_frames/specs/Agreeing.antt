-- States that are the same in some cells, and answers that are the same in them.
use Rattle.std.specs.Prelude.{◌≡◌, ℕ, ◌∷◌}
use Rattle.cx_meaning.specs.Instances.{State, Path}
use Rattle.cx_meaning.specs.Cycles.{Fault}
use Rattle.cx_meaning.specs.Answers.{Answer, End, More}
use Rattle.cx_meaning.specs.Answers as answers

-- the same at and below each cell of a set
abbrev pub Agree : (ℕ → Type 0) → State → State → Type 0
Agree set s t = (c : ℕ) (below : Path) → set c → s (c ∷ below) ≡ t (c ∷ below)

-- both runs end with the same turns and agree on the set, or both have the same fault in the same turn, or neither has ended
abbrev pub Alike : (ℕ → Type 0) → Answer State Fault → Answer State Fault → Type 0
Alike set (End a t) x = (b : State) × (x ≡ End b t) × Agree set a b
Alike set (answers.Fault f t) x = x ≡ answers.Fault f t
Alike set More x = x ≡ More
