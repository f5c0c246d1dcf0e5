-- What is asked of a tree and its flat instance where a group calls a dynamic child.
use Rattle.std.specs.Prelude.{◌≡◌, ℕ, false, [], Some}
use Rattle.cx_meaning.specs.Instances.{Instance, OfInstance, cells_of, cell_at, State}
use Rattle.cx_meaning.specs.Active.{capture}
use Rattle.cx_meaning.specs.Sights.{Held}
use Rattle.cx_meaning.specs.Running.{Children}
use Rattle.cx_flattening.specs.Whole.{is_static}
use Rattle.cx_flattening.specs.Embedded.{Stands}
use Rattle.cx_flattening.specs.Seeing.{NoCircle}
use Rattle.cx_flattening.specs.Turning.{IsGroupBeside}
use Rattle.cx_flattening.specs.Runs.{AnswerAs}

pub record IsCallBeside (i flat : Instance) (g c : ℕ) (child : Instance) : Type 0 where
  pub group : IsGroupBeside i flat (Some g)
  pub stands : cell_at (cells_of i) c ≡ OfInstance child
  pub dynamic : is_static child ≡ false
  -- in the cycle in which registers are captured
  pub no_circle : NoCircle i (capture g c) []

-- the control of a child runs in the flat instance as in the tree
abbrev pub RunsAs : Instance → ℕ → ℕ → Children → Children → Type 0
RunsAs child c e children others =
    (held : Held) (s z : State) (n : ℕ) → Stands child 0 s z
    → AnswerAs child (children c held s n) (others e held z n)
