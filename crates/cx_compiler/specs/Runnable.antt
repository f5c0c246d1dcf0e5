-- What the design that is run keeps: it tells of each run what the design means.
use Rattle.std.specs.Prelude.{◌≡◌, ℕ, List}
use Rattle.cx_meaning.specs.Designs.{PlainDesign}
use Rattle.cx_meaning.specs.Running.{run_main}
use Rattle.cx_rules.specs.Accepted.{IsAccepted}
use Rattle.cx_rules.specs.Externals.{external_rows}
use Rattle.cx_rules.specs.Flat.{ArePlainNames}
use Rattle.cx_rules.specs.Wellformed.{IsDesign}
use Rattle.cx_flattening.specs.Ends.{NoneNamesDone}
use Rattle.cx_flattening.specs.Told.{told}
use Rattle.cx_flattening.specs.Whole.{whole_main}
pub use Rattle.cx_flattening.specs.Runnable.{has_invokes, is_static_part, any_static, has_static, runnable}

-- its run tells what the design tells by its own meaning, and it has the same external memories
pub record RunsAsMeant (d : PlainDesign) : Type 0 where
  pub rows : external_rows (runnable d) ≡ external_rows d
  pub runs : (words : List (List ℕ)) (budget : ℕ)
      → told (runnable d) (run_main (runnable d) words budget) ≡ told d (whole_main d words budget)

-- WHAT FLATTENING ASKS of a design: it keeps what every design keeps, breaks no rule, nothing looks at the done of a
-- static component's cell, and no name of its cells and ports is empty or holds a point
pub record CanBeFlattened (d : PlainDesign) : Type 0 where
  pub design : IsDesign d
  pub accepted : IsAccepted d
  pub undone : NoneNamesDone d
  pub plain : ArePlainNames d
