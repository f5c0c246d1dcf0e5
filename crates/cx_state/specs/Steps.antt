-- The way down the instance tree by the number of an instance.
use Rattle.std.specs.Prelude.{ℕ, zero, suc, ◌-◌, nat_lt, List, [], ◌∷◌, Option, Some, None, get_or, if◌then◌else◌}
use Rattle.cx_meaning.specs.Designs.{PlainKind, OfPrimitive, OfComponent, PlainCell}
use Rattle.cx_design_sizes.specs.declared.tallies.LimitTally.{LimitTally}
use Rattle.cx_design_sizes.specs.Tallies.{no_tally}
use Rattle.cx_state.specs.declared.steps.Step.{Step}

abbrev pub instances_at : List LimitTally → PlainKind → ℕ
instances_at tallies (OfPrimitive primitive) = 0
instances_at tallies (OfComponent k) = (get_or tallies k no_tally).instances

abbrev pub component_in : PlainKind → ℕ
component_in (OfPrimitive primitive) = 0
component_in (OfComponent k) = k

-- the step among cells from a number on
abbrev pub step_below : List LimitTally → List PlainCell → ℕ → ℕ → Option Step
step_below tallies [] c left = None
step_below tallies (cell ∷ cells) c left =
    if nat_lt left (instances_at tallies cell.kind)
    then Some (record { cell = c; component = component_in cell.kind; left = left })
    else step_below tallies cells (suc c) (left - instances_at tallies cell.kind)

abbrev pub next_step : List LimitTally → List PlainCell → ℕ → Option Step
next_step tallies cells zero = None
next_step tallies cells (suc left) = step_below tallies cells 0 left
