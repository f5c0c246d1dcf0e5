-- The arms of a par, some of them at a time.
use Rattle.std.specs.Prelude.{◌||◌, false, List, [], ◌∷◌}
use Rattle.cx_meaning.specs.Designs.{PlainComponent, PlainStatement, statements_of}
use Rattle.cx_meaning.specs.Instances.{Instance, Node, State, Set}
use Rattle.cx_meaning.specs.Sights.{Held}
use Rattle.cx_meaning.specs.Cycles.{Fault}
use Rattle.cx_meaning.specs.Answers.{Meaning}
use Rattle.cx_meaning.specs.Control.{drives, run_arms}
use Rattle.cx_meaning.specs.Running.{leaves, control_below}

-- the cells that some of the statements drive
abbrev pub all_drive : PlainComponent → List PlainStatement → Set
all_drive part [] c = false
all_drive part (s ∷ ss) c = drives part s c || all_drive part ss c

-- what these arms of a par mean, each from the same state
abbrev pub arms_run : Instance → Held → List PlainStatement → Meaning State Fault
arms_run (Node part cells) held arms s n =
    run_arms (leaves (Node part cells) (control_below cells) held) (statements_of arms) s n
