-- What flattening keeps of a design, in the design that is answered.
use Rattle.std.specs.Prelude.{◌≡◌, ℕ, List}
use Rattle.cx_meaning.specs.Designs.{PlainDesign}
use Rattle.cx_meaning.specs.Running.{run_main}
use Rattle.cx_flattening.specs.Told.{told}
use Rattle.cx_flattening.specs.Whole.{whole_main}

-- THE SAME RUNS: on all data and under each budget, flat, which is run without static components, tells what the
-- design tells by its own meaning: the turns and the words of the external memories, the kind, the port's name and
-- the turn of a fault, or that more turns are needed
abbrev pub TellsAs : PlainDesign → PlainDesign → Type 0
TellsAs flat d =
    (words : List (List ℕ)) (budget : ℕ)
    → told flat (run_main flat words budget) ≡ told d (whole_main d words budget)
