-- WHAT FLATTENING KEEPS: what a run of main tells. A fault is told by its kind, the name of its port from main on, and its turn.
use Rattle.std.specs.Prelude.{◌≡◌, ℕ, List}
use Rattle.cx_meaning.specs.declared.sights.FaultKind.{FaultKind}
use Rattle.cx_meaning.specs.Designs.{PlainDesign}
use Rattle.cx_meaning.specs.Instances.{State, tree_of, words_of}
use Rattle.cx_meaning.specs.Cycles.{Fault}
use Rattle.cx_meaning.specs.Answers as answers
use Rattle.cx_meaning.specs.Running.{run_main}
use Rattle.cx_rules.specs.FullPaths.{full_path}
use Rattle.cx_rules.specs.Externals.{external_rows}
use Rattle.cx_flattening.specs.Whole.{whole_main}
use Rattle.cx_flattening.specs.FlatDesign.{flat_design}

pub data Told : Type 0 where
  Ended : (turns : ℕ) (words : List (List ℕ)) → Told
  Faulted : (kind : FaultKind) (name : List ℕ) (turn : ℕ) → Told
  GoesOn : Told

abbrev pub told : PlainDesign → answers.Answer State Fault → Told
told d (answers.End after turns) = Ended turns (words_of (tree_of d) after)
told d (answers.Fault f turn) = Faulted f.kind (full_path (tree_of d) f.path f.port) turn
told d answers.More = GoesOn

-- THE THEOREM of flattening
pub record KeepsRuns (d : PlainDesign) : Type 0 where
  pub rows : external_rows (flat_design d) ≡ external_rows d
  pub runs : (words : List (List ℕ)) (budget : ℕ)
      → told (flat_design d) (run_main (flat_design d) words budget) ≡ told d (whole_main d words budget)
