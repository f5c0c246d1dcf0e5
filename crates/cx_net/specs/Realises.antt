-- That what stands for a design does from reset what the run of the design does. It may be a source or a net: it is seen as what
-- its runs come to, by the words that are loaded and the last cycle that may be looked at.
use Rattle.std.specs.Prelude.{◌≡◌, ◌≢◌, ℕ, List}
use Rattle.cx_text.specs.Loading.{PlainRow, PlainMemory, FitsRows, words_loaded}
use Rattle.cx_meaning.specs.Answers.{End, More}
use Rattle.cx_meaning.specs.Designs.{PlainDesign}
use Rattle.cx_meaning.specs.Instances.{State, tree_of, words_of}
use Rattle.cx_meaning.specs.Running.{run_main}
use Rattle.cx_rules.specs.Externals.{external_rows}
use Rattle.cx_vtree.specs.Plain.{PlainSource}
use Rattle.cx_vtree.specs.PlainParts.{rows_of}
use Rattle.cx_vtree.specs.SimRun.{Outcome, DoneAt, NotDone, SimRun}

-- a run comes to something, and no net is without a value in it
pub data HasOutcome (runs : List (List ℕ) → ℕ → Outcome → Type 0) (words : List (List ℕ)) (last : ℕ) : Type 0 where
  comes : (cycle : ℕ) (left : List (List ℕ)) → runs words last (DoneAt cycle left) → HasOutcome runs words last
  waits : runs words last NotDone → HasOutcome runs words last

-- THE RUNS ARE THOSE OF THE DESIGN, for all words that its external memories can have and for all budgets
pub record RealisesBy (d : PlainDesign) (runs : List (List ℕ) → ℕ → Outcome → Type 0) : Type 0 where
  -- where the run of main ends after some turns, `done` is 1 for the first time in the cycle of that number, and the external
  -- memories have the words of that end in it
  pub ends : (memories : List PlainMemory) (budget turns : ℕ) (after : State) → FitsRows (external_rows d) memories
      → run_main d (words_loaded memories) budget ≡ End after turns
      → runs (words_loaded memories) budget (DoneAt turns (words_of (tree_of d) after))
  -- where `done` comes in a cycle, the run of main with as many turns has ended or has a fault
  pub ends_only : (memories : List PlainMemory) (budget cycle : ℕ) (left : List (List ℕ))
      → FitsRows (external_rows d) memories
      → runs (words_loaded memories) budget (DoneAt cycle left)
      → run_main d (words_loaded memories) cycle ≢ More
  -- each run comes to something, and not to a net without a value
  pub never_stuck : (memories : List PlainMemory) (budget : ℕ) → FitsRows (external_rows d) memories
      → HasOutcome runs (words_loaded memories) budget

-- A SOURCE REALISES A DESIGN: it has the design's external memories, in their order, and its runs are those of the design
pub record Realises (d : PlainDesign) (source : PlainSource) : Type 0 where
  pub rows : rows_of source.externals ≡ external_rows d
  pub runs : RealisesBy d (SimRun source)

-- for words that fit, what one comes to the other comes to
abbrev pub Follows : List PlainRow → (List (List ℕ) → ℕ → Outcome → Type 0)
    → (List (List ℕ) → ℕ → Outcome → Type 0) → Type 0
Follows rows first second = (memories : List PlainMemory) (last : ℕ) (o : Outcome) → FitsRows rows memories
    → first (words_loaded memories) last o → second (words_loaded memories) last o
