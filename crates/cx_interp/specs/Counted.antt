-- What a run on the rows of a state has counted.
use Rattle.std.specs.Prelude.{◌≡◌, ℕ, List}
use Rattle.cx_meaning.specs.Designs.{PlainDesign, PlainForm, PlainStatement}
use Rattle.cx_meaning.specs.Instances.{Instance, Path, State, instance_at, tree_of, IsSettled}
use Rattle.cx_meaning.specs.Active.{group}
use Rattle.cx_meaning.specs.Sights.{Held}
use Rattle.cx_meaning.specs.Calls.{group_turn}
use Rattle.cx_laws.specs.Samples.{Samples}
use Rattle.cx_rewrites.specs.Tallies as tallies
use Rattle.cx_rewrites.specs.Tallies.{turns_count}
use Rattle.cx_profiling.specs.Counting.{made_with, tally_of}
use Rattle.cx_profiling.specs.StatementCounts.{count_statement, count_of_form, sampled_count_from}
use Rattle.cx_design.specs.declared.designs.Design.{Design}
use Rattle.cx_design.specs.PlainDesigns.{plain_design}
use Rattle.cx_state.specs.Tables.{IsNumber}
use Rattle.cx_state.specs.States.{PlainInstance, inputs_held, StandsFor, under_path}
use Rattle.cx_interp.specs.declared.answers.Answer.{Answer}
use Rattle.cx_interp.specs.declared.answers.Answer.TheVariants.{End}
use Rattle.cx_interp.specs.declared.interp.Ran.{Ran}
use Rattle.cx_interp.specs.Counts.{HasRows, KeepsShape, at_path, Grows}

-- what a part of control counts in an instance with its inputs held
abbrev pub Tallying : Type 0
Tallying = Instance → Held → tallies.Counted State

abbrev pub statement_counts : PlainStatement → Tallying
statement_counts statement i held s n = count_statement i held statement s n

abbrev pub form_counts : PlainForm → Tallying
form_counts form i held s n = count_of_form i held form s n

-- a group that calls nothing
abbrev pub turns_count_of : ℕ → Tallying
turns_count_of g i held s n = turns_count (group_turn i held g) (made_with (group g)) s n

-- so many cycles of an island, from these samples on
abbrev pub sampled_counts : PlainForm → ℕ → Samples → Tallying
sampled_counts form count first i held s n = sampled_count_from i held form count 0 first s n

-- in every settled state that the rows stand for, a table with its rows grows by what is counted in the instance
abbrev pub GrowsBy : PlainDesign → List PlainInstance → List (List ℕ) → List (List ℕ) → ℕ → Tallying → ℕ → Type 0
GrowsBy d rows old new n tallying budget =
    HasRows d old → (path : Path) (s : State) → IsNumber d n path → StandsFor (tree_of d) rows s
    → IsSettled (tree_of d) s
    → Grows d old new (at_path path
    (tallying (instance_at (tree_of d) path) (inputs_held rows n) (under_path path s) budget))

-- A RUN IN INSTANCE n, from these rows, HAS COUNTED where it ends; whatever its answer, the table keeps its shape
pub record Counted (d : PlainDesign) (rows : List PlainInstance) (old new : List (List ℕ)) (n : ℕ)
    (tallying : Tallying) (budget : ℕ) (answer : Answer) : Type 0 where
  pub shape : KeepsShape old new
  pub grows : (turns : ℕ) → answer ≡ End turns → GrowsBy d rows old new n tallying budget

-- THE RUN OF MAIN from the start with these words HAS COUNTED, where it ends, of each group of each instance what the definition
-- counts, modulo two to the 64; whatever its answer, the table keeps its shape
pub record MainCounted (d : PlainDesign) (words : List (List ℕ)) (budget : ℕ) (answer : Answer)
    (old new : List (List ℕ)) : Type 0 where
  pub shape : KeepsShape old new
  pub grows : (turns : ℕ) → answer ≡ End turns → HasRows d old → Grows d old new (tally_of d words budget)

abbrev pub HasCounted : Design → List (List ℕ) → ℕ → Ran → List (List ℕ) → List (List ℕ) → Type 0
HasCounted given words budget ran old new = MainCounted (plain_design given) words budget ran.answer old new
