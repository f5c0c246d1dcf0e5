-- What is counted in a run, beside the run itself: tallies, and what a statement counts, by what its leaves count.
use Rattle.std.specs.Prelude.{ℕ, zero, suc, ◌+◌, ◌-◌, nat_eq, List, [], ◌∷◌, if◌then◌else◌}
use Rattle.cx_meaning.specs.Designs.{PlainForm, Empty, Enable, Seq, Par, If, While, Repeat, StaticSeq, StaticPar, StaticIf, StaticRepeat, Timed, PlainStatement, Placed, PlainStatements, no_statements, a_statement}
use Rattle.cx_meaning.specs.Instances.{Instance, part_of, Path, State}
use Rattle.cx_meaning.specs.Active.{Entry, nothing}
use Rattle.cx_meaning.specs.Sights.{Held, seen}
use Rattle.cx_meaning.specs.Islands.{Occurrence, History, no_history, and_now, active_in, form_flat, form_length, island_turn}
use Rattle.cx_meaning.specs.Answers.{Answer, End, More, Meaning, Turn, Ends, Goes, Test, Holds, Fails, Unclear}
use Rattle.cx_meaning.specs.Answers as answers
use Rattle.cx_meaning.specs.Control.{Leaves, run}

-- a tally: a number for each instance, by its path, and each group of it
abbrev pub Tally : Type 0
Tally = Path → ℕ → ℕ

abbrev pub none : Tally
none path g = 0

abbrev pub plus : Tally → Tally → Tally
plus a b path g = a path g + b path g

-- the tally of the child at a cell, and what a child counts, as a tally of the instance
abbrev pub at_cell : ℕ → Tally → Tally
at_cell c a path g = a (c ∷ path) g

abbrev pub below : ℕ → Tally → Tally
below c a [] g = 0
below c a (d ∷ path) g = if nat_eq c d then a path g else 0

-- what is counted in a run from a state, for a budget
abbrev pub Counted : Type 0 → Type 0
Counted S = S → ℕ → Tally

-- of two branches the one that is taken
abbrev pub chosen_count : {F : Type 0} → Test F → Tally → Tally → Tally
chosen_count Holds first second = first
chosen_count Fails first second = second
chosen_count (Unclear f) first second = none

module _ {S F : Type 0} where
  -- what goes on from where a run with budget n ended
  abbrev pub then_count : Answer S F → ℕ → Counted S → Tally
  then_count (End s t) n go = go s (n - t)
  then_count (answers.Fault f t) n go = none
  then_count More n go = none

  abbrev pub turn_count : Turn S F → (S → Tally) → Tally
  turn_count Ends go = none
  turn_count (Goes after) go = go after
  turn_count (answers.Faults f) go = none

  -- one turn, in which so much is counted where it goes on, and then the rest
  abbrev pub one_count : (S → Turn S F) → Tally → Counted S → Counted S
  one_count turn one counts s zero = none
  one_count turn one counts s (suc n) = turn_count (turn s) (λ after. plus one (counts after n))

  -- one kind of turn again and again: each counts that is neither the last nor a fault
  abbrev pub turns_count : (S → Turn S F) → Tally → Counted S
  turns_count turn one s zero = none
  turns_count turn one s (suc n) = turn_count (turn s) (λ after. plus one (turns_count turn one after n))

  abbrev pub test_count : (S → S) → (S → Test F) → Counted S → Counted S → Counted S
  test_count rest test first second s zero = none
  test_count rest test first second s (suc n) = chosen_count (test s) (first (rest s) n) (second (rest s) n)

  abbrev pub loop_count : ℕ → (S → S) → (S → Test F) → Meaning S F → Counted S → Counted S
  loop_count zero rest test body counts s n = none
  loop_count (suc tests) rest test body counts s n =
      test_count rest test
      (λ s1 m. plus (counts s1 m) (then_count (body s1 m) m (loop_count tests rest test body counts)))
      (λ s1 m. none) s n

  abbrev pub rounds_count : ℕ → Meaning S F → Counted S → Counted S
  rounds_count zero body counts s n = none
  rounds_count (suc k) body counts s n = plus (counts s n) (then_count (body s n) n (rounds_count k body counts))

-- what the leaves count. An idle turn, a test and an island of a lowered design count nothing
pub record Counting (S : Type 0) : Type 0 where
  pub enable : ℕ → Counted S
  pub island : PlainForm → Counted S

-- where nothing is counted
abbrev pub uncounted : {S : Type 0} → Counting S
uncounted = record { enable = λ g s n. none; island = λ form s n. none }

-- WHAT A STATEMENT COUNTS: its parts, each from where the part before it ended; in a par all arms
abbrev mutual
  pub count_form : {S F : Type 0} → Leaves S F → Counting S → PlainForm → Counted S
  count_form L C Empty s n = none
  count_form L C (Enable g) s n = C.enable g s n
  count_form L C (Seq parts) s n = count_parts L C parts s n
  count_form L C (Par arms) s n = count_arms L C arms s n
  count_form L C (If test comb a b) s n = test_count L.rest (L.test test.port comb) (count L C a) (count L C b) s n
  count_form L C (While test comb a) s n = loop_count (suc n) L.rest (L.test test.port comb) (run L a) (count L C a) s n
  count_form L C (Repeat k a) s n = rounds_count k (run L a) (count L C a) s n
  count_form L C (StaticSeq length parts) s n = C.island (StaticSeq length parts) s n
  count_form L C (StaticPar length arms) s n = C.island (StaticPar length arms) s n
  count_form L C (StaticIf length test a b) s n = C.island (StaticIf length test a b) s n
  count_form L C (StaticRepeat length k a) s n = C.island (StaticRepeat length k a) s n
  count_form L C (Timed k) s n = none

  pub count : {S F : Type 0} → Leaves S F → Counting S → PlainStatement → Counted S
  count L C (Placed form place) s n = count_form L C form s n

  pub count_parts : {S F : Type 0} → Leaves S F → Counting S → PlainStatements → Counted S
  count_parts L C no_statements s n = none
  count_parts L C (a_statement first later) s n =
      plus (count L C first s n) (then_count (run L first s n) n (count_parts L C later))

  pub count_arms : {S F : Type 0} → Leaves S F → Counting S → PlainStatements → Counted S
  count_arms L C no_statements s n = none
  count_arms L C (a_statement first later) s n = plus (count L C first s n) (count_arms L C later s n)

-- AN ISLAND counts in each cycle what its active groups make
abbrev pub island_count_from : (List Entry → Tally) → Instance → Held → List Occurrence → ℕ → ℕ → History
    → Counted State
island_count_from made i held list zero t before s n = none
island_count_from made i held list (suc left) t before s zero = none
island_count_from made i held list (suc left) t before s (suc n) =
    let h : History = and_now before t (seen i held nothing s) in
    turn_count (island_turn i held list t h s)
    (λ after.
    plus (made (active_in h t list)) (island_count_from made i held list left (suc t) h after n))

abbrev pub island_count : (List Entry → Tally) → Instance → Held → PlainForm → Counted State
island_count made i held form s n =
    island_count_from made i held (form_flat (part_of i) form 0 [])
    (form_length (part_of i) form) 0 no_history s n
