-- What a run counts of a design with static components: of each group of each instance the turns in which a cycle is made with it active.
-- An instance of a static component is an instance as any other, and all that invokes it runs the same groups.
use Rattle.std.specs.Prelude.{ℕ, zero, suc, List, [], ◌∷◌, Option, Some, None}
use Rattle.cx_meaning.specs.declared.kinds.GroupKind.{GroupKind}
use Rattle.cx_meaning.specs.declared.kinds.GroupKind.TheVariants as kinds
use Rattle.cx_meaning.specs.Designs.{PlainDesign, group_at, PlainForm, Empty, Enable, Seq, Par, If, While, Repeat, StaticSeq, StaticPar, StaticIf, StaticRepeat, Timed, PlainStatement, Placed, PlainStatements, no_statements, a_statement}
use Rattle.cx_meaning.specs.Instances.{Instance, Node, Cells, no_cells, a_primitive, an_instance, cells_of, part_of, tree_of, State, under, start}
use Rattle.cx_meaning.specs.Active.{group, entries}
use Rattle.cx_meaning.specs.Sights.{Held, unheld}
use Rattle.cx_meaning.specs.Control.{Leaves, run}
use Rattle.cx_meaning.specs.Calls.{called, inputs_of_call}
use Rattle.cx_rules.specs.Invokes.{form_lasts}
use Rattle.cx_rewrites.specs.Tallies.{Tally, none, plus, below, Counted, then_count, turn_count, turns_count, test_count, loop_count, rounds_count, Counting}
use Rattle.cx_flattening.specs.Events.{Event, spot, form_events, events_below}
use Rattle.cx_flattening.specs.Deeds.{History, no_history, and_now, Deed, deeds_in, own_entries, deeds_below}
use Rattle.cx_flattening.specs.Whole.{look_below, whole_turn, group_turn, whole_leaves, whole_below}
use Rattle.cx_profiling.specs.Counting.{ChildrenCount, made_with}

-- A STATEMENT counts what its parts count, a static invoke as an island does
abbrev mutual
  pub whole_count_form : {S F : Type 0} → Leaves S F → Counting S → PlainForm → Counted S
  whole_count_form L C Empty s n = none
  whole_count_form L C (Enable g) s n = C.enable g s n
  whole_count_form L C (Seq parts) s n = whole_count_parts L C parts s n
  whole_count_form L C (Par arms) s n = whole_count_arms L C arms s n
  whole_count_form L C (If test comb a b) s n =
      test_count L.rest (L.test test.port comb) (whole_count L C a) (whole_count L C b) s n
  whole_count_form L C (While test comb a) s n =
      loop_count (suc n) L.rest (L.test test.port comb) (run L a) (whole_count L C a) s n
  whole_count_form L C (Repeat k a) s n = rounds_count k (run L a) (whole_count L C a) s n
  whole_count_form L C (StaticSeq length parts) s n = C.island (StaticSeq length parts) s n
  whole_count_form L C (StaticPar length arms) s n = C.island (StaticPar length arms) s n
  whole_count_form L C (StaticIf length test a b) s n = C.island (StaticIf length test a b) s n
  whole_count_form L C (StaticRepeat length k a) s n = C.island (StaticRepeat length k a) s n
  whole_count_form L C (Timed k) s n = C.island (Timed k) s n

  pub whole_count : {S F : Type 0} → Leaves S F → Counting S → PlainStatement → Counted S
  whole_count L C (Placed form place) s n = whole_count_form L C form s n

  pub whole_count_parts : {S F : Type 0} → Leaves S F → Counting S → PlainStatements → Counted S
  whole_count_parts L C no_statements s n = none
  whole_count_parts L C (a_statement first later) s n =
      plus (whole_count L C first s n) (then_count (run L first s n) n (whole_count_parts L C later))

  pub whole_count_arms : {S F : Type 0} → Leaves S F → Counting S → PlainStatements → Counted S
  whole_count_arms L C no_statements s n = none
  whole_count_arms L C (a_statement first later) s n = plus (whole_count L C first s n) (whole_count_arms L C later s n)

-- ONE CYCLE OF AN ISLAND: each group of the instance that acts counts once, and so, in each instance of a static component below it, each
-- group that acts there
abbrev pub done_with : List Deed → Tally
done_with deeds [] g = made_with (entries (own_entries deeds)) [] g
done_with deeds (c ∷ path) g = done_with (deeds_below c deeds) path g

-- cycle t of an island and those after it, by the samples taken before
abbrev pub whole_count_from : Instance → Held → List Event → ℕ → ℕ → History → Counted State
whole_count_from i held list zero t before s n = none
whole_count_from i held list (suc left) t before s zero = none
whole_count_from i held list (suc left) t before s (suc n) =
    let h : History = and_now before t (look_below i held s) in
    turn_count (whole_turn i held list t h s)
    (λ after. plus (done_with (deeds_in h t list)) (whole_count_from i held list left (suc t) h after n))

-- an island, with the static invokes in it, or a static invoke in dynamic control
abbrev pub count_whole_island : Instance → Held → PlainForm → Counted State
count_whole_island i held form s n =
    whole_count_from i held (form_events (part_of i) (events_below (cells_of i)) form
    (record { at = []; bound = spot []; from = 0; conditions = [] }))
    (form_lasts (part_of i) form) 0 no_history s n

-- a group counts its cycles; a call counts what the child counts
abbrev pub count_whole_call_or_turns : Instance → ChildrenCount → Held → ℕ → Option ℕ → Counted State
count_whole_call_or_turns i child held g (Some c) s n = below c (child c (inputs_of_call i held g c s) (under c s) n)
count_whole_call_or_turns i child held g None s n = turns_count (group_turn i held g) (made_with (group g)) s n

abbrev pub count_whole_enable : Instance → ChildrenCount → Held → ℕ → GroupKind → Counted State
count_whole_enable i child held g kinds.Plain s n = count_whole_call_or_turns i child held g (called i g) s n
count_whole_enable i child held g kinds.Comb s n = count_whole_call_or_turns i child held g (called i g) s n
count_whole_enable i child held g (kinds.Timed length) s n = count_whole_island i held (Enable g) s n

-- what the leaves of control in an instance count
abbrev pub whole_counting : Instance → ChildrenCount → Held → Counting State
whole_counting i child held = record {
  enable = λ g. count_whole_enable i child held g (group_at (part_of i) g).kind;
  island = count_whole_island i held;
}

-- WHAT THE CONTROL OF AN INSTANCE COUNTS, with its inputs held, in a run from a state for a budget of turns
abbrev mutual
  pub count_whole_control : Instance → Held → Counted State
  count_whole_control (Node part cells) held s n =
      whole_count (whole_leaves (Node part cells) (whole_below cells) held)
      (whole_counting (Node part cells) (count_whole_below cells) held) part.control s n

  pub count_whole_below : Cells → ChildrenCount
  count_whole_below no_cells c held s n = none
  count_whole_below (a_primitive row rest) zero held s n = none
  count_whole_below (a_primitive row rest) (suc c) held s n = count_whole_below rest c held s n
  count_whole_below (an_instance child rest) zero held s n = count_whole_control child held s n
  count_whole_below (an_instance child rest) (suc c) held s n = count_whole_below rest c held s n

-- WHAT THE RUN OF MAIN COUNTS, from the start with the loaded words
abbrev pub whole_tally_of : PlainDesign → List (List ℕ) → ℕ → Tally
whole_tally_of d words n = count_whole_control (tree_of d) unheld (start (tree_of d) words) n
