-- What a run counts: of each group of each instance the turns in which a cycle is made with it active.
use Rattle.std.specs.Prelude.{ℕ, zero, suc, List, [], ◌∷◌, Option, Some, None}
use Rattle.cx_meaning.specs.declared.kinds.GroupKind.{GroupKind}
use Rattle.cx_meaning.specs.declared.kinds.GroupKind.TheVariants as kinds
use Rattle.cx_meaning.specs.Designs.{PlainDesign, group_at, PlainForm, Enable}
use Rattle.cx_meaning.specs.Instances.{Instance, Node, Cells, no_cells, a_primitive, an_instance, part_of, tree_of, State, under, start}
use Rattle.cx_meaning.specs.Active.{Active, group, entries}
use Rattle.cx_meaning.specs.Sights.{Held, unheld}
use Rattle.cx_meaning.specs.Calls.{group_turn, called, inputs_of_call}
use Rattle.cx_meaning.specs.Running.{leaves, control_below}
use Rattle.cx_rewrites.specs.Tallies.{Tally, none, below, Counted, turns_count, Counting, count, island_count}

-- one cycle of an instance: once each group of it that is active
abbrev pub once : Option ℕ → ℕ
once None = 0
once (Some offset) = 1

abbrev pub made_with : Active → Tally
made_with act [] g = once (act.offset g)
made_with act (c ∷ path) g = 0

-- what the control of the child at each cell counts, with its inputs held
abbrev pub ChildrenCount : Type 0
ChildrenCount = ℕ → Held → Counted State

-- an island, or a static group by itself
abbrev pub count_island : Instance → Held → PlainForm → Counted State
count_island i held form s n = island_count (λ es. made_with (entries es)) i held form s n

-- a group counts its cycles. A call counts what the child counts, and neither its capture cycle nor its idle turns
abbrev pub count_call_or_turns : Instance → ChildrenCount → Held → ℕ → Option ℕ → Counted State
count_call_or_turns i child held g (Some c) s n = below c (child c (inputs_of_call i held g c s) (under c s) n)
count_call_or_turns i child held g None s n = turns_count (group_turn i held g) (made_with (group g)) s n

abbrev pub count_enable : Instance → ChildrenCount → Held → ℕ → GroupKind → Counted State
count_enable i child held g kinds.Plain s n = count_call_or_turns i child held g (called i g) s n
count_enable i child held g kinds.Comb s n = count_call_or_turns i child held g (called i g) s n
count_enable i child held g (kinds.Timed length) s n = count_island i held (Enable g) s n

-- what the leaves of control in an instance count
abbrev pub counting : Instance → ChildrenCount → Held → Counting State
counting i child held = record {
  enable = λ g. count_enable i child held g (group_at (part_of i) g).kind;
  island = count_island i held;
}

-- WHAT THE CONTROL OF AN INSTANCE COUNTS, with its inputs held, in a run from a state for a budget of turns
abbrev mutual
  pub count_control : Instance → Held → Counted State
  count_control (Node part cells) held s n =
      count (leaves (Node part cells) (control_below cells) held)
      (counting (Node part cells) (count_below cells) held) part.control s n

  pub count_below : Cells → ChildrenCount
  count_below no_cells c held s n = none
  count_below (a_primitive row rest) zero held s n = none
  count_below (a_primitive row rest) (suc c) held s n = count_below rest c held s n
  count_below (an_instance child rest) zero held s n = count_control child held s n
  count_below (an_instance child rest) (suc c) held s n = count_below rest c held s n

-- WHAT THE RUN OF MAIN COUNTS, from the start with the loaded words
abbrev pub tally_of : PlainDesign → List (List ℕ) → ℕ → Tally
tally_of d words n = count_control (tree_of d) unheld (start (tree_of d) words) n
