-- The meaning of designs with static components: a cycle of an instance with those of its static components, an island, the run of main.
use Rattle.std.specs.Prelude.{ℕ, zero, suc, Bool, true, false, List, [], ◌∷◌, Option, Some, None, is_some}
use Rattle.cx_meaning.specs.declared.ports.PortRef.TheVariants as ports
use Rattle.cx_meaning.specs.declared.kinds.GroupKind.{GroupKind}
use Rattle.cx_meaning.specs.declared.kinds.GroupKind.TheVariants as kinds
use Rattle.cx_meaning.specs.declared.sights.Seen.TheVariants as sights
use Rattle.cx_meaning.specs.Designs.{PlainDesign, group_at, PlainForm, Enable, Timed}
use Rattle.cx_meaning.specs.Instances.{Instance, Node, Cells, no_cells, a_primitive, an_instance, cells_of, part_of, tree_of, Path, State, under, put, idle, merge, start}
use Rattle.cx_meaning.specs.Truths.{truth_of}
use Rattle.cx_meaning.specs.Active.{Active, nothing, group, capture, entries}
use Rattle.cx_meaning.specs.Sights.{Look, Held, unheld, seen}
use Rattle.cx_meaning.specs.Cycles.{Fault, Ended, Goes, Faults, cycle}
use Rattle.cx_meaning.specs.Answers.{Answer, More, Meaning, then_do, idle_turn, one_turn, turns_of, turn_then, Turn}
use Rattle.cx_meaning.specs.Control.{Leaves, run}
use Rattle.cx_meaning.specs.Islands.{turn_of, unless_unclear}
use Rattle.cx_meaning.specs.Calls.{hole_turn, test, called, captures, fault_below, lift_answer, inputs_of_call}
use Rattle.cx_meaning.specs.Running.{Children}
use Rattle.cx_rules.specs.Invokes.{form_lasts, drives_all}
use Rattle.cx_flattening.specs.Events.{Event, spot, form_events, events_below}
use Rattle.cx_flattening.specs.Deeds.{History, no_history, Deed, deeds_in, looked_in, own_entries, deeds_below, held_below, and_now, first_unclear}

-- a child's cycle beside what the cells before it came to
abbrev pub with_child : ℕ → Ended → Ended → Ended
with_child c (Faults fault) child = Faults fault
with_child c (Goes after) (Faults fault) = Faults (fault_below c fault)
with_child c (Goes after) (Goes own) = Goes (put c own after)

abbrev pub is_static : Instance → Bool
is_static i = is_some ((part_of i).latency)

abbrev pub child_if : Bool → ℕ → Ended → Ended → Ended
child_if true c before child = with_child c before child
child_if false c before child = before

-- A CYCLE of an instance with its static children: its own cells are looked at, then those of its static children in cell order,
-- each with its own children; all by the old state. A static child that does not run makes a cycle of its own in which nothing acts
abbrev mutual
  pub whole_cycle : Instance → Held → Active → List Deed → State → Ended
  whole_cycle (Node part cells) held act deeds s =
      cycles_below cells 0 (seen (Node part cells) held act s) deeds s (cycle (Node part cells) held act s)

  pub cycles_below : Cells → ℕ → Look → List Deed → State → Ended → Ended
  cycles_below no_cells c look deeds s before = before
  cycles_below (a_primitive row rest) c look deeds s before = cycles_below rest (suc c) look deeds s before
  cycles_below (an_instance child rest) c look deeds s before =
      cycles_below rest (suc c) look deeds s
      (child_if (is_static child) c before (whole_cycle child (held_below look c deeds)
      (entries (own_entries (deeds_below c deeds))) (deeds_below c deeds) (under c s)))

-- what the ports of an instance and of those below it are seen as under the continuous assignments alone. No continuous assignment of
-- a static component names an input
abbrev mutual
  pub look_below : Instance → Held → State → Path → Look
  look_below (Node part cells) held s [] p = seen (Node part cells) held nothing s p
  look_below (Node part cells) held s (c ∷ at) p = look_at cells c (under c s) at p

  pub look_at : Cells → ℕ → State → Path → Look
  look_at no_cells c s at p = sights.Undefined
  look_at (a_primitive row rest) zero s at p = sights.Undefined
  look_at (a_primitive row rest) (suc c) s at p = look_at rest c s at p
  look_at (an_instance child rest) zero s at p = look_below child unheld s at p
  look_at (an_instance child rest) (suc c) s at p = look_at rest c s at p

-- CYCLE t OF AN ISLAND, by a history that has the samples of t
abbrev pub whole_turn : Instance → Held → List Event → ℕ → History → State → Turn State Fault
whole_turn i held list t h s =
    unless_unclear (first_unclear (look_below i held s) (looked_in h t list))
    (whole_cycle i held (entries (own_entries (deeds_in h t list))) (deeds_in h t list) s)

abbrev pub whole_from : Instance → Held → List Event → ℕ → ℕ → History → Meaning State Fault
whole_from i held list zero t before s n = idle_turn (idle i) s n
whole_from i held list (suc left) t before s zero = More
whole_from i held list (suc left) t before s (suc n) =
    let h : History = and_now before t (look_below i held s) in
    turn_then (idle i) s (whole_turn i held list t h s) (λ after. whole_from i held list left (suc t) h after n)

-- AN ISLAND, with the static invokes in it, or a static invoke in dynamic control
abbrev pub whole_island : Instance → Held → PlainForm → Meaning State Fault
whole_island i held form s n =
    whole_from i held (form_events (part_of i) (events_below (cells_of i)) form
    (record { at = []; bound = spot []; from = 0; conditions = [] }))
    (form_lasts (part_of i) form) 0 no_history s n

abbrev pub after_child : Instance → Held → ℕ → ℕ → Bool → Meaning State Fault
after_child i held g c true s n =
    one_turn (idle i) (λ s1. turn_of (whole_cycle i held (capture g c) [] s1)) (idle_turn (idle i)) s n
after_child i held g c false s n = idle_turn (idle i) s n

abbrev pub call : Instance → Children → Held → ℕ → ℕ → Meaning State Fault
call i child held g c s n =
    then_do (lift_answer c s (child c (inputs_of_call i held g c s) (under c s) n)) n
    (after_child i held g c (captures i g))

abbrev pub group_turn : Instance → Held → ℕ → State → Turn State Fault
group_turn i held g s =
    hole_turn g (whole_cycle i held (group g) [] s) (truth_of (seen i held (group g) s (ports.Done g)))

abbrev pub call_or_turns : Instance → Children → Held → ℕ → Option ℕ → Meaning State Fault
call_or_turns i child held g (Some c) s n = call i child held g c s n
call_or_turns i child held g None s n = turns_of (idle i) (group_turn i held g) s n

abbrev pub enable_kind : Instance → Children → Held → ℕ → GroupKind → Meaning State Fault
enable_kind i child held g kinds.Plain s n = call_or_turns i child held g (called i g) s n
enable_kind i child held g kinds.Comb s n = call_or_turns i child held g (called i g) s n
enable_kind i child held g (kinds.Timed length) s n = whole_island i held (Enable g) s n

abbrev pub enable : Instance → Children → Held → ℕ → Meaning State Fault
enable i child held g s n = enable_kind i child held g (group_at (part_of i) g).kind s n

-- the leaves of control, with static invokes
abbrev pub whole_leaves : Instance → Children → Held → Leaves State Fault
whole_leaves i children held = record {
  rest = idle i;
  merged = merge;
  driven = drives_all (part_of i);
  enable = enable i children held;
  test = test i held;
  island = whole_island i held;
  timed = λ k. whole_island i held (Timed k);
}

-- RUN of the control of an instance, with its inputs held
abbrev mutual
  pub whole_control : Instance → Held → Meaning State Fault
  whole_control (Node part cells) held s n =
      run (whole_leaves (Node part cells) (whole_below cells) held) part.control s n

  pub whole_below : Cells → Children
  whole_below no_cells c held s n = More
  whole_below (a_primitive row rest) zero held s n = More
  whole_below (a_primitive row rest) (suc c) held s n = whole_below rest c held s n
  whole_below (an_instance child rest) zero held s n = whole_control child held s n
  whole_below (an_instance child rest) (suc c) held s n = whole_below rest c held s n

-- RUN OF MAIN of a design with static components
abbrev pub whole_main : PlainDesign → List (List ℕ) → ℕ → Answer State Fault
whole_main d words n = whole_control (tree_of d) unheld (start (tree_of d) words) n
