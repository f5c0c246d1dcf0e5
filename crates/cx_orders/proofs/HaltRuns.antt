-- Where an order of the leaves comes to a fault, an arm that runs alone has it, no later.
use Rattle.std.proofs.Common.{◌≡◌, ℕ, zero, suc, ◌+◌, ◌-◌, ◌≤◌, ◌<◌, ◌⊎◌, inl, inr, ⊎_elim, Bool, true, false, List, [], ◌∷◌, ◌++◌, length, Option, Some, None, refl, sym, ap, subst, arith}
use Rattle.std.specs.Prelude.{nat_lt}
use Rattle.std.proofs.lemmas.Bool.{ltb-true, ltb-false}
use Rattle.cx_text.proofs.MemberLaws.{in_left, in_right}
use Rattle.cx_text.specs.Members.{In}
use Rattle.cx_text.specs.declared.places.Place.{Place}
use Rattle.cx_meaning.specs.declared.ports.PlacedPort.{PlacedPort}
use Rattle.cx_meaning.specs.declared.sights.Seen.{Seen}
use Rattle.cx_meaning.specs.declared.kinds.GroupKind.{GroupKind}
use Rattle.cx_meaning.specs.declared.kinds.GroupKind.TheVariants as kinds
use Rattle.cx_meaning.specs.Designs.{PlainComponent, group_at, PlainForm, Empty, Enable, Seq, Par, If, While, Repeat, StaticSeq, StaticPar, StaticIf, StaticRepeat, Timed, PlainStatement, Placed, PlainStatements, no_statements, a_statement, list_of}
use Rattle.cx_meaning.specs.Instances.{Instance, Node, OfInstance, cell_at, Cells, no_cells, a_primitive, an_instance, part_of, Path, State, instance_at, child_at, put, under, idle, IsSettled}
use Rattle.cx_meaning.specs.Active.{nothing, capture}
use Rattle.cx_meaning.specs.Sights.{Held, seen}
use Rattle.cx_meaning.specs.Cycles.{Fault, Ended, cycle_of}
use Rattle.cx_meaning.specs.Cycles as cycles
use Rattle.cx_meaning.specs.Answers.{Answer, End, Meaning, after_turns, then_do, stay, Turn, turn_then, turns_of, idle_turn, Test, Holds, Fails, Unclear, chosen, test_turn, loop, rounds, both}
use Rattle.cx_meaning.specs.Answers as answers
use Rattle.cx_meaning.specs.Control.{form_drives, Leaves, groups_in, groups_of, groups_in_all, group_drives, drives, run}
use Rattle.cx_meaning.specs.Islands.{History, island, island_from, and_now, form_flat, form_length, no_history, turn_of}
use Rattle.cx_meaning.specs.Calls.{called, captures, group_turn, fault_below, inputs_of_call, lift_answer, test, after_child, call, call_or_turns, enable_kind}
use Rattle.cx_meaning.specs.Running.{leaves, control_below}
use Rattle.cx_meaning.proofs.RunningLemmas.{idle_settles}
use Rattle.cx_rules.specs.Items.{Dynamic, visit, visit_parts, visit_all}
use Rattle.cx_rules.specs.Footprints.{Reads}
use Rattle.cx_frames.specs.Agreeing.{Agree}
use Rattle.cx_frames.specs.Arms.{all_drive}
use Rattle.cx_frames.proofs.IslandFrames.{AllFine}
use Rattle.cx_frames.proofs.RunLemmas.{capture_undriven}
use Rattle.cx_orders.specs.Open.{Open, Idling, InGroup, Choosing, Testing, InIsland, Capturing, Closing, Waiting, InSeq, InPar, InLoop, InRepeat, InCall, Opens, no_arms, an_arm, leaves_of, open_arms, open_called, open_kind, open_enable, open_control, open_below, open_statement}
use Rattle.cx_orders.specs.Leaves.{rested, own_turn, own_capture, own_island, is_tested, samples_now}
use Rattle.cx_orders.specs.Steps.{Stepped, Now, Stops, within, turned, tested, seq_left, arms_left, par_left, behind_child, first_or, inputs_seen, held_as, step, step_arms}
use Rattle.cx_orders.specs.Alone.{if_dynamic, IsLeaf, IsInArm, HasAlone, AloneWithin, own, of_arm, of_first, behind_first, of_then, of_else, of_body, behind_body, of_round, behind_round, of_child}
use Rattle.cx_orders.proofs.OwnTurns.{OnlyIn, TurnsIn, turn_only, island_only}
use Rattle.cx_orders.proofs.Inside.{IsSound, Stands, Inside, InsideOne, InsideAll, inside_self, inside_left, inside_right, AnyReads, Apart}
use Rattle.cx_orders.proofs.Fits.{Fits, ArmsFit, AllSound, sound_below, below_fits, par_arms_fit}
use Rattle.cx_orders.proofs.StepFrames.{StepsIn, step_only, arms_only}
use Rattle.cx_orders.proofs.StepFits.{StepFits, step_fits}
use Rattle.cx_orders.proofs.Orders.{Goes, EndsIn}
use Rattle.cx_orders.proofs.Ending.{put_same, ends_only}
use Rattle.cx_orders.proofs.LeafRuns.{IsLawful, Answered, Busy, busy_settled, busy_still, own_is, Same, same_now, island_is}
use Rattle.cx_orders.proofs.Runs.{answered_settled, rests, tested_fine, first_at, under_settled, put_settled, ChildRuns, runs_with, statement_settles, below_runs, AllLawful}
use Rattle.cx_orders.proofs.Halting.{Stopped, HaltsIn, ChildHas, seq_halts, loop_halts, repeat_halts, waiting_goes_on, call_halts, halting_begins, halts_alike}
use Rattle.cx_text.proofs.NumberLaws.{no_less}
use Rattle.cx_meaning.proofs.SightsLaws.{behind_comb}
use Rattle.cx_laws.proofs.VisitLemmas.{itself}

-- a run that has the fault in one of its first turns
abbrev pub Met : Answer State Fault → Fault → ℕ → Type 0
Met x fault m = (t : ℕ) × (x ≡ answers.Fault fault t) × (t ≤ m)

later_met : (x : Answer State Fault) (fault : Fault) (m : ℕ) → Met x fault m → Met (after_turns 1 x) fault (suc m)
later_met x fault m (t, e, less) = (1 + t, ap (after_turns 1) e, omega arith)

-- one run, and then another
then_met : (x : Answer State Fault) (middle : State) (fault : Fault) (one two m n : ℕ) (go : Meaning State Fault) → m ≡ one + two → m < n → Answered x middle one
    → ((k : ℕ) → two < k → k ≤ n → Met (go middle k) fault two) → Met (then_do x n go) fault m
then_met x middle fault one two m n go sum less (t, e, few) rest =
    let enough : two < n - t = omega arith in
    let within : n - t ≤ n = omega arith in
    let r = rest (n - t) enough within in
    let bound : r.0 ≤ two = r.2 in
    let turns : t + r.0 ≤ m = omega arith in
    subst (λ y. Met (then_do y n go) fault m) (sym e) (t + r.0, ap (after_turns t) r.1, turns)

-- WHAT IS OPEN WITHOUT A PART at last, where a leaf that opens nothing halts
abbrev OpensNone : Open → Type 0
OpensNone Idling = Unit {0}
OpensNone (InGroup g) = Unit {0}
OpensNone (Choosing port comb a b) = ⊥
OpensNone (Testing port comb body) = ⊥
OpensNone (InIsland form t left h) = Unit {0}
OpensNone (Capturing g c) = Unit {0}
OpensNone (Closing g) = Unit {0}
OpensNone Waiting = Unit {0}
OpensNone (InSeq first later) = ⊥
OpensNone (InPar arms) = ⊥
OpensNone (InLoop run port comb body) = ⊥
OpensNone (InRepeat run left body) = ⊥
OpensNone (InCall g c inputs child) = ⊥

none_is_leaf : (o : Open) → OpensNone o → IsLeaf o
none_is_leaf Idling h = tt
none_is_leaf (InGroup g) h = tt
none_is_leaf (Choosing port comb a b) h = tt
none_is_leaf (Testing port comb body) h = tt
none_is_leaf (InIsland form t left k) h = tt
none_is_leaf (Capturing g c) h = tt
none_is_leaf (Closing g) h = tt
none_is_leaf Waiting h = tt
none_is_leaf (InSeq first later) h = absurd h
none_is_leaf (InPar arms) h = absurd h
none_is_leaf (InLoop run port comb body) h = absurd h
none_is_leaf (InRepeat run left body) h = absurd h
none_is_leaf (InCall g c inputs child) h = absurd h

module _ (i : Instance) (held : Held) (fault : Fault) (last : Open) (leaf : ℕ) where
  turned_leaf : (m : ℕ) (x : Turn State Fault) (rest : State) (later : Open) → Goes (turned x rest (later)) (HaltsIn i held fault last leaf m) → ((s : State) → HaltsIn i held fault last leaf m (Some later) s → IsLeaf last) → IsLeaf last
  turned_leaf m answers.Ends rest later e again = absurd e
  turned_leaf m (answers.Goes after) rest later e again = again after e
  turned_leaf m (answers.Faults f) rest later e again = absurd e

  leaf_at_last : (m : ℕ) (o : Open) (s : State) → OpensNone o → HaltsIn i held fault last leaf m (Some o) s → IsLeaf last
  leaf_at_last zero o s none (is, below, e) = subst IsLeaf is (none_is_leaf o none)
  leaf_at_last (suc m) Idling s none (k, below, e) = absurd e
  leaf_at_last (suc m) (InGroup g) s none (k, below, e) = turned_leaf m (own_turn i held g s) _ (InGroup g) e (λ t h. leaf_at_last m (InGroup g) t tt h)
  leaf_at_last (suc m) (Choosing port comb a b) s none e = absurd none
  leaf_at_last (suc m) (Testing port comb body) s none e = absurd none
  leaf_at_last (suc m) (InIsland form t zero h) s none (k, below, e) = absurd e
  leaf_at_last (suc m) (InIsland form t (suc left) h) s none (k, below, e) =
      turned_leaf m (own_island i held form t (samples_now i held form h t s) s) s (InIsland form (suc t) left (samples_now i held form h t s)) e (λ u j. leaf_at_last m (InIsland form (suc t) left (samples_now i held form h t s)) u tt j)
  leaf_at_last (suc m) (Capturing g c) s none (k, below, e) = turned_leaf m (own_capture i held g c s) s (Closing g) e (λ t h. leaf_at_last m (Closing g) t tt h)
  leaf_at_last (suc m) (Closing g) s none (k, below, e) = absurd e
  leaf_at_last (suc m) Waiting s none (k, below, e) = leaf_at_last m Waiting s tt e
  leaf_at_last (suc m) (InSeq first later) s none e = absurd none
  leaf_at_last (suc m) (InPar arms) s none e = absurd none
  leaf_at_last (suc m) (InLoop run port comb body) s none e = absurd none
  leaf_at_last (suc m) (InRepeat run left body) s none e = absurd none
  leaf_at_last (suc m) (InCall g c inputs child) s none e = absurd none

  behind_leaf : (m : ℕ) (capturing : Bool) (g c : ℕ) (s : State) → HaltsIn i held fault last leaf m (Some (behind_child capturing g c)) s → IsLeaf last
  behind_leaf m true g c s e = leaf_at_last m (Capturing g c) s tt e
  behind_leaf m false g c s e = leaf_at_last m (Closing g) s tt e

-- LEAVES
module _ (i : Instance) (law : IsLawful i) (held : Held) (fault : Fault) (last : Open) (leaf : ℕ) where
  group_stops : (g m n : ℕ) (s : State) (t : Turn State Fault) → Stopped fault (turned t (rested i (group_drives (part_of i) g) s) (InGroup g)) → Met (turn_then (idle i) s t (λ after. turns_of (idle i) (group_turn i held g) after n)) fault m
  group_stops g m n s answers.Ends e = absurd e
  group_stops g m n s (answers.Goes after) e = absurd e
  group_stops g m n s (answers.Faults f) e = (0, ap (λ h. answers.Fault h 0) e, omega arith)

  group_goes : (g m n : ℕ) (s : State) (t : Turn State Fault) → Busy i (group_drives (part_of i) g) s → TurnsIn (group_drives (part_of i) g) s t
      → Goes (turned t (rested i (group_drives (part_of i) g) s) (InGroup g)) (HaltsIn i held fault last leaf m)
      → ((after : State) → Busy i (group_drives (part_of i) g) after → HaltsIn i held fault last leaf m (Some (InGroup g)) after → Met (turns_of (idle i) (group_turn i held g) after n) fault m)
      → Met (turn_then (idle i) s t (λ after. turns_of (idle i) (group_turn i held g) after n)) fault (suc m)
  group_goes g m n s answers.Ends busy only e again = absurd e
  group_goes g m n s (answers.Goes after) busy only e again = later_met (turns_of (idle i) (group_turn i held g) after n) fault m (again after (busy_still i (group_drives (part_of i) g) s after only busy) e)
  group_goes g m n s (answers.Faults f) busy only e again = absurd e

  group_halts : (g m : ℕ) (s : State) → Busy i (group_drives (part_of i) g) s → HaltsIn i held fault last leaf m (Some (InGroup g)) s → (n : ℕ) → m < n → Met (turns_of (idle i) (group_turn i held g) s n) fault m
  group_halts g zero s busy (is, below, e) zero less = absurd (no_less zero less)
  group_halts g (suc m) s busy (k, below, e) zero less = absurd (no_less (suc m) less)
  group_halts g zero s busy (is, below, e) (suc n) less =
      subst (λ t. Met (turn_then (idle i) s t (λ after. turns_of (idle i) (group_turn i held g) after n)) fault 0) (own_is i law held s g s busy) (group_stops g 0 n s (own_turn i held g s) e)
  group_halts g (suc m) s busy (k, below, e) (suc n) less =
      subst (λ t. Met (turn_then (idle i) s t (λ after. turns_of (idle i) (group_turn i held g) after n)) fault (suc m)) (own_is i law held s g s busy)
      (group_goes g m n s (own_turn i held g s) busy (turn_only i held g s) e (λ after b h. group_halts g m after b h n (let few : m < n = omega arith in few)))

  closing_goes : (g m : ℕ) (s : State) → HaltsIn i held fault last leaf m (Some (Closing g)) s → ⊥
  closing_goes g zero s (is, below, e) = e
  closing_goes g (suc m) s (k, below, e) = e

  capture_stops : (g m n : ℕ) (s : State) (x : Ended) → Stopped fault (turned (turn_of x) s (Closing g)) → Met (turn_then (idle i) s (turn_of x) (λ after. idle_turn (idle i) after n)) fault m
  capture_stops g m n s (cycles.Goes after) e = absurd e
  capture_stops g m n s (cycles.Faults f) e = (0, ap (λ h. answers.Fault h 0) e, omega arith)

  capture_goes : (g m : ℕ) (s : State) (x : Ended) → Goes (turned (turn_of x) s (Closing g)) (HaltsIn i held fault last leaf m) → ⊥
  capture_goes g m s (cycles.Goes after) e = closing_goes g m after e
  capture_goes g m s (cycles.Faults f) e = e

  behind_halts : (g c m : ℕ) (capturing : Bool) (s : State) → IsSettled i s → HaltsIn i held fault last leaf m (Some (behind_child capturing g c)) s → (n : ℕ) → m < n → Met (after_child i held g c capturing s n) fault m
  behind_halts g c m false s settled e n less = absurd (closing_goes g m s e)
  behind_halts g c zero true s settled (is, below, e) zero less = absurd (no_less zero less)
  behind_halts g c (suc m) true s settled (k, below, e) zero less = absurd (no_less (suc m) less)
  behind_halts g c zero true s settled (is, below, e) (suc n) less =
      subst (λ t. Met (turn_then (idle i) s (turn_of t) (λ after. idle_turn (idle i) after n)) fault 0)
      (law.suffices held (capture g c) (group_drives (part_of i) g) s (λ d off. capture_undriven (part_of i) g c d off) (busy_settled i (group_drives (part_of i) g) s settled))
      (capture_stops g 0 n s (cycle_of i held (capture g c) (group_drives (part_of i) g) s) e)
  behind_halts g c (suc m) true s settled (k, below, e) (suc n) less = absurd (capture_goes g m s (cycle_of i held (capture g c) (group_drives (part_of i) g) s) e)

  module _ (final : State) (form : PlainForm) (fine : AllFine (λ g. Unit {0}) (λ port. is_tested form port ≡ true) (form_flat (part_of i) form 0 [])) where
    island_stops : (m n t left : ℕ) (h k : History) (s : State) (x : Turn State Fault) → Stopped fault (turned x s (InIsland form (suc t) left h)) → Met (turn_then (idle i) s x (λ after. island_from i held (form_flat (part_of i) form 0 []) left (suc t) k after n)) fault m
    island_stops m n t left h k s answers.Ends e = absurd e
    island_stops m n t left h k s (answers.Goes after) e = absurd e
    island_stops m n t left h k s (answers.Faults f) e = (0, ap (λ h. answers.Fault h 0) e, omega arith)

    island_goes : (m n t left : ℕ) (h k : History) (s : State) (x : Turn State Fault) → TurnsIn (form_drives (part_of i) form) s x → Busy i (form_drives (part_of i) form) s
        → Goes (turned x s (InIsland form (suc t) left h)) (HaltsIn i held fault last leaf m)
        → ((after : State) → Busy i (form_drives (part_of i) form) after → HaltsIn i held fault last leaf m (Some (InIsland form (suc t) left h)) after → Met (island_from i held (form_flat (part_of i) form 0 []) left (suc t) k after n) fault m)
        → Met (turn_then (idle i) s x (λ after. island_from i held (form_flat (part_of i) form 0 []) left (suc t) k after n)) fault (suc m)
    island_goes m n t left h k s answers.Ends only busy e again = absurd e
    island_goes m n t left h k s (answers.Goes after) only busy e again = later_met (island_from i held (form_flat (part_of i) form 0 []) left (suc t) k after n) fault m (again after (busy_still i (form_drives (part_of i) form) s after only busy) e)
    island_goes m n t left h k s (answers.Faults f) only busy e again = absurd e

    island_halts : (m t left : ℕ) (h k : History) (s : State) → Same i law held final form fine h k → Busy i (form_drives (part_of i) form) s → HaltsIn i held fault last leaf m (Some (InIsland form t left h)) s → (n : ℕ) → m < n
        → Met (island_from i held (form_flat (part_of i) form 0 []) left t k s n) fault m
    island_halts zero t zero h k s same busy (is, below, e) n less = absurd e
    island_halts (suc m) t zero h k s same busy (l, below, e) n less = absurd e
    island_halts zero t (suc left) h k s same busy (is, below, e) zero less = absurd (no_less zero less)
    island_halts (suc m) t (suc left) h k s same busy (l, below, e) zero less = absurd (no_less (suc m) less)
    island_halts zero t (suc left) h k s same busy (is, below, e) (suc n) less =
        subst (λ x. Met (turn_then (idle i) s x (λ after. island_from i held (form_flat (part_of i) form 0 []) left (suc t) (and_now k t (seen i held nothing s)) after n)) fault 0)
        (island_is i law held final form fine (samples_now i held form h t s) (and_now k t (seen i held nothing s)) t s (same_now i law held final form fine h k t s same) busy)
        (island_stops 0 n t left (samples_now i held form h t s) (and_now k t (seen i held nothing s)) s (own_island i held form t (samples_now i held form h t s) s) e)
    island_halts (suc m) t (suc left) h k s same busy (l, below, e) (suc n) less =
        subst (λ x. Met (turn_then (idle i) s x (λ after. island_from i held (form_flat (part_of i) form 0 []) left (suc t) (and_now k t (seen i held nothing s)) after n)) fault (suc m))
        (island_is i law held final form fine (samples_now i held form h t s) (and_now k t (seen i held nothing s)) t s (same_now i law held final form fine h k t s same) busy)
        (island_goes m n t left (samples_now i held form h t s) (and_now k t (seen i held nothing s)) s (own_island i held form t (samples_now i held form h t s) s)
        (island_only i held form t (samples_now i held form h t s) s) busy e
        (λ after b j. island_halts m (suc t) left (samples_now i held form h t s) (and_now k t (seen i held nothing s)) after (same_now i law held final form fine h k t s same) b j n (let few : m < n = omega arith in few)))

  idling_goes : (m : ℕ) (s : State) → HaltsIn i held fault last leaf m (Some Idling) s → ⊥
  idling_goes zero s (is, below, e) = e
  idling_goes (suc m) s (k, below, e) = e

-- ARMS: the one in which the leaf is halts by itself
abbrev AnyHalts : Instance → Held → Fault → Opens → ℕ → ℕ → Opens → State → Type 0
AnyHalts i held fault ends leaf m no_arms s = ⊥
AnyHalts i held fault ends leaf m (an_arm v o os) s =
    ((n : ℕ) × (n ≤ m) × (last : Open) × (l : ℕ) × IsInArm ends leaf v last l × HaltsIn i held fault last l n (Some o) s) ⊎ AnyHalts i held fault ends leaf m os s

abbrev GoesArms : Stepped Opens → (Opens → State → Type 0) → Type 0
GoesArms (Now arms after) P = P arms after
GoesArms (Stops fault) P = ⊥

any_more : (i : Instance) (held : Held) (fault : Fault) (ends : Opens) (leaf m : ℕ) (arms : Opens) (s : State) → AnyHalts i held fault ends leaf m arms s → AnyHalts i held fault ends leaf (suc m) arms s
any_more i held fault ends leaf m no_arms s e = absurd e
any_more i held fault ends leaf m (an_arm v o os) s (inl (n, less, last, l, within_arm, h)) = inl (n, omega arith, last, l, within_arm, h)
any_more i held fault ends leaf m (an_arm v o os) s (inr h) = inr (any_more i held fault ends leaf m os s h)

-- behind an arm before the leaf
any_behind : (i : Instance) (held : Held) (fault : Fault) (w : PlainStatement) (p : Open) (ends : Opens) (leaf m : ℕ) → leaves_of p ≤ leaf → (arms : Opens) (s : State)
    → AnyHalts i held fault ends (leaf - leaves_of p) m arms s → AnyHalts i held fault (an_arm w p ends) leaf m arms s
any_behind i held fault w p ends leaf m past no_arms s e = absurd e
any_behind i held fault w p ends leaf m past (an_arm v o os) s (inl (n, less, last, l, within_arm, h)) = inl (n, less, last, l, inr (past, within_arm), h)
any_behind i held fault w p ends leaf m past (an_arm v o os) s (inr h) = inr (any_behind i held fault w p ends leaf m past os s h)

module _ (part : PlainComponent) (x : PlainStatement) (xs : List PlainStatement) (apart : Apart part x xs) (s : State) where
  first_off : (a : State) → OnlyIn (drives part x) s a → Agree (AnyReads part xs) a s
  first_off a only c below r = go (drives part x c) refl
    where
      go : (b : Bool) → drives part x c ≡ b → a (c ∷ below) ≡ s (c ∷ below)
      go true e = absurd (apart.one c e r)
      go false e = only.others c below e

  later_off : (b : State) → OnlyIn (all_drive part xs) s b → Agree (Reads part x) b s
  later_off b only c below r = go (all_drive part xs c) refl
    where
      go : (v : Bool) → all_drive part xs c ≡ v → b (c ∷ below) ≡ s (c ∷ below)
      go true e = absurd (apart.other c e r)
      go false e = only.others c below e

module _ (i : Instance) (all : AllSound i) (held : Held) (fault : Fault) (st : PlainStatement) (stands : Stands i st) (ends : Opens) (leaf : ℕ) where
  any_alike : (m : ℕ) (list : List PlainStatement) (arms : Opens) (s t : State) → ArmsFit i st list arms → Agree (AnyReads (part_of i) list) s t → AnyHalts i held fault ends leaf m arms s → AnyHalts i held fault ends leaf m arms t
  any_alike m list no_arms s t fits agree e = absurd e
  any_alike m [] (an_arm v o os) s t fits agree e = absurd fits
  any_alike m (x ∷ xs) (an_arm v o os) s t (is, one, apart, rest) agree (inl (n, less, last, l, within_arm, h)) =
      inl (n, less, last, l, within_arm, halts_alike i all held fault last l x is.stands n (Some o) s t one (λ c below r. agree c below (inl r)) h)
  any_alike m (x ∷ xs) (an_arm v o os) s t (is, one, apart, rest) agree (inr h) = inr (any_alike m xs os s t rest (λ c below r. agree c below (inr r)) h)

  first_back : (m : ℕ) (x : PlainStatement) (xs : List PlainStatement) (v : PlainStatement) (o : Open) (os : Opens) → ArmsFit i st (x ∷ xs) (an_arm v o os) → (k : ℕ) → k < leaves_of o → (s : State) (y : Stepped (Option Open)) → step i held o k s ≡ y
      → StepsIn (drives (part_of i) x) s y → GoesArms (within (arms_left v os) y) (AnyHalts i held fault ends leaf m) → AnyHalts i held fault ends leaf (suc m) (an_arm v o os) s
  first_back m x xs v o os (is, one, apart, rest) k less s (Now None a) same only e =
      inr (any_more i held fault ends leaf m os s (any_alike m xs os a s rest (first_off (part_of i) x xs apart s a only) e))
  first_back m x xs v o os (is, one, apart, rest) k less s (Now (Some p) a) same only (inl (n, small, last, l, within_arm, h)) =
      inl (suc n, omega arith, last, l, within_arm, (k, less, subst (λ z. Goes z (HaltsIn i held fault last l n)) (sym same) h))
  first_back m x xs v o os (is, one, apart, rest) k less s (Now (Some p) a) same only (inr h) =
      inr (any_more i held fault ends leaf m os s (any_alike m xs os a s rest (first_off (part_of i) x xs apart s a only) h))
  first_back m x xs v o os fits k less s (Stops f) same only e = absurd e

  later_back : (m : ℕ) (x : PlainStatement) (xs : List PlainStatement) (v : PlainStatement) (o : Open) (os : Opens) → ArmsFit i st (x ∷ xs) (an_arm v o os) → (s : State) (y : Stepped Opens)
      → StepsIn (all_drive (part_of i) xs) s y → GoesArms (within (an_arm v o) y) (AnyHalts i held fault ends leaf m)
      → (GoesArms y (AnyHalts i held fault ends leaf m) → AnyHalts i held fault ends leaf (suc m) os s) → AnyHalts i held fault ends leaf (suc m) (an_arm v o os) s
  later_back m x xs v o os (is, one, apart, rest) s (Now more a) only (inl (n, small, last, l, within_arm, h)) again =
      inl (n, omega arith, last, l, within_arm, halts_alike i all held fault last l x is.stands n (Some o) a s one (later_off (part_of i) x xs apart s a only) h)
  later_back m x xs v o os fits s (Now more a) only (inr h) again = inr (again h)
  later_back m x xs v o os fits s (Stops f) only e again = absurd e

  back : (m : ℕ) (list : List PlainStatement) (arms : Opens) → ArmsFit i st list arms → (k : ℕ) (s : State) → GoesArms (step_arms i held arms k s) (AnyHalts i held fault ends leaf m) → AnyHalts i held fault ends leaf (suc m) arms s
  back m list no_arms fits k s e = absurd e
  back m [] (an_arm v o os) fits k s e = absurd fits
  back m (x ∷ xs) (an_arm v o os) (is, one, apart, rest) k s e =
      go (nat_lt k (leaves_of o)) refl e (λ h. back m xs os rest (k - leaves_of o) s h)
    where
      go : (b : Bool) → nat_lt k (leaves_of o) ≡ b → GoesArms (first_or b (within (arms_left v os) (step i held o k s)) (within (an_arm v o) (step_arms i held os (k - leaves_of o) s))) (AnyHalts i held fault ends leaf m)
          → (GoesArms (step_arms i held os (k - leaves_of o) s) (AnyHalts i held fault ends leaf m) → AnyHalts i held fault ends leaf (suc m) os s) → AnyHalts i held fault ends leaf (suc m) (an_arm v o os) s
      go true f h again = first_back m x xs v o os (is, one, apart, rest) k (ltb-true k (leaves_of o) f) s (step i held o k s) refl (step_only i held x o one k s) h
      go false f h again = later_back m x xs v o os (is, one, apart, rest) s (step_arms i held os (k - leaves_of o) s) (arms_only i held st xs os rest (k - leaves_of o) s) h again

module _ (i : Instance) (held : Held) (fault : Fault) where
  stop_first : (v : PlainStatement) (os : Opens) (y : Stepped (Option Open)) → Stopped fault (within (arms_left v os) y) → Stopped fault y
  stop_first v os (Now left a) e = e
  stop_first v os (Stops f) e = e

  stop_later : (v : PlainStatement) (o : Open) (y : Stepped Opens) → Stopped fault (within (an_arm v o) y) → Stopped fault y
  stop_later v o (Now left a) e = e
  stop_later v o (Stops f) e = e

  stop_par : (y : Stepped Opens) → Stopped fault (within par_left y) → Stopped fault y
  stop_par (Now left a) e = e
  stop_par (Stops f) e = e

  any_stops : (arms : Opens) (k : ℕ) (s : State) → Stopped fault (step_arms i held arms k s) → AnyHalts i held fault arms k 0 arms s
  any_stops no_arms k s e = absurd e
  any_stops (an_arm v o os) k s e = go (nat_lt k (leaves_of o)) refl e (any_stops os (k - leaves_of o) s)
    where
      go : (b : Bool) → nat_lt k (leaves_of o) ≡ b → Stopped fault (first_or b (within (arms_left v os) (step i held o k s)) (within (an_arm v o) (step_arms i held os (k - leaves_of o) s)))
          → (Stopped fault (step_arms i held os (k - leaves_of o) s) → AnyHalts i held fault os (k - leaves_of o) 0 os s) → AnyHalts i held fault (an_arm v o os) k 0 (an_arm v o os) s
      go true f h again = let less : k < leaves_of o = ltb-true k (leaves_of o) f in inl (0, omega arith, o, k, inl (less, refl, refl, refl), (refl, less, stop_first v os (step i held o k s) h))
      go false f h again = inr (any_behind i held fault v o os k 0 (ltb-false k (leaves_of o) f) os s (again (stop_later v o (step_arms i held os (k - leaves_of o) s) h)))

module _ (i : Instance) (all : AllSound i) (held : Held) (fault : Fault) (last : Open) (leaf : ℕ) (st : PlainStatement) (stands : Stands i st) where
  abbrev ArmHalts : ℕ → Opens → State → Type 0
  ArmHalts m arms s = (ends : Opens) × (last ≡ InPar ends) × AnyHalts i held fault ends leaf m arms s

  par_turn : (m : ℕ) (y : Stepped Opens) → StepFits i st (within par_left y) → Goes (within par_left y) (HaltsIn i held fault last leaf m)
      → ((arms : Opens) (s : State) → Fits i st (InPar arms) → HaltsIn i held fault last leaf m (Some (InPar arms)) s → ArmHalts m arms s) → (arms : Opens) (s : State)
      → ((ends : Opens) → GoesArms y (AnyHalts i held fault ends leaf m) → AnyHalts i held fault ends leaf (suc m) arms s) → ArmHalts (suc m) arms s
  par_turn m (Now no_arms a) fits e again arms s before = absurd e
  par_turn m (Now (an_arm v o os) a) fits e again arms s before = let r = again (an_arm v o os) a fits e in (r.0, r.1, before r.0 r.2)
  par_turn m (Stops f) fits e again arms s before = absurd e

  -- of a par that halts the arm in which the leaf is does so alone
  pub one_halts : (m : ℕ) (arms : Opens) (s : State) → Fits i st (InPar arms) → HaltsIn i held fault last leaf m (Some (InPar arms)) s → ArmHalts m arms s
  one_halts zero arms s fits (is, less, e) = (arms, sym is, any_stops i held fault arms leaf s (stop_par i held fault (step_arms i held arms leaf s) e))
  one_halts (suc m) arms s (x, xs, fits) (k, less, e) =
      par_turn m (step_arms i held arms k s) (step_fits i all held st stands (InPar arms) (x, xs, fits) k s) e (λ os t f h. one_halts m os t f h) arms s
      (λ ends h. back i all held fault st stands ends leaf m (x ∷ xs) arms fits k s h)

-- what a run of the child at a cell comes to
abbrev ChildHalts : Cells → ℕ → Type 0
ChildHalts cells c =
    (inputs : Held) (fault : Fault) (last : Open) (leaf m : ℕ) (s : State) → IsSettled (child_at cells c []) s → HaltsIn (child_at cells c []) inputs fault last leaf m (Some (open_below cells c)) s
    → (child : Instance) × (cell_at cells c ≡ OfInstance child) × AloneWithin child inputs (part_of child).control s fault m last leaf

-- TESTS
stops_unclear : (t : Test Fault) (fault : Fault) (s : State) (a b : Option Open) (x y : Answer State Fault) (m : ℕ) → Stopped fault (tested t s a b) → Met (chosen t x y) fault m
stops_unclear Holds fault s a b x y m e = absurd e
stops_unclear Fails fault s a b x y m e = absurd e
stops_unclear (Unclear f) fault s a b x y m e = (0, ap (λ h. answers.Fault h 0) e, omega arith)

module _ (part : PlainComponent) (cells : Cells) (all : AllSound (Node part cells)) (law : IsLawful (Node part cells)) (children : (c : ℕ) → ChildRuns cells c) (faults : (c : ℕ) → ChildHalts cells c) (held : Held) (fault : Fault) where
  abbrev L : Leaves State Fault
  L = leaves (Node part cells) (control_below cells) held

  abbrev Ends : PlainStatement → Type 0
  Ends a = (final : State) (m : ℕ) (s : State) → IsSettled (Node part cells) s → EndsIn (Node part cells) held final m (Some (open_statement (Node part cells) a)) s → (n : ℕ) → m ≤ n → Answered (run L a s n) final m

  abbrev Alone : PlainStatement → State → Open → ℕ → ℕ → Type 0
  Alone a s last leaf m = AloneWithin (Node part cells) held a s fault m last leaf

  abbrev HaltsSo : Open → ℕ → ℕ → Option Open → State → Type 0
  HaltsSo last leaf m now s = HaltsIn (Node part cells) held fault last leaf m now s

  abbrev Halts : PlainStatement → Type 0
  Halts a = (last : Open) (leaf m : ℕ) (s : State) → IsSettled (Node part cells) s → HaltsSo last leaf m (Some (open_statement (Node part cells) a)) s → Alone a s last leaf m

  by_itself : (a : PlainStatement) (s : State) (last : Open) (leaf n m : ℕ) → IsLeaf last → Met (run L a s n) fault m → Alone a s last leaf m
  by_itself a s last leaf n m is (t, e, less) = (t, own n is e, less)

  at_last : (a : PlainStatement) (s : State) (last o : Open) (leaf m : ℕ) → last ≡ o → Alone a s o leaf m → Alone a s last leaf m
  at_last a s last o leaf m is h = subst (λ x. Alone a s x leaf m) (sym is) h

  -- CALLS
  abbrev Child : Open → ℕ → ℕ → Option ℕ → State → ℕ → Type 0
  Child last leaf g o s m = (c : ℕ) × (child : Instance) × (below : Fault) × (q : Open) × (before : Option (List Seen)) × (o ≡ Some c) × (cell_at cells c ≡ OfInstance child) × (fault_below c below ≡ fault) × (last ≡ InCall g c before q)
      × AloneWithin child (held_as (inputs_seen (Node part cells) held g c s)) (part_of child).control (under c s) below m q leaf

  child_faults : (last : Open) (leaf g c m : ℕ) (s : State) → IsSettled (Node part cells) s → ChildHas (Node part cells) held fault last leaf g c (inputs_seen (Node part cells) held g c s) s m (open_below cells c) (under c s) → Child last leaf g (Some c) s m
  child_faults last leaf g c m s settled (f, q, before, below, is, h) =
      let r = faults c (held_as (inputs_seen (Node part cells) held g c s)) f q leaf m (under c s) (under_settled c part cells s settled) h in
      (c, r.0, f, q, before, refl, r.1, below, is, r.2)

  begun_faults : (last : Open) (leaf g c m : ℕ) (s : State) → IsSettled (Node part cells) s → HaltsSo last leaf m (Some (InCall g c (Some (inputs_seen (Node part cells) held g c s)) (open_below cells c))) s
      → (IsLeaf last × Met (call (Node part cells) (control_below cells) held g c s (suc m)) fault m) ⊎ Child last leaf g (Some c) s m
  begun_faults last leaf g c m s settled e =
      let inputs : List Seen = inputs_seen (Node part cells) held g c s in
      let begun : HaltsSo last leaf m (Some (InCall g c (Some inputs) (open_below cells c))) (put c (under c s) s) =
      subst (HaltsSo last leaf m (Some (InCall g c (Some inputs) (open_below cells c)))) (sym (put_same c s)) e in
      ⊎_elim
      (λ h. inr (child_faults last leaf g c m s settled h))
      (λ r. let sum : m ≡ r.one + r.two = r.sum in
      let child = children c (held_as inputs) (inputs_of_call (Node part cells) held g c s) r.own r.one (under c s) (under_settled c part cells s settled) r.first
      (first_at (inputs_of_call (Node part cells) held g c s) (length (part_of (child_at cells c [])).inputs)) in
      let ended = child.1 (suc m) (let few : r.one ≤ suc m = omega arith in few) in
      let kept : OnlyIn (drives (part_of (child_at cells c [])) (part_of (child_at cells c [])).control) (under c s) r.own =
      ends_only (child_at cells c []) (sound_below (Node part cells) all c) (held_as inputs) (part_of (child_at cells c [])).control (itself (part_of (child_at cells c [])).control) r.own r.one (Some (open_below cells c)) (under c s)
      (below_fits cells (λ k path. all (k ∷ path)) c) r.first in
      inl (
        behind_leaf (Node part cells) held fault last leaf r.two (captures (Node part cells) g) g c (put c r.own s) r.then_behind,
        then_met (lift_answer c s (control_below cells c (inputs_of_call (Node part cells) held g c s) (under c s) (suc m))) (put c r.own s) fault r.one r.two m (suc m) (after_child (Node part cells) held g c (captures (Node part cells) g)) r.sum (omega arith)
            (ended.0, ap (lift_answer c s) ended.1, ended.2)
            (λ k enough within. behind_halts (Node part cells) law held fault last leaf g c r.two (captures (Node part cells) g) (put c r.own s) (put_settled c part cells r.own s settled child.0 kept.top) r.then_behind k enough),
      ))
      (call_halts (Node part cells) held fault last leaf g c inputs s m (open_below cells c) (under c s) begun)

  call_faults : (last : Open) (leaf g c m : ℕ) (s : State) → IsSettled (Node part cells) s → HaltsSo last leaf m (Some (InCall g c None (open_below cells c))) s
      → (IsLeaf last × Met (call (Node part cells) (control_below cells) held g c s (suc m)) fault m) ⊎ Child last leaf g (Some c) s m
  call_faults last leaf g c m s settled e =
      ⊎_elim (λ h. inr (child_faults last leaf g c m s settled h)) (λ h. begun_faults last leaf g c m s settled h) (halting_begins (Node part cells) held fault last leaf g c m (open_below cells c) s e)

  called_faults : (last : Open) (leaf g m : ℕ) (s : State) → IsSettled (Node part cells) s → (o : Option ℕ) → HaltsSo last leaf m (Some (open_called (open_below cells) g o)) s
      → (IsLeaf last × Met (call_or_turns (Node part cells) (control_below cells) held g o s (suc m)) fault m) ⊎ Child last leaf g o s m
  called_faults last leaf g m s settled None e = inl (
    leaf_at_last (Node part cells) held fault last leaf m (InGroup g) s tt e,
    group_halts (Node part cells) law held fault last leaf g m s (busy_settled (Node part cells) _ s settled) e (suc m) (let few : m < suc m = omega arith in few),
  )
  called_faults last leaf g m s settled (Some c) e = call_faults last leaf g c m s settled e

  island_faults : (form : PlainForm) (last : Open) (leaf m : ℕ) (s : State) → IsSettled (Node part cells) s → HaltsSo last leaf m (Some (InIsland form 0 (form_length part form) no_history)) s → IsLeaf last × Met (island (Node part cells) held form s (suc m)) fault m
  island_faults form last leaf m s settled e = (
    leaf_at_last (Node part cells) held fault last leaf m (InIsland form 0 (form_length part form) no_history) s tt e,
    island_halts (Node part cells) law held fault last leaf s form (tested_fine part form) m 0 (form_length part form) no_history no_history s (λ port at tested. refl) (busy_settled (Node part cells) _ s settled) e (suc m) (let few : m < suc m = omega arith in few),
  )

  kind_faults : (last : Open) (leaf g m : ℕ) (s : State) → IsSettled (Node part cells) s → (kind : GroupKind) → HaltsSo last leaf m (Some (open_kind (Node part cells) (open_below cells) g kind)) s
      → (IsLeaf last × Met (enable_kind (Node part cells) (control_below cells) held g kind s (suc m)) fault m) ⊎ Child last leaf g (if_dynamic kind (called (Node part cells) g)) s m
  kind_faults last leaf g m s settled kinds.Plain e = called_faults last leaf g m s settled (called (Node part cells) g) e
  kind_faults last leaf g m s settled kinds.Comb e = called_faults last leaf g m s settled (called (Node part cells) g) e
  kind_faults last leaf g m s settled (kinds.Timed length) e = inl (island_faults (Enable g) last leaf m s settled e)

  below_alone : (last : Open) (leaf g : ℕ) (place : Place) (s : State) (m : ℕ) → Child last leaf g (if_dynamic (group_at part g).kind (called (Node part cells) g)) s m → Alone (Placed (Enable g) place) s last leaf m
  below_alone last leaf g place s m (c, child, below, q, before, is, there, same, call_is, (t, h, less)) =
      at_last (Placed (Enable g) place) s last (InCall g c before q) leaf m call_is
      (t, subst (λ f. HasAlone (Node part cells) held (Placed (Enable g) place) s f t (InCall g c before q) leaf) same (of_child c child is there h), less)

  enable_halts : (g : ℕ) (place : Place) → Halts (Placed (Enable g) place)
  enable_halts g place last leaf m s settled e =
      ⊎_elim (λ h. by_itself (Placed (Enable g) place) s last leaf (suc m) m h.0 h.1) (λ h. below_alone last leaf g place s m h) (kind_faults last leaf g m s settled (group_at part g).kind e)

  -- PARTS of a seq
  seq_halt : (first : PlainStatement) (later : PlainStatements) (place : Place) → Ends first → Halts first
      → ((last : Open) (leaf m : ℕ) (s : State) → IsSettled (Node part cells) s → HaltsSo last leaf m (seq_left (Node part cells) later None) s → Alone (Placed (Seq later) place) s last leaf m)
      → (last : Open) (leaf m : ℕ) (s : State) → IsSettled (Node part cells) s → HaltsSo last leaf m (Some (InSeq (open_statement (Node part cells) first) later)) s → Alone (Placed (Seq (a_statement first later)) place) s last leaf m
  seq_halt first later place ends halts rest last leaf m s settled e =
      ⊎_elim
      (λ h. let r = halts h.0 leaf m s settled h.2 in at_last (Placed (Seq (a_statement first later)) place) s last (InSeq h.0 later) leaf m h.1 (r.0, of_first r.1, r.2))
      (λ r. let sum : m ≡ r.one + r.two = r.sum in
      let ended = ends r.middle r.one s settled r.first r.one (let few : r.one ≤ r.one = omega arith in few) in
      let h = rest last leaf r.two r.middle (answered_settled (Node part cells) (run L first s r.one) r.middle r.one ended (statement_settles part cells all law children held first s r.one settled)) r.then_behind in
      (ended.0 + h.0, behind_first r.one r.middle ended.0 ended.1 h.1, (let one : ended.0 ≤ r.one = ended.2 in let two : h.0 ≤ r.two = h.2 in omega arith)))
      (seq_halts (Node part cells) held fault last leaf later m (open_statement (Node part cells) first) s e)

  none_halts : (last : Open) (leaf m : ℕ) (s : State) → HaltsSo last leaf m None s → ⊥
  none_halts last leaf m s e = e

  -- ROUNDS of a repeat
  repeat_halt : (body : PlainStatement) (place : Place) → Ends body → Halts body → (left : ℕ) (last : Open) (leaf m : ℕ) (s : State) → IsSettled (Node part cells) s → HaltsSo last leaf m (Some (InRepeat (open_statement (Node part cells) body) left body)) s
      → Alone (Placed (Repeat (suc left) body) place) s last leaf m
  repeat_halt body place ends halts zero last leaf m s settled e =
      ⊎_elim
      (λ h. let r = halts h.0 leaf m s settled h.2 in at_last (Placed (Repeat (suc zero) body) place) s last (InRepeat h.0 0 body) leaf m h.1 (r.0, of_round r.1, r.2))
      (λ r. absurd (none_halts last leaf r.two r.middle r.then_behind))
      (repeat_halts (Node part cells) held fault last leaf 0 body m (open_statement (Node part cells) body) s e)
  repeat_halt body place ends halts (suc left) last leaf m s settled e =
      ⊎_elim
      (λ h. let r = halts h.0 leaf m s settled h.2 in at_last (Placed (Repeat (suc (suc left)) body) place) s last (InRepeat h.0 (suc left) body) leaf m h.1 (r.0, of_round r.1, r.2))
      (λ r. let sum : m ≡ r.one + r.two = r.sum in
      let ended = ends r.middle r.one s settled r.first r.one (let few : r.one ≤ r.one = omega arith in few) in
      let h = repeat_halt body place ends halts left last leaf r.two r.middle (answered_settled (Node part cells) (run L body s r.one) r.middle r.one ended (statement_settles part cells all law children held body s r.one settled)) r.then_behind in
      (ended.0 + h.0, behind_round r.one r.middle ended.0 ended.1 h.1, (let one : ended.0 ≤ r.one = ended.2 in let two : h.0 ≤ r.two = h.2 in omega arith)))
      (repeat_halts (Node part cells) held fault last leaf (suc left) body m (open_statement (Node part cells) body) s e)

  -- BRANCHES of an if
  module _ (port : PlacedPort) (comb : Option ℕ) (place : Place) where
    abbrev Tests : State → Test Fault
    Tests s = test (Node part cells) held port.port comb s

    branch_halts : (a b : PlainStatement) → Halts a → Halts b → (last : Open) (leaf m : ℕ) (s : State) → IsSettled (Node part cells) s → (t : Test Fault) → Tests s ≡ t
        → Goes (tested t (idle (Node part cells) s) (Some (open_statement (Node part cells) a)) (Some (open_statement (Node part cells) b))) (HaltsSo last leaf m) → Alone (Placed (If port comb a b) place) s last leaf (suc m)
    branch_halts a b one other last leaf m s settled Holds is e = let r = one last leaf m (idle (Node part cells) s) (idle_settles (Node part cells) law.rows s) e in (suc r.0, of_then is r.1, (let less : r.0 ≤ m = r.2 in omega arith))
    branch_halts a b one other last leaf m s settled Fails is e = let r = other last leaf m (idle (Node part cells) s) (idle_settles (Node part cells) law.rows s) e in (suc r.0, of_else is r.1, (let less : r.0 ≤ m = r.2 in omega arith))
    branch_halts a b one other last leaf m s settled (Unclear f) is e = absurd e

    if_halts : (a b : PlainStatement) → Halts a → Halts b → (last : Open) (leaf m : ℕ) (s : State) → IsSettled (Node part cells) s → HaltsSo last leaf m (Some (Choosing port.port comb a b)) s → Alone (Placed (If port comb a b) place) s last leaf m
    if_halts a b one other last leaf zero s settled (is, below, e) = by_itself (Placed (If port comb a b) place) s last leaf 1 0 (subst IsLeaf is tt) (stops_unclear (Tests s) fault _ _ _ _ _ 0 e)
    if_halts a b one other last leaf (suc m) s settled (k, below, e) =
        branch_halts a b one other last leaf m s settled (Tests s) refl
        (subst (λ x. Goes (tested (Tests s) x (Some (open_statement (Node part cells) a)) (Some (open_statement (Node part cells) b))) (HaltsSo last leaf m)) (rests (Node part cells) law held port.port comb s settled) e)

    -- ROUNDS of a while
    module _ (body : PlainStatement) (ends : Ends body) (halts : Halts body) where
      round_halts : (last : Open) (leaf m : ℕ) (s : State) → IsSettled (Node part cells) s → (t : Test Fault) → Tests s ≡ t
          → ((k : ℕ) (middle : State) → k ≤ m → IsSettled (Node part cells) middle → HaltsSo last leaf k (Some (Testing port.port comb body)) middle → Alone (Placed (While port comb body) place) middle last leaf k)
          → Goes (tested t (idle (Node part cells) s) (Some (InLoop (open_statement (Node part cells) body) port.port comb body)) None) (HaltsSo last leaf m) → Alone (Placed (While port comb body) place) s last leaf (suc m)
      round_halts last leaf m s settled Holds is again e =
          ⊎_elim
          (λ h. let r = halts h.0 leaf m (idle (Node part cells) s) (idle_settles (Node part cells) law.rows s) h.2 in
          at_last (Placed (While port comb body) place) s last (InLoop h.0 port.port comb body) leaf (suc m) h.1 (suc r.0, of_body is r.1, (let less : r.0 ≤ m = r.2 in omega arith)))
          (λ r. let sum : m ≡ r.one + r.two = r.sum in
          let calm : IsSettled (Node part cells) (idle (Node part cells) s) = idle_settles (Node part cells) law.rows s in
          let ended = ends r.middle r.one (idle (Node part cells) s) calm r.first r.one (let few : r.one ≤ r.one = omega arith in few) in
          let h = again r.two r.middle (let few : r.two ≤ m = omega arith in few) (answered_settled (Node part cells) (run L body (idle (Node part cells) s) r.one) r.middle r.one ended (statement_settles part cells all law children held body (idle (Node part cells) s) r.one calm)) r.then_behind in
          (suc (ended.0 + h.0), behind_body r.one r.middle ended.0 is ended.1 h.1, (let one : ended.0 ≤ r.one = ended.2 in let two : h.0 ≤ r.two = h.2 in omega arith)))
          (loop_halts (Node part cells) held fault last leaf port.port comb body m (open_statement (Node part cells) body) (idle (Node part cells) s) e)
      round_halts last leaf m s settled Fails is again e = absurd e
      round_halts last leaf m s settled (Unclear f) is again e = absurd e

      while_halts : (fuel : ℕ) (last : Open) (leaf m : ℕ) → m ≤ fuel → (s : State) → IsSettled (Node part cells) s → HaltsSo last leaf m (Some (Testing port.port comb body)) s → Alone (Placed (While port comb body) place) s last leaf m
      while_halts fuel last leaf zero fueled s settled (is, below, e) = by_itself (Placed (While port comb body) place) s last leaf 1 0 (subst IsLeaf is tt) (stops_unclear (Tests s) fault _ _ _ _ _ 0 e)
      while_halts zero last leaf (suc m) fueled s settled e = absurd (let h : suc m ≤ zero = fueled in omega arith)
      while_halts (suc fuel) last leaf (suc m) fueled s settled (k, below, e) =
          round_halts last leaf m s settled (Tests s) refl
          (λ j middle small calm f. while_halts fuel last leaf j (let h : j ≤ fuel = omega arith in h) middle calm f)
          (subst (λ x. Goes (tested (Tests s) x (Some (InLoop (open_statement (Node part cells) body) port.port comb body)) None) (HaltsSo last leaf m)) (rests (Node part cells) law held port.port comb s settled) e)

  -- ARMS of a par
  abbrev HaltsAll : PlainStatements → Type 0
  HaltsAll no_statements = Unit {0}
  HaltsAll (a_statement x xs) = Halts x × HaltsAll xs

  abbrev AnArm : Opens → ℕ → PlainStatements → State → ℕ → Type 0
  AnArm now leaf arms s m = (arm : PlainStatement) × In (list_of arms) arm × (q : Open) × (l : ℕ) × IsInArm now leaf arm q l × Alone arm s q l m

  arms_halt : (arms : PlainStatements) → HaltsAll arms → (now : Opens) (leaf m : ℕ) (s : State) → IsSettled (Node part cells) s
      → AnyHalts (Node part cells) held fault now leaf m (open_arms part (open_enable (Node part cells) (open_below cells)) arms) s → AnArm now leaf arms s m
  arms_halt no_statements halts now leaf m s settled e = absurd e
  arms_halt (a_statement x xs) (one, rest) now leaf m s settled (inl (k, small, q, l, within_arm, h)) =
      let r = one q l k s settled h in (x, inl refl, q, l, within_arm, (r.0, r.1, (let less : r.0 ≤ k = r.2 in omega arith)))
  arms_halt (a_statement x xs) (one, rest) now leaf m s settled (inr h) = let r = arms_halt xs rest now leaf m s settled h in (r.0, inr r.1, r.2, r.3, r.4, r.5)

  par_halts : (arms : PlainStatements) (place : Place) (s : State) (now : Opens) (leaf m : ℕ) → AnArm now leaf arms s m → Alone (Placed (Par arms) place) s (InPar now) leaf m
  par_halts arms place s now leaf m (arm, there, q, l, within_arm, (t, h, less)) = (t, of_arm arm q l there within_arm h, less)

  inner : (st : PlainStatement) (form : PlainForm) (place : Place) → InsideOne st (Placed form place) → Inside st (groups_in form) (visit_parts Dynamic form)
  inner st form place h = record { groups = h.groups; forms = λ v j. h.forms v (inr j) }

  ends : (st : PlainStatement) → Stands (Node part cells) st → (a : PlainStatement) → InsideOne st a → Ends a
  ends st stands a h final m s settled e n less = runs_with part cells all law children held st stands a h final m s settled e n less

  mutual
    form_halts : (st : PlainStatement) → Stands (Node part cells) st → (form : PlainForm) (place : Place) → InsideOne st (Placed form place) → Halts (Placed form place)
    form_halts st stands Empty place h last leaf m s settled e = absurd (idling_goes (Node part cells) law held fault last leaf m s e)
    form_halts st stands (Enable g) place h last leaf m s settled e = enable_halts g place last leaf m s settled e
    form_halts st stands (Seq no_statements) place h last leaf m s settled e = absurd (idling_goes (Node part cells) law held fault last leaf m s e)
    form_halts st stands (Seq (a_statement first rest)) place h last leaf m s settled e =
        parts_halt st stands (a_statement first rest) place (inner st (Seq (a_statement first rest)) place h) last leaf m s settled e
    form_halts st stands (Par no_statements) place h last leaf m s settled e = absurd (idling_goes (Node part cells) law held fault last leaf m s e)
    form_halts st stands (Par (a_statement first rest)) place h last leaf m s settled e =
        let r = one_halts (Node part cells) all held fault last leaf st stands m (open_arms part (open_enable (Node part cells) (open_below cells)) (a_statement first rest)) s (first, list_of rest, par_arms_fit part cells all st stands first rest place h) e in
        at_last (Placed (Par (a_statement first rest)) place) s last (InPar r.0) leaf m r.1
        (par_halts (a_statement first rest) place s r.0 leaf m
        (arms_halt (a_statement first rest) (all_halt st stands (a_statement first rest) (inner st (Par (a_statement first rest)) place h)) r.0 leaf m s settled r.2))
    form_halts st stands (If test comb a b) place h last leaf m s settled e =
        if_halts test comb place a b
        (halts_with st stands a (record { groups = λ g j. h.groups g (behind_comb comb (groups_of a ++ groups_of b) g (in_left (groups_of a) (groups_of b) g j)); forms = λ v j. h.forms v (inr (in_left (visit Dynamic a) (visit Dynamic b) v j)) }))
        (halts_with st stands b (record { groups = λ g j. h.groups g (behind_comb comb (groups_of a ++ groups_of b) g (in_right (groups_of a) (groups_of b) g j)); forms = λ v j. h.forms v (inr (in_right (visit Dynamic a) (visit Dynamic b) v j)) }))
        last leaf m s settled e
    form_halts st stands (While test comb a) place h last leaf m s settled e =
        while_halts test comb place a
        (ends st stands a (record { groups = λ g j. h.groups g (behind_comb comb (groups_of a) g j); forms = λ v j. h.forms v (inr j) }))
        (halts_with st stands a (record { groups = λ g j. h.groups g (behind_comb comb (groups_of a) g j); forms = λ v j. h.forms v (inr j) }))
        m last leaf m (let all_of : m ≤ m = omega arith in all_of) s settled e
    form_halts st stands (Repeat zero a) place h last leaf m s settled e = absurd (idling_goes (Node part cells) law held fault last leaf m s e)
    form_halts st stands (Repeat (suc k) a) place h last leaf m s settled e =
        repeat_halt a place (ends st stands a (record { groups = h.groups; forms = λ v j. h.forms v (inr j) })) (halts_with st stands a (record { groups = h.groups; forms = λ v j. h.forms v (inr j) })) k last leaf m s settled e
    form_halts st stands (StaticSeq length parts) place h last leaf m s settled e = let r = island_faults (StaticSeq length parts) last leaf m s settled e in by_itself (Placed (StaticSeq length parts) place) s last leaf (suc m) m r.0 r.1
    form_halts st stands (StaticPar length arms) place h last leaf m s settled e = let r = island_faults (StaticPar length arms) last leaf m s settled e in by_itself (Placed (StaticPar length arms) place) s last leaf (suc m) m r.0 r.1
    form_halts st stands (StaticIf length test a b) place h last leaf m s settled e = let r = island_faults (StaticIf length test a b) last leaf m s settled e in by_itself (Placed (StaticIf length test a b) place) s last leaf (suc m) m r.0 r.1
    form_halts st stands (StaticRepeat length count a) place h last leaf m s settled e = let r = island_faults (StaticRepeat length count a) last leaf m s settled e in by_itself (Placed (StaticRepeat length count a) place) s last leaf (suc m) m r.0 r.1
    form_halts st stands (Timed k) place h last leaf m s settled e = absurd (waiting_goes_on (Node part cells) held fault last leaf m s e)

    halts_with : (st : PlainStatement) → Stands (Node part cells) st → (a : PlainStatement) → InsideOne st a → Halts a
    halts_with st stands (Placed form place) h last leaf m s settled e = form_halts st stands form place h last leaf m s settled e

    parts_halt : (st : PlainStatement) → Stands (Node part cells) st → (parts : PlainStatements) (place : Place) → InsideAll st parts → (last : Open) (leaf m : ℕ) (s : State) → IsSettled (Node part cells) s
        → HaltsSo last leaf m (seq_left (Node part cells) parts None) s → Alone (Placed (Seq parts) place) s last leaf m
    parts_halt st stands no_statements place h last leaf m s settled e = absurd (none_halts last leaf m s e)
    parts_halt st stands (a_statement first rest) place h last leaf m s settled e =
        seq_halt first rest place (ends st stands first (inside_left st (groups_of first) (groups_in_all rest) (visit Dynamic first) (visit_all Dynamic rest) h))
        (halts_with st stands first (inside_left st (groups_of first) (groups_in_all rest) (visit Dynamic first) (visit_all Dynamic rest) h))
        (λ o l k x w b. parts_halt st stands rest place (inside_right st (groups_of first) (groups_in_all rest) (visit Dynamic first) (visit_all Dynamic rest) h) o l k x w b)
        last leaf m s settled e

    all_halt : (st : PlainStatement) → Stands (Node part cells) st → (arms : PlainStatements) → InsideAll st arms → HaltsAll arms
    all_halt st stands no_statements h = tt
    all_halt st stands (a_statement first rest) h = (
      halts_with st stands first (inside_left st (groups_of first) (groups_in_all rest) (visit Dynamic first) (visit_all Dynamic rest) h),
      all_halt st stands rest (inside_right st (groups_of first) (groups_in_all rest) (visit Dynamic first) (visit_all Dynamic rest) h),
    )

  control_halts_so : Halts part.control
  control_halts_so = halts_with part.control (itself part.control) part.control (inside_self part.control)

-- THE CONTROL of an instance
abbrev ControlHalts : Instance → Type 0
ControlHalts i = (inputs : Held) (fault : Fault) (last : Open) (leaf m : ℕ) (s : State) → IsSettled i s → HaltsIn i inputs fault last leaf m (Some (open_control i)) s → AloneWithin i inputs (part_of i).control s fault m last leaf

child_halts : (child : Instance) → ControlHalts child
    → (inputs : Held) (fault : Fault) (last : Open) (leaf m : ℕ) (s : State) → IsSettled (instance_at child []) s → HaltsIn (instance_at child []) inputs fault last leaf m (Some (open_control child)) s → AloneWithin child inputs (part_of child).control s fault m last leaf
child_halts (Node part cells) halts inputs fault last leaf m s settled e = halts inputs fault last leaf m s settled e

mutual
  pub control_halts : (i : Instance) → AllSound i → AllLawful i → ControlHalts i
  control_halts (Node part cells) all laws inputs fault last leaf m s settled e =
      control_halts_so part cells all (laws []) (λ c. below_runs cells (λ k path. all (k ∷ path)) (λ k path. laws (k ∷ path)) c) (λ c. below_halts cells (λ k path. all (k ∷ path)) (λ k path. laws (k ∷ path)) c) inputs fault last leaf m s settled e

  below_halts : (cells : Cells) → ((c : ℕ) (path : Path) → IsSound (child_at cells c path)) → ((c : ℕ) (path : Path) → IsLawful (child_at cells c path)) → (c : ℕ) → ChildHalts cells c
  below_halts no_cells all laws c inputs fault last leaf m s settled e = absurd (waiting_goes_on (child_at no_cells c []) inputs fault last leaf m s e)
  below_halts (a_primitive row rest) all laws zero inputs fault last leaf m s settled e = absurd (waiting_goes_on (child_at (a_primitive row rest) zero []) inputs fault last leaf m s e)
  below_halts (a_primitive row rest) all laws (suc c) inputs fault last leaf m s settled e = below_halts rest (λ k path. all (suc k) path) (λ k path. laws (suc k) path) c inputs fault last leaf m s settled e
  below_halts (an_instance child rest) all laws zero inputs fault last leaf m s settled e = (child, refl, child_halts child (control_halts child (λ path. all zero path) (λ path. laws zero path)) inputs fault last leaf m s settled e)
  below_halts (an_instance child rest) all laws (suc c) inputs fault last leaf m s settled e = below_halts rest (λ k path. all (suc k) path) (λ k path. laws (suc k) path) c inputs fault last leaf m s settled e
