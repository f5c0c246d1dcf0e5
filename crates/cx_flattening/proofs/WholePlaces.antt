-- RUNS WITH STATIC COMPONENTS HANG ON NO PLACE: what is done, what is seen below, cycles, islands, leaves, and the control of an instance.
use Rattle.std.proofs.Common.{◌≡◌, ℕ, zero, suc, ◌+◌, ◌-◌, Bool, true, false, ◌||◌, ◌&&◌, List, [], ◌∷◌, ◌++◌, map, Option, Some, None, refl, sym, ap, ap₂, ◌∙◌, subst}
use Rattle.std.specs.Prelude.{get_or, is_some, nat_eq, if◌then◌else◌}
use Rattle.std.proofs.Math.Path.{fun_ext}
use Rattle.std.proofs.Math.ListN.{get_or-map}
use Rattle.std.proofs.lemmas.List.{map-append}
use Rattle.cx_meaning.specs.declared.kinds.GroupKind.{GroupKind}
use Rattle.cx_meaning.specs.declared.kinds.GroupKind.TheVariants as kinds
use Rattle.cx_meaning.specs.declared.ports.PortRef.{PortRef}
use Rattle.cx_meaning.specs.declared.ports.PortRef.TheVariants as ports
use Rattle.cx_meaning.specs.Designs.{Always, PlainAssign, PlainInvoke, PlainComponent, PlainDesign, group_at, no_place, PlainForm, Empty, Enable, Seq, Par, If, While, Repeat, StaticSeq, StaticPar, StaticIf, StaticRepeat, Timed, PlainStatement, Placed, PlainStatements, no_statements, a_statement}
use Rattle.cx_meaning.specs.Instances.{Instance, Node, Cells, no_cells, a_primitive, an_instance, part_of, Path, State, Set, under, merge, idle, start, tree_of}
use Rattle.cx_meaning.specs.Active.{Active, nothing, group, comb, capture, entries, same_port}
use Rattle.cx_meaning.specs.Truths.{truth_of}
use Rattle.cx_meaning.specs.Sights.{Look, Held, unheld, seen}
use Rattle.cx_meaning.specs.Cycles.{Fault, Ended, cycle}
use Rattle.cx_meaning.specs.Answers.{Answer, Meaning, Test, Holds, Fails, Unclear, Turn, turn_then, turns_of, one_turn, idle_turn, then_do}
use Rattle.cx_meaning.specs.Control.{Leaves, groups_of, groups_drive, run}
use Rattle.cx_meaning.specs.Islands.{or_zero, turn_of, unless_unclear}
use Rattle.cx_meaning.specs.Calls.{hole_turn, test_of, test, called, captures, lift_answer, inputs_of_call}
use Rattle.cx_meaning.specs.Running.{Children}
use Rattle.cx_rules.specs.Invokes.{form_lasts, lasts, invokes_of, captures_of, invokes_cell, drives_all}
use Rattle.cx_rewrites.specs.Tallies.{none, uncounted}
use Rattle.cx_rewrites.specs.Carrying.{Exact, Same, TestCarried, Carried, Carries}
use Rattle.cx_rewrites.specs.Beside.{FormBeside, outright, empties, seqs, pars, ifs, whiles, repeats, Beside, placed, PartsBeside, no_parts, a_part, ArmsBeside, no_arms, an_arm}
use Rattle.cx_rewrites.specs.Places.{unplaced_assign, unplaced_invoke, unplaced_port, unplaced_form, unplaced, unplaced_statements, SamePart, SameDesign}
use Rattle.cx_rewrites.proofs.FollowLemmas.{same_carries, carried_is_same}
use Rattle.cx_rewrites.proofs.BesideLemmas.{run_carries}
use Rattle.cx_rewrites.proofs.PlaceLemmas.{SameTree, SameCells, same_parts, seen-same, cycle-same, idle-same}
use Rattle.cx_rewrites.proofs.PlaceStatements.{kind-same, groups_drive-same, called-same, captures-same, groups_of-unplaced}
use Rattle.cx_rewrites.proofs.PlaceInvokes.{invokes_of-unplaced, invokes_cell-same, captures_of-same, lengths-same, form_lasts-unplaced, lasts-unplaced}
use Rattle.cx_rewrites.proofs.PlaceRuns.{equal_carries, same_part_itself, same_tree_itself}
use Rattle.cx_rewrites.proofs.PlaceDesigns.{tree_of-same, start-same}
use Rattle.cx_flattening.specs.Events.{no_invoke, the_invoke, Spot, spot, Event, Runs, Feeds, Looks, Beginning, Events, later_by, also_if, group_events, capture_events, rounds_events, source_in, source_to, bound_below, invoke_events, form_events, events, seq_events, par_events, control_events, events_below}
use Rattle.cx_flattening.specs.Deeds.{History, no_history, Deed, Acts, Fed, deed_if, is_now, deeds_in, hold, spot_if, looked_in, own_entries, deeds_below, held_if, held_below, and_now, first_unclear}
use Rattle.cx_flattening.specs.Lists.{island_events}
use Rattle.cx_flattening.specs.Whole.{is_static, child_if, whole_cycle, cycles_below, look_below, look_at, whole_turn, whole_from, whole_island, after_child, call, group_turn, call_or_turns, enable_kind, enable, whole_leaves, whole_control, whole_below, whole_main}

-- WHAT A BIND SAYS, without places and guards
abbrev bare : PlainAssign → PlainAssign
bare a = record { target = a.target; guard = Always; source = record { port = a.source.port; place = no_place }; place = no_place }

abbrev bare_event : Event → Event
bare_event (Runs at g from to conditions) = Runs at g from to conditions
bare_event (Feeds at cell inputs from to conditions) = Feeds at cell (map bare inputs) from to conditions
bare_event (Looks x at conditions) = Looks x at conditions

abbrev bare_deed : Deed → Deed
bare_deed (Acts at e) = Acts at e
bare_deed (Fed at cell inputs) = Fed at cell (map bare inputs)

source_in-bare : (c : ℕ) (inputs : List PlainAssign) (otherwise : PortRef) → source_in c (map bare inputs) otherwise ≡ source_in c inputs otherwise
source_in-bare c [] otherwise = refl
source_in-bare c (a ∷ rest) otherwise = ap (λ p. if same_port a.target otherwise then a.source.port else p) (source_in-bare c rest otherwise)

source_in-unplaced : (c : ℕ) (inputs : List PlainAssign) (otherwise : PortRef) → source_in c (map unplaced_assign inputs) otherwise ≡ source_in c inputs otherwise
source_in-unplaced c [] otherwise = refl
source_in-unplaced c (a ∷ rest) otherwise = ap (λ p. if same_port a.target otherwise then a.source.port else p) (source_in-unplaced c rest otherwise)

bare-unplaced : (inputs : List PlainAssign) → map bare (map unplaced_assign inputs) ≡ map bare inputs
bare-unplaced [] = refl
bare-unplaced (a ∷ rest) = ap (λ list. bare a ∷ list) (bare-unplaced rest)

-- WHAT IS DONE hangs on no more
deed_if-bare : (b : Bool) (d : Deed) (rest : List Deed) → deed_if b (bare_deed d) (map bare_deed rest) ≡ map bare_deed (deed_if b d rest)
deed_if-bare true d rest = refl
deed_if-bare false d rest = refl

deeds_in-bare : (h : History) (t : ℕ) (list : List Event) → deeds_in h t (map bare_event list) ≡ map bare_deed (deeds_in h t list)
deeds_in-bare h t [] = refl
deeds_in-bare h t (Runs at g from to conditions ∷ rest) =
    ap (deed_if (is_now h t from to conditions) (Acts at (record { group = g; offset = t - from }))) (deeds_in-bare h t rest)
    ∙ deed_if-bare (is_now h t from to conditions) (Acts at (record { group = g; offset = t - from })) (deeds_in h t rest)
deeds_in-bare h t (Feeds at cell inputs from to conditions ∷ rest) =
    ap (deed_if (is_now h t from to conditions) (Fed at cell (map bare inputs))) (deeds_in-bare h t rest) ∙ deed_if-bare (is_now h t from to conditions) (Fed at cell inputs) (deeds_in h t rest)
deeds_in-bare h t (Looks x at conditions ∷ rest) = deeds_in-bare h t rest

looked_in-bare : (h : History) (t : ℕ) (list : List Event) → looked_in h t (map bare_event list) ≡ looked_in h t list
looked_in-bare h t [] = refl
looked_in-bare h t (Runs at g from to conditions ∷ rest) = looked_in-bare h t rest
looked_in-bare h t (Feeds at cell inputs from to conditions ∷ rest) = looked_in-bare h t rest
looked_in-bare h t (Looks x at conditions ∷ rest) = ap (spot_if (nat_eq t at && hold h conditions) x) (looked_in-bare h t rest)

own-bare : (ds : List Deed) → own_entries (map bare_deed ds) ≡ own_entries ds
own-bare [] = refl
own-bare (Acts [] e ∷ rest) = ap (λ list. e ∷ list) (own-bare rest)
own-bare (Acts (c ∷ at) e ∷ rest) = own-bare rest
own-bare (Fed at cell inputs ∷ rest) = own-bare rest

below-bare : (c : ℕ) (ds : List Deed) → deeds_below c (map bare_deed ds) ≡ map bare_deed (deeds_below c ds)
below-bare c [] = refl
below-bare c (Acts [] e ∷ rest) = below-bare c rest
below-bare c (Acts (d ∷ at) e ∷ rest) = ap (deed_if (nat_eq d c) (Acts at e)) (below-bare c rest) ∙ deed_if-bare (nat_eq d c) (Acts at e) (deeds_below c rest)
below-bare c (Fed [] d inputs ∷ rest) = below-bare c rest
below-bare c (Fed (d ∷ at) e inputs ∷ rest) = ap (deed_if (nat_eq d c) (Fed at e (map bare inputs))) (below-bare c rest) ∙ deed_if-bare (nat_eq d c) (Fed at e inputs) (deeds_below c rest)

held-bare : (look : Look) (c : ℕ) (ds : List Deed) (n : ℕ) → held_below look c (map bare_deed ds) n ≡ held_below look c ds n
held-bare look c [] n = refl
held-bare look c (Acts at e ∷ rest) n = held-bare look c rest n
held-bare look c (Fed [] d inputs ∷ rest) n = by (nat_eq d c) (held-bare look c rest n)
  where
    by : (b : Bool) → held_below look c (map bare_deed rest) n ≡ held_below look c rest n
        → held_if b (λ m. look (source_to c (map bare inputs) m)) (held_below look c (map bare_deed rest)) n ≡ held_if b (λ m. look (source_to c inputs m)) (held_below look c rest) n
    by true later = ap look (source_in-bare c inputs (ports.Cell c (suc n)))
    by false later = later
held-bare look c (Fed (d ∷ at) e inputs ∷ rest) n = held-bare look c rest n

mutual
  cycle-bare : (i : Instance) (held : Held) (act : Active) (ds : List Deed) (s : State) → whole_cycle i held act (map bare_deed ds) s ≡ whole_cycle i held act ds s
  cycle-bare (Node part cells) held act ds s = cells-bare cells 0 (seen (Node part cells) held act s) ds s (cycle (Node part cells) held act s)

  cells-bare : (cells : Cells) (c : ℕ) (look : Look) (ds : List Deed) (s : State) (before : Ended) → cycles_below cells c look (map bare_deed ds) s before ≡ cycles_below cells c look ds s before
  cells-bare no_cells c look ds s before = refl
  cells-bare (a_primitive row rest) c look ds s before = cells-bare rest (suc c) look ds s before
  cells-bare (an_instance child rest) c look ds s before =
      cells-bare rest (suc c) look ds s
      (child_if (is_static child) c before (whole_cycle child (held_below look c (map bare_deed ds)) (entries (own_entries (deeds_below c (map bare_deed ds)))) (deeds_below c (map bare_deed ds)) (under c s)))
      ∙ ap (λ x. cycles_below rest (suc c) look ds s (child_if (is_static child) c before x))
      (ap (λ list. whole_cycle child (held_below look c (map bare_deed ds)) (entries (own_entries list)) list (under c s)) (below-bare c ds)
      ∙ ap (λ es. whole_cycle child (held_below look c (map bare_deed ds)) (entries es) (map bare_deed (deeds_below c ds)) (under c s)) (own-bare (deeds_below c ds))
      ∙ ap (λ (own : Held). whole_cycle child own (entries (own_entries (deeds_below c ds))) (map bare_deed (deeds_below c ds)) (under c s)) (fun_ext (held-bare look c ds))
      ∙ cycle-bare child (held_below look c ds) (entries (own_entries (deeds_below c ds))) (deeds_below c ds) (under c s))

module _ (i : Instance) (held : Held) where
  turn-bare : (list : List Event) (t : ℕ) (h : History) (s : State) → whole_turn i held (map bare_event list) t h s ≡ whole_turn i held list t h s
  turn-bare list t h s =
      ap (λ spots. unless_unclear (first_unclear (look_below i held s) spots) (whole_cycle i held (entries (own_entries (deeds_in h t (map bare_event list)))) (deeds_in h t (map bare_event list)) s)) (looked_in-bare h t list)
      ∙ ap (λ ds. unless_unclear (first_unclear (look_below i held s) (looked_in h t list)) (whole_cycle i held (entries (own_entries ds)) ds s)) (deeds_in-bare h t list)
      ∙ ap (λ es. unless_unclear (first_unclear (look_below i held s) (looked_in h t list)) (whole_cycle i held (entries es) (map bare_deed (deeds_in h t list)) s)) (own-bare (deeds_in h t list))
      ∙ ap (unless_unclear (first_unclear (look_below i held s) (looked_in h t list))) (cycle-bare i held (entries (own_entries (deeds_in h t list))) (deeds_in h t list) s)

  from-bare : (list : List Event) (left t : ℕ) (before : History) (s : State) (n : ℕ) → whole_from i held (map bare_event list) left t before s n ≡ whole_from i held list left t before s n
  from-bare list zero t before s n = refl
  from-bare list (suc left) t before s zero = refl
  from-bare list (suc left) t before s (suc n) =
      ap (λ turn. turn_then (idle i) s turn (λ after. whole_from i held (map bare_event list) left (suc t) (and_now before t (look_below i held s)) after n)) (turn-bare list t (and_now before t (look_below i held s)) s)
      ∙ ap (turn_then (idle i) s (whole_turn i held list t (and_now before t (look_below i held s)) s)) (fun_ext (λ after. from-bare list left (suc t) (and_now before t (look_below i held s)) after n))

  from-alike : (xs ys : List Event) → map bare_event xs ≡ map bare_event ys → (left : ℕ) (s : State) (n : ℕ) → whole_from i held xs left 0 no_history s n ≡ whole_from i held ys left 0 no_history s n
  from-alike xs ys e left s n = sym (from-bare xs left 0 no_history s n) ∙ ap (λ list. whole_from i held list left 0 no_history s n) e ∙ from-bare ys left 0 no_history s n

-- THE LISTS of two components that are the same
abbrev Alike : List Event → List Event → Type 0
Alike xs ys = map bare_event xs ≡ map bare_event ys

both-alike : (xs ys zs ws : List Event) → Alike xs zs → Alike ys ws → Alike (xs ++ ys) (zs ++ ws)
both-alike xs ys zs ws e f = map-append bare_event xs ys ∙ ap₂ (λ before later. before ++ later) e f ∙ sym (map-append bare_event zs ws)

rounds-alike : (body more : Events) (n count : ℕ) → ((b : Beginning) → Alike (more b) (body b)) → (b : Beginning) → Alike (rounds_events more n count b) (rounds_events body n count b)
rounds-alike body more n zero same b = refl
rounds-alike body more n (suc count) same b = both-alike (more b) (rounds_events more n count (later_by n b)) (body b) (rounds_events body n count (later_by n b)) (same b) (rounds-alike body more n count same (later_by n b))

bound-unplaced : (bound : PortRef → Spot) (at : Path) (c : ℕ) (inputs : List PlainAssign) (p : PortRef) → bound_below bound at c (map unplaced_assign inputs) p ≡ bound_below bound at c inputs p
bound-unplaced bound at c inputs (ports.Input n) = ap bound (source_in-unplaced c inputs (ports.Cell c (suc n)))
bound-unplaced bound at c inputs (ports.Cell e p) = refl
bound-unplaced bound at c inputs (ports.Output n) = refl
bound-unplaced bound at c inputs (ports.Done g) = refl
bound-unplaced bound at c inputs (ports.Literal w v) = refl

invoke-unplaced : (below : ℕ → Events) (v : PlainInvoke) (b : Beginning) → Alike (invoke_events below (unplaced_invoke v) b) (invoke_events below v b)
invoke-unplaced below v b =
    ap₂ (λ inputs bound. Feeds b.at v.cell inputs b.from (b.from + or_zero v.latency) b.conditions ∷ map bare_event (below v.cell (record { at = b.at ++ (v.cell ∷ []); bound = bound; from = b.from; conditions = b.conditions }) ++ capture_events v.captures (later_by (or_zero v.latency) b)))
    (bare-unplaced v.inputs) (fun_ext (bound-unplaced b.bound b.at v.cell v.inputs))

module _ (part other : PlainComponent) (same : SamePart part other) (below beneath : ℕ → Events) (kids : (c : ℕ) (b : Beginning) → Alike (beneath c b) (below c b)) where
  invoke-kids : (v : PlainInvoke) (b : Beginning) → Alike (invoke_events beneath v b) (invoke_events below v b)
  invoke-kids v b =
      ap (λ list. Feeds b.at v.cell (map bare v.inputs) b.from (b.from + or_zero v.latency) b.conditions ∷ list)
      (both-alike (beneath v.cell start) (capture_events v.captures (later_by (or_zero v.latency) b)) (below v.cell start) (capture_events v.captures (later_by (or_zero v.latency) b)) (kids v.cell start) refl)
    where
      start : Beginning
      start = record { at = b.at ++ (v.cell ∷ []); bound = bound_below b.bound b.at v.cell v.inputs; from = b.from; conditions = b.conditions }

  invoke-same : (k : ℕ) → unplaced_invoke (the_invoke other k) ≡ unplaced_invoke (the_invoke part k)
  invoke-same k = sym (get_or-map unplaced_invoke other.invokes k no_invoke) ∙ ap (λ list. get_or list k (unplaced_invoke no_invoke)) (sym same.invokes) ∙ get_or-map unplaced_invoke part.invokes k no_invoke

  mutual
    form-alike : (form : PlainForm) (b : Beginning) → Alike (form_events other beneath (unplaced_form form) b) (form_events part below form b)
    form-alike Empty b = refl
    form-alike (Enable g) b = ap (λ o. map bare_event (group_events g o b)) (lengths-same part other same g)
    form-alike (Seq ss) b = refl
    form-alike (Par arms) b = refl
    form-alike (If test comb x y) b = refl
    form-alike (While test comb x) b = refl
    form-alike (Repeat count x) b = refl
    form-alike (StaticSeq written ss) b = seq-alike ss b
    form-alike (StaticPar written arms) b = par-alike arms b
    form-alike (StaticIf written test x y) b =
        ap (λ list. Looks (b.bound test.port) b.from b.conditions ∷ list)
        (both-alike (events other beneath (unplaced x) (also_if (b.bound test.port) true b)) (events other beneath (unplaced y) (also_if (b.bound test.port) false b))
        (events part below x (also_if (b.bound test.port) true b)) (events part below y (also_if (b.bound test.port) false b))
        (events-alike x (also_if (b.bound test.port) true b)) (events-alike y (also_if (b.bound test.port) false b)))
    form-alike (StaticRepeat written count x) b =
        ap (λ n. map bare_event (rounds_events (events other beneath (unplaced x)) n count b)) (lasts-unplaced part other same x)
        ∙ rounds-alike (events part below x) (events other beneath (unplaced x)) (lasts part x) count (events-alike x) b
    form-alike (Timed k) b =
        sym (invoke-unplaced beneath (the_invoke other k) b) ∙ ap (λ v. map bare_event (invoke_events beneath v b)) (invoke-same k) ∙ invoke-unplaced beneath (the_invoke part k) b ∙ invoke-kids (the_invoke part k) b

    events-alike : (s : PlainStatement) (b : Beginning) → Alike (events other beneath (unplaced s) b) (events part below s b)
    events-alike (Placed form place) b = form-alike form b

    seq-alike : (ss : PlainStatements) (b : Beginning) → Alike (seq_events other beneath (unplaced_statements ss) b) (seq_events part below ss b)
    seq-alike no_statements b = refl
    seq-alike (a_statement s ss) b =
        ap (λ n. map bare_event (events other beneath (unplaced s) b ++ seq_events other beneath (unplaced_statements ss) (later_by n b))) (lasts-unplaced part other same s)
        ∙ both-alike (events other beneath (unplaced s) b) (seq_events other beneath (unplaced_statements ss) (later_by (lasts part s) b)) (events part below s b) (seq_events part below ss (later_by (lasts part s) b))
        (events-alike s b) (seq-alike ss (later_by (lasts part s) b))

    par-alike : (ss : PlainStatements) (b : Beginning) → Alike (par_events other beneath (unplaced_statements ss) b) (par_events part below ss b)
    par-alike no_statements b = refl
    par-alike (a_statement s ss) b =
        both-alike (events other beneath (unplaced s) b) (par_events other beneath (unplaced_statements ss) b) (events part below s b) (par_events part below ss b) (events-alike s b) (par-alike ss b)

mutual
  control_events-alike : (i j : Instance) → SameTree i j → (b : Beginning) → Alike (control_events j b) (control_events i b)
  control_events-alike (Node part cells) (Node other more) (h, hs) b =
      sym (events-alike other other (same_part_itself other) (events_below more) (events_below more) (λ c b1. refl) other.control b)
      ∙ ap (λ control. map bare_event (events other (events_below more) control b)) (sym h.control)
      ∙ events-alike part other h (events_below cells) (events_below more) (kids-alike cells more hs) part.control b

  kids-alike : (cells more : Cells) → SameCells cells more → (c : ℕ) (b : Beginning) → Alike (events_below more c b) (events_below cells c b)
  kids-alike no_cells no_cells h c b = refl
  kids-alike no_cells (a_primitive twin more) h c b = absurd h
  kids-alike no_cells (an_instance twin more) h c b = absurd h
  kids-alike (a_primitive row rest) no_cells h c b = absurd h
  kids-alike (a_primitive row rest) (a_primitive twin more) (e, h) zero b = refl
  kids-alike (a_primitive row rest) (a_primitive twin more) (e, h) (suc c) b = kids-alike rest more h c b
  kids-alike (a_primitive row rest) (an_instance twin more) h c b = absurd h
  kids-alike (an_instance child rest) no_cells h c b = absurd h
  kids-alike (an_instance child rest) (a_primitive twin more) h c b = absurd h
  kids-alike (an_instance child rest) (an_instance twin more) (t, h) zero b = control_events-alike child twin t b
  kids-alike (an_instance child rest) (an_instance twin more) (t, h) (suc c) b = kids-alike rest more h c b

island-alike : (i j : Instance) → SameTree i j → (form : PlainForm) → Alike (island_events j (unplaced_form form)) (island_events i form)
island-alike (Node part cells) (Node other more) (h, hs) form =
    form-alike part other h (events_below cells) (events_below more) (kids-alike cells more hs) form (record { at = []; bound = spot []; from = 0; conditions = [] })

-- A CYCLE WITH STATIC CHILDREN, and what is seen below
mutual
  whole_cycle-same : (i j : Instance) → SameTree i j → (held : Held) (act : Active) (ds : List Deed) (s : State) → whole_cycle j held act ds s ≡ whole_cycle i held act ds s
  whole_cycle-same (Node part cells) (Node other more) (h, hs) held act ds s =
      cycles_below-same cells more hs 0 (seen (Node other more) held act s) ds s (cycle (Node other more) held act s)
      ∙ ap (λ look. cycles_below cells 0 look ds s (cycle (Node other more) held act s)) (fun_ext (λ p. sym (seen-same (Node part cells) (Node other more) (h, hs) held act s p)))
      ∙ ap (cycles_below cells 0 (seen (Node part cells) held act s) ds s) (sym (cycle-same (Node part cells) (Node other more) (h, hs) held act s))

  cycles_below-same : (cells more : Cells) → SameCells cells more → (c : ℕ) (look : Look) (ds : List Deed) (s : State) (before : Ended) → cycles_below more c look ds s before ≡ cycles_below cells c look ds s before
  cycles_below-same no_cells no_cells h c look ds s before = refl
  cycles_below-same no_cells (a_primitive twin more) h c look ds s before = absurd h
  cycles_below-same no_cells (an_instance twin more) h c look ds s before = absurd h
  cycles_below-same (a_primitive row rest) no_cells h c look ds s before = absurd h
  cycles_below-same (a_primitive row rest) (a_primitive twin more) (e, h) c look ds s before = cycles_below-same rest more h (suc c) look ds s before
  cycles_below-same (a_primitive row rest) (an_instance twin more) h c look ds s before = absurd h
  cycles_below-same (an_instance child rest) no_cells h c look ds s before = absurd h
  cycles_below-same (an_instance child rest) (a_primitive twin more) h c look ds s before = absurd h
  cycles_below-same (an_instance child rest) (an_instance twin more) (t, h) c look ds s before =
      cycles_below-same rest more h (suc c) look ds s (child_if (is_static twin) c before (whole_cycle twin (held_below look c ds) (entries (own_entries (deeds_below c ds))) (deeds_below c ds) (under c s)))
      ∙ ap (cycles_below rest (suc c) look ds s)
      (ap (λ b. child_if b c before (whole_cycle twin (held_below look c ds) (entries (own_entries (deeds_below c ds))) (deeds_below c ds) (under c s))) (ap (λ (o : Option ℕ). is_some o) (sym (same_parts child twin t).latency))
      ∙ ap (child_if (is_static child) c before) (whole_cycle-same child twin t (held_below look c ds) (entries (own_entries (deeds_below c ds))) (deeds_below c ds) (under c s)))

mutual
  look_below-same : (i j : Instance) → SameTree i j → (held : Held) (s : State) (path : Path) (p : PortRef) → look_below j held s path p ≡ look_below i held s path p
  look_below-same (Node part cells) (Node other more) (h, hs) held s [] p = sym (seen-same (Node part cells) (Node other more) (h, hs) held nothing s p)
  look_below-same (Node part cells) (Node other more) (h, hs) held s (c ∷ path) p = look_at-same cells more hs c (under c s) path p

  look_at-same : (cells more : Cells) → SameCells cells more → (c : ℕ) (s : State) (path : Path) (p : PortRef) → look_at more c s path p ≡ look_at cells c s path p
  look_at-same no_cells no_cells h c s path p = refl
  look_at-same no_cells (a_primitive twin more) h c s path p = absurd h
  look_at-same no_cells (an_instance twin more) h c s path p = absurd h
  look_at-same (a_primitive row rest) no_cells h c s path p = absurd h
  look_at-same (a_primitive row rest) (a_primitive twin more) (e, h) zero s path p = refl
  look_at-same (a_primitive row rest) (a_primitive twin more) (e, h) (suc c) s path p = look_at-same rest more h c s path p
  look_at-same (a_primitive row rest) (an_instance twin more) h c s path p = absurd h
  look_at-same (an_instance child rest) no_cells h c s path p = absurd h
  look_at-same (an_instance child rest) (a_primitive twin more) h c s path p = absurd h
  look_at-same (an_instance child rest) (an_instance twin more) (t, h) zero s path p = look_below-same child twin t unheld s path p
  look_at-same (an_instance child rest) (an_instance twin more) (t, h) (suc c) s path p = look_at-same rest more h c s path p

-- LEAVES of two instances of the same tree, whose children run alike
module _ (i j : Instance) (t : SameTree i j) (kids others : Children) (children : (c : ℕ) (held : Held) (s : State) (n : ℕ) → others c held s n ≡ kids c held s n) (held : Held) where
  rest_is : idle j ≡ idle i
  rest_is = fun_ext (λ s. sym (idle-same i j t s))

  look_is : (act : Active) (s : State) → seen j held act s ≡ seen i held act s
  look_is act s = fun_ext (λ p. sym (seen-same i j t held act s p))

  deeper_is : (s : State) → look_below j held s ≡ look_below i held s
  deeper_is s = fun_ext (λ path. fun_ext (λ p. look_below-same i j t held s path p))

  cycle_is : (act : Active) → whole_cycle j held act [] ≡ whole_cycle i held act []
  cycle_is act = fun_ext (λ s. whole_cycle-same i j t held act [] s)

  group_turn_is : (g : ℕ) → group_turn j held g ≡ group_turn i held g
  group_turn_is g =
      fun_ext (λ s.
      ap (λ look. hole_turn g (whole_cycle j held (group g) [] s) (truth_of (look (ports.Done g)))) (look_is (group g) s)
      ∙ ap (λ (go : State → Ended). hole_turn g (go s) (truth_of (seen i held (group g) s (ports.Done g)))) (cycle_is (group g)))

  test_is : (p : PortRef) (with_group : Option ℕ) (s : State) → test j held p with_group s ≡ test i held p with_group s
  test_is p with_group s = ap (λ look. test_of p (truth_of (look p))) (look_is (comb with_group) s)

  -- an island
  turn_is : (list : List Event) (x : ℕ) (h : History) (s : State) → whole_turn j held list x h s ≡ whole_turn i held list x h s
  turn_is list x h s =
      ap (λ look. unless_unclear (first_unclear look (looked_in h x list)) (whole_cycle j held (entries (own_entries (deeds_in h x list))) (deeds_in h x list) s)) (deeper_is s)
      ∙ ap (unless_unclear (first_unclear (look_below i held s) (looked_in h x list))) (whole_cycle-same i j t held (entries (own_entries (deeds_in h x list))) (deeds_in h x list) s)

  abbrev one_step : (before : History) (x : ℕ) (s : State) → (State → State) → (Path → Look) → (History → Turn State Fault) → (History → State → Answer State Fault) → Answer State Fault
  one_step before x s rest look turn later = turn_then rest s (turn (and_now before x look)) (later (and_now before x look))

  from_is : (list : List Event) (left x : ℕ) (before : History) (s : State) (n : ℕ) → whole_from j held list left x before s n ≡ whole_from i held list left x before s n
  from_is list zero x before s n = ap (λ rest. idle_turn rest s n) rest_is
  from_is list (suc left) x before s zero = refl
  from_is list (suc left) x before s (suc n) =
      ap (λ rest. one_step before x s rest (look_below j held s) (λ h. whole_turn j held list x h s) (λ h after. whole_from j held list left (suc x) h after n)) rest_is
      ∙ ap (λ look. one_step before x s (idle i) look (λ h. whole_turn j held list x h s) (λ h after. whole_from j held list left (suc x) h after n)) (deeper_is s)
      ∙ ap (λ turn. one_step before x s (idle i) (look_below i held s) turn (λ h after. whole_from j held list left (suc x) h after n)) (fun_ext (λ h. turn_is list x h s))
      ∙ ap (one_step before x s (idle i) (look_below i held s) (λ h. whole_turn i held list x h s)) (fun_ext (λ h. fun_ext (λ after. from_is list left (suc x) h after n)))

  island_is : (form : PlainForm) (s : State) (n : ℕ) → whole_island j held (unplaced_form form) s n ≡ whole_island i held form s n
  island_is form s n =
      ap (λ left. whole_from j held (island_events j (unplaced_form form)) left 0 no_history s n) (form_lasts-unplaced (part_of i) (part_of j) (same_parts i j t) form)
      ∙ from-alike j held (island_events j (unplaced_form form)) (island_events i form) (island-alike i j t form) (form_lasts (part_of i) form) s n
      ∙ from_is (island_events i form) (form_lasts (part_of i) form) 0 no_history s n

  -- a call
  after_child_is : (g c : ℕ) (capturing : Bool) → after_child j held g c capturing ≡ after_child i held g c capturing
  after_child_is g c true =
      fun_ext (λ s. fun_ext (λ n.
      ap (λ rest. one_turn rest (λ s1. turn_of (whole_cycle j held (capture g c) [] s1)) (idle_turn rest) s n) rest_is
      ∙ ap (λ (go : State → Ended). one_turn (idle i) (λ s1. turn_of (go s1)) (idle_turn (idle i)) s n) (cycle_is (capture g c))))
  after_child_is g c false = fun_ext (λ s. fun_ext (λ n. ap (λ rest. idle_turn rest s n) rest_is))

  call_is : (g c : ℕ) (s : State) (n : ℕ) → call j others held g c s n ≡ call i kids held g c s n
  call_is g c s n =
      ap (λ (inputs : Held). then_do (lift_answer c s (others c inputs (under c s) n)) n (after_child j held g c (captures j g)))
      (ap {B = Held} (λ look input. look (ports.Cell c (suc input))) (look_is (group g) s))
      ∙ ap (λ x. then_do (lift_answer c s x) n (after_child j held g c (captures j g))) (children c (inputs_of_call i held g c s) (under c s) n)
      ∙ ap (then_do (lift_answer c s (kids c (inputs_of_call i held g c s) (under c s) n)) n) (after_child_is g c (captures j g) ∙ ap (after_child i held g c) (sym (captures-same i j t g)))

  call_or_turns_is : (g : ℕ) (c : Option ℕ) (s : State) (n : ℕ) → call_or_turns j others held g c s n ≡ call_or_turns i kids held g c s n
  call_or_turns_is g (Some c) s n = call_is g c s n
  call_or_turns_is g None s n = ap (λ rest. turns_of rest (group_turn j held g) s n) rest_is ∙ ap (λ turn. turns_of (idle i) turn s n) (group_turn_is g)

  enable_kind_is : (g : ℕ) (kind : GroupKind) (s : State) (n : ℕ) → enable_kind j others held g kind s n ≡ enable_kind i kids held g kind s n
  enable_kind_is g kinds.Plain s n = ap (λ c. call_or_turns j others held g c s n) (sym (called-same i j t g)) ∙ call_or_turns_is g (called i g) s n
  enable_kind_is g kinds.Comb s n = ap (λ c. call_or_turns j others held g c s n) (sym (called-same i j t g)) ∙ call_or_turns_is g (called i g) s n
  enable_kind_is g (kinds.Timed k) s n = island_is (Enable g) s n

  enable_is : (g : ℕ) (s : State) (n : ℕ) → enable j others held g s n ≡ enable i kids held g s n
  enable_is g s n = ap (λ kind. enable_kind j others held g kind s n) (sym (kind-same (part_of i) (part_of j) (same_parts i j t) g)) ∙ enable_kind_is g (group_at (part_of i) g).kind s n

  -- STATEMENTS stand beside themselves without places
  abbrev L : Leaves State Fault
  L = whole_leaves i kids held

  abbrev M : Leaves State Fault
  M = whole_leaves j others held

  abbrev id : Fault → Fault
  id f = f

  tests_carry : (p : PortRef) (with_group : Option ℕ) (s z : State) → s ≡ z → TestCarried Exact id (L.test p with_group s) (M.test p with_group z)
  tests_carry p with_group s z e =
      subst (λ x. TestCarried Exact id (test i held p with_group s) x) (sym (test_is p with_group z)) (subst (λ y. TestCarried Exact id (test i held p with_group s) (test i held p with_group y)) e (itself (test i held p with_group s)))
    where
      itself : (x : Test Fault) → TestCarried Exact id x x
      itself Holds = refl
      itself Fails = refl
      itself (Unclear f) = refl

  drives_is : (arm : PlainStatement) (c : ℕ) → drives_all (part_of j) (unplaced arm) c ≡ drives_all (part_of i) arm c
  drives_is arm c =
      ap₂ (λ gs ks. groups_drive (part_of j) gs c || (invokes_cell (part_of j) ks c || groups_drive (part_of j) (captures_of (part_of j) ks) c)) (groups_of-unplaced arm) (invokes_of-unplaced arm)
      ∙ ap₂ (λ a b. a || b) (sym (groups_drive-same (part_of i) (part_of j) same (groups_of arm) c))
      (ap₂ (λ a b. a || b) (invokes_cell-same (part_of i) (part_of j) same (invokes_of arm) c)
      (ap (λ gs. groups_drive (part_of j) gs c) (captures_of-same (part_of i) (part_of j) same (invokes_of arm)) ∙ sym (groups_drive-same (part_of i) (part_of j) same (captures_of (part_of i) (invokes_of arm)) c)))
    where
      same : SamePart (part_of i) (part_of j)
      same = same_parts i j t

  merges_is : (arm : PlainStatement) (a b x y : State) → a ≡ x → b ≡ y → merge (drives_all (part_of i) arm) a b ≡ merge (drives_all (part_of j) (unplaced arm)) x y
  merges_is arm a b x y e f =
      ap (λ (set : Set). merge set a b) (fun_ext (λ c. sym (drives_is arm c)))
      ∙ ap (λ s. merge (drives_all (part_of j) (unplaced arm)) s b) e
      ∙ ap (merge (drives_all (part_of j) (unplaced arm)) x) f

  mutual
    form_beside : (form : PlainForm) → FormBeside Exact Same id L uncounted M form (unplaced_form form)
    form_beside Empty = empties
    form_beside (Enable g) = outright (equal_carries (L.enable g) (M.enable g) (enable_is g))
    form_beside (Seq parts) = seqs (parts_beside parts)
    form_beside (Par arms) = pars (arms_beside arms)
    form_beside (If test comb a b) = ifs {p = test} {q = unplaced_port test} (λ before s z same. tests_carry test.port comb s z same) (beside a) (beside b)
    form_beside (While test comb a) = whiles {p = test} {q = unplaced_port test} (λ before s z same. tests_carry test.port comb s z same) (beside a)
    form_beside (Repeat count a) = repeats (beside a)
    form_beside (StaticSeq length parts) = outright (equal_carries (whole_island i held (StaticSeq length parts)) (whole_island j held (unplaced_form (StaticSeq length parts))) (island_is (StaticSeq length parts)))
    form_beside (StaticPar length arms) = outright (equal_carries (whole_island i held (StaticPar length arms)) (whole_island j held (unplaced_form (StaticPar length arms))) (island_is (StaticPar length arms)))
    form_beside (StaticIf length test a b) =
        outright (equal_carries (whole_island i held (StaticIf length test a b)) (whole_island j held (unplaced_form (StaticIf length test a b))) (island_is (StaticIf length test a b)))
    form_beside (StaticRepeat length count a) =
        outright (equal_carries (whole_island i held (StaticRepeat length count a)) (whole_island j held (unplaced_form (StaticRepeat length count a))) (island_is (StaticRepeat length count a)))
    form_beside (Timed k) = outright (equal_carries (whole_island i held (Timed k)) (whole_island j held (Timed k)) (island_is (Timed k)))

    beside : (s : PlainStatement) → Beside Exact Same id L uncounted M s (unplaced s)
    beside (Placed form place) = placed (form_beside form)

    parts_beside : (ss : PlainStatements) → PartsBeside Exact Same id L uncounted M ss (unplaced_statements ss)
    parts_beside no_statements = no_parts
    parts_beside (a_statement s ss) = a_part (beside s) (parts_beside ss)

    arms_beside : (ss : PlainStatements) → ArmsBeside Exact Same id L uncounted M ss (unplaced_statements ss)
    arms_beside no_statements = no_arms
    arms_beside (a_statement s ss) = an_arm (λ before z n a b x y t0 v e f p q. merges_is s a b x y p q) (beside s) (arms_beside ss)

  run-unplaced : (statement : PlainStatement) (s : State) (n : ℕ) → run M (unplaced statement) s n ≡ run L statement s n
  run-unplaced statement s n =
      carried_is_same none none (run L statement s n) (run M (unplaced statement) s n)
      (run_carries Exact Same id L uncounted M (λ before a b same. ap (idle i) same ∙ idle-same i j t b) (beside statement) none s s n n refl refl)

-- CONTROL is the same
mutual
  pub whole_control-same : (i j : Instance) → SameTree i j → (held : Held) (s : State) (n : ℕ) → whole_control i held s n ≡ whole_control j held s n
  whole_control-same (Node part cells) (Node other more) (h, hs) held s n =
      sym (run-unplaced (Node part cells) (Node other more) (h, hs) (whole_below cells) (whole_below more) (λ c own s1 m. sym (whole_below-same cells more hs c own s1 m)) held part.control s n)
      ∙ ap (λ control. run (whole_leaves (Node other more) (whole_below more) held) control s n) h.control
      ∙ run-unplaced (Node other more) (Node other more) (same_tree_itself (Node other more)) (whole_below more) (whole_below more) (λ c own s1 m. refl) held other.control s n

  whole_below-same : (cells more : Cells) → SameCells cells more → (c : ℕ) (held : Held) (s : State) (n : ℕ) → whole_below cells c held s n ≡ whole_below more c held s n
  whole_below-same no_cells no_cells h c held s n = refl
  whole_below-same no_cells (a_primitive twin more) h c held s n = absurd h
  whole_below-same no_cells (an_instance twin more) h c held s n = absurd h
  whole_below-same (a_primitive row rest) no_cells h c held s n = absurd h
  whole_below-same (a_primitive row rest) (a_primitive twin more) (e, h) zero held s n = refl
  whole_below-same (a_primitive row rest) (a_primitive twin more) (e, h) (suc c) held s n = whole_below-same rest more h c held s n
  whole_below-same (a_primitive row rest) (an_instance twin more) h c held s n = absurd h
  whole_below-same (an_instance child rest) no_cells h c held s n = absurd h
  whole_below-same (an_instance child rest) (a_primitive twin more) h c held s n = absurd h
  whole_below-same (an_instance child rest) (an_instance twin more) (t, h) zero held s n = whole_control-same child twin t held s n
  whole_below-same (an_instance child rest) (an_instance twin more) (t, h) (suc c) held s n = whole_below-same rest more h c held s n

-- THE RUN OF MAIN hangs on no place
pub whole_main-same : (d e : PlainDesign) → SameDesign d e → (words : List (List ℕ)) (n : ℕ) → whole_main d words n ≡ whole_main e words n
whole_main-same d e same words n =
    ap (λ s. whole_control (tree_of d) unheld s n) (start-same (tree_of d) (tree_of e) (tree_of-same d e same) words)
    ∙ whole_control-same (tree_of d) (tree_of e) (tree_of-same d e same) unheld (start (tree_of e) words) n
