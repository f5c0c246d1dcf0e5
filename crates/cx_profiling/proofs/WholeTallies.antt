-- NO GROUP IS COUNTED MORE OFTEN THAN THERE ARE TURNS, with static components too: of two arms one counts a group of an instance.
use Rattle.std.proofs.Common.{◌≡◌, ◌⊎◌, inl, inr, ℕ, zero, suc, ◌+◌, ◌<◌, ◌≤◌, Bool, true, false, nat_eq, if◌then◌else◌, List, [], ◌∷◌, length, slice_get, Option, Some, None, refl, sym, ap, ◌∙◌, subst, arith}
use Rattle.std.proofs.lemmas.Bool.{both_ways, and_parts, eqb-true}
use Rattle.cx_text.proofs.MemberLaws.{image_in, in_at, in_left, in_right}
use Rattle.cx_text.specs.Members.{In}
use Rattle.cx_meaning.specs.declared.kinds.GroupKind.{GroupKind}
use Rattle.cx_meaning.specs.declared.kinds.GroupKind.TheVariants as kinds
use Rattle.cx_meaning.specs.Designs.{PlainComponent, PlainDesign, PlainForm, Empty, Enable, Seq, Par, If, While, Repeat, StaticSeq, StaticPar, StaticIf, StaticRepeat, Timed, PlainStatement, Placed, PlainStatements, no_statements, a_statement, component_at, group_at}
use Rattle.cx_meaning.specs.Instances.{Instance, OfInstance, cell_at, cells_of, idle, part_of, Path, start, State, tree_of, tree_within, under}
use Rattle.cx_meaning.specs.Active.{Active, capture, entries, group}
use Rattle.cx_meaning.specs.Sights.{Held, unheld}
use Rattle.cx_meaning.specs.Cycles.{Fault}
use Rattle.cx_meaning.specs.Answers.{Ends, Goes, Turn, idle_turn, turn_then}
use Rattle.cx_meaning.specs.Answers as answers
use Rattle.cx_meaning.specs.Control.{Leaves, groups_of, run, run_arms, run_form, run_parts}
use Rattle.cx_meaning.specs.Islands.{turn_of}
use Rattle.cx_meaning.specs.Calls.{called, captures, inputs_of_call, lift_answer}
use Rattle.cx_meaning.proofs.InstancesLemmas.{instance_is, row_instance}
use Rattle.cx_rules.specs.Invokes.{form_lasts, drives_all}
use Rattle.cx_rules.specs.Ports.{component_of}
use Rattle.cx_rules.specs.Items.{Context, Dynamic, Visited, below_dynamic, is_comb, statements_in, visit, visit_all, visit_parts}
use Rattle.cx_rules.specs.Accepted.{IsAccepted}
use Rattle.cx_rules.specs.Wellformed.{IsDesign}
use Rattle.cx_rewrites.specs.Beside.{joined}
use Rattle.cx_rewrites.specs.Tallies.{Counting, below}
use Rattle.cx_flattening.specs.Events.{Event}
use Rattle.cx_flattening.specs.Deeds.{History, no_history, and_now, Deed, deeds_in, own_entries, deeds_below}
use Rattle.cx_flattening.specs.Controlled.{AllControlled}
use Rattle.cx_flattening.specs.Ends.{NoneNamesDone}
use Rattle.cx_flattening.specs.Lists.{island_events}
use Rattle.cx_flattening.specs.Whole.{look_below, whole_cycle, whole_turn, whole_from, whole_island, after_child, group_turn, call_or_turns, enable_kind, whole_leaves, whole_control, whole_below}
use Rattle.cx_flattening.proofs.AcceptedTrees.{good}
use Rattle.cx_profiling.specs.Counters.{ProfileEntry, Shown, behind_cell, has_name, is_counted_kind, counters, entries_of, shown_in}
use Rattle.cx_profiling.specs.Counting.{made_with}
use Rattle.cx_profiling.specs.WholeCounting.{whole_count_form, whole_count, whole_count_parts, whole_count_arms, done_with, whole_count_from, count_whole_island, count_whole_call_or_turns, count_whole_enable, whole_counting, count_whole_control, count_whole_below, whole_tally_of}
use Rattle.cx_profiling.proofs.AcyclicLemmas.{child_few}
use Rattle.cx_profiling.proofs.ArmLemmas.{counted_kind}
use Rattle.cx_profiling.proofs.GroupLemmas.{counted_there}
use Rattle.cx_profiling.proofs.GrownTrees.{InTree, child_in_tree, in_reach, is_whole, main_in_tree}
use Rattle.cx_profiling.proofs.GrownEvents.{controlled_child}
use Rattle.cx_profiling.proofs.LeafLemmas.{called_instance}
use Rattle.cx_profiling.proofs.PairLemmas.{CellPair, child_pair, pair_at, row_pair}
use Rattle.cx_profiling.proofs.ShownLemmas.{IsBelow, WhereShown, child_count, own_count, where_shown}
use Rattle.cx_profiling.proofs.TallyAnswers.{Fits, FitsIn, fits_both, fits_idle, fits_loop, fits_rounds, fits_stay, fits_test, fits_then, fits_turn, fits_turns, fits_wait, fits_within}
use Rattle.cx_profiling.proofs.TallyWithin.{once_few, member, steady_fits, lifted_fits, then_fits}
use Rattle.cx_profiling.proofs.WholeArms.{later_own, first_own, later_below, first_below}
use Rattle.cx_profiling.proofs.WholeLeaves.{counts_child}
use Rattle.cx_flattening.proofs.WholeSteady.{whole_child, steady_whole}
use Rattle.cx_rewrites.proofs.MovedLemmas.{joined-with_last, with_last}

-- a group with a name that is not a comb group stands at this entry
abbrev PlainAt : Instance → Path → ℕ → Type 0
PlainAt i [] g = (is_comb (group_at (part_of i) g).kind ≡ false) × ((group_at (part_of i) g).name ≡ [] → ⊥)
PlainAt i (c ∷ path) g = (child : Instance) → cell_at (cells_of i) c ≡ OfInstance child → PlainAt child path g

behind_call : (i : Instance) (held : Held) (g c : ℕ) (b : Bool) (s : State) (n : ℕ) → Fits n 0 (after_child i held g c b s n)
behind_call i held g c false s n = fits_idle Fault (idle i) s n
behind_call i held g c true s zero = omega arith
behind_call i held g c true s (suc n) = by (turn_of (whole_cycle i held (capture g c) [] s))
  where
    by : (t : Turn State Fault) → Fits (suc n) 0 (turn_then (idle i) s t (λ after. idle_turn {F = Fault} (idle i) after n))
    by Ends = (omega arith, omega arith)
    by (Goes after) = fits_wait n 0 (idle_turn {F = Fault} (idle i) after n) (fits_idle Fault (idle i) after n)
    by (answers.Faults f) = omega arith

module _ (d : PlainDesign) (design : IsDesign d) (accepted : IsAccepted d) where
  abbrev KidsFit : ℕ → Type 0
  KidsFit m = (e : ℕ) → InTree d m e → AllControlled (tree_within d m e) → (held : Held) (path : Path) (g : ℕ) → PlainAt (tree_within d m e) path g
      → FitsIn path g (whole_control (tree_within d m e) held) (count_whole_control (tree_within d m e) held)

  module _ (m k : ℕ) (at : InTree d (suc m) k) (controlled : AllControlled (tree_within d (suc m) k)) (kids : KidsFit m) (held : Held) (path : Path) (g : ℕ) (plain : PlainAt (tree_within d (suc m) k) path g) where
    abbrev node : PlainComponent
    node = component_at d k

    abbrev i : Instance
    i = tree_within d (suc m) k

    abbrev L : Leaves State Fault
    L = whole_leaves i (whole_below (cells_of i)) held

    abbrev C : Counting State
    C = whole_counting i (count_whole_below (cells_of i)) held

    made_few : (act : Active) (at_path : Path) → made_with act at_path g ≤ 1
    made_few act [] = once_few (act.offset g)
    made_few act (c ∷ rest) = omega arith

    done_few : (ds : List Deed) (p : Path) → done_with ds p g ≤ 1
    done_few ds [] = once_few ((entries (own_entries ds)).offset g)
    done_few ds (c ∷ rest) = done_few (deeds_below c ds) rest

    island_fits : (form : PlainForm) → FitsIn path g (whole_island i held form) (count_whole_island i held form)
    island_fits form = go (form_lasts node form) 0 no_history
      where
        list : List Event
        list = island_events i form

        go : (left t : ℕ) (before : History) → FitsIn path g (whole_from i held list left t before) (whole_count_from i held list left t before)
        go zero t before s n = fits_idle Fault (idle i) s n
        go (suc left) t before s zero = omega arith
        go (suc left) t before s (suc n) =
            let h : History = and_now before t (look_below i held s) in
            fits_turn path g (idle i) s n (done_with (deeds_in h t list)) (whole_turn i held list t h s) (λ after. whole_count_from i held list left (suc t) h after n)
            (λ after. whole_from i held list left (suc t) h after n) (done_few (deeds_in h t list) path) (λ after. go left (suc t) h after n)

    -- a call, by what the child counts
    child_fits : (x c : ℕ) → called i x ≡ Some c → (s : State) (n : ℕ)
        → Fits n (below c (count_whole_below (cells_of i) c (inputs_of_call i held x c s) (under c s) n) path g) (whole_below (cells_of i) c (inputs_of_call i held x c s) (under c s) n)
    child_fits x c calls s n = by (pair_at d design m k at.within c here)
      where
        child : (y : Instance) × (cell_at (cells_of i) c ≡ OfInstance y)
        child = called_instance (cells_of i) (group_at node x).assigns c calls

        here : c < length node.cells
        here = child_few (tree_within d m) node.cells c child.0 child.1

        own : Held
        own = inputs_of_call i held x c s

        of_path : (e : ℕ) → InTree d m e → cell_at (cells_of i) c ≡ OfInstance (tree_within d m e) → (p : Path) → PlainAt i p g
            → Fits n (below c (count_whole_control (tree_within d m e) own (under c s) n) p g) (whole_control (tree_within d m e) own (under c s) n)
        of_path e inside first [] is = steady_fits n (whole_control (tree_within d m e) own (under c s) n) (steady_whole (tree_within d m e) own (under c s) n n (omega arith))
        of_path e inside first (b ∷ rest) is = by_cell (nat_eq c b) refl
          where
            by_cell : (t : Bool) → nat_eq c b ≡ t → Fits n (if t then count_whole_control (tree_within d m e) own (under c s) n rest g else 0) (whole_control (tree_within d m e) own (under c s) n)
            by_cell true same =
                kids e inside (controlled_child (cells_of i) c (tree_within d m e) controlled.1 first) own rest g (is (tree_within d m e) (subst (λ y. cell_at (cells_of i) y ≡ OfInstance (tree_within d m e)) (eqb-true c b same) first)) (under c s) n
            by_cell false other = steady_fits n (whole_control (tree_within d m e) own (under c s) n) (steady_whole (tree_within d m e) own (under c s) n n (omega arith))

        by : CellPair d design m k at.within c → Fits n (below c (count_whole_below (cells_of i) c own (under c s) n) path g) (whole_below (cells_of i) c own (under c s) n)
        by (row_pair row first second moved) = absurd (row_instance row child.0 (sym first ∙ child.1))
        by (child_pair cell e stands comp less first second moved) =
            let counts = counts_child (cells_of i) c (tree_within d m e) first own (under c s) n in
            let runs = whole_child (cells_of i) c (tree_within d m e) first own (under c s) n in
            subst (λ tally. Fits n (below c tally path g) (whole_below (cells_of i) c own (under c s) n)) (sym counts)
            (subst (λ o. Fits n (below c (count_whole_control (tree_within d m e) own (under c s) n) path g) o) (sym runs)
            (of_path e (child_in_tree d design at cell e (in_at node.cells c cell stands) comp) first path plain))

    call_fits : (x : ℕ) (o : Option ℕ) → called i x ≡ o → FitsIn path g (call_or_turns i (whole_below (cells_of i)) held x o) (count_whole_call_or_turns i (count_whole_below (cells_of i)) held x o)
    call_fits x None calls s n = fits_turns path g (idle i) (group_turn i held x) (made_with (group x)) (made_few (group x) path) s n
    call_fits x (Some c) calls s n =
        let own = inputs_of_call i held x c s in
        let counted = below c (count_whole_below (cells_of i) c own (under c s) n) path g in
        then_fits n counted (lift_answer c s (whole_below (cells_of i) c own (under c s) n)) (after_child i held x c (captures i x))
        (lifted_fits n counted c s (whole_below (cells_of i) c own (under c s) n) (child_fits x c calls s n)) (λ a u. behind_call i held x c (captures i x) a u)

    enable_fits : (x : ℕ) (kind : GroupKind) → FitsIn path g (enable_kind i (whole_below (cells_of i)) held x kind) (count_whole_enable i (count_whole_below (cells_of i)) held x kind)
    enable_fits x kinds.Plain = call_fits x (called i x) refl
    enable_fits x kinds.Comb = call_fits x (called i x) refl
    enable_fits x (kinds.Timed length) = island_fits (Enable x)

    -- of an arm and those behind it one counts nothing of the entry
    one_counts : (v : Visited) → In (statements_in node) v → (done : PlainStatements) (arm : PlainStatement) (later : PlainStatements) → v.form ≡ Par (joined done (a_statement arm later)) → (s : State) (n : ℕ)
        → (whole_count L C arm s n path g ≡ 0) ⊎ (whole_count_arms L C later s n path g ≡ 0)
    one_counts v stands done arm later form s n = of_path path plain
      where
        of_path : (p : Path) → PlainAt i p g → (whole_count L C arm s n p g ≡ 0) ⊎ (whole_count_arms L C later s n p g ≡ 0)
        of_path [] own = by (member g (groups_of arm))
          where
            by : In (groups_of arm) g ⊎ (In (groups_of arm) g → ⊥) → (whole_count L C arm s n [] g ≡ 0) ⊎ (whole_count_arms L C later s n [] g ≡ 0)
            by (inl inside) = inr (later_own d design accepted m k at controlled (whole_below (cells_of i)) (count_whole_below (cells_of i)) held v stands done arm later form g own.0 own.1 inside s n)
            by (inr outside) = inl (first_own d design accepted m k at controlled (whole_below (cells_of i)) (count_whole_below (cells_of i)) held v stands done arm later form g own.1 outside s n)
        of_path (c ∷ rest) own = by (drives_all node arm c) refl
          where
            by : (b : Bool) → drives_all node arm c ≡ b → (whole_count L C arm s n (c ∷ rest) g ≡ 0) ⊎ (whole_count_arms L C later s n (c ∷ rest) g ≡ 0)
            by true e = inr (later_below d design accepted m k at controlled (whole_below (cells_of i)) (count_whole_below (cells_of i)) held v stands done arm later form c rest g e s n)
            by false e = inl (first_below d design accepted m k at controlled (whole_below (cells_of i)) (count_whole_below (cells_of i)) held v stands done arm later form c rest g e s n)

    abbrev AllStand : List Visited → Type 0
    AllStand vs = (w : Visited) → In vs w → In (statements_in node) w

    mutual
      form_fits : (context : Context) (form : PlainForm) (v : Visited) → In (statements_in node) v → v.form ≡ form → AllStand (visit_parts context form) → FitsIn path g (run_form L form) (whole_count_form L C form)
      form_fits context Empty v stands is all s n = fits_idle Fault (idle i) s n
      form_fits context (Enable x) v stands is all s n = enable_fits x (group_at node x).kind s n
      form_fits context (Seq no_statements) v stands is all s n = fits_idle Fault (idle i) s n
      form_fits context (Seq (a_statement first later)) v stands is all s n =
          fits_then path g n (whole_count L C first s n path g) (run L first s n) (run_parts L later) (whole_count_parts L C later)
          (statement_fits (below_dynamic context) first (λ w j. all w (in_left (visit (below_dynamic context) first) (visit_all (below_dynamic context) later) w j)) s n)
          (parts_fits (below_dynamic context) later (λ w j. all w (in_right (visit (below_dynamic context) first) (visit_all (below_dynamic context) later) w j)))
      form_fits context (Par no_statements) v stands is all s n = fits_idle Fault (idle i) s n
      form_fits context (Par (a_statement first later)) v stands is all s n = arms_fits (below_dynamic context) v stands no_statements (a_statement first later) is all s n
      form_fits context (If test comb a b) v stands is all s n =
          fits_test path g L.rest (L.test test.port comb) (run L a) (run L b) (whole_count L C a) (whole_count L C b)
          (statement_fits (below_dynamic context) a (λ w j. all w (in_left (visit (below_dynamic context) a) (visit (below_dynamic context) b) w j)))
          (statement_fits (below_dynamic context) b (λ w j. all w (in_right (visit (below_dynamic context) a) (visit (below_dynamic context) b) w j))) s n
      form_fits context (While test comb a) v stands is all s n = fits_loop path g (suc n) L.rest (L.test test.port comb) (run L a) (whole_count L C a) (statement_fits (below_dynamic context) a all) s n
      form_fits context (Repeat zero a) v stands is all s n = fits_idle Fault (idle i) s n
      form_fits context (Repeat (suc times) a) v stands is all s n = fits_rounds path g (suc times) (run L a) (whole_count L C a) (statement_fits (below_dynamic context) a all) s n
      form_fits context (StaticSeq length parts) v stands is all s n = island_fits (StaticSeq length parts) s n
      form_fits context (StaticPar length arms) v stands is all s n = island_fits (StaticPar length arms) s n
      form_fits context (StaticIf length test a b) v stands is all s n = island_fits (StaticIf length test a b) s n
      form_fits context (StaticRepeat length times a) v stands is all s n = island_fits (StaticRepeat length times a) s n
      form_fits context (Timed x) v stands is all s n = island_fits (Timed x) s n

      statement_fits : (context : Context) (statement : PlainStatement) → AllStand (visit context statement) → FitsIn path g (run L statement) (whole_count L C statement)
      statement_fits context (Placed form place) all s n =
          form_fits context form (record { context = context; form = form; place = place }) (all (record { context = context; form = form; place = place }) (inl refl)) refl (λ w j. all w (inr j)) s n

      parts_fits : (context : Context) (parts : PlainStatements) → AllStand (visit_all context parts) → FitsIn path g (run_parts L parts) (whole_count_parts L C parts)
      parts_fits context no_statements all s n = fits_stay Fault s n
      parts_fits context (a_statement first later) all s n =
          fits_then path g n (whole_count L C first s n path g) (run L first s n) (run_parts L later) (whole_count_parts L C later)
          (statement_fits context first (λ w j. all w (in_left (visit context first) (visit_all context later) w j)) s n)
          (parts_fits context later (λ w j. all w (in_right (visit context first) (visit_all context later) w j)))

      arms_fits : (context : Context) (v : Visited) → In (statements_in node) v → (done arms : PlainStatements) → v.form ≡ Par (joined done arms) → AllStand (visit_all context arms) → FitsIn path g (run_arms L arms) (whole_count_arms L C arms)
      arms_fits context v stands done no_statements is all s n = fits_stay Fault s n
      arms_fits context v stands done (a_statement first later) is all s n =
          fits_both path g (L.merged (L.driven first)) n (whole_count L C first s n path g) (whole_count_arms L C later s n path g) (run L first s n) (run_arms L later s n) (one_counts v stands done first later is s n)
          (statement_fits context first (λ w j. all w (in_left (visit context first) (visit_all context later) w j)) s n)
          (arms_fits context v stands (with_last done first) later (is ∙ ap Par (sym (joined-with_last done first later))) (λ w j. all w (in_right (visit context first) (visit_all context later) w j)) s n)

    control_fits : FitsIn path g (whole_control i held) (count_whole_control i held)
    control_fits = statement_fits Dynamic node.control (λ w j. j)

  tree_fits : (m : ℕ) → KidsFit m
  tree_fits zero e at controlled held path g plain = absurd at.deep_enough
  tree_fits (suc m) e at controlled held path g plain = control_fits m e at controlled (tree_fits m) held path g plain

  -- the entries of a profile are of groups that are no comb groups
  abbrev AreShownPlain : ℕ → Type 0
  AreShownPlain m = (k : ℕ) → InTree d m k → (x : Shown) → In (shown_in (tree_within d m k)) x → PlainAt (tree_within d m k) x.entry.path x.entry.group

  module _ (m k : ℕ) (at : InTree d (suc m) k) (below_plain : AreShownPlain m) where
    child_plain : (x : Shown) (r : IsBelow (cells_of (tree_within d (suc m) k)) 0 x) → CellPair d design m k at.within r.cell → PlainAt (tree_within d (suc m) k) (r.cell ∷ r.inner.entry.path) r.inner.entry.group
    child_plain x r (row_pair row first second moved) = absurd (row_instance row r.child (sym first ∙ r.stands))
    child_plain x r (child_pair cell e stands comp less first second moved) = λ child is.
        let own : r.child ≡ tree_within d m e = instance_is r.child (tree_within d m e) (sym r.stands ∙ first) in
        let inner : In (shown_in (tree_within d m e)) r.inner = in_at (shown_in (tree_within d m e)) r.number r.inner (subst (λ y. slice_get (shown_in y) r.number ≡ Some r.inner) own r.listed) in
        subst (λ y. PlainAt y r.inner.entry.path r.inner.entry.group) (instance_is (tree_within d m e) child (sym first ∙ is))
        (below_plain e (child_in_tree d design at cell e (in_at (component_at d k).cells r.cell cell stands) comp) r.inner inner)

    one_plain : (x : Shown) → WhereShown (tree_within d (suc m) k) x → PlainAt (tree_within d (suc m) k) x.entry.path x.entry.group
    one_plain x (own_count counter own same) =
        let there : In (counters (component_of d k)) counter = subst (λ tree. In (counters tree) counter) (is_whole d at) own in
        let known = counted_there d k at.within (in_reach d at) counter there in
        subst (λ (y : Shown). PlainAt (tree_within d (suc m) k) y.entry.path y.entry.group) same (
          counted_kind (cells_of (component_of d k)) (group_at (component_at d k) counter.group) known.1,
          λ none. both_ways (has_name (group_at (component_at d k) counter.group).name) (ap has_name none)
              (and_parts (has_name (group_at (component_at d k) counter.group).name) (is_counted_kind (cells_of (component_of d k)) (group_at (component_at d k) counter.group).assigns (group_at (component_at d k) counter.group).kind) known.1).0,
        )
    one_plain x (child_count r) =
        let same : 0 + r.cell ≡ r.cell = omega arith in
        subst (λ (e : ProfileEntry). PlainAt (tree_within d (suc m) k) e.path e.group) (sym (r.entry ∙ ap (λ n. behind_cell n r.inner.entry) same))
        (child_plain x r (pair_at d design m k at.within r.cell (child_few (tree_within d m) (component_at d k).cells r.cell r.child r.stands)))

  shown_plain : (m : ℕ) → AreShownPlain m
  shown_plain zero k at x inside = absurd at.deep_enough
  shown_plain (suc m) k at x inside = one_plain m k at (shown_plain m) x (where_shown (tree_within d (suc m) k) x inside)

  -- NO ENTRY IS COUNTED MORE OFTEN than the budget has turns
  pub whole_entry_within : NoneNamesDone d → (words : List (List ℕ)) (n : ℕ) (e : ProfileEntry) → In (entries_of (tree_of d)) e → whole_tally_of d words n e.path e.group ≤ n
  whole_entry_within undone words n e inside =
      let r = image_in (λ (x : Shown). x.entry) (shown_in (tree_of d)) e inside in
      let plain = shown_plain (length d.components) d.main (main_in_tree d design) r.0 r.1 in
      subst (λ (y : ProfileEntry). whole_tally_of d words n y.path y.group ≤ n) r.2
      (fits_within n (whole_tally_of d words n r.0.entry.path r.0.entry.group) (whole_control (tree_of d) unheld (start (tree_of d) words) n)
      (tree_fits (length d.components) d.main (main_in_tree d design) (good d design accepted undone).controlled unheld r.0.entry.path r.0.entry.group plain (start (tree_of d) words) n))
