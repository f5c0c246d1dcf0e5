-- NO GROUP IS COUNTED MORE OFTEN THAN THERE ARE TURNS: of two arms one counts a group of an instance, by the rule of races.
use Rattle.std.proofs.Common.{◌≡◌, ◌⊎◌, inl, inr, ⊎_elim, ℕ, zero, suc, ◌+◌, ◌-◌, ◌<◌, ◌≤◌, Bool, true, false, nat_eq, if◌then◌else◌, List, [], ◌∷◌, length, slice_get, Option, Some, None, refl, sym, ap, ◌∙◌, subst, arith}
use Rattle.std.proofs.lemmas.Bool.{eqb-true, eqb-false}
use Rattle.cx_text.proofs.MemberLaws.{image_in, in_at, in_left, in_right}
use Rattle.cx_text.specs.Members.{In}
use Rattle.cx_meaning.specs.declared.kinds.GroupKind.{GroupKind}
use Rattle.cx_meaning.specs.declared.kinds.GroupKind.TheVariants as kinds
use Rattle.cx_meaning.specs.Designs.{PlainComponent, PlainDesign, PlainForm, Empty, Enable, Seq, Par, If, While, Repeat, StaticSeq, StaticPar, StaticIf, StaticRepeat, Timed, PlainStatement, Placed, PlainStatements, no_statements, a_statement, component_at, group_at}
use Rattle.cx_meaning.specs.Instances.{Instance, OfInstance, cell_at, cells_of, idle, part_of, Path, start, State, tree_of, tree_within, under}
use Rattle.cx_meaning.specs.Active.{Active, capture, entries, group, nothing}
use Rattle.cx_meaning.specs.Sights.{Held, seen, unheld}
use Rattle.cx_meaning.specs.Cycles.{Fault, cycle}
use Rattle.cx_meaning.specs.Answers.{Answer, End, Ends, Goes, More, Meaning, Turn, after_turns, idle_turn, then_do, turn_then}
use Rattle.cx_meaning.specs.Budgets.{Grows}
use Rattle.cx_meaning.specs.Answers as answers
use Rattle.cx_meaning.specs.Control.{Leaves, groups_of, drives, run, run_arms, run_form, run_parts}
use Rattle.cx_meaning.specs.Islands.{History, Occurrence, active_in, and_now, form_flat, form_length, island_from, island_turn, no_history, turn_of}
use Rattle.cx_meaning.specs.Calls.{after_child, call_or_turns, called, captures, enable_kind, group_turn, inputs_of_call, lift_answer}
use Rattle.cx_meaning.specs.Running.{control_below, leaves, run_control}
use Rattle.cx_meaning.proofs.InstancesLemmas.{instance_is, row_instance}
use Rattle.cx_meaning.proofs.RunningLemmas.{steady_control, child_runs}
use Rattle.cx_rules.specs.Ports.{component_of}
use Rattle.cx_rules.specs.Items.{Context, Dynamic, Visited, below_dynamic, is_comb, statements_in, visit, visit_all, visit_parts}
use Rattle.cx_rules.specs.Accepted.{IsAccepted}
use Rattle.cx_rules.specs.Wellformed.{IsDesign}
use Rattle.cx_rewrites.specs.Beside.{joined}
use Rattle.cx_rewrites.specs.Tallies.{Counting, below, count, count_arms, count_form, count_parts, island_count_from}
use Rattle.cx_profiling.specs.Counters.{ProfileEntry, Shown, behind_cell, counters, entries_of, shown_in}
use Rattle.cx_profiling.specs.Counting.{count_below, count_call_or_turns, count_control, count_enable, counting, made_with, once, tally_of}
use Rattle.cx_profiling.proofs.AcyclicLemmas.{child_few}
use Rattle.cx_profiling.proofs.ArmLemmas.{counted_kind, not_later, undriven_later}
use Rattle.cx_profiling.proofs.ControlLemmas.{count_child}
use Rattle.cx_profiling.proofs.CountWithin.{below_arms_zero, below_zero, own_arms_zero, own_zero}
use Rattle.cx_profiling.proofs.GroupLemmas.{counted_there}
use Rattle.cx_profiling.proofs.GrownTrees.{InTree, child_in_tree, in_reach, is_whole, main_in_tree}
use Rattle.cx_profiling.proofs.LeafLemmas.{called_instance}
use Rattle.cx_profiling.proofs.PairLemmas.{CellPair, child_pair, pair_at, row_pair}
use Rattle.cx_profiling.proofs.ShownLemmas.{IsBelow, WhereShown, child_count, own_count, where_shown}
use Rattle.cx_profiling.proofs.TallyAnswers.{Fits, FitsIn, fits_both, fits_idle, fits_loop, fits_rounds, fits_stay, fits_test, fits_then, fits_turn, fits_turns, fits_wait, fits_within}
use Rattle.cx_rewrites.proofs.MovedLemmas.{joined-with_last, with_last}

pub once_few : (o : Option ℕ) → once o ≤ 1
once_few None = omega arith
once_few (Some n) = omega arith

pub member : (g : ℕ) (gs : List ℕ) → In gs g ⊎ (In gs g → ⊥)
member g [] = inr (λ none. none)
member g (x ∷ gs) = by (nat_eq x g) refl (member g gs)
  where
    by : (b : Bool) → nat_eq x g ≡ b → In gs g ⊎ (In gs g → ⊥) → In (x ∷ gs) g ⊎ (In (x ∷ gs) g → ⊥)
    by true e rest = inl (inl (eqb-true x g e))
    by false e (inl i) = inl (inr i)
    by false e (inr other) = inr (λ i. ⊎_elim (λ same. eqb-false x g e same) other i)

-- a group that is not a comb group stands at this entry
abbrev PlainAt : Instance → Path → ℕ → Type 0
PlainAt i [] g = is_comb (group_at (part_of i) g).kind ≡ false
PlainAt i (c ∷ path) g = (child : Instance) → cell_at (cells_of i) c ≡ OfInstance child → PlainAt child path g

-- nothing is counted of it, and it takes no more turns than the budget has
pub steady_fits : (n : ℕ) (o : Answer State Fault) → Grows n o o → Fits n 0 o
steady_fits n (End s t) h = (omega arith, h.0)
steady_fits n (answers.Fault f t) h = omega arith
steady_fits n More h = omega arith

pub lifted_fits : (n m c : ℕ) (s : State) (o : Answer State Fault) → Fits n m o → Fits n m (lift_answer c s o)
lifted_fits n m c s (End own t) h = h
lifted_fits n m c s (answers.Fault f t) h = h
lifted_fits n m c s More h = h

-- a run behind it counts nothing
pub then_fits : (n m : ℕ) (o : Answer State Fault) (go : Meaning State Fault) → Fits n m o → ((s : State) (k : ℕ) → Fits k 0 (go s k)) → Fits n m (then_do o n go)
then_fits n m (End s t) go h each = behind (go s (n - t)) (each s (n - t))
  where
    behind : (x : Answer State Fault) → Fits (n - t) 0 x → Fits n m (after_turns t x)
    behind (End a u) k = let few = h.0 in let within = h.1 in let end = k.1 in (omega (arith, few), omega (arith, within, end))
    behind (answers.Fault f u) k = let few = h.0 in let within = h.1 in omega (arith, few, within)
    behind More k = let few = h.0 in let within = h.1 in omega (arith, few, within)
then_fits n m (answers.Fault f t) go h each = h
then_fits n m More go h each = h

behind_call : (i : Instance) (held : Held) (g c : ℕ) (b : Bool) (s : State) (n : ℕ) → Fits n 0 (after_child i held g c b s n)
behind_call i held g c false s n = fits_idle Fault (idle i) s n
behind_call i held g c true s zero = omega arith
behind_call i held g c true s (suc n) = by (turn_of (cycle i held (capture g c) s))
  where
    by : (t : Turn State Fault) → Fits (suc n) 0 (turn_then (idle i) s t (λ after. idle_turn {F = Fault} (idle i) after n))
    by Ends = (omega arith, omega arith)
    by (Goes after) = fits_wait n 0 (idle_turn {F = Fault} (idle i) after n) (fits_idle Fault (idle i) after n)
    by (answers.Faults f) = omega arith

module _ (d : PlainDesign) (design : IsDesign d) (accepted : IsAccepted d) where
  abbrev KidsFit : ℕ → Type 0
  KidsFit m = (e : ℕ) → InTree d m e → (held : Held) (path : Path) (g : ℕ) → PlainAt (tree_within d m e) path g
      → FitsIn path g (run_control (tree_within d m e) held) (count_control (tree_within d m e) held)

  module _ (m k : ℕ) (at : InTree d (suc m) k) (kids : KidsFit m) (held : Held) (path : Path) (g : ℕ) (plain : PlainAt (tree_within d (suc m) k) path g) where
    abbrev node : PlainComponent
    node = component_at d k

    abbrev i : Instance
    i = tree_within d (suc m) k

    abbrev L : Leaves State Fault
    L = leaves i (control_below (cells_of i)) held

    abbrev C : Counting State
    C = counting i (count_below (cells_of i)) held

    made_few : (act : Active) (at_path : Path) → made_with act at_path g ≤ 1
    made_few act [] = once_few (act.offset g)
    made_few act (c ∷ rest) = omega arith

    island_fits : (form : PlainForm) → FitsIn path g (L.island form) (C.island form)
    island_fits form = go (form_length node form) 0 no_history
      where
        list : List Occurrence
        list = form_flat node form 0 []

        go : (left t : ℕ) (before : History) → FitsIn path g (island_from i held list left t before) (island_count_from (λ es. made_with (entries es)) i held list left t before)
        go zero t before s n = fits_idle Fault (idle i) s n
        go (suc left) t before s zero = omega arith
        go (suc left) t before s (suc n) =
            let h : History = and_now before t (seen i held nothing s) in
            fits_turn path g (idle i) s n (made_with (entries (active_in h t list))) (island_turn i held list t h s) (λ after. island_count_from (λ es. made_with (entries es)) i held list left (suc t) h after n)
            (λ after. island_from i held list left (suc t) h after n) (made_few (entries (active_in h t list)) path) (λ after. go left (suc t) h after n)

    -- a call, by what the child counts
    child_fits : (x c : ℕ) → called i x ≡ Some c → (s : State) (n : ℕ)
        → Fits n (below c (count_below (cells_of i) c (inputs_of_call i held x c s) (under c s) n) path g) (control_below (cells_of i) c (inputs_of_call i held x c s) (under c s) n)
    child_fits x c calls s n = by (pair_at d design m k at.within c here)
      where
        child : (y : Instance) × (cell_at (cells_of i) c ≡ OfInstance y)
        child = called_instance (cells_of i) (group_at node x).assigns c calls

        here : c < length node.cells
        here = child_few (tree_within d m) node.cells c child.0 child.1

        own : Held
        own = inputs_of_call i held x c s

        of_path : (e : ℕ) → InTree d m e → cell_at (cells_of i) c ≡ OfInstance (tree_within d m e) → (p : Path) → PlainAt i p g
            → Fits n (below c (count_control (tree_within d m e) own (under c s) n) p g) (run_control (tree_within d m e) own (under c s) n)
        of_path e inside first [] is = steady_fits n (run_control (tree_within d m e) own (under c s) n) (steady_control (tree_within d m e) own (under c s) n n (omega arith))
        of_path e inside first (b ∷ rest) is = by_cell (nat_eq c b) refl
          where
            by_cell : (t : Bool) → nat_eq c b ≡ t → Fits n (if t then count_control (tree_within d m e) own (under c s) n rest g else 0) (run_control (tree_within d m e) own (under c s) n)
            by_cell true same =
                kids e inside own rest g (is (tree_within d m e) (subst (λ y. cell_at (cells_of i) y ≡ OfInstance (tree_within d m e)) (eqb-true c b same) first)) (under c s) n
            by_cell false other = steady_fits n (run_control (tree_within d m e) own (under c s) n) (steady_control (tree_within d m e) own (under c s) n n (omega arith))

        by : CellPair d design m k at.within c → Fits n (below c (count_below (cells_of i) c own (under c s) n) path g) (control_below (cells_of i) c own (under c s) n)
        by (row_pair row first second moved) = absurd (row_instance row child.0 (sym first ∙ child.1))
        by (child_pair cell e stands comp less first second moved) =
            let counts = count_child (cells_of i) c (tree_within d m e) first own (under c s) n in
            let runs = child_runs (cells_of i) c (tree_within d m e) first own (under c s) n in
            subst (λ tally. Fits n (below c tally path g) (control_below (cells_of i) c own (under c s) n)) (sym counts)
            (subst (λ o. Fits n (below c (count_control (tree_within d m e) own (under c s) n) path g) o) (sym runs)
            (of_path e (child_in_tree d design at cell e (in_at node.cells c cell stands) comp) first path plain))

    call_fits : (x : ℕ) (o : Option ℕ) → called i x ≡ o → FitsIn path g (call_or_turns i (control_below (cells_of i)) held x o) (count_call_or_turns i (count_below (cells_of i)) held x o)
    call_fits x None calls s n = fits_turns path g (idle i) (group_turn i held x) (made_with (group x)) (made_few (group x) path) s n
    call_fits x (Some c) calls s n =
        let own = inputs_of_call i held x c s in
        let counted = below c (count_below (cells_of i) c own (under c s) n) path g in
        then_fits n counted (lift_answer c s (control_below (cells_of i) c own (under c s) n)) (after_child i held x c (captures i x))
        (lifted_fits n counted c s (control_below (cells_of i) c own (under c s) n) (child_fits x c calls s n)) (λ a u. behind_call i held x c (captures i x) a u)

    enable_fits : (x : ℕ) (kind : GroupKind) → FitsIn path g (enable_kind i (control_below (cells_of i)) held x kind) (count_enable i (count_below (cells_of i)) held x kind)
    enable_fits x kinds.Plain = call_fits x (called i x) refl
    enable_fits x kinds.Comb = call_fits x (called i x) refl
    enable_fits x (kinds.Timed length) = island_fits (Enable x)

    -- of an arm and those behind it one counts nothing of the entry
    one_counts : (v : Visited) → In (statements_in node) v → (done : PlainStatements) (arm : PlainStatement) (later : PlainStatements) → v.form ≡ Par (joined done (a_statement arm later)) → (s : State) (n : ℕ)
        → (count L C arm s n path g ≡ 0) ⊎ (count_arms L C later s n path g ≡ 0)
    one_counts v stands done arm later form s n = of_path path plain
      where
        of_path : (p : Path) → PlainAt i p g → (count L C arm s n p g ≡ 0) ⊎ (count_arms L C later s n p g ≡ 0)
        of_path [] own = by (member g (groups_of arm))
          where
            by : In (groups_of arm) g ⊎ (In (groups_of arm) g → ⊥) → (count L C arm s n [] g ≡ 0) ⊎ (count_arms L C later s n [] g ≡ 0)
            by (inl inside) =
                inr (own_arms_zero i (control_below (cells_of i)) (count_below (cells_of i)) held g later
                (not_later d design accepted m k at (control_below (cells_of i)) (count_below (cells_of i)) held v stands done arm later form g own inside) s n)
            by (inr outside) = inl (own_zero i (control_below (cells_of i)) (count_below (cells_of i)) held g arm outside s n)
        of_path (c ∷ rest) own = by (drives node arm c) refl
          where
            by : (b : Bool) → drives node arm c ≡ b → (count L C arm s n (c ∷ rest) g ≡ 0) ⊎ (count_arms L C later s n (c ∷ rest) g ≡ 0)
            by true e =
                inr (below_arms_zero i (control_below (cells_of i)) (count_below (cells_of i)) held c rest g later
                (undriven_later d design accepted m k at (control_below (cells_of i)) (count_below (cells_of i)) held v stands done arm later form c e) s n)
            by false e = inl (below_zero i (control_below (cells_of i)) (count_below (cells_of i)) held c rest g arm e s n)

    abbrev AllStand : List Visited → Type 0
    AllStand vs = (w : Visited) → In vs w → In (statements_in node) w

    mutual
      form_fits : (context : Context) (form : PlainForm) (v : Visited) → In (statements_in node) v → v.form ≡ form → AllStand (visit_parts context form) → FitsIn path g (run_form L form) (count_form L C form)
      form_fits context Empty v stands is all s n = fits_idle Fault (idle i) s n
      form_fits context (Enable x) v stands is all s n = enable_fits x (group_at node x).kind s n
      form_fits context (Seq no_statements) v stands is all s n = fits_idle Fault (idle i) s n
      form_fits context (Seq (a_statement first later)) v stands is all s n =
          fits_then path g n (count L C first s n path g) (run L first s n) (run_parts L later) (count_parts L C later)
          (statement_fits (below_dynamic context) first (λ w j. all w (in_left (visit (below_dynamic context) first) (visit_all (below_dynamic context) later) w j)) s n)
          (parts_fits (below_dynamic context) later (λ w j. all w (in_right (visit (below_dynamic context) first) (visit_all (below_dynamic context) later) w j)))
      form_fits context (Par no_statements) v stands is all s n = fits_idle Fault (idle i) s n
      form_fits context (Par (a_statement first later)) v stands is all s n = arms_fits (below_dynamic context) v stands no_statements (a_statement first later) is all s n
      form_fits context (If test comb a b) v stands is all s n =
          fits_test path g L.rest (L.test test.port comb) (run L a) (run L b) (count L C a) (count L C b)
          (statement_fits (below_dynamic context) a (λ w j. all w (in_left (visit (below_dynamic context) a) (visit (below_dynamic context) b) w j)))
          (statement_fits (below_dynamic context) b (λ w j. all w (in_right (visit (below_dynamic context) a) (visit (below_dynamic context) b) w j))) s n
      form_fits context (While test comb a) v stands is all s n = fits_loop path g (suc n) L.rest (L.test test.port comb) (run L a) (count L C a) (statement_fits (below_dynamic context) a all) s n
      form_fits context (Repeat zero a) v stands is all s n = fits_idle Fault (idle i) s n
      form_fits context (Repeat (suc times) a) v stands is all s n = fits_rounds path g (suc times) (run L a) (count L C a) (statement_fits (below_dynamic context) a all) s n
      form_fits context (StaticSeq length parts) v stands is all s n = island_fits (StaticSeq length parts) s n
      form_fits context (StaticPar length arms) v stands is all s n = island_fits (StaticPar length arms) s n
      form_fits context (StaticIf length test a b) v stands is all s n = island_fits (StaticIf length test a b) s n
      form_fits context (StaticRepeat length times a) v stands is all s n = island_fits (StaticRepeat length times a) s n
      form_fits context (Timed x) v stands is all s n = omega arith

      statement_fits : (context : Context) (statement : PlainStatement) → AllStand (visit context statement) → FitsIn path g (run L statement) (count L C statement)
      statement_fits context (Placed form place) all s n =
          form_fits context form (record { context = context; form = form; place = place }) (all (record { context = context; form = form; place = place }) (inl refl)) refl (λ w j. all w (inr j)) s n

      parts_fits : (context : Context) (parts : PlainStatements) → AllStand (visit_all context parts) → FitsIn path g (run_parts L parts) (count_parts L C parts)
      parts_fits context no_statements all s n = fits_stay Fault s n
      parts_fits context (a_statement first later) all s n =
          fits_then path g n (count L C first s n path g) (run L first s n) (run_parts L later) (count_parts L C later)
          (statement_fits context first (λ w j. all w (in_left (visit context first) (visit_all context later) w j)) s n)
          (parts_fits context later (λ w j. all w (in_right (visit context first) (visit_all context later) w j)))

      arms_fits : (context : Context) (v : Visited) → In (statements_in node) v → (done arms : PlainStatements) → v.form ≡ Par (joined done arms) → AllStand (visit_all context arms) → FitsIn path g (run_arms L arms) (count_arms L C arms)
      arms_fits context v stands done no_statements is all s n = fits_stay Fault s n
      arms_fits context v stands done (a_statement first later) is all s n =
          fits_both path g (L.merged (L.driven first)) n (count L C first s n path g) (count_arms L C later s n path g) (run L first s n) (run_arms L later s n) (one_counts v stands done first later is s n)
          (statement_fits context first (λ w j. all w (in_left (visit context first) (visit_all context later) w j)) s n)
          (arms_fits context v stands (with_last done first) later (is ∙ ap Par (sym (joined-with_last done first later))) (λ w j. all w (in_right (visit context first) (visit_all context later) w j)) s n)

    control_fits : FitsIn path g (run_control i held) (count_control i held)
    control_fits = statement_fits Dynamic node.control (λ w j. j)

  tree_fits : (m : ℕ) → KidsFit m
  tree_fits zero e at held path g plain = absurd at.deep_enough
  tree_fits (suc m) e at held path g plain = control_fits m e at (tree_fits m) held path g plain

  -- the entries of a profile are of groups that are no comb groups
  abbrev AreShownPlain : ℕ → Type 0
  AreShownPlain m = (k : ℕ) → InTree d m k → (x : Shown) → In (shown_in (tree_within d m k)) x → PlainAt (tree_within d m k) x.entry.path x.entry.group

  module _ (m k : ℕ) (at : InTree d (suc m) k) (below_plain : AreShownPlain m) where
    child_plain : (x : Shown) (r : IsBelow (cells_of (tree_within d (suc m) k)) 0 x) → CellPair d design m k at.within r.cell → PlainAt (tree_within d (suc m) k) (r.cell ∷ r.inner.entry.path) r.inner.entry.group
    child_plain x r (row_pair row first second moved) = absurd (row_instance row r.child (sym first ∙ r.stands))
    child_plain x r (child_pair cell e stands comp less first second moved) = λ child is.
        let own : r.child ≡ tree_within d m e = instance_is r.child (tree_within d m e) (sym r.stands ∙ first) in
        let inner : In (shown_in (tree_within d m e)) r.inner = in_at (shown_in (tree_within d m e)) r.number r.inner (subst (λ y. slice_get (shown_in y) r.number ≡ Some r.inner) own r.listed) in
        subst (λ y. PlainAt y r.inner.entry.path r.inner.entry.group) (instance_is (tree_within d m e) child (sym first ∙ is))
        (below_plain e (child_in_tree d design at cell e (in_at (component_at d k).cells r.cell cell stands) comp) r.inner inner)

    one_plain : (x : Shown) → WhereShown (tree_within d (suc m) k) x → PlainAt (tree_within d (suc m) k) x.entry.path x.entry.group
    one_plain x (own_count counter own same) =
        let there : In (counters (component_of d k)) counter = subst (λ tree. In (counters tree) counter) (is_whole d at) own in
        let known = counted_there d k at.within (in_reach d at) counter there in
        subst (λ (y : Shown). PlainAt (tree_within d (suc m) k) y.entry.path y.entry.group) same (counted_kind (cells_of (component_of d k)) (group_at (component_at d k) counter.group) known.1)
    one_plain x (child_count r) =
        let same : 0 + r.cell ≡ r.cell = omega arith in
        subst (λ (e : ProfileEntry). PlainAt (tree_within d (suc m) k) e.path e.group) (sym (r.entry ∙ ap (λ n. behind_cell n r.inner.entry) same))
        (child_plain x r (pair_at d design m k at.within r.cell (child_few (tree_within d m) (component_at d k).cells r.cell r.child r.stands)))

  shown_plain : (m : ℕ) → AreShownPlain m
  shown_plain zero k at x inside = absurd at.deep_enough
  shown_plain (suc m) k at x inside = one_plain m k at (shown_plain m) x (where_shown (tree_within d (suc m) k) x inside)

  -- NO ENTRY IS COUNTED MORE OFTEN than the budget has turns
  pub entry_within : (words : List (List ℕ)) (n : ℕ) (e : ProfileEntry) → In (entries_of (tree_of d)) e → tally_of d words n e.path e.group ≤ n
  entry_within words n e inside =
      let r = image_in (λ (x : Shown). x.entry) (shown_in (tree_of d)) e inside in
      let plain = shown_plain (length d.components) d.main (main_in_tree d design) r.0 r.1 in
      subst (λ (y : ProfileEntry). tally_of d words n y.path y.group ≤ n) r.2
      (fits_within n (tally_of d words n r.0.entry.path r.0.entry.group) (run_control (tree_of d) unheld (start (tree_of d) words) n)
      (tree_fits (length d.components) d.main (main_in_tree d design) unheld r.0.entry.path r.0.entry.group plain (start (tree_of d) words) n))
