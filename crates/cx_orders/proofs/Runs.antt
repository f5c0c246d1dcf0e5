-- Where an order of the leaves ends, the run ends in the same state, within as many turns.
use Rattle.std.proofs.Common.{◌≡◌, ℕ, zero, suc, ◌+◌, ◌-◌, ◌≤◌, ◌<◌, max, inl, inr, Bool, true, false, ◌||◌, nat_eq, if◌then◌else◌, List, [], ◌∷◌, ◌++◌, length, get_or, Option, Some, None, refl, sym, ap, ◌∙◌, subst, arith, append_assoc, append-nil}
use Rattle.std.proofs.Math.Path.{fun_ext}
use Rattle.std.proofs.lemmas.Bool.{eqb-true, eqb-false, or_right}
use Rattle.cx_text.proofs.MemberLaws.{in_left, in_right}
use Rattle.cx_text.specs.Members.{In}
use Rattle.cx_text.specs.declared.places.Place.{Place}
use Rattle.cx_meaning.specs.declared.ports.PortRef.{PortRef}
use Rattle.cx_meaning.specs.declared.ports.PlacedPort.{PlacedPort}
use Rattle.cx_meaning.specs.declared.sights.Seen.{Seen}
use Rattle.cx_meaning.specs.declared.sights.Seen.TheVariants.{Undefined}
use Rattle.cx_prim.specs.CellStates.{CellState}
use Rattle.cx_meaning.specs.declared.kinds.GroupKind.{GroupKind}
use Rattle.cx_meaning.specs.declared.kinds.GroupKind.TheVariants as kinds
use Rattle.cx_meaning.specs.Designs.{PlainComponent, group_at, PlainForm, Empty, Enable, Seq, Par, If, While, Repeat, StaticSeq, StaticPar, StaticIf, StaticRepeat, Timed, PlainStatement, Placed, PlainStatements, no_statements, a_statement, list_of, no_place}
use Rattle.cx_meaning.specs.Instances.{Instance, Node, Cells, no_cells, a_primitive, an_instance, part_of, Path, State, instance_at, child_at, just, put, under, idle, idle_at, idle_below, IsSettled}
use Rattle.cx_meaning.specs.Active.{same_port}
use Rattle.cx_meaning.specs.Sights.{Held}
use Rattle.cx_meaning.specs.Cycles.{Fault}
use Rattle.cx_meaning.specs.Answers.{Answer, End, Meaning, after_turns, then_do, stay, Test, Holds, Fails, Unclear, chosen, test_turn, loop, loop_of, rounds}
use Rattle.cx_meaning.specs.Answers as answers
use Rattle.cx_meaning.specs.Budgets as budgets
use Rattle.cx_meaning.specs.Control.{Leaves, groups_in, groups_of, groups_in_all, drives, run_form, run, run_parts}
use Rattle.cx_meaning.specs.Islands.{island, form_flat, form_length, no_history}
use Rattle.cx_meaning.specs.Calls.{called, captures, inputs_of_call, lift_answer, test, after_child, call, call_or_turns, enable_kind}
use Rattle.cx_meaning.specs.Running.{leaves, run_control, control_below, run_statement}
use Rattle.cx_meaning.proofs.RunningLemmas.{settles_statement, idle_settles}
use Rattle.cx_rules.specs.Items.{Dynamic, Visited, visit, visit_parts, visit_all, statements_in, test_in, tests_of}
use Rattle.cx_frames.specs.Arms.{all_drive, arms_run}
use Rattle.cx_frames.specs.Ran as ran
use Rattle.cx_frames.specs.Ran.{Ran, AnswersAs}
use Rattle.cx_frames.proofs.IslandFrames.{AllFine, form_fine}
use Rattle.cx_orders.specs.Open.{Open, Choosing, Testing, InIsland, InSeq, InPar, InLoop, InRepeat, InCall, an_arm, leaves_of, open_form, open_with, open_arms, open_called, open_kind, open_enable, open_control, open_below, open_statement}
use Rattle.cx_orders.specs.Leaves.{test_drives, rested, is_among, is_tested}
use Rattle.cx_orders.specs.Steps.{tested, seq_left, par_left, first_inputs, inputs_seen, held_as}
use Rattle.cx_orders.proofs.OwnTurns.{OnlyIn}
use Rattle.cx_orders.proofs.Inside.{IsSound, Stands, inner_stands, Inside, InsideOne, InsideAll, inside_self, inside_left, inside_right}
use Rattle.cx_orders.proofs.Fits.{Fits, ArmsFit, AllSound, sound_below, below_fits, par_arms_fit}
use Rattle.cx_orders.proofs.Orders.{Goes, EndsIn, leaves_some}
use Rattle.cx_orders.proofs.Ending.{seq_splits, loop_splits, repeat_splits, waiting_stays, par_splits, call_splits, call_begins, put_same, ends_only}
use Rattle.cx_orders.proofs.LeafRuns.{IsLawful, Answered, later_one, busy_settled, rested_idle, group_runs, behind_runs, island_runs, idling_runs}
use Rattle.cx_meaning.proofs.PortsLemmas.{same_self}
use Rattle.cx_meaning.proofs.SightsLaws.{behind_comb}
use Rattle.cx_rules.proofs.ItemsLemmas.{tests_flat}
use Rattle.cx_meaning.proofs.InstancesLemmas.{here as here_again, just_true}
use Rattle.cx_laws.proofs.VisitLemmas.{itself}

-- one run, and then another
then_answered : (x : Answer State Fault) (middle final : State) (one two m n : ℕ) (go : Meaning State Fault) → m ≡ one + two → m ≤ n → Answered x middle one
    → ((k : ℕ) → two ≤ k → k ≤ n → Answered (go middle k) final two) → Answered (then_do x n go) final m
then_answered x middle final one two m n go sum less (t, e, few) rest =
    let enough : two ≤ n - t = omega arith in
    let within : n - t ≤ n = omega arith in
    let r = rest (n - t) enough within in
    let turns : t + r.0 ≤ m = (let h : r.0 ≤ two = r.2 in omega arith) in
    subst (λ y. Answered (then_do y n go) final m) (sym e) (t + r.0, ap (after_turns t) r.1, turns)

pub answered_settled : (i : Instance) (x : Answer State Fault) (final : State) (m : ℕ) → Answered x final m → budgets.Leaves (IsSettled i) x → IsSettled i final
answered_settled i x final m (t, e, less) h = subst (budgets.Leaves (IsSettled i)) e h

-- TESTS
module _ (i : Instance) (law : IsLawful i) (held : Held) (port : PortRef) (comb : Option ℕ) where
  pub rests : (s : State) → IsSettled i s → rested i (test_drives (part_of i) comb) s ≡ idle i s
  rests s settled = rested_idle i (test_drives (part_of i) comb) s (busy_settled i (test_drives (part_of i) comb) s settled)

  module _ (final : State) (a b : Open) (yes_runs no_runs : Meaning State Fault)
      (yes_ends : (m : ℕ) (s : State) → IsSettled i s → EndsIn i held final m (Some a) s → (n : ℕ) → m ≤ n → Answered (yes_runs s n) final m)
      (no_ends : (m : ℕ) (s : State) → IsSettled i s → EndsIn i held final m (Some b) s → (n : ℕ) → m ≤ n → Answered (no_runs s n) final m) where
    chosen_runs : (t : Test Fault) (m n : ℕ) (s : State) → IsSettled i s → Goes (tested t (idle i s) (Some a) (Some b)) (EndsIn i held final m) → m ≤ n → Answered (chosen t (yes_runs (idle i s) n) (no_runs (idle i s) n)) final (suc m)
    chosen_runs Holds m n s settled e less = later_one (yes_runs (idle i s) n) final m (yes_ends m (idle i s) (idle_settles i law.rows s) e n less)
    chosen_runs Fails m n s settled e less = later_one (no_runs (idle i s) n) final m (no_ends m (idle i s) (idle_settles i law.rows s) e n less)
    chosen_runs (Unclear f) m n s settled e less = absurd e

  -- a loop makes more tests than it has turns
  module _ (final : State) (statement : PlainStatement) (o : Open) (same : open_statement i statement ≡ o) (body : Meaning State Fault)
      (body_ends : (middle : State) (m : ℕ) (s : State) → IsSettled i s → EndsIn i held middle m (Some o) s → (n : ℕ) → m ≤ n → Answered (body s n) middle m)
      (body_settles : (s : State) (n : ℕ) → IsSettled i s → budgets.Leaves (IsSettled i) (body s n)) where
    tested_runs : (tests m n : ℕ) (t : Test Fault) (s : State) → IsSettled i s → m ≤ n
        → ((k l : ℕ) (middle : State) → k ≤ m → IsSettled i middle → EndsIn i held final k (Some (Testing port comb statement)) middle → k ≤ l → l ≤ n → Answered (loop tests (idle i) (test i held port comb) body middle l) final k)
        → Goes (tested t (idle i s) (Some (InLoop o port comb statement)) None) (EndsIn i held final m)
        → Answered (chosen t (then_do (body (idle i s) n) n (loop tests (idle i) (test i held port comb) body)) (stay (idle i s) n)) final (suc m)
    tested_runs tests m n Holds s settled less again e =
        let r = loop_splits i held final port comb statement m o (idle i s) e in
        let sum : m ≡ r.one + r.two = r.sum in
        let few : r.one ≤ n = omega arith in
        let rest : r.two ≤ m = omega arith in
        let body_run = body_ends r.middle r.one (idle i s) (idle_settles i law.rows s) r.first n few in
        let settled2 = answered_settled i (body (idle i s) n) r.middle r.one body_run (body_settles (idle i s) n (idle_settles i law.rows s)) in
        later_one _ final m
        (then_answered (body (idle i s) n) r.middle final r.one r.two m n (loop tests (idle i) (test i held port comb) body) r.sum less body_run
        (λ k enough within. again r.two k r.middle rest settled2 r.then_behind enough within))
    tested_runs tests zero n Fails s settled less again e = (1 + 0, ap (λ x. after_turns 1 (stay x n)) e, omega arith)
    tested_runs tests (suc m) n Fails s settled less again e = absurd e
    tested_runs tests m n (Unclear f) s settled less again e = absurd e

    loop_runs : (fuel m : ℕ) → m ≤ fuel → (s : State) → IsSettled i s → EndsIn i held final m (Some (Testing port comb statement)) s → (tests n : ℕ) → m ≤ n → n < tests
        → Answered (loop tests (idle i) (test i held port comb) body s n) final m
    loop_runs fuel zero fueled s settled e tests n less more = absurd e
    loop_runs zero (suc m) fueled s settled e tests n less more = absurd (let h : suc m ≤ zero = fueled in omega arith)
    loop_runs (suc fuel) (suc m) fueled s settled (k, below, e) zero n less more = absurd (let h : n < zero = more in omega arith)
    loop_runs (suc fuel) (suc m) fueled s settled (k, below, e) (suc tests) zero less more = absurd (let h : suc m ≤ zero = less in omega arith)
    loop_runs (suc fuel) (suc m) fueled s settled (k, below, e) (suc tests) (suc n) less more =
        tested_runs tests m n (test i held port comb s) s settled (let h : m ≤ n = omega arith in h)
        (λ j l middle small settled2 f enough within. loop_runs fuel j (let h : j ≤ fuel = omega arith in h) middle settled2 f tests l enough (let h : l < tests = omega arith in h))
        (subst (λ p. Goes (tested (test i held port comb s) (idle i s) (Some (InLoop p port comb statement)) None) (EndsIn i held final m)) same
        (subst (λ x. Goes (tested (test i held port comb s) x (Some (InLoop (open_statement i statement) port comb statement)) None) (EndsIn i held final m)) (rests s settled) e))

among_in : (list : List PlacedPort) (p : PlacedPort) → In list p → is_among list p.port ≡ true
among_in [] p j = absurd j
among_in (q ∷ rest) p (inl e) = ap (λ b. b || is_among rest p.port) (ap (λ x. same_port x.port p.port) e ∙ same_self p.port)
among_in (q ∷ rest) p (inr j) = or_right (same_port q.port p.port) (is_among rest p.port) (among_in rest p j)

pub tested_fine : (part : PlainComponent) (form : PlainForm) → AllFine (λ g. Unit {0}) (λ port. is_tested form port ≡ true) (form_flat part form 0 [])
tested_fine part form =
    form_fine (λ g. Unit {0}) (λ port. is_tested form port ≡ true) (λ f. (p : PlacedPort) → test_in f ≡ Some p → is_tested form p.port ≡ true) (λ f p h e. h p e) part Dynamic form 0 []
    (λ p e. of_visit _ p (inl refl) e) (record { groups = λ g j. tt; forms = λ v j p e. of_visit v p (inr j) e }) tt
  where
    of_visit : (v : Visited) (p : PlacedPort) → In (visit Dynamic (Placed form no_place)) v → test_in v.form ≡ Some p → is_tested form p.port ≡ true
    of_visit v p j e = among_in (tests_of (Placed form no_place)) p (tests_flat (visit Dynamic (Placed form no_place)) v p j e)

-- CALLS: the inputs that are held are those that were seen
pub first_length : (h : Held) (n : ℕ) → length (first_inputs h n) ≡ n
first_length h zero = refl
first_length h (suc n) = one_longer (first_inputs h n) (h n) ∙ ap suc (first_length h n)
  where
    one_longer : (xs : List Seen) (x : Seen) → length (xs ++ (x ∷ [])) ≡ suc (length xs)
    one_longer [] x = refl
    one_longer (y ∷ ys) x = ap suc (one_longer ys x)

at_end : (xs : List Seen) (x : Seen) (n : ℕ) → length xs ≡ n → get_or (xs ++ (x ∷ [])) n Undefined ≡ x
at_end [] x zero e = refl
at_end [] x (suc n) e = absurd (let h : zero ≡ suc n = e in omega arith)
at_end (y ∷ ys) x zero e = absurd (let h : suc (length ys) ≡ zero = e in omega arith)
at_end (y ∷ ys) x (suc n) e = at_end ys x n (let h : suc (length ys) ≡ suc n = e in omega arith)

before_end : (xs : List Seen) (x : Seen) (n : ℕ) → n < length xs → get_or (xs ++ (x ∷ [])) n Undefined ≡ get_or xs n Undefined
before_end [] x n less = absurd (let h : n < zero = less in omega arith)
before_end (y ∷ ys) x zero less = refl
before_end (y ∷ ys) x (suc n) less = before_end ys x n (let h : suc n < suc (length ys) = less in omega arith)

pub first_at : (h : Held) (n input : ℕ) → input < n → held_as (first_inputs h n) input ≡ h input
first_at h zero input less = absurd (let e : input < zero = less in omega arith)
first_at h (suc n) input less = go (nat_eq input n) refl (first_at h n input)
  where
    go : (b : Bool) → nat_eq input n ≡ b → (input < n → held_as (first_inputs h n) input ≡ h input) → get_or (first_inputs h n ++ (h n ∷ [])) input Undefined ≡ h input
    go true same again =
        let e : input ≡ n = eqb-true input n same in
        subst (λ k. get_or (first_inputs h n ++ (h n ∷ [])) k Undefined ≡ h k) (sym e) (at_end (first_inputs h n) (h n) n (first_length h n))
    go false differ again =
        let apart : input ≡ n → ⊥ = eqb-false input n differ in
        let small : input < n = omega arith in
        before_end (first_inputs h n) (h n) input (subst (λ k. input < k) (sym (first_length h n)) small) ∙ again small

-- settled states of a child
module _ (c : ℕ) where
  down : (cells : Cells) (k e : ℕ) (path : Path) (d : CellState) → idle_below cells k (e ∷ path) d ≡ idle_at (child_at cells k []) (e ∷ path) d
  down no_cells k e path d = refl
  down (a_primitive row rest) zero e path d = refl
  down (a_primitive row rest) (suc k) e path d = down rest k e path d
  down (an_instance child rest) zero e path d = ap (λ x. idle_at x (e ∷ path) d) (sym (here_again child))
  down (an_instance child rest) (suc k) e path d = down rest k e path d

  top : (i : Instance) (d : CellState) → idle_at i [] d ≡ d
  top (Node part cells) d = refl

  pub under_settled : (part : PlainComponent) (cells : Cells) (s : State) → IsSettled (Node part cells) s → IsSettled (child_at cells c []) (under c s)
  under_settled part cells s h [] = top (child_at cells c []) (s (c ∷ []))
  under_settled part cells s h (e ∷ path) = sym (down cells c e path (s (c ∷ e ∷ path))) ∙ h (c ∷ e ∷ path)

  pub put_settled : (part : PlainComponent) (cells : Cells) (own s : State) → IsSettled (Node part cells) s → IsSettled (child_at cells c []) own → own [] ≡ s (c ∷ []) → IsSettled (Node part cells) (put c own s)
  put_settled part cells own s h k here [] = refl
  put_settled part cells own s h k here (e ∷ path) = pick (just c e) refl path
    where
      own_settled : (p : Path) → idle_below cells c p (own p) ≡ own p
      own_settled [] = subst (λ x. idle_below cells c [] x ≡ x) (sym here) (h (c ∷ []))
      own_settled (f ∷ p) = down cells c f p (own (f ∷ p)) ∙ k (f ∷ p)

      pick : (b : Bool) → just c e ≡ b → (p : Path) → idle_below cells e p (if b then own p else s (e ∷ p)) ≡ (if b then own p else s (e ∷ p))
      pick true same p = subst (λ x. idle_below cells x p (own p) ≡ own p) (just_true c e same) (own_settled p)
      pick false differ p = h (e ∷ p)

-- what a run of the child at a cell comes to
abbrev pub ChildRuns : Cells → ℕ → Type 0
ChildRuns cells c =
    (inputs other : Held) (final : State) (m : ℕ) (s : State) → IsSettled (child_at cells c []) s → EndsIn (child_at cells c []) inputs final m (Some (open_below cells c)) s
    → ((input : ℕ) → input < length (part_of (child_at cells c [])).inputs → inputs input ≡ other input)
    → IsSettled (child_at cells c []) final × ((n : ℕ) → m ≤ n → Answered (control_below cells c other s n) final m)

module _ (part : PlainComponent) (cells : Cells) (all : AllSound (Node part cells)) (law : IsLawful (Node part cells)) (children : (c : ℕ) → ChildRuns cells c) (held : Held) where
  abbrev Own : Instance
  Own = Node part cells

  abbrev L : Leaves State Fault
  L = leaves (Node part cells) (control_below cells) held

  pub statement_settles : (a : PlainStatement) (s : State) (n : ℕ) → IsSettled (Node part cells) s → budgets.Leaves (IsSettled (Node part cells)) (run L a s n)
  statement_settles a s n settled = settles_statement (Node part cells) law.rows held a s n settled

  -- CALLS
  call_runs : (g c m : ℕ) (final s : State) → IsSettled (Node part cells) s → EndsIn (Node part cells) held final m (Some (InCall g c None (open_below cells c))) s → (n : ℕ) → m ≤ n → Answered (call (Node part cells) (control_below cells) held g c s n) final m
  call_runs g c m final s settled e n less =
      let inputs : List Seen = inputs_seen (Node part cells) held g c s in
      let begun : EndsIn (Node part cells) held final m (Some (InCall g c (Some inputs) (open_below cells c))) (put c (under c s) s) =
      subst (EndsIn (Node part cells) held final m (Some (InCall g c (Some inputs) (open_below cells c)))) (sym (put_same c s)) (call_begins (Node part cells) held g c final m (open_below cells c) s e) in
      let r = call_splits (Node part cells) held g c inputs s final m (open_below cells c) (under c s) begun in
      let sum : m ≡ r.one + r.two = r.sum in
      let child = children c (held_as inputs) (inputs_of_call (Node part cells) held g c s) r.own r.one (under c s) (under_settled c part cells s settled) r.first
      (first_at (inputs_of_call (Node part cells) held g c s) (length (part_of (child_at cells c [])).inputs)) in
      let ended = child.1 n (let few : r.one ≤ n = omega arith in few) in
      let kept : OnlyIn (drives (part_of (child_at cells c [])) (part_of (child_at cells c [])).control) (under c s) r.own =
      ends_only (child_at cells c []) (sound_below (Node part cells) all c) (held_as inputs) (part_of (child_at cells c [])).control (itself (part_of (child_at cells c [])).control) r.own r.one (Some (open_below cells c)) (under c s)
      (below_fits cells (λ k path. all (k ∷ path)) c) r.first in
      let put_back : IsSettled (Node part cells) (put c r.own s) = put_settled c part cells r.own s settled child.0 kept.top in
      then_answered (lift_answer c s (control_below cells c (inputs_of_call (Node part cells) held g c s) (under c s) n)) (put c r.own s) final r.one r.two m n (after_child (Node part cells) held g c (captures (Node part cells) g)) r.sum less
      (ended.0, ap (lift_answer c s) ended.1, ended.2)
      (λ k enough within. behind_runs (Node part cells) law held final g c r.two (captures (Node part cells) g) (put c r.own s) put_back r.then_behind k enough)

  called_runs : (g m : ℕ) (final s : State) → IsSettled (Node part cells) s → (o : Option ℕ) → EndsIn (Node part cells) held final m (Some (open_called (open_below cells) g o)) s → (n : ℕ) → m ≤ n → Answered (call_or_turns (Node part cells) (control_below cells) held g o s n) final m
  called_runs g m final s settled None e n less = group_runs (Node part cells) law held final g m s (busy_settled (Node part cells) _ s settled) e n less
  called_runs g m final s settled (Some c) e n less = call_runs g c m final s settled e n less

  whole_island : (form : PlainForm) (m : ℕ) (final s : State) → IsSettled (Node part cells) s → EndsIn (Node part cells) held final m (Some (InIsland form 0 (form_length part form) no_history)) s → (n : ℕ) → m ≤ n → Answered (island (Node part cells) held form s n) final m
  whole_island form m final s settled e n less =
      island_runs (Node part cells) law held final form (tested_fine part form) m 0 (form_length part form) no_history no_history s (λ port at tested. refl) (busy_settled (Node part cells) _ s settled) e n less

  kind_runs : (g m : ℕ) (final s : State) → IsSettled (Node part cells) s → (kind : GroupKind) → EndsIn (Node part cells) held final m (Some (open_kind (Node part cells) (open_below cells) g kind)) s → (n : ℕ) → m ≤ n
      → Answered (enable_kind (Node part cells) (control_below cells) held g kind s n) final m
  kind_runs g m final s settled kinds.Plain e n less = called_runs g m final s settled (called (Node part cells) g) e n less
  kind_runs g m final s settled kinds.Comb e n less = called_runs g m final s settled (called (Node part cells) g) e n less
  kind_runs g m final s settled (kinds.Timed length) e n less = whole_island (Enable g) m final s settled e n less

  -- a statement that is left of a seq, and a round of a repeat
  abbrev Runs : PlainStatement → Type 0
  Runs a = (final : State) (m : ℕ) (s : State) → IsSettled (Node part cells) s → EndsIn (Node part cells) held final m (Some (open_statement (Node part cells) a)) s → (n : ℕ) → m ≤ n → Answered (run L a s n) final m

  seq_runs : (first : PlainStatement) (later : PlainStatements) → Runs first
      → ((final : State) (m : ℕ) (s : State) → IsSettled (Node part cells) s → EndsIn (Node part cells) held final m (seq_left (Node part cells) later None) s → (n : ℕ) → m ≤ n → Answered (run_parts L later s n) final m)
      → (final : State) (m : ℕ) (s : State) → IsSettled (Node part cells) s → EndsIn (Node part cells) held final m (Some (InSeq (open_statement (Node part cells) first) later)) s → (n : ℕ) → m ≤ n → Answered (then_do (run L first s n) n (run_parts L later)) final m
  seq_runs first later one_runs rest_runs final m s settled e n less =
      let r = seq_splits (Node part cells) held final later m (open_statement (Node part cells) first) s e in
      let sum : m ≡ r.one + r.two = r.sum in
      let ended = one_runs r.middle r.one s settled r.first n (let few : r.one ≤ n = omega arith in few) in
      let settled2 = answered_settled (Node part cells) (run L first s n) r.middle r.one ended (statement_settles first s n settled) in
      then_answered (run L first s n) r.middle final r.one r.two m n (run_parts L later) r.sum less ended (λ k enough within. rest_runs final r.two r.middle settled2 r.then_behind k enough)

  none_ends : (m : ℕ) (s final : State) → EndsIn (Node part cells) held final m None s → Answered (End s 0) final m
  none_ends zero s final e = (0, ap (λ x. End x 0) e, omega arith)
  none_ends (suc m) s final e = absurd e

  repeat_runs : (body : PlainStatement) → Runs body → (left : ℕ) (final : State) (m : ℕ) (s : State) → IsSettled (Node part cells) s → EndsIn (Node part cells) held final m (Some (InRepeat (open_statement (Node part cells) body) left body)) s
      → (n : ℕ) → m ≤ n → Answered (rounds (suc left) (run L body) s n) final m
  repeat_runs body runs zero final m s settled e n less =
      let r = repeat_splits (Node part cells) held final 0 body m (open_statement (Node part cells) body) s e in
      let sum : m ≡ r.one + r.two = r.sum in
      let ended = runs r.middle r.one s settled r.first n (let few : r.one ≤ n = omega arith in few) in
      then_answered (run L body s n) r.middle final r.one r.two m n (rounds 0 (run L body)) r.sum less ended (λ k enough within. none_ends r.two r.middle final r.then_behind)
  repeat_runs body runs (suc left) final m s settled e n less =
      let r = repeat_splits (Node part cells) held final (suc left) body m (open_statement (Node part cells) body) s e in
      let sum : m ≡ r.one + r.two = r.sum in
      let ended = runs r.middle r.one s settled r.first n (let few : r.one ≤ n = omega arith in few) in
      let settled2 = answered_settled (Node part cells) (run L body s n) r.middle r.one ended (statement_settles body s n settled) in
      then_answered (run L body s n) r.middle final r.one r.two m n (rounds (suc left) (run L body)) r.sum less ended (λ k enough within. repeat_runs body runs left final r.two r.middle settled2 r.then_behind k enough)

  if_runs : (port : PortRef) (comb : Option ℕ) (a b : PlainStatement) → Runs a → Runs b → (final : State) (m : ℕ) (s : State) → IsSettled (Node part cells) s → EndsIn (Node part cells) held final m (Some (Choosing port comb a b)) s
      → (n : ℕ) → m ≤ n → Answered (test_turn (idle (Node part cells)) (test (Node part cells) held port comb) (run L a) (run L b) s n) final m
  if_runs port comb a b one other final zero s settled e n less = absurd e
  if_runs port comb a b one other final (suc m) s settled (k, below, e) zero less = absurd (let h : suc m ≤ zero = less in omega arith)
  if_runs port comb a b one other final (suc m) s settled (k, below, e) (suc n) less =
      chosen_runs (Node part cells) law held port comb final (open_statement (Node part cells) a) (open_statement (Node part cells) b) (run L a) (run L b) (one final) (other final) (test (Node part cells) held port comb s) m n s settled
      (subst (λ x. Goes (tested (test (Node part cells) held port comb s) x (Some (open_statement (Node part cells) a)) (Some (open_statement (Node part cells) b))) (EndsIn (Node part cells) held final m)) (rests (Node part cells) law held port comb s settled) e)
      (let few : m ≤ n = omega arith in few)

  -- ARMS, the first one first
  abbrev RunsAll : PlainStatements → Type 0
  RunsAll no_statements = Unit {0}
  RunsAll (a_statement x xs) = Runs x × RunsAll xs

  abbrev ArmsRan : List PlainStatement → State → ℕ → State → ℕ → Type 0
  ArmsRan list s n final most = (t : ℕ) × Ran (Node part cells) (all_drive part list) (arms_run (Node part cells) held list) s n final (ran.Ended t) × (t ≤ most)

  arm_ran : (x : PlainStatement) (cur middle : State) (one n : ℕ) → IsSettled (Node part cells) cur → OnlyIn (drives part x) cur middle → (answer : Answered (run L x cur n) middle one)
      → Ran (Node part cells) (drives part x) (run_statement (Node part cells) held x) cur n middle (ran.Ended answer.0)
  arm_ran x cur middle one n settled only (t, e, less) = record {
    settled = answered_settled (Node part cells) (run L x cur n) middle one (t, e, less) (statement_settles x cur n settled);
    top = only.top;
    others = only.others;
    answer = subst (λ y. AnswersAs middle y (ran.Ended t)) (sym e) (refl, λ path. refl);
  }

  arms_ran : (st : PlainStatement) → Stands (Node part cells) st → (v : Visited) → In (statements_in part) v → (arms : PlainStatements) → v.form ≡ Par arms → (done : List PlainStatement) (later : PlainStatements) → list_of arms ≡ done ++ list_of later
      → RunsAll later → ArmsFit (Node part cells) st (list_of later) (open_arms part (open_enable (Node part cells) (open_below cells)) later)
      → (s cur final : State) (spent m n : ℕ) → ArmsRan done s n cur spent → EndsIn (Node part cells) held final m (par_left (open_arms part (open_enable (Node part cells) (open_below cells)) later)) cur → m ≤ n → ArmsRan (list_of arms) s n final (spent + m)
  arms_ran st stands v there arms form done no_statements split runs fits s cur final spent zero n (t, r, less) e enough =
      subst (λ list. ArmsRan list s n final (spent + zero)) (sym (split ∙ append-nil done)) (subst (λ x. ArmsRan done s n x (spent + zero)) e (t, r, omega arith))
  arms_ran st stands v there arms form done no_statements split runs fits s cur final spent (suc m) n before e enough = absurd e
  arms_ran st stands v there arms form done (a_statement x xs) split (one_runs, runs) (is, one, apart, rest) s cur final spent m n (t, r, less) e enough =
      let o : Open = open_with part (open_enable (Node part cells) (open_below cells)) x in
      let parts = par_splits (Node part cells) all held final st stands x (open_arms part (open_enable (Node part cells) (open_below cells)) xs) m o cur (x, list_of xs, (is, one, apart, rest))
      (leaves_some (Node part cells) x o one) (λ p f. arm_leaves p f) e in
      let sum : m ≡ parts.one + parts.two = parts.sum in
      let answer = one_runs parts.middle parts.one cur r.settled parts.first n (let few : parts.one ≤ n = omega arith in few) in
      let only = ends_only (Node part cells) all held x is.stands parts.middle parts.one (Some o) cur one parts.first in
      let bound : answer.0 ≤ parts.one = answer.2 in
      let next = law.next held v arms done (list_of xs) x s cur parts.middle n (ran.Ended t) (ran.Ended answer.0) there form split r (arm_ran x cur parts.middle parts.one n r.settled only answer) in
      let whole = arms_ran st stands v there arms form (done ++ (x ∷ [])) xs (split ∙ sym (append_assoc done (x ∷ []) (list_of xs))) runs rest s parts.middle final (spent + parts.one) parts.two n
      (max t answer.0, next, (let h : max t answer.0 ≤ spent + parts.one = omega arith in h)) parts.then_behind (let few : parts.two ≤ n = omega arith in few) in
      let most : (spent + parts.one) + parts.two ≡ spent + m = omega arith in
      subst (ArmsRan (list_of arms) s n final) most whole
    where
      some_of : (y : PlainStatement) (ys : List PlainStatement) (p : Open) → ArmsFit (Node part cells) st (y ∷ ys) (an_arm x p (open_arms part (open_enable (Node part cells) (open_below cells)) xs)) → 0 < leaves_of p
      some_of y ys p (is2, one2, apart2, rest2) = leaves_some (Node part cells) y p one2

      arm_leaves : (p : Open) → Fits (Node part cells) st (InPar (an_arm x p (open_arms part (open_enable (Node part cells) (open_below cells)) xs))) → 0 < leaves_of p
      arm_leaves p (y, ys, f) = some_of y ys p f

  ended_answer : (final : State) (t : ℕ) (x : Answer State Fault) → AnswersAs final x (ran.Ended t) → x ≡ End final t
  ended_answer final t (End a u) (e, same) = let turns : t ≡ u = cc in ap (λ y. End y u) (sym (fun_ext same)) ∙ ap (End final) (sym turns)
  ended_answer final t (answers.Fault f u) e = absurd (cc)
  ended_answer final t answers.More e = absurd (cc)

  par_runs : (st : PlainStatement) → Stands (Node part cells) st → (v : Visited) → In (statements_in part) v → (first : PlainStatement) (rest : PlainStatements) → v.form ≡ Par (a_statement first rest) → RunsAll (a_statement first rest)
      → ArmsFit (Node part cells) st (first ∷ list_of rest) (open_arms part (open_enable (Node part cells) (open_below cells)) (a_statement first rest))
      → (final : State) (m : ℕ) (s : State) → IsSettled (Node part cells) s → EndsIn (Node part cells) held final m (Some (open_form part (open_enable (Node part cells) (open_below cells)) (Par (a_statement first rest)))) s → (n : ℕ) → m ≤ n
      → Answered (run_form L (Par (a_statement first rest)) s n) final m
  par_runs st stands v there first rest form runs fits final m s settled e n less =
      let r = arms_ran st stands v there (a_statement first rest) form [] (a_statement first rest) refl runs fits s s final 0 m n
      (0, record { settled = settled; top = refl; others = λ c below off. refl; answer = (refl, λ path. refl) }, omega arith) e less in
      let whole = law.whole held (a_statement first rest) first (list_of rest) s final n (ran.Ended r.0) refl r.1 in
      let most : r.0 ≤ 0 + m = r.2 in
      (r.0, ended_answer final r.0 (run_form L (Par (a_statement first rest)) s n) whole.answer, (let h : r.0 ≤ m = omega arith in h))

  inner : (st : PlainStatement) (form : PlainForm) (place : Place) → InsideOne st (Placed form place) → Inside st (groups_in form) (visit_parts Dynamic form)
  inner st form place h = record { groups = h.groups; forms = λ v j. h.forms v (inr j) }

  mutual
    form_runs : (st : PlainStatement) → Stands (Node part cells) st → (form : PlainForm) (place : Place) → InsideOne st (Placed form place) → Runs (Placed form place)
    form_runs st stands Empty place h final m s settled e n less = idling_runs (Node part cells) law held final m s settled e n less
    form_runs st stands (Enable g) place h final m s settled e n less = kind_runs g m final s settled (group_at part g).kind e n less
    form_runs st stands (Seq no_statements) place h final m s settled e n less = idling_runs (Node part cells) law held final m s settled e n less
    form_runs st stands (Seq (a_statement first rest)) place h final m s settled e n less =
        seq_runs first rest (runs_with st stands first (inside_left st (groups_of first) (groups_in_all rest) (visit Dynamic first) (visit_all Dynamic rest) (inner st (Seq (a_statement first rest)) place h)))
        (λ f k x w b j u. parts_runs st stands rest (inside_right st (groups_of first) (groups_in_all rest) (visit Dynamic first) (visit_all Dynamic rest) (inner st (Seq (a_statement first rest)) place h)) f k x w b j u)
        final m s settled e n less
    form_runs st stands (Par no_statements) place h final m s settled e n less = idling_runs (Node part cells) law held final m s settled e n less
    form_runs st stands (Par (a_statement first rest)) place h final m s settled e n less =
        par_runs st stands (record { context = Dynamic; form = Par (a_statement first rest); place = place }) (inner_stands (Node part cells) st stands _ (h.forms _ (inl refl))) first rest refl
        (all_runs st stands (a_statement first rest) (inner st (Par (a_statement first rest)) place h))
        (par_arms_fit part cells all st stands first rest place h) final m s settled e n less
    form_runs st stands (If test comb a b) place h final m s settled e n less =
        if_runs test.port comb a b
        (runs_with st stands a (record { groups = λ g j. h.groups g (behind_comb comb (groups_of a ++ groups_of b) g (in_left (groups_of a) (groups_of b) g j)); forms = λ v j. h.forms v (inr (in_left (visit Dynamic a) (visit Dynamic b) v j)) }))
        (runs_with st stands b (record { groups = λ g j. h.groups g (behind_comb comb (groups_of a ++ groups_of b) g (in_right (groups_of a) (groups_of b) g j)); forms = λ v j. h.forms v (inr (in_right (visit Dynamic a) (visit Dynamic b) v j)) }))
        final m s settled e n less
    form_runs st stands (While test comb a) place h final m s settled e n less =
        loop_runs (Node part cells) law held test.port comb final a (open_statement (Node part cells) a) refl (run L a)
        (runs_with st stands a (record { groups = λ g j. h.groups g (behind_comb comb (groups_of a) g j); forms = λ v j. h.forms v (inr j) }))
        (statement_settles a) m m (let all_of : m ≤ m = omega arith in all_of) s settled e (suc n) n less (let more : n < suc n = omega arith in more)
    form_runs st stands (Repeat zero a) place h final m s settled e n less = idling_runs (Node part cells) law held final m s settled e n less
    form_runs st stands (Repeat (suc k) a) place h final m s settled e n less = repeat_runs a (runs_with st stands a (record { groups = h.groups; forms = λ v j. h.forms v (inr j) })) k final m s settled e n less
    form_runs st stands (StaticSeq length parts) place h final m s settled e n less = whole_island (StaticSeq length parts) m final s settled e n less
    form_runs st stands (StaticPar length arms) place h final m s settled e n less = whole_island (StaticPar length arms) m final s settled e n less
    form_runs st stands (StaticIf length test a b) place h final m s settled e n less = whole_island (StaticIf length test a b) m final s settled e n less
    form_runs st stands (StaticRepeat length count a) place h final m s settled e n less = whole_island (StaticRepeat length count a) m final s settled e n less
    form_runs st stands (Timed k) place h final m s settled e n less = absurd (waiting_stays (Node part cells) held final m s e)

    pub runs_with : (st : PlainStatement) → Stands (Node part cells) st → (a : PlainStatement) → InsideOne st a → Runs a
    runs_with st stands (Placed form place) h final m s settled e n less = form_runs st stands form place h final m s settled e n less

    parts_runs : (st : PlainStatement) → Stands (Node part cells) st → (parts : PlainStatements) → InsideAll st parts → (final : State) (m : ℕ) (s : State) → IsSettled (Node part cells) s
        → EndsIn (Node part cells) held final m (seq_left (Node part cells) parts None) s → (n : ℕ) → m ≤ n → Answered (run_parts L parts s n) final m
    parts_runs st stands no_statements h final m s settled e n less = none_ends m s final e
    parts_runs st stands (a_statement first rest) h final m s settled e n less =
        seq_runs first rest (runs_with st stands first (inside_left st (groups_of first) (groups_in_all rest) (visit Dynamic first) (visit_all Dynamic rest) h))
        (λ f k x w b j u. parts_runs st stands rest (inside_right st (groups_of first) (groups_in_all rest) (visit Dynamic first) (visit_all Dynamic rest) h) f k x w b j u)
        final m s settled e n less

    all_runs : (st : PlainStatement) → Stands (Node part cells) st → (arms : PlainStatements) → InsideAll st arms → RunsAll arms
    all_runs st stands no_statements h = tt
    all_runs st stands (a_statement first rest) h = (
      runs_with st stands first (inside_left st (groups_of first) (groups_in_all rest) (visit Dynamic first) (visit_all Dynamic rest) h),
      all_runs st stands rest (inside_right st (groups_of first) (groups_in_all rest) (visit Dynamic first) (visit_all Dynamic rest) h),
    )

-- a child stands for itself
child_runs : (child : Instance)
    → ((inputs other : Held) (final : State) (m : ℕ) (s : State) → IsSettled child s → EndsIn child inputs final m (Some (open_control child)) s → ((input : ℕ) → input < length (part_of child).inputs → inputs input ≡ other input)
    → IsSettled child final × ((n : ℕ) → m ≤ n → Answered (run_control child other s n) final m))
    → (inputs other : Held) (final : State) (m : ℕ) (s : State) → IsSettled (instance_at child []) s → EndsIn (instance_at child []) inputs final m (Some (open_control child)) s
    → ((input : ℕ) → input < length (part_of (instance_at child [])).inputs → inputs input ≡ other input) → IsSettled (instance_at child []) final × ((n : ℕ) → m ≤ n → Answered (run_control child other s n) final m)
child_runs (Node part cells) runs inputs other final m s settled e alike = runs inputs other final m s settled e alike

-- THE CONTROL of an instance
abbrev pub AllLawful : Instance → Type 0
AllLawful i = (path : Path) → IsLawful (instance_at i path)

abbrev ControlRuns : Instance → Type 0
ControlRuns i =
    (inputs other : Held) (final : State) (m : ℕ) (s : State) → IsSettled i s → EndsIn i inputs final m (Some (open_control i)) s → ((input : ℕ) → input < length (part_of i).inputs → inputs input ≡ other input)
    → IsSettled i final × ((n : ℕ) → m ≤ n → Answered (run_control i other s n) final m)

mutual
  pub control_runs : (i : Instance) → AllSound i → AllLawful i → ControlRuns i
  control_runs (Node part cells) all laws inputs other final m s settled e alike =
      let law : IsLawful (Node part cells) = laws [] in
      let runs = runs_with part cells all law (λ c. below_runs cells (λ k path. all (k ∷ path)) (λ k path. laws (k ∷ path)) c) inputs part.control (itself part.control) part.control (inside_self part.control) final m s settled e in (
        answered_settled (Node part cells) (run_control (Node part cells) inputs s m) final m (runs m (let h : m ≤ m = omega arith in h)) (settles_statement (Node part cells) law.rows inputs part.control s m settled),
        λ n less. subst (λ x. Answered x final m) (law.own inputs other s n alike) (runs n less),
      )

  pub below_runs : (cells : Cells) → ((c : ℕ) (path : Path) → IsSound (child_at cells c path)) → ((c : ℕ) (path : Path) → IsLawful (child_at cells c path)) → (c : ℕ) → ChildRuns cells c
  below_runs no_cells all laws c inputs other final m s settled e alike = absurd (waiting_stays (child_at no_cells c []) inputs final m s e)
  below_runs (a_primitive row rest) all laws zero inputs other final m s settled e alike = absurd (waiting_stays (child_at (a_primitive row rest) zero []) inputs final m s e)
  below_runs (a_primitive row rest) all laws (suc c) inputs other final m s settled e alike = below_runs rest (λ k path. all (suc k) path) (λ k path. laws (suc k) path) c inputs other final m s settled e alike
  below_runs (an_instance child rest) all laws zero inputs other final m s settled e alike =
      child_runs child (control_runs child (λ path. all zero path) (λ path. laws zero path)) inputs other final m s settled e alike
  below_runs (an_instance child rest) all laws (suc c) inputs other final m s settled e alike = below_runs rest (λ k path. all (suc k) path) (λ k path. laws (suc k) path) c inputs other final m s settled e alike
