-- Where the run of a statement ends from a settled state, an order of its leaves ends in the same state.
use Rattle.std.proofs.Common.{◌≡◌, ℕ, zero, suc, ◌+◌, ◌-◌, ◌<◌, max, nat_le, if◌then◌else◌, inl, inr, Bool, true, false, List, [], ◌∷◌, ◌++◌, length, Option, Some, None, refl, sym, ap, ◌∙◌, subst, arith, append_assoc, append-nil}
use Rattle.std.proofs.Math.Path.{fun_ext}
use Rattle.cx_text.proofs.MemberLaws.{in_left, in_right}
use Rattle.cx_text.specs.Members.{In}
use Rattle.cx_text.specs.declared.places.Place.{Place}
use Rattle.cx_meaning.specs.declared.ports.PortRef.{PortRef}
use Rattle.cx_meaning.specs.declared.sights.Seen.{Seen}
use Rattle.cx_meaning.specs.declared.kinds.GroupKind.{GroupKind}
use Rattle.cx_meaning.specs.declared.kinds.GroupKind.TheVariants as kinds
use Rattle.cx_meaning.specs.Designs.{PlainComponent, group_at, PlainForm, Empty, Enable, Seq, Par, If, While, Repeat, StaticSeq, StaticPar, StaticIf, StaticRepeat, Timed, PlainStatement, Placed, PlainStatements, no_statements, a_statement, list_of}
use Rattle.cx_meaning.specs.Instances.{Instance, Node, Cells, no_cells, a_primitive, an_instance, part_of, Path, State, instance_at, child_at, put, under, idle, IsSettled}
use Rattle.cx_meaning.specs.Sights.{Held}
use Rattle.cx_meaning.specs.Cycles.{Fault}
use Rattle.cx_meaning.specs.Answers.{Answer, End, More, Meaning, after_turns, then_do, stay, Test, Holds, Fails, Unclear, chosen, test_turn, loop, both, rounds}
use Rattle.cx_meaning.specs.Answers as answers
use Rattle.cx_meaning.specs.Budgets as budgets
use Rattle.cx_meaning.specs.Control.{Leaves, groups_in, groups_of, groups_in_all, drives, run_form, run, run_parts, run_arms}
use Rattle.cx_meaning.specs.Islands.{island, form_length, no_history}
use Rattle.cx_meaning.specs.Calls.{called, captures, inputs_of_call, lift_answer, test, after_child, call, call_or_turns, enable_kind}
use Rattle.cx_meaning.specs.Running.{leaves, run_control, control_below, run_statement}
use Rattle.cx_meaning.proofs.RunningLemmas.{settles_statement, idle_settles}
use Rattle.cx_rules.specs.Footprints.{Reads}
use Rattle.cx_rules.specs.Items.{Dynamic, Visited, visit, visit_parts, visit_all, statements_in}
use Rattle.cx_frames.specs.Agreeing.{Alike}
use Rattle.cx_frames.specs.Arms.{all_drive, arms_run}
use Rattle.cx_frames.specs.Ran as ran
use Rattle.cx_frames.specs.Ran.{Ran, AnswersAs}
use Rattle.cx_orders.specs.Open.{Open, Choosing, Testing, InIsland, InSeq, InLoop, InRepeat, InCall, open_form, open_with, open_arms, open_called, open_kind, open_enable, open_control, open_below, open_statement}
use Rattle.cx_orders.specs.Leaves.{test_drives, rested}
use Rattle.cx_orders.specs.Steps.{tested, seq_left, par_left, inputs_seen, held_as}
use Rattle.cx_orders.proofs.OwnTurns.{OnlyIn}
use Rattle.cx_orders.proofs.Inside.{IsSound, Stands, inner_stands, Inside, InsideOne, InsideAll, inside_self, inside_left, inside_right}
use Rattle.cx_orders.proofs.Fits.{ArmsFit, AllSound, sound_below, below_fits, par_arms_fit}
use Rattle.cx_orders.proofs.Orders.{Goes, EndsIn}
use Rattle.cx_orders.proofs.Ending.{put_same, ends_only}
use Rattle.cx_orders.proofs.LeafRuns.{IsLawful, busy_settled}
use Rattle.cx_orders.proofs.Runs.{rests, tested_fine, first_at, under_settled, put_settled}
use Rattle.cx_meaning.proofs.SightsLaws.{behind_comb}
use Rattle.cx_laws.proofs.VisitLemmas.{itself}
use Rattle.cx_orders.proofs.Joining.{SomeEnd, seq_joins, loop_joins, repeat_joins, par_joins, call_joins, call_began}
use Rattle.cx_orders.proofs.LeafEnds.{state_of, no_end, no_fault_ends, earlier, parts_end, idling_ends, group_ends, behind_ends, island_ends}

-- what the laws say of an instance: those of a run beside an order, and that an arm runs from the state that earlier arms left as from
-- the first one
pub record IsFair (i : Instance) : Type 0 where
  pub lawful : IsLawful i
  pub alike : (held : Held) (v : Visited) (arms : PlainStatements) (done later : List PlainStatement) (arm : PlainStatement) (s cur : State) (n : ℕ)
      → In (statements_in (part_of i)) v → v.form ≡ Par arms → list_of arms ≡ done ++ (arm ∷ later)
      → ((c : ℕ) (below : Path) → all_drive (part_of i) done c ≡ false → cur (c ∷ below) ≡ s (c ∷ below))
      → Alike (Reads (part_of i) arm) (run_statement i held arm s n) (run_statement i held arm cur n)

-- a run that ends, of a child as one of the instance
lifted_end : (c : ℕ) (s : State) (x : Answer State Fault) (middle : State) (t : ℕ) → lift_answer c s x ≡ End middle t → (own : State) × (x ≡ End own t) × (middle ≡ put c own s)
lifted_end c s (End own u) middle t e = (own, ap (End own) (turns u t e), sym (state_of (put c own s) middle u t e))
  where
    turns : (u t : ℕ) → ◌≡◌ {A = Answer State Fault} (End (put c own s) u) (End middle t) → u ≡ t
    turns u t e = cc
lifted_end c s (answers.Fault f u) middle t e = absurd (cc)
lifted_end c s More middle t e = absurd (no_end middle t e)

-- two arms beside each other that end
abbrev EndsOf : Answer State Fault → Type 0
EndsOf x = (a : State) × (u : ℕ) × (x ≡ End a u)

one_ends : (merged : State → State → State) (x y : Answer State Fault) (final : State) (t : ℕ) → both merged x y ≡ End final t → EndsOf x × EndsOf y
one_ends merged (End a u) (End b v) final t e = ((a, u, refl), (b, v, refl))
one_ends merged (End a u) (answers.Fault g v) final t e = absurd (no_fault_ends g v final t e)
one_ends merged (End a u) More final t e = absurd (no_end final t e)
one_ends merged (answers.Fault f u) (End b v) final t e = absurd (no_fault_ends f u final t e)
one_ends merged (answers.Fault f u) (answers.Fault g v) final t e = absurd (neither (nat_le u v) e)
  where
    neither : (b : Bool) → (if b then answers.Fault f u else answers.Fault g v) ≡ End final t → ⊥
    neither true e = no_fault_ends f u final t e
    neither false e = no_fault_ends g v final t e
one_ends merged (answers.Fault f u) More final t e = absurd (no_fault_ends f u final t e)
one_ends merged More (End b v) final t e = absurd (no_end final t e)
one_ends merged More (answers.Fault g v) final t e = absurd (no_fault_ends g v final t e)
one_ends merged More More final t e = absurd (no_end final t e)

-- what a run of the child at a cell gives
abbrev pub ChildEnds : Cells → ℕ → Type 0
ChildEnds cells c =
    (inputs other : Held) (final : State) (n t : ℕ) (s : State) → IsSettled (child_at cells c []) s → ((input : ℕ) → input < length (part_of (child_at cells c [])).inputs → inputs input ≡ other input)
    → control_below cells c other s n ≡ End final t → IsSettled (child_at cells c []) final × SomeEnd (child_at cells c []) inputs final (Some (open_below cells c)) s

module _ (part : PlainComponent) (cells : Cells) (all : AllSound (Node part cells)) (fair : IsFair (Node part cells)) (children : (c : ℕ) → ChildEnds cells c) (held : Held) where
  abbrev Own : Instance
  Own = Node part cells

  abbrev law : IsLawful (Node part cells)
  law = fair.lawful

  abbrev L : Leaves State Fault
  L = leaves (Node part cells) (control_below cells) held

  settled_end : (a : PlainStatement) (s final : State) (n t : ℕ) → IsSettled (Node part cells) s → run L a s n ≡ End final t → IsSettled (Node part cells) final
  settled_end a s final n t settled e = subst (budgets.Leaves (IsSettled (Node part cells))) e (settles_statement (Node part cells) law.rows held a s n settled)

  -- CALLS
  call_ends : (g c n t : ℕ) (final s : State) → IsSettled (Node part cells) s → call (Node part cells) (control_below cells) held g c s n ≡ End final t → SomeEnd (Node part cells) held final (Some (InCall g c None (open_below cells c))) s
  call_ends g c n t final s settled e =
      let inputs : List Seen = inputs_seen (Node part cells) held g c s in
      let r = parts_end (lift_answer c s (control_below cells c (inputs_of_call (Node part cells) held g c s) (under c s) n)) n (after_child (Node part cells) held g c (captures (Node part cells) g)) final t e in
      let own = lifted_end c s (control_below cells c (inputs_of_call (Node part cells) held g c s) (under c s) n) r.middle r.turns r.first in
      let child = children c (held_as inputs) (inputs_of_call (Node part cells) held g c s) own.0 n r.turns (under c s) (under_settled c part cells s settled)
      (first_at (inputs_of_call (Node part cells) held g c s) (length (part_of (child_at cells c [])).inputs)) own.1 in
      let ended = child.1 in
      let kept : OnlyIn (drives (part_of (child_at cells c [])) (part_of (child_at cells c [])).control) (under c s) own.0 =
      ends_only (child_at cells c []) (sound_below (Node part cells) all c) (held_as inputs) (part_of (child_at cells c [])).control (itself (part_of (child_at cells c [])).control) own.0 ended.0 (Some (open_below cells c)) (under c s)
      (below_fits cells (λ k path. all (k ∷ path)) c) ended.1 in
      let put_back : IsSettled (Node part cells) (put c own.0 s) = put_settled c part cells own.0 s settled child.0 kept.top in
      let last = r.then_ends in
      let behind = behind_ends (Node part cells) law held final g c (n - r.turns) last.0 (captures (Node part cells) g) (put c own.0 s) put_back
      (subst (λ x. after_child (Node part cells) held g c (captures (Node part cells) g) x (n - r.turns) ≡ End final last.0) own.2 last.1) in
      let whole = call_joins (Node part cells) held g c inputs s final own.0 behind ended.0 (open_below cells c) (under c s) ended.1 in
      (whole.0, call_began (Node part cells) held g c final whole.0 (open_below cells c) s (subst (EndsIn (Node part cells) held final whole.0 (Some (InCall g c (Some inputs) (open_below cells c)))) (put_same c s) whole.1))

  called_ends : (g n t : ℕ) (final s : State) → IsSettled (Node part cells) s → (o : Option ℕ) → call_or_turns (Node part cells) (control_below cells) held g o s n ≡ End final t → SomeEnd (Node part cells) held final (Some (open_called (open_below cells) g o)) s
  called_ends g n t final s settled None e = group_ends (Node part cells) law held final g n t s (busy_settled (Node part cells) _ s settled) e
  called_ends g n t final s settled (Some c) e = call_ends g c n t final s settled e

  whole_island : (form : PlainForm) (n t : ℕ) (final s : State) → IsSettled (Node part cells) s → island (Node part cells) held form s n ≡ End final t → SomeEnd (Node part cells) held final (Some (InIsland form 0 (form_length part form) no_history)) s
  whole_island form n t final s settled e =
      island_ends (Node part cells) law held final form (tested_fine part form) (form_length part form) 0 n t no_history no_history s (λ port at tested. refl) (busy_settled (Node part cells) _ s settled) e

  kind_ends : (g n t : ℕ) (final s : State) → IsSettled (Node part cells) s → (kind : GroupKind) → enable_kind (Node part cells) (control_below cells) held g kind s n ≡ End final t → SomeEnd (Node part cells) held final (Some (open_kind (Node part cells) (open_below cells) g kind)) s
  kind_ends g n t final s settled kinds.Plain e = called_ends g n t final s settled (called (Node part cells) g) e
  kind_ends g n t final s settled kinds.Comb e = called_ends g n t final s settled (called (Node part cells) g) e
  kind_ends g n t final s settled (kinds.Timed length) e = whole_island (Enable g) n t final s settled e

  -- STATEMENTS
  abbrev Ends : PlainStatement → Type 0
  Ends a = (final : State) (n t : ℕ) (s : State) → IsSettled (Node part cells) s → run L a s n ≡ End final t → SomeEnd (Node part cells) held final (Some (open_statement (Node part cells) a)) s

  seq_ends : (first : PlainStatement) (later : PlainStatements) → Ends first
      → ((final : State) (n t : ℕ) (s : State) → IsSettled (Node part cells) s → run_parts L later s n ≡ End final t → SomeEnd (Node part cells) held final (seq_left (Node part cells) later None) s)
      → (final : State) (n t : ℕ) (s : State) → IsSettled (Node part cells) s → then_do (run L first s n) n (run_parts L later) ≡ End final t → SomeEnd (Node part cells) held final (Some (InSeq (open_statement (Node part cells) first) later)) s
  seq_ends first later one rest final n t s settled e =
      let r = parts_end (run L first s n) n (run_parts L later) final t e in
      let own = one r.middle n r.turns s settled r.first in
      let last = r.then_ends in
      seq_joins (Node part cells) held final own.0 (open_statement (Node part cells) first) s r.middle later own.1 (rest final (n - r.turns) last.0 r.middle (settled_end first s r.middle n r.turns settled r.first) last.1)

  stay_ends : (s final : State) (t u : ℕ) → ◌≡◌ {A = Answer State Fault} (End s t) (End final u) → SomeEnd (Node part cells) held final None s
  stay_ends s final t u e = (0, state_of s final t u e)

  repeat_ends : (body : PlainStatement) → Ends body → (left : ℕ) (final : State) (n t : ℕ) (s : State) → IsSettled (Node part cells) s → rounds (suc left) (run L body) s n ≡ End final t
      → SomeEnd (Node part cells) held final (Some (InRepeat (open_statement (Node part cells) body) left body)) s
  repeat_ends body one zero final n t s settled e =
      let r = parts_end (run L body s n) n (rounds 0 (run L body)) final t e in
      let own = one r.middle n r.turns s settled r.first in
      let last = r.then_ends in
      repeat_joins (Node part cells) held final own.0 (open_statement (Node part cells) body) s r.middle 0 body own.1 (stay_ends r.middle final 0 last.0 last.1)
  repeat_ends body one (suc left) final n t s settled e =
      let r = parts_end (run L body s n) n (rounds (suc left) (run L body)) final t e in
      let own = one r.middle n r.turns s settled r.first in
      let last = r.then_ends in
      repeat_joins (Node part cells) held final own.0 (open_statement (Node part cells) body) s r.middle (suc left) body own.1
      (repeat_ends body one left final (n - r.turns) last.0 r.middle (settled_end body s r.middle n r.turns settled r.first) last.1)

  -- TESTS
  module _ (port : PortRef) (comb : Option ℕ) where
    now_rests : (final s : State) (m : ℕ) (x : Test Fault) (a b : Option Open) → IsSettled (Node part cells) s → Goes (tested x (idle (Node part cells) s) a b) (EndsIn (Node part cells) held final m)
        → Goes (tested x (rested (Node part cells) (test_drives part comb) s) a b) (EndsIn (Node part cells) held final m)
    now_rests final s m x a b settled e = subst (λ y. Goes (tested x y a b) (EndsIn (Node part cells) held final m)) (sym (rests (Node part cells) law held port comb s settled)) e

    if_ends : (a b : PlainStatement) → Ends a → Ends b → (final : State) (n t : ℕ) (s : State) → IsSettled (Node part cells) s → test_turn (idle (Node part cells)) (test (Node part cells) held port comb) (run L a) (run L b) s n ≡ End final t
        → SomeEnd (Node part cells) held final (Some (Choosing port comb a b)) s
    if_ends a b one other final zero t s settled e = absurd (no_end final t e)
    if_ends a b one other final (suc n) t s settled e =
        let r = taken (test (Node part cells) held port comb s) e in
        (suc r.0, (0, omega arith, now_rests final s r.0 (test (Node part cells) held port comb s) _ _ settled r.1))
      where
        taken : (x : Test Fault) → chosen x (run L a (idle (Node part cells) s) n) (run L b (idle (Node part cells) s) n) ≡ End final t
            → (m : ℕ) × Goes (tested x (idle (Node part cells) s) (Some (open_statement (Node part cells) a)) (Some (open_statement (Node part cells) b))) (EndsIn (Node part cells) held final m)
        taken Holds e = let r = earlier 1 (run L a (idle (Node part cells) s) n) final t e in one final n r.0 (idle (Node part cells) s) (idle_settles (Node part cells) law.rows s) r.1
        taken Fails e = let r = earlier 1 (run L b (idle (Node part cells) s) n) final t e in other final n r.0 (idle (Node part cells) s) (idle_settles (Node part cells) law.rows s) r.1
        taken (Unclear f) e = absurd (no_fault_ends f 0 final t e)

    round_ends : (body : PlainStatement) → Ends body → (tests : ℕ) (final : State) (n t : ℕ) (s : State)
        → ((m u : ℕ) (middle : State) → IsSettled (Node part cells) middle → loop tests (idle (Node part cells)) (test (Node part cells) held port comb) (run L body) middle m ≡ End final u → SomeEnd (Node part cells) held final (Some (Testing port comb body)) middle)
        → (x : Test Fault) → chosen x (then_do (run L body (idle (Node part cells) s) n) n (loop tests (idle (Node part cells)) (test (Node part cells) held port comb) (run L body))) (stay (idle (Node part cells) s) n) ≡ End final t
        → (m : ℕ) × Goes (tested x (idle (Node part cells) s) (Some (InLoop (open_statement (Node part cells) body) port comb body)) None) (EndsIn (Node part cells) held final m)
    round_ends body one tests final n t s again Holds e =
        let first = earlier 1 (then_do (run L body (idle (Node part cells) s) n) n (loop tests (idle (Node part cells)) (test (Node part cells) held port comb) (run L body))) final t e in
        let r = parts_end (run L body (idle (Node part cells) s) n) n (loop tests (idle (Node part cells)) (test (Node part cells) held port comb) (run L body)) final first.0 first.1 in
        let begun = idle_settles (Node part cells) law.rows s in
        let own = one r.middle n r.turns (idle (Node part cells) s) begun r.first in
        let last = r.then_ends in
        loop_joins (Node part cells) held final own.0 (open_statement (Node part cells) body) (idle (Node part cells) s) r.middle port comb body own.1
        (again (n - r.turns) last.0 r.middle (settled_end body (idle (Node part cells) s) r.middle n r.turns begun r.first) last.1)
    round_ends body one tests final n t s again Fails e = (0, state_of (idle (Node part cells) s) final (1 + 0) t e)
    round_ends body one tests final n t s again (Unclear f) e = absurd (no_fault_ends f 0 final t e)

    loop_ends : (body : PlainStatement) → Ends body → (tests : ℕ) (final : State) (n t : ℕ) (s : State) → IsSettled (Node part cells) s
        → loop tests (idle (Node part cells)) (test (Node part cells) held port comb) (run L body) s n ≡ End final t → SomeEnd (Node part cells) held final (Some (Testing port comb body)) s
    loop_ends body one zero final n t s settled e = absurd (no_end final t e)
    loop_ends body one (suc tests) final zero t s settled e = absurd (no_end final t e)
    loop_ends body one (suc tests) final (suc n) t s settled e =
        let r = round_ends body one tests final n t s (λ m u middle begun f. loop_ends body one tests final m u middle begun f) (test (Node part cells) held port comb s) e in
        (suc r.0, (0, omega arith, now_rests final s r.0 (test (Node part cells) held port comb s) _ _ settled r.1))

  -- ARMS, the first one first
  abbrev EndsAll : PlainStatements → Type 0
  EndsAll no_statements = Unit {0}
  EndsAll (a_statement x xs) = Ends x × EndsAll xs

  -- each arm ends alone
  abbrev AllEndAlone : State → ℕ → PlainStatements → Type 0
  AllEndAlone s n no_statements = Unit {0}
  AllEndAlone s n (a_statement x xs) = EndsOf (run L x s n) × AllEndAlone s n xs

  alone : (arms : PlainStatements) (s final : State) (n t : ℕ) → run_arms L arms s n ≡ End final t → AllEndAlone s n arms
  alone no_statements s final n t e = tt
  alone (a_statement x xs) s final n t e =
      let r = one_ends (L.merged (L.driven x)) (run L x s n) (run_arms L xs s n) final t e in
      let rest = r.1 in
      (r.0, alone xs s rest.0 n rest.1 rest.2)

  abbrev ArmsRan : List PlainStatement → State → ℕ → State → Type 0
  ArmsRan list s n final = (t : ℕ) × Ran (Node part cells) (all_drive part list) (arms_run (Node part cells) held list) s n final (ran.Ended t)

  -- an arm from the state that the arms before it left
  arm_alike : (set : ℕ → Type 0) (x y : Answer State Fault) → Alike set x y → EndsOf x → EndsOf y
  arm_alike set (End a t) y h ends = (h.0, t, h.1)
  arm_alike set (answers.Fault f t) y h (a, u, e) = absurd (no_fault_ends f t a u e)
  arm_alike set More y h (a, u, e) = absurd (no_end a u e)

  arms_end : (st : PlainStatement) → Stands (Node part cells) st → (v : Visited) → In (statements_in part) v → (arms : PlainStatements) → v.form ≡ Par arms → (done : List PlainStatement) (later : PlainStatements) → list_of arms ≡ done ++ list_of later
      → EndsAll later → ArmsFit (Node part cells) st (list_of later) (open_arms part (open_enable (Node part cells) (open_below cells)) later)
      → (s cur : State) (n : ℕ) → AllEndAlone s n later → ArmsRan done s n cur → (final : State) × ArmsRan (list_of arms) s n final × SomeEnd (Node part cells) held final (par_left (open_arms part (open_enable (Node part cells) (open_below cells)) later)) cur
  arms_end st stands v there arms form done no_statements split ends fits s cur n apart (t, r) =
      (cur, subst (λ list. ArmsRan list s n cur) (sym (split ∙ append-nil done)) (t, r), (0, refl))
  arms_end st stands v there arms form done (a_statement x xs) split (one, ends) (is, fits, off, rest) s cur n (own, apart) (t, r) =
      let alike = fair.alike held v arms done (list_of xs) x s cur n there form split (λ c below e. r.others c below e) in
      let arm = arm_alike (Reads part x) (run L x s n) (run L x cur n) alike own in
      let some = one arm.0 n arm.1 cur r.settled arm.2 in
      let only = ends_only (Node part cells) all held x is.stands arm.0 some.0 (Some (open_with part (open_enable (Node part cells) (open_below cells)) x)) cur fits some.1 in
      let next = law.next held v arms done (list_of xs) x s cur arm.0 n (ran.Ended t) (ran.Ended arm.1) there form split r (record {
        settled = settled_end x cur arm.0 n arm.1 r.settled arm.2;
        top = only.top;
        others = only.others;
        answer = subst (λ y. AnswersAs arm.0 y (ran.Ended arm.1)) (sym arm.2) (refl, λ path. refl);
      }) in
      let whole = arms_end st stands v there arms form (done ++ (x ∷ [])) xs (split ∙ sym (append_assoc done (x ∷ []) (list_of xs))) ends rest s arm.0 n apart (max t arm.1, next) in
      (whole.0, whole.1, par_joins (Node part cells) held whole.0 some.0 (open_with part (open_enable (Node part cells) (open_below cells)) x) cur arm.0 x (open_arms part (open_enable (Node part cells) (open_below cells)) xs) some.1 whole.2)

  -- a run of all arms that ends, ends in the state that they leave one after the other
  answered : (final other : State) (t u : ℕ) (x : Answer State Fault) → x ≡ End final t → AnswersAs other x (ran.Ended u) → other ≡ final
  answered final other t u (End a w) e (turns, same) = fun_ext same ∙ state_of a final w t e
  answered final other t u (answers.Fault f w) e h = absurd (no_fault_ends f w final t e)
  answered final other t u More e h = absurd (no_end final t e)

  par_ends : (st : PlainStatement) → Stands (Node part cells) st → (v : Visited) → In (statements_in part) v → (first : PlainStatement) (rest : PlainStatements) → v.form ≡ Par (a_statement first rest) → EndsAll (a_statement first rest)
      → ArmsFit (Node part cells) st (first ∷ list_of rest) (open_arms part (open_enable (Node part cells) (open_below cells)) (a_statement first rest))
      → (final : State) (n t : ℕ) (s : State) → IsSettled (Node part cells) s → run_form L (Par (a_statement first rest)) s n ≡ End final t
      → SomeEnd (Node part cells) held final (Some (open_form part (open_enable (Node part cells) (open_below cells)) (Par (a_statement first rest)))) s
  par_ends st stands v there first rest form ends fits final n t s settled e =
      let r = arms_end st stands v there (a_statement first rest) form [] (a_statement first rest) refl ends fits s s n (alone (a_statement first rest) s final n t e)
      (0, record { settled = settled; top = refl; others = λ c below off. refl; answer = (refl, λ path. refl) }) in
      let arms = r.1 in
      let whole = law.whole held (a_statement first rest) first (list_of rest) s r.0 n (ran.Ended arms.0) refl arms.1 in
      subst (λ x. SomeEnd (Node part cells) held x (Some (open_form part (open_enable (Node part cells) (open_below cells)) (Par (a_statement first rest)))) s)
      (answered final r.0 t arms.0 (run_form L (Par (a_statement first rest)) s n) e whole.answer) r.2

  inner : (st : PlainStatement) (form : PlainForm) (place : Place) → InsideOne st (Placed form place) → Inside st (groups_in form) (visit_parts Dynamic form)
  inner st form place h = record { groups = h.groups; forms = λ v j. h.forms v (inr j) }

  mutual
    form_ends : (st : PlainStatement) → Stands (Node part cells) st → (form : PlainForm) (place : Place) → InsideOne st (Placed form place) → Ends (Placed form place)
    form_ends st stands Empty place h final n t s settled e = idling_ends (Node part cells) law held final s n t settled e
    form_ends st stands (Enable g) place h final n t s settled e = kind_ends g n t final s settled (group_at part g).kind e
    form_ends st stands (Seq no_statements) place h final n t s settled e = idling_ends (Node part cells) law held final s n t settled e
    form_ends st stands (Seq (a_statement first rest)) place h final n t s settled e =
        seq_ends first rest (ends_with st stands first (inside_left st (groups_of first) (groups_in_all rest) (visit Dynamic first) (visit_all Dynamic rest) (inner st (Seq (a_statement first rest)) place h)))
        (λ f k u w j b. parts_end_all st stands rest (inside_right st (groups_of first) (groups_in_all rest) (visit Dynamic first) (visit_all Dynamic rest) (inner st (Seq (a_statement first rest)) place h)) f k u w j b)
        final n t s settled e
    form_ends st stands (Par no_statements) place h final n t s settled e = idling_ends (Node part cells) law held final s n t settled e
    form_ends st stands (Par (a_statement first rest)) place h final n t s settled e =
        par_ends st stands (record { context = Dynamic; form = Par (a_statement first rest); place = place }) (inner_stands (Node part cells) st stands _ (h.forms _ (inl refl))) first rest refl
        (all_end st stands (a_statement first rest) (inner st (Par (a_statement first rest)) place h))
        (par_arms_fit part cells all st stands first rest place h) final n t s settled e
    form_ends st stands (If test comb a b) place h final n t s settled e =
        if_ends test.port comb a b
        (ends_with st stands a (record { groups = λ g j. h.groups g (behind_comb comb (groups_of a ++ groups_of b) g (in_left (groups_of a) (groups_of b) g j)); forms = λ v j. h.forms v (inr (in_left (visit Dynamic a) (visit Dynamic b) v j)) }))
        (ends_with st stands b (record { groups = λ g j. h.groups g (behind_comb comb (groups_of a ++ groups_of b) g (in_right (groups_of a) (groups_of b) g j)); forms = λ v j. h.forms v (inr (in_right (visit Dynamic a) (visit Dynamic b) v j)) }))
        final n t s settled e
    form_ends st stands (While test comb a) place h final n t s settled e =
        loop_ends test.port comb a (ends_with st stands a (record { groups = λ g j. h.groups g (behind_comb comb (groups_of a) g j); forms = λ v j. h.forms v (inr j) })) (suc n) final n t s settled e
    form_ends st stands (Repeat zero a) place h final n t s settled e = idling_ends (Node part cells) law held final s n t settled e
    form_ends st stands (Repeat (suc k) a) place h final n t s settled e = repeat_ends a (ends_with st stands a (record { groups = h.groups; forms = λ v j. h.forms v (inr j) })) k final n t s settled e
    form_ends st stands (StaticSeq length parts) place h final n t s settled e = whole_island (StaticSeq length parts) n t final s settled e
    form_ends st stands (StaticPar length arms) place h final n t s settled e = whole_island (StaticPar length arms) n t final s settled e
    form_ends st stands (StaticIf length test a b) place h final n t s settled e = whole_island (StaticIf length test a b) n t final s settled e
    form_ends st stands (StaticRepeat length count a) place h final n t s settled e = whole_island (StaticRepeat length count a) n t final s settled e
    form_ends st stands (Timed k) place h final n t s settled e = absurd (no_end final t e)

    pub ends_with : (st : PlainStatement) → Stands (Node part cells) st → (a : PlainStatement) → InsideOne st a → Ends a
    ends_with st stands (Placed form place) h final n t s settled e = form_ends st stands form place h final n t s settled e

    parts_end_all : (st : PlainStatement) → Stands (Node part cells) st → (parts : PlainStatements) → InsideAll st parts → (final : State) (n t : ℕ) (s : State) → IsSettled (Node part cells) s → run_parts L parts s n ≡ End final t
        → SomeEnd (Node part cells) held final (seq_left (Node part cells) parts None) s
    parts_end_all st stands no_statements h final n t s settled e = stay_ends s final 0 t e
    parts_end_all st stands (a_statement first rest) h final n t s settled e =
        seq_ends first rest (ends_with st stands first (inside_left st (groups_of first) (groups_in_all rest) (visit Dynamic first) (visit_all Dynamic rest) h))
        (λ f k u w j b. parts_end_all st stands rest (inside_right st (groups_of first) (groups_in_all rest) (visit Dynamic first) (visit_all Dynamic rest) h) f k u w j b)
        final n t s settled e

    all_end : (st : PlainStatement) → Stands (Node part cells) st → (arms : PlainStatements) → InsideAll st arms → EndsAll arms
    all_end st stands no_statements h = tt
    all_end st stands (a_statement first rest) h = (
      ends_with st stands first (inside_left st (groups_of first) (groups_in_all rest) (visit Dynamic first) (visit_all Dynamic rest) h),
      all_end st stands rest (inside_right st (groups_of first) (groups_in_all rest) (visit Dynamic first) (visit_all Dynamic rest) h),
    )

-- THE CONTROL of an instance
abbrev pub AllFair : Instance → Type 0
AllFair i = (path : Path) → IsFair (instance_at i path)

abbrev ControlEnds : Instance → Type 0
ControlEnds i =
    (inputs other : Held) (final : State) (n t : ℕ) (s : State) → IsSettled i s → ((input : ℕ) → input < length (part_of i).inputs → inputs input ≡ other input) → run_control i other s n ≡ End final t
    → IsSettled i final × SomeEnd i inputs final (Some (open_control i)) s

-- a child stands for itself
child_ends : (child : Instance) → ControlEnds child
    → (inputs other : Held) (final : State) (n t : ℕ) (s : State) → IsSettled (instance_at child []) s → ((input : ℕ) → input < length (part_of (instance_at child [])).inputs → inputs input ≡ other input) → run_control child other s n ≡ End final t
    → IsSettled (instance_at child []) final × SomeEnd (instance_at child []) inputs final (Some (open_control child)) s
child_ends (Node part cells) ends inputs other final n t s settled alike e = ends inputs other final n t s settled alike e

mutual
  pub control_ends : (i : Instance) → AllSound i → AllFair i → ControlEnds i
  control_ends (Node part cells) all laws inputs other final n t s settled alike e =
      let fair : IsFair (Node part cells) = laws [] in
      let same : run_control (Node part cells) inputs s n ≡ run_control (Node part cells) other s n = fair.lawful.own inputs other s n alike in (
        subst (budgets.Leaves (IsSettled (Node part cells))) (same ∙ e) (settles_statement (Node part cells) fair.lawful.rows inputs part.control s n settled),
        ends_with part cells all fair (λ c. below_ends cells (λ k path. all (k ∷ path)) (λ k path. laws (k ∷ path)) c) inputs part.control (itself part.control) part.control (inside_self part.control) final n t s settled (same ∙ e),
      )

  below_ends : (cells : Cells) → ((c : ℕ) (path : Path) → IsSound (child_at cells c path)) → ((c : ℕ) (path : Path) → IsFair (child_at cells c path)) → (c : ℕ) → ChildEnds cells c
  below_ends no_cells all laws c inputs other final n t s settled alike e = absurd (no_end final t e)
  below_ends (a_primitive row rest) all laws zero inputs other final n t s settled alike e = absurd (no_end final t e)
  below_ends (a_primitive row rest) all laws (suc c) inputs other final n t s settled alike e = below_ends rest (λ k path. all (suc k) path) (λ k path. laws (suc k) path) c inputs other final n t s settled alike e
  below_ends (an_instance child rest) all laws zero inputs other final n t s settled alike e =
      child_ends child (control_ends child (λ path. all zero path) (λ path. laws zero path)) inputs other final n t s settled alike e
  below_ends (an_instance child rest) all laws (suc c) inputs other final n t s settled alike e = below_ends rest (λ k path. all (suc k) path) (λ k path. laws (suc k) path) c inputs other final n t s settled alike e
