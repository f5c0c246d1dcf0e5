-- WHAT CONTROL COUNTS in the flat instance, beside the tree: statement by statement, and by induction on the tree.
use Rattle.std.proofs.Common.{◌≡◌, ℕ, zero, suc, ◌+◌, ◌-◌, ◌<◌, false, length, Option, Some, None, refl, sym, ap, ◌∙◌, subst, arith}
use Rattle.cx_meaning.specs.declared.kinds.GroupKind.{GroupKind}
use Rattle.cx_meaning.specs.declared.kinds.GroupKind.TheVariants as kinds
use Rattle.cx_meaning.specs.declared.ports.PortRef.{PortRef}
use Rattle.cx_meaning.specs.Designs.{PlainComponent, group_at, PlainForm, Empty, Enable, Seq, Par, If, While, Repeat, StaticSeq, StaticPar, StaticIf, StaticRepeat, Timed, PlainStatement, Placed, PlainStatements, no_statements, a_statement}
use Rattle.cx_meaning.specs.Instances.{Instance, Node, Cells, no_cells, a_primitive, an_instance, OfInstance, cells_of, cell_at, Path, State, idle, under, IsSettled}
use Rattle.cx_meaning.specs.Sights.{Held}
use Rattle.cx_meaning.specs.Cycles.{Fault}
use Rattle.cx_meaning.specs.Answers.{Answer, End, More, Meaning, Test, Holds, Fails, Unclear}
use Rattle.cx_meaning.specs.Answers as answers
use Rattle.cx_meaning.specs.Control.{Leaves, run}
use Rattle.cx_meaning.specs.Calls.{called, inputs_of_call}
use Rattle.cx_meaning.specs.Running.{Children, leaves, run_control, control_below}
use Rattle.cx_meaning.specs.Budgets as budgets
use Rattle.cx_rewrites.specs.Tallies.{Tally, none, plus, Counted, chosen_count, then_count, test_count, loop_count, rounds_count, Counting, count_form, count, count_parts, count_arms}
use Rattle.cx_flattening.specs.Whole.{is_static, whole_leaves, whole_below}
use Rattle.cx_flattening.specs.Flattened.{Kids, kept_at, flat_kids, flat_form, flat_statement, flat_statements}
use Rattle.cx_flattening.specs.Embedded.{Stands}
use Rattle.cx_flattening.specs.Beside.{kept_done}
use Rattle.cx_flattening.specs.Turning.{TestAs}
use Rattle.cx_flattening.specs.Runs.{AnswerAs}
use Rattle.cx_flattening.specs.Asking.{IsStaticForm, CallAsks, KindAsks, FormAsks, Asks, AllAsk, ArmsAsk, RunAsks, TreeAsks, ChildrenAsk}
use Rattle.cx_flattening.proofs.Standing.{fair_own, stands_dynamic}
use Rattle.cx_flattening.proofs.FlatTests.{flat_test}
use Rattle.cx_flattening.proofs.FlatCalls.{inputs_alike}
use Rattle.cx_flattening.proofs.FlatStatements.{RanAs, RunAs, idles, settles, its_group, its_called, whole_test, flat_tests, statement_as, twin_place}
use Rattle.cx_flattening.proofs.FlatRuns.{child_settled, twin_runs, control_as}
use Rattle.cx_flattening.proofs.FlatLimits.{zero_plus}
use Rattle.cx_profiling.specs.Counting.{ChildrenCount, count_island, count_call_or_turns, count_enable, counting, count_control, count_below}
use Rattle.cx_profiling.specs.WholeCounting.{whole_count_form, whole_count, whole_count_parts, whole_count_arms, count_whole_call_or_turns, count_whole_enable, whole_counting, count_whole_control, count_whole_below}
use Rattle.cx_profiling.proofs.ControlLemmas.{count_child}
use Rattle.cx_flattening.proofs.WholeSteady.{whole_child}
use Rattle.cx_profiling.proofs.FlatTotals.{IsThere}
use Rattle.cx_profiling.proofs.FlatTells.{Tells, none_tells, plus_tells, group_tells, island_tells, below_tells}

-- COUNTS of control, from states of the same cells
module _ (i flat : Instance) (path : Path) (g : ℕ) where
  abbrev pub CountAs : Counted State → Counted State → Type 0
  CountAs counts others = (s z : State) (n : ℕ) → Stands i 0 s z → IsSettled flat z → Tells i path g (counts s n) (others z n)

  pub then_tells : (x y : Answer State Fault) (n : ℕ) (counts others : Counted State) → RanAs i flat x y → CountAs counts others
      → Tells i path g (then_count x n counts) (then_count y n others)
  then_tells (End a t) y n counts others h later =
      subst (λ w. Tells i path g (counts a (n - t)) (then_count w n others)) (sym h.0.1) (later a h.0.0 (n - t) h.0.2 (subst (budgets.Leaves (IsSettled flat)) h.0.1 h.1))
  then_tells (answers.Fault f t) y n counts others h later = subst (λ w. Tells i path g none (then_count w n others)) (sym h.0) (none_tells i path g)
  then_tells More y n counts others h later = subst (λ w. Tells i path g none (then_count w n others)) (sym h.0) (none_tells i path g)

  chosen_tells : (t u : Test Fault) (a b x y : Tally) → TestAs i t u → Tells i path g a x → Tells i path g b y → Tells i path g (chosen_count t a b) (chosen_count u x y)
  chosen_tells Holds u a b x y e h k = subst (λ w. Tells i path g a (chosen_count w x y)) (sym e) h
  chosen_tells Fails u a b x y e h k = subst (λ w. Tells i path g b (chosen_count w x y)) (sym e) k
  chosen_tells (Unclear f) u a b x y e h k = subst (λ w. Tells i path g none (chosen_count w x y)) (sym e) (none_tells i path g)

  pub rounds_tell : (k : ℕ) (go more : Meaning State Fault) (counts others : Counted State) → RunAs i flat go more → CountAs counts others
      → CountAs (rounds_count k go counts) (rounds_count k more others)
  rounds_tell zero go more counts others runs alike s z n stands settled = none_tells i path g
  rounds_tell (suc k) go more counts others runs alike s z n stands settled =
      plus_tells i path g (counts s n) (then_count (go s n) n (rounds_count k go counts)) (others z n) (then_count (more z n) n (rounds_count k more others))
      (alike s z n stands settled)
      (then_tells (go s n) (more z n) n (rounds_count k go counts) (rounds_count k more others) (runs s z n stands settled) (rounds_tell k go more counts others runs alike))

  module _ (rests : (s z : State) → Stands i 0 s z → Stands i 0 (idle i s) (idle flat z)) (settled_again : (z : State) → IsSettled flat (idle flat z))
      (t u : State → Test Fault) (tests : (s z : State) → Stands i 0 s z → TestAs i (t s) (u z)) where
    pub test_tells : (counts others more rest : Counted State) → CountAs counts others → CountAs more rest
        → CountAs (test_count (idle i) t counts more) (test_count (idle flat) u others rest)
    test_tells counts others more rest alike later s z zero stands settled = none_tells i path g
    test_tells counts others more rest alike later s z (suc n) stands settled =
        chosen_tells (t s) (u z) (counts (idle i s) n) (more (idle i s) n) (others (idle flat z) n) (rest (idle flat z) n) (tests s z stands)
        (alike (idle i s) (idle flat z) n (rests s z stands) (settled_again z)) (later (idle i s) (idle flat z) n (rests s z stands) (settled_again z))

    pub loop_tells : (k : ℕ) (go more : Meaning State Fault) (counts others : Counted State) → RunAs i flat go more → CountAs counts others
        → CountAs (loop_count k (idle i) t go counts) (loop_count k (idle flat) u more others)
    loop_tells zero go more counts others runs alike s z n stands settled = none_tells i path g
    loop_tells (suc k) go more counts others runs alike s z n stands settled =
        test_tells (λ s1 m. plus (counts s1 m) (then_count (go s1 m) m (loop_count k (idle i) t go counts)))
        (λ z1 m. plus (others z1 m) (then_count (more z1 m) m (loop_count k (idle flat) u more others)))
        (λ s1 m. none) (λ z1 m. none)
        (λ s1 z1 m there still.
        plus_tells i path g (counts s1 m) (then_count (go s1 m) m (loop_count k (idle i) t go counts)) (others z1 m)
        (then_count (more z1 m) m (loop_count k (idle flat) u more others)) (alike s1 z1 m there still)
        (then_tells (go s1 m) (more z1 m) m (loop_count k (idle i) t go counts) (loop_count k (idle flat) u more others) (runs s1 z1 m there still)
        (loop_tells k go more counts others runs alike)))
        (λ s1 z1 m there still. none_tells i path g) s z n stands settled

-- CONTROL of one instance, where its dynamic children run alike and count alike
module _ (part : PlainComponent) (cells : Cells) (P : PlainComponent) (C : Cells) (its : RunAsks (Node part cells) (Node P C)) (held : Held) (children : Children)
    (ran : (c : ℕ) (child : Instance) → cell_at cells c ≡ OfInstance child → is_static child ≡ false → (h : Held) (s z : State) (n : ℕ)
    → Stands (Node part cells) 0 s z → IsSettled (Node P C) z
    → AnswerAs child (children c h (under c s) n) (control_below C (kept_at (flat_kids cells) c) h (under (kept_at (flat_kids cells) c) z) n))
    (counts others : ChildrenCount)
    (counted : (c : ℕ) (child : Instance) → cell_at cells c ≡ OfInstance child → is_static child ≡ false → (h : Held) (s z : State) (n : ℕ)
    → Stands (Node part cells) 0 s z → IsSettled (Node P C) z
    → (path : Path) (g : ℕ) → IsThere child path g
    → Tells child path g (counts c h (under c s) n) (others (kept_at (flat_kids cells) c) h (under (kept_at (flat_kids cells) c) z) n))
    (path : Path) (g : ℕ) (there : IsThere (Node part cells) path g) where
  abbrev i : Instance
  i = Node part cells

  abbrev flat : Instance
  flat = Node P C

  abbrev kids : Kids
  kids = flat_kids cells

  abbrev new : Leaves State Fault
  new = whole_leaves i children held

  abbrev old : Leaves State Fault
  old = leaves flat (control_below C) held

  abbrev new_counting : Counting State
  new_counting = whole_counting i counts held

  abbrev old_counting : Counting State
  old_counting = counting flat others held

  abbrev As : Counted State → Counted State → Type 0
  As = CountAs i flat path g

  runs : (st : PlainStatement) → Asks i flat st → RunAs i flat (run new st) (run old (flat_statement kids part st))
  runs st asks s z n stands settled = statement_as part cells P C its held children ran st asks s z n stands settled

  -- THE LEAVES
  call_tells : (h : ℕ) (o p : Option ℕ) → p ≡ kept_done kids o → CallAsks i flat h o → As (count_whole_call_or_turns i counts held h o) (count_call_or_turns flat others held h p)
  call_tells h None p e asks s z n stands settled =
      subst (λ x. Tells i path g (count_whole_call_or_turns i counts held h None s n) (count_call_or_turns flat others held h x z n)) (sym e)
      (group_tells i flat held h asks path g there n s z stands)
  call_tells h (Some c) p e asks s z n stands settled =
      subst (λ x. Tells i path g (count_whole_call_or_turns i counts held h (Some c) s n) (count_call_or_turns flat others held h x z n)) (sym e)
      (below_tells part cells (fair_own i its.fair) c asks.0 asks.1.stands asks.1.dynamic (counts c (inputs_of_call i held h c s) (under c s) n)
      (others (kept_at kids c) (inputs_of_call flat held h (kept_at kids c) z) (under (kept_at kids c) z) n)
      (λ p1 g1 inner.
      subst (λ x. Tells asks.0 p1 g1 (counts c (inputs_of_call i held h c s) (under c s) n) (others (kept_at kids c) x (under (kept_at kids c) z) n))
      (sym (inputs_alike part cells flat held h c asks.0 asks.1 s z stands))
      (counted c asks.0 asks.1.stands asks.1.dynamic (inputs_of_call i held h c s) s z n stands settled p1 g1 inner))
      path g there)

  kind_tells : (h : ℕ) → h < length part.groups → (kind : GroupKind) → KindAsks i flat h kind → As (count_whole_enable i counts held h kind) (count_enable flat others held h kind)
  kind_tells h less kinds.Plain asks s z n stands settled = call_tells h (called i h) (called flat h) (its_called part cells P C its h less) asks s z n stands settled
  kind_tells h less kinds.Comb asks s z n stands settled = call_tells h (called i h) (called flat h) (its_called part cells P C its h less) asks s z n stands settled
  kind_tells h less (kinds.Timed length) asks s z n stands settled = island_tells i flat (Enable h) held asks path g there s z n stands

  -- a static form counts as an island
  static_counts : (form : PlainForm) → IsStaticForm P form → (z : State) (n : ℕ) → count_form old old_counting form z n ≡ count_island flat held form z n
  static_counts Empty h z n = refl
  static_counts (Enable x) h z n = ap (λ kind. count_enable flat others held x kind z n) h.1
  static_counts (Seq ss) h z n = absurd h
  static_counts (Par arms) h z n = absurd h
  static_counts (If test comb a b) h z n = absurd h
  static_counts (While test comb a) h z n = absurd h
  static_counts (Repeat k a) h z n = absurd h
  static_counts (StaticSeq length ss) h z n = refl
  static_counts (StaticPar length arms) h z n = refl
  static_counts (StaticIf length test a b) h z n = refl
  static_counts (StaticRepeat length k a) h z n = refl
  static_counts (Timed k) h z n = absurd h

  abbrev its_test : PortRef → Option ℕ → State → Test Fault
  its_test = whole_test part cells P C its held children ran

  abbrev flat_its_test : PortRef → Option ℕ → State → Test Fault
  flat_its_test = flat_tests part cells P C its held children ran

  -- A STATEMENT
  mutual
    pub statement_tells : (st : PlainStatement) → Asks i flat st → As (whole_count new new_counting st) (count old old_counting (flat_statement kids part st))
    statement_tells (Placed form place) asks s z n stands settled = form_tells form asks s z n stands settled

    form_tells : (form : PlainForm) → FormAsks i flat form → As (whole_count_form new new_counting form) (count_form old old_counting (flat_form kids part form))
    form_tells Empty asks s z n stands settled = none_tells i path g
    form_tells (Enable h) asks s z n stands settled =
        subst (λ kind. Tells i path g (count_whole_enable i counts held h (group_at part h).kind s n) (count_enable flat others held h kind z n))
        (sym (ap (λ x. x.kind) (its_group part cells P C its h asks.0)))
        (kind_tells h asks.0 (group_at part h).kind asks.1 s z n stands settled)
    form_tells (Seq ss) asks s z n stands settled = parts_tell ss asks s z n stands settled
    form_tells (Par arms) asks s z n stands settled = arms_tell arms asks s z n stands settled
    form_tells (If port comb x y) asks s z n stands settled =
        test_tells i flat path g (idles part cells P C its) (settles part cells P C its) (its_test port.port comb) (flat_its_test port.port comb)
        (λ s1 z1 stand. flat_test i flat held port.port comb s1 z1 asks.0.beside asks.0.known stand)
        (whole_count new new_counting x) (count old old_counting (flat_statement kids part x)) (whole_count new new_counting y)
        (count old old_counting (flat_statement kids part y))
        (statement_tells x asks.1.0) (statement_tells y asks.1.1) s z n stands settled
    form_tells (While port comb x) asks s z n stands settled =
        loop_tells i flat path g (idles part cells P C its) (settles part cells P C its) (its_test port.port comb) (flat_its_test port.port comb)
        (λ s1 z1 stand. flat_test i flat held port.port comb s1 z1 asks.0.beside asks.0.known stand)
        (suc n) (run new x) (run old (flat_statement kids part x)) (whole_count new new_counting x) (count old old_counting (flat_statement kids part x))
        (runs x asks.1) (statement_tells x asks.1) s z n stands settled
    form_tells (Repeat k x) asks s z n stands settled =
        rounds_tell i flat path g k (run new x) (run old (flat_statement kids part x)) (whole_count new new_counting x) (count old old_counting (flat_statement kids part x))
        (runs x asks) (statement_tells x asks) s z n stands settled
    form_tells (StaticSeq length ss) asks s z n stands settled = island_tells i flat (StaticSeq length ss) held asks path g there s z n stands
    form_tells (StaticPar length arms) asks s z n stands settled = island_tells i flat (StaticPar length arms) held asks path g there s z n stands
    form_tells (StaticIf length port x y) asks s z n stands settled = island_tells i flat (StaticIf length port x y) held asks path g there s z n stands
    form_tells (StaticRepeat length k x) asks s z n stands settled = island_tells i flat (StaticRepeat length k x) held asks path g there s z n stands
    form_tells (Timed k) asks s z n stands settled =
        subst (Tells i path g (new_counting.island (Timed k) s n)) (sym (static_counts (flat_form kids part (Timed k)) asks.1 z n))
        (island_tells i flat (Timed k) held asks.0 path g there s z n stands)

    parts_tell : (ss : PlainStatements) → AllAsk i flat ss → As (whole_count_parts new new_counting ss) (count_parts old old_counting (flat_statements kids part ss))
    parts_tell no_statements asks s z n stands settled = none_tells i path g
    parts_tell (a_statement first later) asks s z n stands settled =
        plus_tells i path g (whole_count new new_counting first s n) (then_count (run new first s n) n (whole_count_parts new new_counting later))
        (count old old_counting (flat_statement kids part first) z n)
        (then_count (run old (flat_statement kids part first) z n) n (count_parts old old_counting (flat_statements kids part later)))
        (statement_tells first asks.0 s z n stands settled)
        (then_tells i flat path g (run new first s n) (run old (flat_statement kids part first) z n) n (whole_count_parts new new_counting later)
        (count_parts old old_counting (flat_statements kids part later))
        (runs first asks.0 s z n stands settled) (parts_tell later asks.1))

    arms_tell : (ss : PlainStatements) → ArmsAsk i flat ss → As (whole_count_arms new new_counting ss) (count_arms old old_counting (flat_statements kids part ss))
    arms_tell no_statements asks s z n stands settled = none_tells i path g
    arms_tell (a_statement first later) asks s z n stands settled =
        plus_tells i path g (whole_count new new_counting first s n) (whole_count_arms new new_counting later s n)
        (count old old_counting (flat_statement kids part first) z n) (count_arms old old_counting (flat_statements kids part later) z n)
        (statement_tells first asks.0 s z n stands settled) (arms_tell later asks.1.1.1 s z n stands settled)

-- WHAT IS ASKED of a dynamic child and its twin
child_asks : (rest cells : Cells) (flat : Instance) (c : ℕ) → ChildrenAsk rest cells c flat → (d : ℕ) (child : Instance) → cell_at rest d ≡ OfInstance child
    → is_static child ≡ false
    → (twin : Instance) → cell_at (cells_of flat) (kept_at (flat_kids cells) (c + d)) ≡ OfInstance twin → TreeAsks child twin
child_asks no_cells cells flat c asks d child at dynamic twin stood = absurd (cc)
child_asks (a_primitive row rest) cells flat c asks zero child at dynamic twin stood = absurd (cc)
child_asks (a_primitive row rest) cells flat c asks (suc d) child at dynamic twin stood =
    let next : c + suc d ≡ suc c + d = omega arith in
    child_asks rest cells flat (suc c) asks d child at dynamic twin
    (ap (λ k. cell_at (cells_of flat) (kept_at (flat_kids cells) k)) (sym next) ∙ stood)
child_asks (an_instance other rest) cells flat c asks zero child at dynamic twin stood =
    let same : other ≡ child = cc in
    let here : c + 0 ≡ c = omega arith in
    subst (λ x. TreeAsks x twin) same (asks.0 (ap is_static same ∙ dynamic) twin (ap (λ k. cell_at (cells_of flat) (kept_at (flat_kids cells) k)) (sym here) ∙ stood))
child_asks (an_instance other rest) cells flat c asks (suc d) child at dynamic twin stood =
    let next : c + suc d ≡ suc c + d = omega arith in
    child_asks rest cells flat (suc c) asks.1 d child at dynamic twin
    (ap (λ k. cell_at (cells_of flat) (kept_at (flat_kids cells) k)) (sym next) ∙ stood)

child_stands : (part : PlainComponent) (cells : Cells) (s z : State) (c : ℕ) (child : Instance) → Stands (Node part cells) 0 s z → cell_at cells c ≡ OfInstance child
    → is_static child ≡ false
    → Stands child 0 (under c s) (under (kept_at (flat_kids cells) c) z)
child_stands part cells s z c child stands at dynamic =
    subst (λ k. Stands child 0 (under c s) (under k z)) (zero_plus (kept_at (flat_kids cells) c))
    (subst (λ k. Stands child 0 (under k s) (under (0 + kept_at (flat_kids cells) k) z)) (zero_plus c)
    (stands_dynamic (flat_kids cells) part 0 s z cells 0 c child stands at dynamic))

-- a dynamic child runs alike its twin
child_ran : (part : PlainComponent) (cells : Cells) (P : PlainComponent) (C : Cells) → TreeAsks (Node part cells) (Node P C) → (c : ℕ) (child : Instance)
    → cell_at cells c ≡ OfInstance child → is_static child ≡ false
    → (h : Held) (s z : State) (n : ℕ) → Stands (Node part cells) 0 s z → IsSettled (Node P C) z
    → AnswerAs child (whole_below cells c h (under c s) n) (control_below C (kept_at (flat_kids cells) c) h (under (kept_at (flat_kids cells) c) z) n)
child_ran part cells P C asks c child at dynamic h s z n stands settled =
    twin_runs part cells P C asks.0 c child at dynamic h s z n stands settled
    (λ twin stood below calm.
    subst (λ x. AnswerAs child x (run_control twin h (under (kept_at (flat_kids cells) c) z) n)) (sym (whole_child cells c child at h (under c s) n))
    (control_as child twin (child_asks cells cells (Node P C) 0 asks.1 c child at dynamic twin stood) h (under c s) (under (kept_at (flat_kids cells) c) z) n below calm))

-- and counts as its twin, where control does
twin_tells : (part : PlainComponent) (cells : Cells) (P : PlainComponent) (C : Cells) (asks : RunAsks (Node part cells) (Node P C)) (c : ℕ) (child : Instance)
    → cell_at cells c ≡ OfInstance child → is_static child ≡ false
    → (h : Held) (s z : State) (n : ℕ) → Stands (Node part cells) 0 s z → IsSettled (Node P C) z → (path : Path) (g : ℕ)
    → ((twin : Instance) → cell_at C (kept_at (flat_kids cells) (0 + c)) ≡ OfInstance twin → Stands child 0 (under c s) (under (kept_at (flat_kids cells) c) z)
    → IsSettled twin (under (kept_at (flat_kids cells) c) z)
    → Tells child path g (count_whole_below cells c h (under c s) n) (count_control twin h (under (kept_at (flat_kids cells) c) z) n))
    → Tells child path g (count_whole_below cells c h (under c s) n) (count_below C (kept_at (flat_kids cells) c) h (under (kept_at (flat_kids cells) c) z) n)
twin_tells part cells P C asks c child at dynamic h s z n stands settled path g tells =
    let twin = twin_place part cells P C asks c child at dynamic in
    subst (Tells child path g (count_whole_below cells c h (under c s) n))
    (sym (count_child C (kept_at (flat_kids cells) c) twin.0 twin.1 h (under (kept_at (flat_kids cells) c) z) n))
    (tells twin.0 (ap (λ k. cell_at C (kept_at (flat_kids cells) k)) (zero_plus c) ∙ twin.1) (child_stands part cells s z c child stands at dynamic)
    (child_settled P C (kept_at (flat_kids cells) c) twin.0 z twin.1 settled))

mutual
  pub control_tells : (i flat : Instance) → TreeAsks i flat → (held : Held) (s z : State) (n : ℕ) → Stands i 0 s z → IsSettled flat z → (path : Path) (g : ℕ) → IsThere i path g
      → Tells i path g (count_whole_control i held s n) (count_control flat held z n)
  control_tells (Node part cells) (Node P C) asks held s z n stands settled path g there =
      subst (λ control. Tells (Node part cells) path g (count_whole_control (Node part cells) held s n)
      (count (leaves (Node P C) (control_below C) held) (counting (Node P C) (count_below C) held) control z n))
      (sym asks.0.flattened.0.control)
      (statement_tells part cells P C asks.0 held (whole_below cells) (child_ran part cells P C asks) (count_whole_below cells) (count_below C)
      (λ c child at dynamic h s1 z1 m stand calm p g1 inner.
      twin_tells part cells P C asks.0 c child at dynamic h s1 z1 m stand calm p g1
      (λ twin stood below still. child_tells cells cells (Node P C) 0 asks.1 c child at dynamic twin stood h (under c s1)
      (under (kept_at (flat_kids cells) c) z1) m below still p g1 inner))
      path g there part.control asks.0.control s z n stands settled)

  child_tells : (rest cells : Cells) (flat : Instance) (c : ℕ) → ChildrenAsk rest cells c flat → (d : ℕ) (child : Instance) → cell_at rest d ≡ OfInstance child
      → is_static child ≡ false
      → (twin : Instance) → cell_at (cells_of flat) (kept_at (flat_kids cells) (c + d)) ≡ OfInstance twin → (h : Held) (s z : State) (n : ℕ) → Stands child 0 s z → IsSettled twin z
      → (path : Path) (g : ℕ) → IsThere child path g → Tells child path g (count_whole_below rest d h s n) (count_control twin h z n)
  child_tells no_cells cells flat c asks d child at dynamic twin stood h s z n stands settled path g there = absurd (cc)
  child_tells (a_primitive row rest) cells flat c asks zero child at dynamic twin stood h s z n stands settled path g there = absurd (cc)
  child_tells (a_primitive row rest) cells flat c asks (suc d) child at dynamic twin stood h s z n stands settled path g there =
      let next : c + suc d ≡ suc c + d = omega arith in
      child_tells rest cells flat (suc c) asks d child at dynamic twin
      (ap (λ k. cell_at (cells_of flat) (kept_at (flat_kids cells) k)) (sym next) ∙ stood) h s z n stands settled path g there
  child_tells (an_instance other rest) cells flat c asks zero child at dynamic twin stood h s z n stands settled path g there =
      let same : other ≡ child = cc in
      let here : c + 0 ≡ c = omega arith in
      subst (λ x. Tells x path g (count_whole_control other h s n) (count_control twin h z n)) same
      (control_tells other twin (asks.0 (ap is_static same ∙ dynamic) twin (ap (λ k. cell_at (cells_of flat) (kept_at (flat_kids cells) k)) (sym here) ∙ stood)) h s z n
      (subst (λ x. Stands x 0 s z) (sym same) stands) settled
      path g (subst (λ x. IsThere x path g) (sym same) there))
  child_tells (an_instance other rest) cells flat c asks (suc d) child at dynamic twin stood h s z n stands settled path g there =
      let next : c + suc d ≡ suc c + d = omega arith in
      child_tells rest cells flat (suc c) asks.1 d child at dynamic twin
      (ap (λ k. cell_at (cells_of flat) (kept_at (flat_kids cells) k)) (sym next) ∙ stood) h s z n stands settled path g there
