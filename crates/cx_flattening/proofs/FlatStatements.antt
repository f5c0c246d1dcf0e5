-- CONTROL, statement by statement: it runs in the flat instance as in the tree, where its groups, tests, islands and calls do.
use Rattle.std.proofs.Common.{◌≡◌, ℕ, zero, suc, ◌+◌, ◌-◌, ◌<◌, inl, inr, Bool, true, false, ◌||◌, List, [], ◌∷◌, ◌++◌, length, map, get_or, Option, Some, None, refl, sym, ap, ◌∙◌, subst, arith}
use Rattle.std.specs.Prelude.{flat_map}
use Rattle.std.proofs.lemmas.List.{get_or_append_left, get_or-map, length-map}
use Rattle.cx_text.proofs.MemberLaws.{in_at}
use Rattle.cx_text.specs.Members.{In}
use Rattle.cx_prim.specs.Rows.{Row}
use Rattle.cx_meaning.specs.declared.kinds.GroupKind.{GroupKind}
use Rattle.cx_meaning.specs.declared.kinds.GroupKind.TheVariants as kinds
use Rattle.cx_meaning.specs.declared.ports.PortRef.{PortRef}
use Rattle.cx_meaning.specs.declared.ports.PortRef.TheVariants as ports
use Rattle.cx_meaning.specs.Designs.{PlainAssign, PlainComponent, group_at, no_group, no_place, PlainForm, Empty, Enable, Seq, Par, If, While, Repeat, StaticSeq, StaticPar, StaticIf, StaticRepeat, Timed, PlainStatement, Placed, PlainStatements, no_statements, a_statement}
use Rattle.cx_meaning.specs.Instances.{Instance, Node, Cells, At, Nothing, OfRow, OfInstance, cell_at, Path, State, under, merge, idle, IsSettled}
use Rattle.cx_meaning.specs.Sights.{Held}
use Rattle.cx_meaning.specs.Cycles.{Fault}
use Rattle.cx_meaning.specs.Answers.{Answer, End, More, Meaning, after_turns, then_do, stay, idle_turn, Test, Holds, Fails, Unclear, chosen, test_turn, loop, rounds}
use Rattle.cx_meaning.specs.Answers as answers
use Rattle.cx_meaning.specs.Control.{Leaves, drives, groups_drive, group_drives, groups_of, groups_in_all, run, run_form, run_parts, run_arms}
use Rattle.cx_meaning.specs.Islands.{island}
use Rattle.cx_meaning.specs.Calls.{if_instance, called_by, called_in, called, test, enable_kind}
use Rattle.cx_meaning.specs.Calls as calls
use Rattle.cx_meaning.specs.Running.{Children, leaves, control_below}
use Rattle.cx_meaning.specs.Budgets as budgets
use Rattle.cx_meaning.proofs.RunningLemmas.{idle_settles, settles_statement}
use Rattle.cx_meaning.proofs.DesignsLemmas.{there_below}
use Rattle.cx_frames.proofs.RunLemmas.{run_stays}
use Rattle.cx_rewrites.specs.Moving.{moved_assign, moved_group}
use Rattle.cx_rules.specs.Invokes.{drives_all}
use Rattle.cx_flattening.specs.Whole as whole
use Rattle.cx_flattening.specs.Whole.{is_static, whole_leaves}
use Rattle.cx_flattening.specs.Flattened.{Kids, kid_at, kept_at, start_of, flat_kids, flat_part, own_port, copies, flat_form, flat_statement, flat_statements}
use Rattle.cx_flattening.specs.Embedded.{Stands}
use Rattle.cx_flattening.specs.Fair.{IsFair}
use Rattle.cx_flattening.specs.Targets.{OwnTarget}
use Rattle.cx_flattening.specs.Beside.{kept_done}
use Rattle.cx_flattening.specs.Turning.{TestAs}
use Rattle.cx_flattening.specs.Runs.{AnswerAs}
use Rattle.cx_flattening.specs.Arms.{NoneDrive}
use Rattle.cx_flattening.specs.Asking.{IsStaticForm, CallAsks, KindAsks, FormAsks, Asks, AllAsk, ArmsAsk, RunAsks}
use Rattle.cx_flattening.proofs.PortLemmas.{own-kept}
use Rattle.cx_flattening.proofs.Standing.{fair_own, embedded_row, embedded_dynamic}
use Rattle.cx_flattening.proofs.LevelSights.{kid-static}
use Rattle.cx_flattening.proofs.IdleStands.{idle_stands}
use Rattle.cx_flattening.proofs.FlatIslands.{island_as}
use Rattle.cx_flattening.proofs.FlatTests.{flat_group, flat_test}
use Rattle.cx_flattening.proofs.FlatCalls.{flat_call}
use Rattle.cx_flattening.proofs.FlatArms.{merged_stands, both_as}

-- ANSWERS of a run: that of the flat instance ends as that of the tree, in a settled state
module _ (i flat : Instance) where
  abbrev pub RanAs : Answer State Fault → Answer State Fault → Type 0
  RanAs x y = AnswerAs i x y × budgets.Leaves (IsSettled flat) y

  abbrev pub RunAs : Meaning State Fault → Meaning State Fault → Type 0
  RunAs go more = (s z : State) (n : ℕ) → Stands i 0 s z → IsSettled flat z → RanAs (go s n) (more z n)

  ran_later : (k : ℕ) (x y : Answer State Fault) → RanAs x y → RanAs (after_turns k x) (after_turns k y)
  ran_later k (End a t) y h = subst (λ w. RanAs (End a (k + t)) (after_turns k w)) (sym h.0.1) ((h.0.0, refl, h.0.2), subst (budgets.Leaves (IsSettled flat)) h.0.1 h.1)
  ran_later k (answers.Fault f t) y h = subst (λ w. RanAs (answers.Fault f (k + t)) (after_turns k w)) (sym h.0) (refl, tt)
  ran_later k More y h = subst (λ w. RanAs More (after_turns k w)) (sym h.0) (refl, tt)

  ran_then : (x y : Answer State Fault) (n : ℕ) (go more : Meaning State Fault) → RanAs x y → RunAs go more → RanAs (then_do x n go) (then_do y n more)
  ran_then (End a t) y n go more h later =
      subst (λ w. RanAs (after_turns t (go a (n - t))) (then_do w n more)) (sym h.0.1)
      (ran_later t (go a (n - t)) (more h.0.0 (n - t)) (later a h.0.0 (n - t) h.0.2 (subst (budgets.Leaves (IsSettled flat)) h.0.1 h.1)))
  ran_then (answers.Fault f t) y n go more h later = subst (λ w. RanAs (answers.Fault f t) (then_do w n more)) (sym h.0) (refl, tt)
  ran_then More y n go more h later = subst (λ w. RanAs More (then_do w n more)) (sym h.0) (refl, tt)

  ran_chosen : (t u : Test Fault) (a b x y : Answer State Fault) → TestAs i t u → RanAs a x → RanAs b y → RanAs (chosen t a b) (chosen u x y)
  ran_chosen Holds u a b x y e h k = subst (λ w. RanAs (after_turns 1 a) (chosen w x y)) (sym e) (ran_later 1 a x h)
  ran_chosen Fails u a b x y e h k = subst (λ w. RanAs (after_turns 1 b) (chosen w x y)) (sym e) (ran_later 1 b y k)
  ran_chosen (Unclear f) u a b x y e h k = subst (λ w. RanAs (answers.Fault f 0) (chosen w x y)) (sym e) (refl, tt)

  runs_rounds : (k : ℕ) (go more : Meaning State Fault) → RunAs go more → RunAs (rounds k go) (rounds k more)
  runs_rounds zero go more h s z n stands settled = ((z, refl, stands), settled)
  runs_rounds (suc k) go more h s z n stands settled = ran_then (go s n) (more z n) n (rounds k go) (rounds k more) (h s z n stands settled) (runs_rounds k go more h)

  -- where idle turns leave the same state, a settled one
  module _ (idles : (s z : State) → Stands i 0 s z → Stands i 0 (idle i s) (idle flat z)) (settles : (z : State) → IsSettled flat (idle flat z)) where
    runs_idle : RunAs (idle_turn (idle i)) (idle_turn (idle flat))
    runs_idle s z zero stands settled = (refl, tt)
    runs_idle s z (suc n) stands settled = ((idle flat z, refl, idles s z stands), settles z)

    module _ (t u : State → Test Fault) (tests : (s z : State) → Stands i 0 s z → TestAs i (t s) (u z)) where
      runs_test : (go more first second : Meaning State Fault) → RunAs go more → RunAs first second → RunAs (test_turn (idle i) t go first) (test_turn (idle flat) u more second)
      runs_test go more first second h k s z zero stands settled = (refl, tt)
      runs_test go more first second h k s z (suc n) stands settled =
          ran_chosen (t s) (u z) (go (idle i s) n) (first (idle i s) n) (more (idle flat z) n) (second (idle flat z) n) (tests s z stands)
          (h (idle i s) (idle flat z) n (idles s z stands) (settles z)) (k (idle i s) (idle flat z) n (idles s z stands) (settles z))

      runs_loop : (count : ℕ) (go more : Meaning State Fault) → RunAs go more → RunAs (loop count (idle i) t go) (loop count (idle flat) u more)
      runs_loop zero go more h s z n stands settled = (refl, tt)
      runs_loop (suc count) go more h s z n stands settled =
          runs_test (λ s1 m. then_do (go s1 m) m (loop count (idle i) t go)) (λ s1 m. then_do (more s1 m) m (loop count (idle flat) u more)) stay stay
          (λ s1 z1 m there still. ran_then (go s1 m) (more z1 m) m (loop count (idle i) t go) (loop count (idle flat) u more) (h s1 z1 m there still) (runs_loop count go more h))
          (λ s1 z1 m there still. ((z1, refl, there), still)) s z n stands settled

module _ (part : PlainComponent) (cells : Cells) (P : PlainComponent) (C : Cells) (its : RunAsks (Node part cells) (Node P C)) where
  abbrev i : Instance
  i = Node part cells

  abbrev flat : Instance
  flat = Node P C

  abbrev kids : Kids
  kids = flat_kids cells

  fair : IsFair i
  fair = fair_own i its.fair

  pub idles : (s z : State) → Stands i 0 s z → Stands i 0 (idle i s) (idle flat z)
  idles s z stands = idle_stands i flat s z its.flattened.1 stands

  pub settles : (z : State) → IsSettled flat (idle flat z)
  settles z = idle_settles flat its.idle z

  zero_plus : (a : ℕ) → 0 + a ≡ a
  zero_plus a = omega arith

  -- A GROUP is of one kind in both, and calls the same child
  pub its_group : (g : ℕ) → g < length part.groups → group_at P g ≡ moved_group (own_port kids part) (group_at part g)
  its_group g there =
      ap (λ gs. get_or gs g no_group) its.flattened.0.groups
      ∙ get_or_append_left (map (moved_group (own_port kids part)) part.groups) (flat_map (copies kids part) part.invokes) no_group g
      (let same = length-map part.groups (moved_group (own_port kids part)) in omega (arith, there, same))
      ∙ get_or-map (moved_group (own_port kids part)) part.groups g no_group no_group there

  row_place : (n : ℕ) (row : Row) → cell_at cells n ≡ OfRow row → cell_at C (kept_at kids n) ≡ OfRow row
  row_place n row at =
      ap (cell_at C) (sym (zero_plus (kept_at kids n)) ∙ ap (λ k. 0 + kept_at kids k) (sym (zero_plus n))) ∙ embedded_row kids part 0 C cells 0 n row its.flattened.1 at

  pub twin_place : (n : ℕ) (other : Instance) → cell_at cells n ≡ OfInstance other → is_static other ≡ false → (twin : Instance) × (cell_at C (kept_at kids n) ≡ OfInstance twin)
  twin_place n other at dynamic =
      let r = embedded_dynamic kids part 0 C cells 0 n other its.flattened.1 at dynamic in
      (r.0, ap (cell_at C) (sym (zero_plus (kept_at kids n)) ∙ ap (λ k. 0 + kept_at kids k) (sym (zero_plus n))) ∙ r.1)

  target_called : (t : PortRef) (x y : Option ℕ) → OwnTarget kids part t → y ≡ kept_done kids x → called_by C (own_port kids part t) y ≡ kept_done kids (called_by cells t x)
  target_called (ports.Cell d p) x y own e = ap (λ q. called_by C q y) (own-kept kids part d p own.1) ∙ by_cell (cell_at cells d) refl
    where
      by_cell : (a : At) → cell_at cells d ≡ a → if_instance (cell_at C (kept_at kids d)) (kept_at kids d) y ≡ kept_done kids (if_instance (cell_at cells d) d x)
      by_cell Nothing at = absurd (fair.counts d own.0 at)
      by_cell (OfRow row) at = ap (λ a. if_instance a (kept_at kids d) y) (row_place d row at) ∙ e ∙ ap (λ a. kept_done kids (if_instance a d x)) (sym at)
      by_cell (OfInstance other) at = by_static (is_static other) refl
        where
          by_static : (b : Bool) → is_static other ≡ b → if_instance (cell_at C (kept_at kids d)) (kept_at kids d) y ≡ kept_done kids (if_instance (cell_at cells d) d x)
          by_static true static = absurd (let none : None ≡ Some (flat_part other) = sym own.1 ∙ kid-static cells d other at static in cc)
          by_static false dynamic = ap (λ a. if_instance a (kept_at kids d) y) (twin_place d other at dynamic).1 ∙ ap (λ a. kept_done kids (if_instance a d x)) (sym at)
  target_called (ports.Input n) x y own e = absurd own
  target_called (ports.Output n) x y own e = e
  target_called (ports.Done h) x y own e = e
  target_called (ports.Literal w v) x y own e = absurd own

  list_called : (list : List PlainAssign) → ((a : PlainAssign) → In list a → OwnTarget kids part a.target) → called_in C (map (moved_assign (own_port kids part)) list) ≡ kept_done kids (called_in cells list)
  list_called [] own = refl
  list_called (a ∷ rest) own =
      target_called a.target (called_in cells rest) (called_in C (map (moved_assign (own_port kids part)) rest)) (own a (inl refl)) (list_called rest (λ x j. own x (inr j)))

  pub its_called : (g : ℕ) → g < length part.groups → called flat g ≡ kept_done kids (called i g)
  its_called g there =
      ap (λ x. called_in C x.assigns) (its_group g there)
      ∙ list_called (group_at part g).assigns (λ a j. fair.targets.groups (group_at part g) a (in_at part.groups g (group_at part g) (there_below part.groups g there)) j)

  module _ (held : Held) (below : Children)
      (ran : (c : ℕ) (child : Instance) → cell_at cells c ≡ OfInstance child → is_static child ≡ false → (h : Held) (s z : State) (n : ℕ) → Stands i 0 s z → IsSettled flat z
      → AnswerAs child (below c h (under c s) n) (control_below C (kept_at kids c) h (under (kept_at kids c) z) n)) where
    abbrev new : Leaves State Fault
    new = whole_leaves i below held

    abbrev old : Leaves State Fault
    old = leaves flat (control_below C) held

    still : (statement : PlainStatement) (z : State) (n : ℕ) → IsSettled flat z → budgets.Leaves (IsSettled flat) (run old statement z n)
    still statement z n settled = settles_statement flat its.idle held statement z n settled

    -- THE LEAVES
    call_as : (g : ℕ) (o p : Option ℕ) → p ≡ kept_done kids o → CallAsks i flat g o → (s z : State) (n : ℕ) → Stands i 0 s z → IsSettled flat z
        → AnswerAs i (whole.call_or_turns i below held g o s n) (calls.call_or_turns flat (control_below C) held g p z n)
    call_as g None p e asks s z n stands settled =
        subst (λ x. AnswerAs i (whole.call_or_turns i below held g None s n) (calls.call_or_turns flat (control_below C) held g x z n)) (sym e) (flat_group i flat held g asks n s z stands)
    call_as g (Some c) p e asks s z n stands settled =
        subst (λ x. AnswerAs i (whole.call_or_turns i below held g (Some c) s n) (calls.call_or_turns flat (control_below C) held g x z n)) (sym e)
        (flat_call i flat held g c asks.0 asks.1 (λ d h s1 m. below d h (under c s) m) (λ d h z1 m. control_below C d h (under (kept_at kids c) z) m)
        (λ h s1 z1 m there. ran c asks.0 asks.1.stands asks.1.dynamic h s z m stands settled) s z n stands)

    kind_as : (g : ℕ) → g < length part.groups → (kind : GroupKind) → KindAsks i flat g kind → (s z : State) (n : ℕ) → Stands i 0 s z → IsSettled flat z
        → AnswerAs i (whole.enable_kind i below held g kind s n) (calls.enable_kind flat (control_below C) held g kind z n)
    kind_as g there kinds.Plain asks s z n stands settled = call_as g (called i g) (called flat g) (its_called g there) asks s z n stands settled
    kind_as g there kinds.Comb asks s z n stands settled = call_as g (called i g) (called flat g) (its_called g there) asks s z n stands settled
    kind_as g there (kinds.Timed length) asks s z n stands settled = island_as i flat (Enable g) held asks s z n stands

    -- a static form runs as an island
    static_runs : (form : PlainForm) → IsStaticForm P form → (z : State) (n : ℕ) → run_form old form z n ≡ island flat held form z n
    static_runs Empty h z n = refl
    static_runs (Enable g) h z n = ap (λ kind. calls.enable_kind flat (control_below C) held g kind z n) h.1
    static_runs (Seq ss) h z n = absurd h
    static_runs (Par arms) h z n = absurd h
    static_runs (If test comb a b) h z n = absurd h
    static_runs (While test comb a) h z n = absurd h
    static_runs (Repeat count a) h z n = absurd h
    static_runs (StaticSeq length ss) h z n = refl
    static_runs (StaticPar length arms) h z n = refl
    static_runs (StaticIf length test a b) h z n = refl
    static_runs (StaticRepeat length count a) h z n = refl
    static_runs (Timed k) h z n = absurd h

    -- THE ARMS: what no later arm drives, none of their flat arms drives
    none_both : (xs ys : List ℕ) (e : ℕ) → groups_drive P xs e ≡ false → groups_drive P ys e ≡ false → groups_drive P (xs ++ ys) e ≡ false
    none_both [] ys e h k = k
    none_both (g ∷ xs) ys e h k = one (group_drives P g e) h (λ f. none_both xs ys e f k)
      where
        one : (b : Bool) → (b || groups_drive P xs e) ≡ false → (groups_drive P xs e ≡ false → groups_drive P (xs ++ ys) e ≡ false) → (b || groups_drive P (xs ++ ys) e) ≡ false
        one true f later = absurd (cc)
        one false f later = later f

    later_off : (arms : PlainStatements) → ArmsAsk i flat arms → (c e : ℕ) (child : PlainComponent) → c < length part.cells → kid_at kids c ≡ Some child → e < length child.cells → NoneDrive part c arms
        → groups_drive P (groups_in_all (flat_statements kids part arms)) (start_of kids part c + e) ≡ false
    later_off no_statements asks c e child there kid less none = refl
    later_off (a_statement s ss) asks c e child there kid less none =
        none_both (groups_of (flat_statement kids part s)) (groups_in_all (flat_statements kids part ss)) (start_of kids part c + e)
        (asks.1.0.block c e child there kid less none.0) (later_off ss asks.1.1.1 c e child there kid less none.1)

    arms_keep : (arms : PlainStatements) (z after : State) (n t e : ℕ) → IsSettled flat z → run_arms old arms z n ≡ End after t → groups_drive P (groups_in_all arms) e ≡ false
        → (path : Path) → after (e ∷ path) ≡ z (e ∷ path)
    arms_keep no_statements z after n t e settled ends off path = let same : z ≡ after = cc in ap (λ x. x (e ∷ path)) (sym same)
    arms_keep (a_statement s ss) z after n t e settled ends off path =
        (run_stays flat its.lawful its.bare held (Placed (Par (a_statement s ss)) no_place) z after n t ends).1 e (off, λ rest. settled (e ∷ rest)) path

    merged_as : (first : PlainStatement) (later : PlainStatements) → ArmsAsk i flat (a_statement first later) → (z : State) (n : ℕ) → IsSettled flat z → (a b w v : State) (t u : ℕ)
        → run old (flat_statement kids part first) z n ≡ End w t → run_arms old (flat_statements kids part later) z n ≡ End v u → Stands i 0 a w → Stands i 0 b v
        → Stands i 0 (merge (drives_all part first) a b) (merge (drives P (flat_statement kids part first)) w v)
    merged_as first later asks z n settled a b w v t u one other h k =
        merged_stands part cells its.fair (drives_all part first) (drives P (flat_statement kids part first)) a b w v
        (λ c there kid. ap (drives P (flat_statement kids part first)) (zero_plus (kept_at kids c)) ∙ asks.1.0.kept c there kid)
        (λ c e child there kid less off. ap (λ m. drives P (flat_statement kids part first) (m + e)) (zero_plus (start_of kids part c)) ∙ asks.1.0.block c e child there kid less off)
        (λ c e child there kid less on off path. untouched c e child there kid less on off path) h k
      where
        untouched : (c e : ℕ) (child : PlainComponent) → c < length part.cells → kid_at kids c ≡ Some child → e < length child.cells → drives_all part first c ≡ true
            → drives P (flat_statement kids part first) (0 + start_of kids part c + e) ≡ false → (path : Path) → v ((0 + start_of kids part c + e) ∷ path) ≡ w ((0 + start_of kids part c + e) ∷ path)
        untouched c e child there kid less on off path =
            arms_keep (flat_statements kids part later) z v n u (0 + start_of kids part c + e) settled other
            (ap (λ m. groups_drive P (groups_in_all (flat_statements kids part later)) (m + e)) (zero_plus (start_of kids part c)) ∙ later_off later asks.1.1.1 c e child there kid less (asks.1.1.0 c on)) path
            ∙ sym ((run_stays flat its.lawful its.bare held (flat_statement kids part first) z w n t one).1 (0 + start_of kids part c + e) (off, λ rest. settled ((0 + start_of kids part c + e) ∷ rest)) path)

    abbrev pub whole_test : PortRef → Option ℕ → State → Test Fault
    whole_test = test i held

    abbrev pub flat_tests : PortRef → Option ℕ → State → Test Fault
    flat_tests p = test flat held (own_port kids part p)

    -- A STATEMENT
    mutual
      pub statement_as : (st : PlainStatement) → Asks i flat st → RunAs i flat (run new st) (run old (flat_statement kids part st))
      statement_as (Placed form place) asks s z n stands settled = form_as form asks s z n stands settled

      form_as : (form : PlainForm) → FormAsks i flat form → RunAs i flat (run_form new form) (run_form old (flat_form kids part form))
      form_as Empty asks s z n stands settled = runs_idle i flat idles settles s z n stands settled
      form_as (Enable g) asks s z n stands settled = (
        subst (λ kind. AnswerAs i (whole.enable_kind i below held g (group_at part g).kind s n) (calls.enable_kind flat (control_below C) held g kind z n)) (sym (ap (λ x. x.kind) (its_group g asks.0)))
            (kind_as g asks.0 (group_at part g).kind asks.1 s z n stands settled),
        still (Placed (Enable g) no_place) z n settled,
      )
      form_as (Seq no_statements) asks s z n stands settled = runs_idle i flat idles settles s z n stands settled
      form_as (Seq (a_statement first later)) asks s z n stands settled =
          ran_then i flat (run new first s n) (run old (flat_statement kids part first) z n) n (run_parts new later) (run_parts old (flat_statements kids part later))
          (statement_as first asks.0 s z n stands settled) (parts_as later asks.1)
      form_as (Par no_statements) asks s z n stands settled = runs_idle i flat idles settles s z n stands settled
      form_as (Par (a_statement first later)) asks s z n stands settled = arms_as (a_statement first later) asks s z n stands settled
      form_as (If port comb x y) asks s z n stands settled =
          runs_test i flat idles settles (whole_test port.port comb) (flat_tests port.port comb) (λ s1 z1 there. flat_test i flat held port.port comb s1 z1 asks.0.beside asks.0.known there)
          (run new x) (run old (flat_statement kids part x)) (run new y) (run old (flat_statement kids part y)) (statement_as x asks.1.0) (statement_as y asks.1.1) s z n stands settled
      form_as (While port comb x) asks s z n stands settled =
          runs_loop i flat idles settles (whole_test port.port comb) (flat_tests port.port comb) (λ s1 z1 there. flat_test i flat held port.port comb s1 z1 asks.0.beside asks.0.known there)
          (suc n) (run new x) (run old (flat_statement kids part x)) (statement_as x asks.1) s z n stands settled
      form_as (Repeat zero x) asks s z n stands settled = runs_idle i flat idles settles s z n stands settled
      form_as (Repeat (suc k) x) asks s z n stands settled =
          runs_rounds i flat (suc k) (run new x) (run old (flat_statement kids part x)) (statement_as x asks) s z n stands settled
      form_as (StaticSeq length ss) asks s z n stands settled = (island_as i flat (StaticSeq length ss) held asks s z n stands, still (Placed (flat_form kids part (StaticSeq length ss)) no_place) z n settled)
      form_as (StaticPar length arms) asks s z n stands settled = (island_as i flat (StaticPar length arms) held asks s z n stands, still (Placed (flat_form kids part (StaticPar length arms)) no_place) z n settled)
      form_as (StaticIf length port x y) asks s z n stands settled = (island_as i flat (StaticIf length port x y) held asks s z n stands, still (Placed (flat_form kids part (StaticIf length port x y)) no_place) z n settled)
      form_as (StaticRepeat length count x) asks s z n stands settled =
          (island_as i flat (StaticRepeat length count x) held asks s z n stands, still (Placed (flat_form kids part (StaticRepeat length count x)) no_place) z n settled)
      form_as (Timed k) asks s z n stands settled = (
        subst (AnswerAs i (whole.whole_island i held (Timed k) s n)) (sym (static_runs (flat_form kids part (Timed k)) asks.1 z n)) (island_as i flat (Timed k) held asks.0 s z n stands),
        still (Placed (flat_form kids part (Timed k)) no_place) z n settled,
      )

      parts_as : (ss : PlainStatements) → AllAsk i flat ss → RunAs i flat (run_parts new ss) (run_parts old (flat_statements kids part ss))
      parts_as no_statements asks s z n stands settled = ((z, refl, stands), settled)
      parts_as (a_statement first later) asks s z n stands settled =
          ran_then i flat (run new first s n) (run old (flat_statement kids part first) z n) n (run_parts new later) (run_parts old (flat_statements kids part later))
          (statement_as first asks.0 s z n stands settled) (parts_as later asks.1)

      arms_as : (ss : PlainStatements) → ArmsAsk i flat ss → RunAs i flat (run_arms new ss) (run_arms old (flat_statements kids part ss))
      arms_as no_statements asks s z n stands settled = ((z, refl, stands), settled)
      arms_as (a_statement first later) asks s z n stands settled = (
        both_as i (merge (drives_all part first)) (merge (drives P (flat_statement kids part first))) (run new first s n) (run_arms new later s n)
            (run old (flat_statement kids part first) z n) (run_arms old (flat_statements kids part later) z n)
            (statement_as first asks.0 s z n stands settled).0 (arms_as later asks.1.1.1 s z n stands settled).0
            (λ a b w v t u one other h k. merged_as first later asks z n settled a b w v t u one other h k),
        still (Placed (Par (flat_statements kids part (a_statement first later))) no_place) z n settled,
      )
