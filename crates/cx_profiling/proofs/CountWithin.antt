-- WHAT A STATEMENT COUNTS it enables, or its calls do: an entry that no group of it may count is not counted.
use Rattle.std.proofs.Common.{◌≡◌, ℕ, zero, suc, ◌-◌, inl, inr, Bool, true, false, ◌||◌, ◌&&◌, nat_le, List, [], ◌∷◌, ◌++◌, Option, Some, None, refl, ap, ◌∙◌, subst, arith}
use Rattle.std.specs.Prelude.{if◌then◌else◌, nat_lt}
use Rattle.std.proofs.lemmas.Bool.{ne_eqb, both_ways}
use Rattle.cx_text.proofs.MemberLaws.{in_left, in_right}
use Rattle.cx_text.specs.Members.{In}
use Rattle.cx_meaning.specs.declared.kinds.GroupKind.{GroupKind}
use Rattle.cx_meaning.specs.declared.kinds.GroupKind.TheVariants as kinds
use Rattle.cx_meaning.specs.declared.ports.PortRef.{PortRef}
use Rattle.cx_meaning.specs.declared.ports.PortRef.TheVariants as ports
use Rattle.cx_meaning.specs.Designs.{PlainAssign, PlainForm, Empty, Enable, Seq, Par, If, While, Repeat, StaticSeq, StaticPar, StaticIf, StaticRepeat, Timed, PlainStatement, Placed, PlainStatements, no_statements, a_statement, group_at}
use Rattle.cx_meaning.specs.Instances.{Instance, Cells, At, Nothing, OfRow, OfInstance, cell_at, cells_of, part_of, Path, State, under}
use Rattle.cx_meaning.specs.Active.{Entry, group, offset_in, entries, nothing}
use Rattle.cx_meaning.specs.Sights.{Held, seen}
use Rattle.cx_meaning.specs.Cycles.{Fault}
use Rattle.cx_meaning.specs.Answers.{Answer, End, More, Meaning, Turn, Ends, Goes, Test, Holds, Fails, Unclear}
use Rattle.cx_meaning.specs.Answers as answers
use Rattle.cx_meaning.specs.Control.{Leaves, groups_in, groups_of, groups_in_all, group_drives, groups_drive, drives, assigns_drive, targets_cell, run}
use Rattle.cx_meaning.specs.Islands.{Occurrence, Runs, Looks, History, no_history, and_now, hold, entry_if, active_in, form_flat, form_length, island_turn}
use Rattle.cx_meaning.specs.Calls.{group_turn, inputs_of_call, called, called_in, called_by, if_instance}
use Rattle.cx_meaning.specs.Running.{Children, leaves}
use Rattle.cx_meaning.proofs.ControlLaws.{groups_drive_in}
use Rattle.cx_meaning.proofs.InstancesLemmas.{just_same}
use Rattle.cx_meaning.proofs.SightsLaws.{behind_comb}
use Rattle.cx_rules.specs.Items.{Dynamic}
use Rattle.cx_frames.proofs.IslandFrames.{AllFine, form_fine}
use Rattle.cx_rewrites.specs.Tallies.{Tally, none, plus, Counted, chosen_count, then_count, turn_count, turns_count, test_count, loop_count, rounds_count, Counting, count_form, count, count_parts, count_arms, island_count_from}
use Rattle.cx_profiling.specs.Counting.{once, made_with, ChildrenCount, count_island, count_call_or_turns, count_enable, counting}

-- one entry of a tally
module _ (path : Path) (g : ℕ) where
  abbrev pub IsZero : Tally → Type 0
  IsZero tally = tally path g ≡ 0

  abbrev pub NeverCounts : {S : Type 0} → Counted S → Type 0
  NeverCounts {S} counts = (s : S) (n : ℕ) → IsZero (counts s n)

  pub zero_plus : (a b : Tally) → IsZero a → IsZero b → IsZero (plus a b)
  zero_plus a b e f = omega (arith, e, f)

  module _ {S F : Type 0} where
    pub zero_then : (o : Answer S F) (n : ℕ) (counts : Counted S) → NeverCounts counts → IsZero (then_count o n counts)
    zero_then (End s t) n counts h = h s (n - t)
    zero_then (answers.Fault f t) n counts h = refl
    zero_then More n counts h = refl

    pub zero_turns : (turn : S → Turn S F) (one : Tally) → IsZero one → NeverCounts (turns_count turn one)
    zero_turns turn one e s zero = refl
    zero_turns turn one e s (suc n) = by (turn s) (λ a. zero_turns turn one e a n)
      where
        by : (t : Turn S F) → ((a : S) → IsZero (turns_count turn one a n)) → IsZero (turn_count t (λ after. plus one (turns_count turn one after n)))
        by Ends h = refl
        by (Goes a) h = zero_plus one (turns_count turn one a n) e (h a)
        by (answers.Faults f) h = refl

    pub zero_test : (rest : S → S) (test : S → Test F) (first second : Counted S) → NeverCounts first → NeverCounts second → NeverCounts (test_count rest test first second)
    zero_test rest test first second h k s zero = refl
    zero_test rest test first second h k s (suc n) = by (test s)
      where
        by : (t : Test F) → IsZero (chosen_count t (first (rest s) n) (second (rest s) n))
        by Holds = h (rest s) n
        by Fails = k (rest s) n
        by (Unclear f) = refl

    pub zero_loop : (tests : ℕ) (rest : S → S) (test : S → Test F) (body : Meaning S F) (counts : Counted S) → NeverCounts counts → NeverCounts (loop_count tests rest test body counts)
    zero_loop zero rest test body counts h s n = refl
    zero_loop (suc tests) rest test body counts h s n =
        zero_test rest test (λ s1 k. plus (counts s1 k) (then_count (body s1 k) k (loop_count tests rest test body counts))) (λ s1 k. none)
        (λ s1 k. zero_plus (counts s1 k) (then_count (body s1 k) k (loop_count tests rest test body counts)) (h s1 k) (zero_then (body s1 k) k (loop_count tests rest test body counts) (zero_loop tests rest test body counts h)))
        (λ s1 k. refl) s n

    pub zero_rounds : (times : ℕ) (body : Meaning S F) (counts : Counted S) → NeverCounts counts → NeverCounts (rounds_count times body counts)
    zero_rounds zero body counts h s n = refl
    zero_rounds (suc times) body counts h s n =
        zero_plus (counts s n) (then_count (body s n) n (rounds_count times body counts)) (h s n) (zero_then (body s n) n (rounds_count times body counts) (zero_rounds times body counts h))

    -- over leaves that never count the entry for groups with a property
    module _ (L : Leaves S F) (C : Counting S) (P : ℕ → Type 0) (of_enable : (h : ℕ) → P h → NeverCounts (C.enable h))
        (of_island : (form : PlainForm) → ((h : ℕ) → In (groups_in form) h → P h) → NeverCounts (C.island form)) where
      mutual
        form_zero : (form : PlainForm) → ((h : ℕ) → In (groups_in form) h → P h) → NeverCounts (count_form L C form)
        form_zero Empty all s n = refl
        form_zero (Enable h) all s n = of_enable h (all h (inl refl)) s n
        form_zero (Seq parts) all s n = parts_zero parts all s n
        form_zero (Par arms) all s n = arms_zero arms all s n
        form_zero (If test comb a b) all s n =
            zero_test L.rest (L.test test.port comb) (count L C a) (count L C b)
            (statement_zero a (λ h i. all h (behind_comb comb (groups_of a ++ groups_of b) h (in_left (groups_of a) (groups_of b) h i))))
            (statement_zero b (λ h i. all h (behind_comb comb (groups_of a ++ groups_of b) h (in_right (groups_of a) (groups_of b) h i)))) s n
        form_zero (While test comb a) all s n =
            zero_loop (suc n) L.rest (L.test test.port comb) (run L a) (count L C a) (statement_zero a (λ h i. all h (behind_comb comb (groups_of a) h i))) s n
        form_zero (Repeat times a) all s n = zero_rounds times (run L a) (count L C a) (statement_zero a all) s n
        form_zero (StaticSeq length parts) all s n = of_island (StaticSeq length parts) all s n
        form_zero (StaticPar length arms) all s n = of_island (StaticPar length arms) all s n
        form_zero (StaticIf length test a b) all s n = of_island (StaticIf length test a b) all s n
        form_zero (StaticRepeat length times a) all s n = of_island (StaticRepeat length times a) all s n
        form_zero (Timed k) all s n = refl

        pub statement_zero : (statement : PlainStatement) → ((h : ℕ) → In (groups_of statement) h → P h) → NeverCounts (count L C statement)
        statement_zero (Placed form place) all s n = form_zero form all s n

        parts_zero : (parts : PlainStatements) → ((h : ℕ) → In (groups_in_all parts) h → P h) → NeverCounts (count_parts L C parts)
        parts_zero no_statements all s n = refl
        parts_zero (a_statement first rest) all s n =
            zero_plus (count L C first s n) (then_count (run L first s n) n (count_parts L C rest)) (statement_zero first (λ h i. all h (in_left (groups_of first) (groups_in_all rest) h i)) s n)
            (zero_then (run L first s n) n (count_parts L C rest) (parts_zero rest (λ h i. all h (in_right (groups_of first) (groups_in_all rest) h i))))

        pub arms_zero : (arms : PlainStatements) → ((h : ℕ) → In (groups_in_all arms) h → P h) → NeverCounts (count_arms L C arms)
        arms_zero no_statements all s n = refl
        arms_zero (a_statement first rest) all s n =
            zero_plus (count L C first s n) (count_arms L C rest s n) (statement_zero first (λ h i. all h (in_left (groups_of first) (groups_in_all rest) h i)) s n)
            (arms_zero rest (λ h i. all h (in_right (groups_of first) (groups_in_all rest) h i)) s n)

  -- an island counts what its active groups make
  zero_island : (made : List Entry → Tally) (i : Instance) (held : Held) (list : List Occurrence) → ((h : History) (t : ℕ) → IsZero (made (active_in h t list)))
      → (left t : ℕ) (before : History) → NeverCounts (island_count_from made i held list left t before)
  zero_island made i held list all zero t before s n = refl
  zero_island made i held list all (suc left) t before s zero = refl
  zero_island made i held list all (suc left) t before s (suc n) =
      by (island_turn i held list t (and_now before t (seen i held nothing s)) s) (λ a. zero_island made i held list all left (suc t) (and_now before t (seen i held nothing s)) a n)
    where
      by : (o : Turn State Fault) → ((a : State) → IsZero (island_count_from made i held list left (suc t) (and_now before t (seen i held nothing s)) a n))
          → IsZero (turn_count o (λ after. plus (made (active_in (and_now before t (seen i held nothing s)) t list)) (island_count_from made i held list left (suc t) (and_now before t (seen i held nothing s)) after n)))
      by Ends h = refl
      by (Goes a) h =
          zero_plus (made (active_in (and_now before t (seen i held nothing s)) t list)) (island_count_from made i held list left (suc t) (and_now before t (seen i held nothing s)) a n)
          (all (and_now before t (seen i held nothing s)) t) (h a)
      by (answers.Faults f) h = refl

-- a group that is not listed is not active
pub none_active : (G : ℕ → Type 0) (F : PortRef → Type 0) (g : ℕ) → ((x : ℕ) → G x → x ≡ g → ⊥) → (h : History) (t : ℕ) (list : List Occurrence) → AllFine G F list → offset_in (active_in h t list) g ≡ None
none_active G F g differ h t [] fine = refl
none_active G F g differ h t (Runs x from to conditions ∷ rest) ((good, all), fine) = by (nat_le from t && nat_lt t to && hold h conditions) (none_active G F g differ h t rest fine)
  where
    by : (b : Bool) → offset_in (active_in h t rest) g ≡ None → offset_in (entry_if b x (t - from) (active_in h t rest)) g ≡ None
    by true e = ap (λ b. if b then Some (t - from) else offset_in (active_in h t rest) g) (ne_eqb x g (differ x good)) ∙ e
    by false e = e
none_active G F g differ h t (Looks port at conditions ∷ rest) (here, fine) = none_active G F g differ h t rest fine

pub called_drives : (cells : Cells) (assigns : List PlainAssign) (e : ℕ) → called_in cells assigns ≡ Some e → assigns_drive assigns e ≡ true
called_drives cells [] e h = absurd (cc)
called_drives cells (a ∷ rest) e h = by a.target h (called_drives cells rest e)
  where
    on_left : (b c : Bool) → b ≡ true → (b || c) ≡ true
    on_left true c f = refl
    on_left false c f = absurd (cc)

    on_right : (b c : Bool) → c ≡ true → (b || c) ≡ true
    on_right true c f = refl
    on_right false c f = f

    at_cell : (c p : ℕ) (at : At) → if_instance at c (called_in cells rest) ≡ Some e → (called_in cells rest ≡ Some e → assigns_drive rest e ≡ true) → (targets_cell (ports.Cell c p) e || assigns_drive rest e) ≡ true
    at_cell c p Nothing h later = on_right (targets_cell (ports.Cell c p) e) (assigns_drive rest e) (later h)
    at_cell c p (OfRow row) h later = on_right (targets_cell (ports.Cell c p) e) (assigns_drive rest e) (later h)
    at_cell c p (OfInstance child) h later = let same : c ≡ e = cc in on_left (targets_cell (ports.Cell c p) e) (assigns_drive rest e) (subst (λ x. targets_cell (ports.Cell c p) x ≡ true) same (just_same c))

    by : (target : PortRef) → called_by cells target (called_in cells rest) ≡ Some e → (called_in cells rest ≡ Some e → assigns_drive rest e ≡ true) → (targets_cell target e || assigns_drive rest e) ≡ true
    by (ports.Cell c p) h later = at_cell c p (cell_at cells c) h later
    by (ports.Input n) h later = later h
    by (ports.Output n) h later = later h
    by (ports.Done x) h later = later h
    by (ports.Literal w v) h later = later h

module _ (i : Instance) (kids : Children) (counts : ChildrenCount) (held : Held) where
  fine_list : (P : ℕ → Type 0) (form : PlainForm) → ((h : ℕ) → In (groups_in form) h → P h) → AllFine P (λ q. Unit {0}) (form_flat (part_of i) form 0 [])
  fine_list P form all =
      form_fine P (λ q. Unit {0}) (λ f. Unit {0}) (λ f p h e. tt) (part_of i) Dynamic form 0 [] tt (record { groups = all; forms = λ v j. tt }) tt

  -- an entry of a group of the instance itself
  module _ (g : ℕ) where
    island_own : (form : PlainForm) → ((h : ℕ) → In (groups_in form) h → h ≡ g → ⊥) → NeverCounts [] g (count_island i held form)
    island_own form all s n =
        zero_island [] g (λ es. made_with (entries es)) i held (form_flat (part_of i) form 0 []) (λ h t. ap once (none_active (λ x. x ≡ g → ⊥) (λ q. Unit {0}) g (λ x other. other) h t (form_flat (part_of i) form 0 []) (fine_list (λ x. x ≡ g → ⊥) form all)))
        (form_length (part_of i) form) 0 no_history s n

    turns_own : (h : ℕ) → (h ≡ g → ⊥) → NeverCounts [] g (turns_count (group_turn i held h) (made_with (group h)))
    turns_own h other s n = zero_turns [] g (group_turn i held h) (made_with (group h)) (ap (λ b. once (if b then Some 0 else None)) (ne_eqb h g other)) s n

    call_own : (h : ℕ) (c : Option ℕ) → (h ≡ g → ⊥) → NeverCounts [] g (count_call_or_turns i counts held h c)
    call_own h None other s n = turns_own h other s n
    call_own h (Some c) other s n = refl

    enable_own : (h : ℕ) (kind : GroupKind) → (h ≡ g → ⊥) → NeverCounts [] g (count_enable i counts held h kind)
    enable_own h kinds.Plain other s n = call_own h (called i h) other s n
    enable_own h kinds.Comb other s n = call_own h (called i h) other s n
    enable_own h (kinds.Timed length) other s n = island_own (Enable h) (λ x j. only x j) s n
      where
        only : (x : ℕ) → In (h ∷ []) x → x ≡ g → ⊥
        only x (inl e) f = other (e ∙ f)
        only x (inr j) f = absurd j

    pub own_zero : (statement : PlainStatement) → (In (groups_of statement) g → ⊥) → NeverCounts [] g (count (leaves i kids held) (counting i counts held) statement)
    own_zero statement apart =
        statement_zero [] g (leaves i kids held) (counting i counts held) (λ h. h ≡ g → ⊥) (λ h other. enable_own h (group_at (part_of i) h).kind other) island_own statement
        (λ h j e. apart (subst (In (groups_of statement)) e j))

    pub own_arms_zero : (arms : PlainStatements) → (In (groups_in_all arms) g → ⊥) → NeverCounts [] g (count_arms (leaves i kids held) (counting i counts held) arms)
    own_arms_zero arms apart =
        arms_zero [] g (leaves i kids held) (counting i counts held) (λ h. h ≡ g → ⊥) (λ h other. enable_own h (group_at (part_of i) h).kind other) island_own arms
        (λ h j e. apart (subst (In (groups_in_all arms)) e j))

  -- an entry of a child
  module _ (c : ℕ) (path : Path) (g : ℕ) where
    island_below : (form : PlainForm) → ((h : ℕ) → In (groups_in form) h → group_drives (part_of i) h c ≡ false) → NeverCounts (c ∷ path) g (count_island i held form)
    island_below form all s n =
        zero_island (c ∷ path) g (λ es. made_with (entries es)) i held (form_flat (part_of i) form 0 []) (λ h t. refl) (form_length (part_of i) form) 0 no_history s n

    call_below : (h : ℕ) (e : Option ℕ) → called i h ≡ e → group_drives (part_of i) h c ≡ false → NeverCounts (c ∷ path) g (count_call_or_turns i counts held h e)
    call_below h None is other s n = zero_turns (c ∷ path) g (group_turn i held h) (made_with (group h)) refl s n
    call_below h (Some e) is other s n =
        ap (λ b. if b then counts e (inputs_of_call i held h e s) (under e s) n path g else 0)
        (ne_eqb e c (λ same. both_ways (group_drives (part_of i) h c) other (subst (λ x. group_drives (part_of i) h x ≡ true) same (called_drives (cells_of i) (group_at (part_of i) h).assigns e is))))

    enable_below : (h : ℕ) (kind : GroupKind) → group_drives (part_of i) h c ≡ false → NeverCounts (c ∷ path) g (count_enable i counts held h kind)
    enable_below h kinds.Plain other s n = call_below h (called i h) refl other s n
    enable_below h kinds.Comb other s n = call_below h (called i h) refl other s n
    enable_below h (kinds.Timed length) other s n = island_below (Enable h) (λ x j. only x j) s n
      where
        only : (x : ℕ) → In (h ∷ []) x → group_drives (part_of i) x c ≡ false
        only x (inl e) = subst (λ y. group_drives (part_of i) y c ≡ false) e other
        only x (inr j) = absurd j

    undriven : (gs : List ℕ) → groups_drive (part_of i) gs c ≡ false → (h : ℕ) → In gs h → group_drives (part_of i) h c ≡ false
    undriven gs none h j = by (group_drives (part_of i) h c) refl
      where
        by : (b : Bool) → group_drives (part_of i) h c ≡ b → b ≡ false
        by false e = refl
        by true e = absurd (both_ways (groups_drive (part_of i) gs c) none (groups_drive_in (part_of i) gs h c j e))

    pub below_zero : (statement : PlainStatement) → drives (part_of i) statement c ≡ false → NeverCounts (c ∷ path) g (count (leaves i kids held) (counting i counts held) statement)
    below_zero statement none =
        statement_zero (c ∷ path) g (leaves i kids held) (counting i counts held) (λ h. group_drives (part_of i) h c ≡ false) (λ h other. enable_below h (group_at (part_of i) h).kind other) island_below statement
        (undriven (groups_of statement) none)

    pub below_arms_zero : (arms : PlainStatements) → groups_drive (part_of i) (groups_in_all arms) c ≡ false → NeverCounts (c ∷ path) g (count_arms (leaves i kids held) (counting i counts held) arms)
    below_arms_zero arms none =
        arms_zero (c ∷ path) g (leaves i kids held) (counting i counts held) (λ h. group_drives (part_of i) h c ≡ false) (λ h other. enable_below h (group_at (part_of i) h).kind other) island_below arms
        (undriven (groups_in_all arms) none)
