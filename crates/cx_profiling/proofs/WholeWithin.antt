-- WHAT A STATEMENT WITH STATIC INVOKES COUNTS of the instance itself its groups act by, or the groups that its invokes capture by; and of what is
-- below a cell nothing, where it drives no port of the cell and invokes it not.
use Rattle.std.proofs.Common.{◌≡◌, ℕ, zero, suc, ◌<◌, inl, inr, Bool, true, false, nat_eq, if◌then◌else◌, List, [], ◌∷◌, ◌++◌, length, Option, Some, None, refl, ap, ◌∙◌, subst}
use Rattle.std.proofs.lemmas.Bool.{both_ways, ne_eqb}
use Rattle.cx_text.proofs.MemberLaws.{in_left, in_right}
use Rattle.cx_text.specs.Members.{In}
use Rattle.cx_meaning.specs.declared.kinds.GroupKind.{GroupKind}
use Rattle.cx_meaning.specs.declared.kinds.GroupKind.TheVariants as kinds
use Rattle.cx_meaning.specs.Designs.{PlainComponent, group_at, PlainForm, Empty, Enable, Seq, Par, If, While, Repeat, StaticSeq, StaticPar, StaticIf, StaticRepeat, Timed, PlainStatement, Placed, form_of, PlainStatements, no_statements, a_statement, list_of}
use Rattle.cx_meaning.specs.Instances.{Instance, Node, Cells, Path, State, under}
use Rattle.cx_meaning.specs.Active.{Entry, group, offset_in}
use Rattle.cx_meaning.specs.Sights.{Held}
use Rattle.cx_meaning.specs.Cycles.{Fault}
use Rattle.cx_meaning.specs.Answers.{Turn, Ends, Goes}
use Rattle.cx_meaning.specs.Answers as answers
use Rattle.cx_meaning.specs.Control.{Leaves, groups_in, groups_of, groups_in_all, group_drives, run}
use Rattle.cx_meaning.specs.Calls.{called, inputs_of_call}
use Rattle.cx_meaning.specs.Running.{Children}
use Rattle.cx_meaning.proofs.SightsLaws.{behind_comb}
use Rattle.cx_rules.specs.Invokes.{form_lasts}
use Rattle.cx_rewrites.specs.Tallies.{plus, then_count, turn_count, Counting}
use Rattle.cx_flattening.specs.Events.{Event, the_invoke}
use Rattle.cx_flattening.specs.Deeds.{History, no_history, and_now, Deed, deeds_in, own_entries, deeds_below}
use Rattle.cx_flattening.specs.Controlled.{timed_in, timed_of, timed_all, AllControlled}
use Rattle.cx_flattening.specs.Lists.{island_events}
use Rattle.cx_flattening.specs.Whole.{look_below, whole_turn, group_turn, whole_leaves}
use Rattle.cx_flattening.proofs.DeedSources.{Does, rests, a_group, a_part, all_arms, one_branch, other_branch, a_round, an_invoke, a_capture, DoesArms, no_arms, an_arm, island_does}
use Rattle.cx_flattening.proofs.DeedsApart.{own-both, below-both, own-lower, lower-elsewhere, timed_parts}
use Rattle.cx_profiling.specs.Counting.{once, made_with, ChildrenCount}
use Rattle.cx_profiling.specs.WholeCounting.{whole_count_form, whole_count, whole_count_parts, whole_count_arms, done_with, whole_count_from, count_whole_island, count_whole_call_or_turns, count_whole_enable, whole_counting}
use Rattle.cx_profiling.proofs.CountWithin.{IsZero, NeverCounts, zero_plus, zero_then, zero_turns, zero_test, zero_loop, zero_rounds, called_drives}
use Rattle.cx_profiling.proofs.BareCounts.{nothing_done}
use Rattle.cx_meaning.proofs.ControlLaws.{in_parts}

pub groups_form : (s : PlainStatement) → groups_in (form_of s) ≡ groups_of s
groups_form (Placed form place) = refl

pub timed_form : (s : PlainStatement) → timed_in (form_of s) ≡ timed_of s
timed_form (Placed form place) = refl

offset_both : (xs ys : List Entry) (g : ℕ) → offset_in xs g ≡ None → offset_in ys g ≡ None → offset_in (xs ++ ys) g ≡ None
offset_both [] ys g e f = f
offset_both (x ∷ xs) ys g e f = by (nat_eq x.group g) e (offset_both xs ys g)
  where
    by : (b : Bool) → (if b then Some x.offset else offset_in xs g) ≡ None → (offset_in xs g ≡ None → offset_in ys g ≡ None → offset_in (xs ++ ys) g ≡ None) → (if b then Some x.offset else offset_in (xs ++ ys) g) ≡ None
    by true h later = absurd (cc)
    by false h later = later h f

module _ (part : PlainComponent) (cells : Cells) where
  abbrev i : Instance
  i = Node part cells

  module _ (g : ℕ) where
    mutual
      own_none : (form : PlainForm) (ds : List Deed) → Does i form ds → (In (groups_in form) g → ⊥) → ((j : ℕ) → In (timed_in form) j → (the_invoke part j).captures ≡ Some g → ⊥) → offset_in (own_entries ds) g ≡ None
      own_none _ _ rests n c = refl
      own_none _ _ (a_group e) n c = ap (λ b. if b then Some e.offset else None) (ne_eqb e.group g (λ same. n (inl same)))
      own_none (StaticSeq written ss) ds (a_part s among does) n c =
          own_none (form_of s) ds does (λ k. n (in_parts ss s g among (subst (λ l. In l g) (groups_form s) k))) (λ j k. c j (timed_parts ss s j among (subst (λ l. In l j) (timed_form s) k)))
      own_none (StaticPar written ss) ds (all_arms does) n c = own_arms (list_of ss) ds does (λ s among k. n (in_parts ss s g among k)) (λ s among j k. c j (timed_parts ss s j among k))
      own_none (StaticIf written test a b) ds (one_branch does) n c =
          own_none (form_of a) ds does (λ k. n (in_left (groups_of a) (groups_of b) g (subst (λ l. In l g) (groups_form a) k))) (λ j k. c j (in_left (timed_of a) (timed_of b) j (subst (λ l. In l j) (timed_form a) k)))
      own_none (StaticIf written test a b) ds (other_branch does) n c =
          own_none (form_of b) ds does (λ k. n (in_right (groups_of a) (groups_of b) g (subst (λ l. In l g) (groups_form b) k))) (λ j k. c j (in_right (timed_of a) (timed_of b) j (subst (λ l. In l j) (timed_form b) k)))
      own_none (StaticRepeat written count a) ds (a_round does) n c = own_none (form_of a) ds does (λ k. n (subst (λ l. In l g) (groups_form a) k)) (λ j k. c j (subst (λ l. In l j) (timed_form a) k))
      own_none _ _ (an_invoke {kds = kds} j child less at static does) n c = ap (λ l. offset_in l g) (own-lower (the_invoke part j).cell kds)
      own_none _ _ (a_capture j e less captures) n c = ap (λ b. if b then Some e.offset else None) (ne_eqb e.group g (λ same. c j (inl refl) (captures ∙ ap (λ (x : ℕ). Some x) same)))

      own_arms : (ss : List PlainStatement) (ds : List Deed) → DoesArms i ss ds → ((s : PlainStatement) → In ss s → In (groups_of s) g → ⊥) → ((s : PlainStatement) → In ss s → (j : ℕ) → In (timed_of s) j → (the_invoke part j).captures ≡ Some g → ⊥)
          → offset_in (own_entries ds) g ≡ None
      own_arms _ _ no_arms n c = refl
      own_arms _ _ (an_arm {ss = ss} {ds = ds} {ws = ws} s does later) n c =
          ap (λ l. offset_in l g) (own-both ds ws)
          ∙ offset_both (own_entries ds) (own_entries ws) g (own_none (form_of s) ds does (λ k. n s (inl refl) (subst (λ l. In l g) (groups_form s) k)) (λ j k. c s (inl refl) j (subst (λ l. In l j) (timed_form s) k)))
          (own_arms ss ws later (λ x among k. n x (inr among) k) (λ x among j k. c x (inr among) j k))

  module _ (e : ℕ) where
    mutual
      below_none : (form : PlainForm) (ds : List Deed) → Does i form ds → ((j : ℕ) → In (timed_in form) j → (the_invoke part j).cell ≡ e → ⊥) → deeds_below e ds ≡ []
      below_none _ _ rests c = refl
      below_none _ _ (a_group x) c = refl
      below_none (StaticSeq written ss) ds (a_part s among does) c = below_none (form_of s) ds does (λ j k. c j (timed_parts ss s j among (subst (λ l. In l j) (timed_form s) k)))
      below_none (StaticPar written ss) ds (all_arms does) c = none_arms (list_of ss) ds does (λ s among j k. c j (timed_parts ss s j among k))
      below_none (StaticIf written test a b) ds (one_branch does) c = below_none (form_of a) ds does (λ j k. c j (in_left (timed_of a) (timed_of b) j (subst (λ l. In l j) (timed_form a) k)))
      below_none (StaticIf written test a b) ds (other_branch does) c = below_none (form_of b) ds does (λ j k. c j (in_right (timed_of a) (timed_of b) j (subst (λ l. In l j) (timed_form b) k)))
      below_none (StaticRepeat written count a) ds (a_round does) c = below_none (form_of a) ds does (λ j k. c j (subst (λ l. In l j) (timed_form a) k))
      below_none _ _ (an_invoke {kds = kds} j child less at static does) c = lower-elsewhere (the_invoke part j).cell e kds (c j (inl refl))
      below_none _ _ (a_capture j x less captures) c = refl

      none_arms : (ss : List PlainStatement) (ds : List Deed) → DoesArms i ss ds → ((s : PlainStatement) → In ss s → (j : ℕ) → In (timed_of s) j → (the_invoke part j).cell ≡ e → ⊥) → deeds_below e ds ≡ []
      none_arms _ _ no_arms c = refl
      none_arms _ _ (an_arm {ss = ss} {ds = ds} {ws = ws} s does later) c =
          below-both e ds ws ∙ ap (λ l. l ++ deeds_below e ws) (below_none (form_of s) ds does (λ j k. c s (inl refl) j (subst (λ l. In l j) (timed_form s) k))) ∙ none_arms ss ws later (λ x among j k. c x (inr among) j k)

-- over leaves that never count an entry for groups and static invokes with a property
module _ (path : Path) (g : ℕ) {S F : Type 0} (L : Leaves S F) (C : Counting S) (P : ℕ → Type 0) (Q : ℕ → Type 0) (of_enable : (h : ℕ) → P h → NeverCounts path g (C.enable h))
    (of_island : (form : PlainForm) → ((h : ℕ) → In (groups_in form) h → P h) → ((j : ℕ) → In (timed_in form) j → Q j) → NeverCounts path g (C.island form)) where
  mutual
    form_zero : (form : PlainForm) → ((h : ℕ) → In (groups_in form) h → P h) → ((j : ℕ) → In (timed_in form) j → Q j) → NeverCounts path g (whole_count_form L C form)
    form_zero Empty all q s n = refl
    form_zero (Enable h) all q s n = of_enable h (all h (inl refl)) s n
    form_zero (Seq parts) all q s n = parts_zero parts all q s n
    form_zero (Par arms) all q s n = arms_zero arms all q s n
    form_zero (If test comb a b) all q s n =
        zero_test path g L.rest (L.test test.port comb) (whole_count L C a) (whole_count L C b)
        (statement_zero a (λ h i. all h (behind_comb comb (groups_of a ++ groups_of b) h (in_left (groups_of a) (groups_of b) h i))) (λ j i. q j (in_left (timed_of a) (timed_of b) j i)))
        (statement_zero b (λ h i. all h (behind_comb comb (groups_of a ++ groups_of b) h (in_right (groups_of a) (groups_of b) h i))) (λ j i. q j (in_right (timed_of a) (timed_of b) j i))) s n
    form_zero (While test comb a) all q s n =
        zero_loop path g (suc n) L.rest (L.test test.port comb) (run L a) (whole_count L C a) (statement_zero a (λ h i. all h (behind_comb comb (groups_of a) h i)) q) s n
    form_zero (Repeat times a) all q s n = zero_rounds path g times (run L a) (whole_count L C a) (statement_zero a all q) s n
    form_zero (StaticSeq length parts) all q s n = of_island (StaticSeq length parts) all q s n
    form_zero (StaticPar length arms) all q s n = of_island (StaticPar length arms) all q s n
    form_zero (StaticIf length test a b) all q s n = of_island (StaticIf length test a b) all q s n
    form_zero (StaticRepeat length times a) all q s n = of_island (StaticRepeat length times a) all q s n
    form_zero (Timed k) all q s n = of_island (Timed k) all q s n

    pub statement_zero : (statement : PlainStatement) → ((h : ℕ) → In (groups_of statement) h → P h) → ((j : ℕ) → In (timed_of statement) j → Q j) → NeverCounts path g (whole_count L C statement)
    statement_zero (Placed form place) all q s n = form_zero form all q s n

    parts_zero : (parts : PlainStatements) → ((h : ℕ) → In (groups_in_all parts) h → P h) → ((j : ℕ) → In (timed_all parts) j → Q j) → NeverCounts path g (whole_count_parts L C parts)
    parts_zero no_statements all q s n = refl
    parts_zero (a_statement first rest) all q s n =
        zero_plus path g (whole_count L C first s n) (then_count (run L first s n) n (whole_count_parts L C rest))
        (statement_zero first (λ h i. all h (in_left (groups_of first) (groups_in_all rest) h i)) (λ j i. q j (in_left (timed_of first) (timed_all rest) j i)) s n)
        (zero_then path g (run L first s n) n (whole_count_parts L C rest) (parts_zero rest (λ h i. all h (in_right (groups_of first) (groups_in_all rest) h i)) (λ j i. q j (in_right (timed_of first) (timed_all rest) j i))))

    pub arms_zero : (arms : PlainStatements) → ((h : ℕ) → In (groups_in_all arms) h → P h) → ((j : ℕ) → In (timed_all arms) j → Q j) → NeverCounts path g (whole_count_arms L C arms)
    arms_zero no_statements all q s n = refl
    arms_zero (a_statement first rest) all q s n =
        zero_plus path g (whole_count L C first s n) (whole_count_arms L C rest s n)
        (statement_zero first (λ h i. all h (in_left (groups_of first) (groups_in_all rest) h i)) (λ j i. q j (in_left (timed_of first) (timed_all rest) j i)) s n)
        (arms_zero rest (λ h i. all h (in_right (groups_of first) (groups_in_all rest) h i)) (λ j i. q j (in_right (timed_of first) (timed_all rest) j i)) s n)

-- an island that never does it
module _ (i : Instance) (held : Held) (path : Path) (g : ℕ) where
  zero_from : (list : List Event) → ((h : History) (t : ℕ) → IsZero path g (done_with (deeds_in h t list))) → (left t : ℕ) (before : History) → NeverCounts path g (whole_count_from i held list left t before)
  zero_from list all zero t before s n = refl
  zero_from list all (suc left) t before s zero = refl
  zero_from list all (suc left) t before s (suc n) =
      by (whole_turn i held list t (and_now before t (look_below i held s)) s) (λ a. zero_from list all left (suc t) (and_now before t (look_below i held s)) a n)
    where
      by : (o : Turn State Fault) → ((a : State) → IsZero path g (whole_count_from i held list left (suc t) (and_now before t (look_below i held s)) a n))
          → IsZero path g (turn_count o (λ after. plus (done_with (deeds_in (and_now before t (look_below i held s)) t list)) (whole_count_from i held list left (suc t) (and_now before t (look_below i held s)) after n)))
      by Ends h = refl
      by (Goes a) h = zero_plus path g (done_with (deeds_in (and_now before t (look_below i held s)) t list)) (whole_count_from i held list left (suc t) (and_now before t (look_below i held s)) a n) (all (and_now before t (look_below i held s)) t) (h a)
      by (answers.Faults f) h = refl

module _ (part : PlainComponent) (cells : Cells) (controlled : AllControlled (Node part cells)) (kids : Children) (counts : ChildrenCount) (held : Held) where
  abbrev j : Instance
  j = Node part cells

  -- an entry of the instance itself
  module _ (g : ℕ) where
    abbrev IsOther : ℕ → Type 0
    IsOther h = h ≡ g → ⊥

    abbrev pub NoCapture : ℕ → Type 0
    NoCapture n = (n < length part.invokes) × ((the_invoke part n).captures ≡ Some g → ⊥)

    island_own : (form : PlainForm) → ((h : ℕ) → In (groups_in form) h → IsOther h) → ((n : ℕ) → In (timed_in form) n → NoCapture n) → NeverCounts [] g (count_whole_island j held form)
    island_own form all q s n =
        zero_from j held [] g (island_events j form)
        (λ h t. ap once (own_none part cells g form (deeds_in h t (island_events j form)) (island_does h t j form controlled (λ x k. (q x k).0)) (λ k. all g k refl) (λ x k. (q x k).1)))
        (form_lasts part form) 0 no_history s n

    turns_own : (h : ℕ) → IsOther h → NeverCounts [] g (count_whole_call_or_turns j counts held h None)
    turns_own h other s n = zero_turns [] g (group_turn j held h) (made_with (group h)) (ap (λ b. once (if b then Some 0 else None)) (ne_eqb h g other)) s n

    call_own : (h : ℕ) (c : Option ℕ) → IsOther h → NeverCounts [] g (count_whole_call_or_turns j counts held h c)
    call_own h None other s n = turns_own h other s n
    call_own h (Some c) other s n = refl

    enable_own : (h : ℕ) (kind : GroupKind) → IsOther h → NeverCounts [] g (count_whole_enable j counts held h kind)
    enable_own h kinds.Plain other s n = call_own h (called j h) other s n
    enable_own h kinds.Comb other s n = call_own h (called j h) other s n
    enable_own h (kinds.Timed length) other s n = island_own (Enable h) (λ x k. only x k) (λ x k. absurd k) s n
      where
        only : (x : ℕ) → In (h ∷ []) x → x ≡ g → ⊥
        only x (inl e) f = other (e ∙ f)
        only x (inr k) f = absurd k

    pub whole_own_zero : (statement : PlainStatement) → (In (groups_of statement) g → ⊥) → ((n : ℕ) → In (timed_of statement) n → NoCapture n) → NeverCounts [] g (whole_count (whole_leaves j kids held) (whole_counting j counts held) statement)
    whole_own_zero statement apart q =
        statement_zero [] g (whole_leaves j kids held) (whole_counting j counts held) IsOther NoCapture (λ h other. enable_own h (group_at part h).kind other) island_own statement
        (λ h k e. apart (subst (In (groups_of statement)) e k)) q

    pub whole_own_arms : (arms : PlainStatements) → (In (groups_in_all arms) g → ⊥) → ((n : ℕ) → In (timed_all arms) n → NoCapture n) → NeverCounts [] g (whole_count_arms (whole_leaves j kids held) (whole_counting j counts held) arms)
    whole_own_arms arms apart q =
        arms_zero [] g (whole_leaves j kids held) (whole_counting j counts held) IsOther NoCapture (λ h other. enable_own h (group_at part h).kind other) island_own arms
        (λ h k e. apart (subst (In (groups_in_all arms)) e k)) q

  -- an entry below a cell
  module _ (c : ℕ) (path : Path) (g : ℕ) where
    abbrev pub IsIdle : ℕ → Type 0
    IsIdle h = group_drives part h c ≡ false

    abbrev pub NotInvoked : ℕ → Type 0
    NotInvoked n = (n < length part.invokes) × ((the_invoke part n).cell ≡ c → ⊥)

    island_below : (form : PlainForm) → ((h : ℕ) → In (groups_in form) h → IsIdle h) → ((n : ℕ) → In (timed_in form) n → NotInvoked n) → NeverCounts (c ∷ path) g (count_whole_island j held form)
    island_below form all q s n =
        zero_from j held (c ∷ path) g (island_events j form)
        (λ h t. ap (λ l. done_with l path g) (below_none part cells c form (deeds_in h t (island_events j form)) (island_does h t j form controlled (λ x k. (q x k).0)) (λ x k. (q x k).1)) ∙ nothing_done path g)
        (form_lasts part form) 0 no_history s n

    call_below : (h : ℕ) (e : Option ℕ) → called j h ≡ e → IsIdle h → NeverCounts (c ∷ path) g (count_whole_call_or_turns j counts held h e)
    call_below h None is other s n = zero_turns (c ∷ path) g (group_turn j held h) (made_with (group h)) refl s n
    call_below h (Some e) is other s n =
        ap (λ b. if b then counts e (inputs_of_call j held h e s) (under e s) n path g else 0)
        (ne_eqb e c (λ same. both_ways (group_drives part h c) other (subst (λ x. group_drives part h x ≡ true) same (called_drives cells (group_at part h).assigns e is))))

    enable_below : (h : ℕ) (kind : GroupKind) → IsIdle h → NeverCounts (c ∷ path) g (count_whole_enable j counts held h kind)
    enable_below h kinds.Plain other s n = call_below h (called j h) refl other s n
    enable_below h kinds.Comb other s n = call_below h (called j h) refl other s n
    enable_below h (kinds.Timed length) other s n = island_below (Enable h) (λ x k. only x k) (λ x k. absurd k) s n
      where
        only : (x : ℕ) → In (h ∷ []) x → IsIdle x
        only x (inl e) = subst (λ y. group_drives part y c ≡ false) e other
        only x (inr k) = absurd k

    pub whole_below_zero : (statement : PlainStatement) → ((h : ℕ) → In (groups_of statement) h → IsIdle h) → ((n : ℕ) → In (timed_of statement) n → NotInvoked n)
        → NeverCounts (c ∷ path) g (whole_count (whole_leaves j kids held) (whole_counting j counts held) statement)
    whole_below_zero statement all q =
        statement_zero (c ∷ path) g (whole_leaves j kids held) (whole_counting j counts held) IsIdle NotInvoked (λ h other. enable_below h (group_at part h).kind other) island_below statement all q

    pub whole_below_arms : (arms : PlainStatements) → ((h : ℕ) → In (groups_in_all arms) h → IsIdle h) → ((n : ℕ) → In (timed_all arms) n → NotInvoked n)
        → NeverCounts (c ∷ path) g (whole_count_arms (whole_leaves j kids held) (whole_counting j counts held) arms)
    whole_below_arms arms all q =
        arms_zero (c ∷ path) g (whole_leaves j kids held) (whole_counting j counts held) IsIdle NotInvoked (λ h other. enable_below h (group_at part h).kind other) island_below arms all q
