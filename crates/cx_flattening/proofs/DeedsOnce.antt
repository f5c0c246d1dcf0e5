-- NO STATIC CHILD IS FED TWICE AT ONCE, and nothing leads in a circle under what is done at once: in a tree that keeps the rules.
use Rattle.std.proofs.Common.{◌≡◌, ℕ, zero, suc, ◌+◌, ◌≤◌, ◌⊎◌, inl, inr, ⊎_elim, Bool, true, false, List, [], ◌∷◌, ◌++◌, map, Option, Some, refl, sym, ap, ◌∙◌, subst, arith}
use Rattle.std.specs.Prelude.{nat_eq, slice_get}
use Rattle.std.proofs.lemmas.Bool.{cases_eq, eq-eqb, eqb-true}
use Rattle.std.proofs.lemmas.List.{append-nil}
use Rattle.cx_text.proofs.MemberLaws.{in_either, in_left, in_right}
use Rattle.cx_meaning.specs.Designs.{PlainComponent, PlainForm, StaticSeq, StaticPar, StaticIf, StaticRepeat, PlainStatement, form_of, PlainStatements, list_of}
use Rattle.cx_meaning.specs.Instances.{Instance, Node, Cells, no_cells, a_primitive, an_instance, OfInstance, part_of, cell_at}
use Rattle.cx_meaning.specs.Active.{Entry, entries}
use Rattle.cx_meaning.specs.Control.{groups_of, group_drives}
use Rattle.cx_text.specs.Members.{In}
use Rattle.cx_meaning.proofs.ActiveLemmas.{entry_of}
use Rattle.cx_meaning.proofs.InstancesLemmas.{instance_is}
use Rattle.cx_rules.specs.Circles.{IsAcyclic, AreAcyclic, AcyclicBelow}
use Rattle.cx_rules.specs.Footprints.{Reads}
use Rattle.cx_rules.specs.RaceRule.{Arms, IsShared}
use Rattle.cx_rules.specs.Invokes.{drives_all, driven}
use Rattle.cx_laws.proofs.EdgeLemmas.{enabled, StandApart, no_shared_circle}
use Rattle.cx_flattening.specs.Events.{the_invoke}
use Rattle.cx_flattening.specs.Deeds.{Deed, own_entries, deeds_below}
use Rattle.cx_flattening.specs.Controlled.{timed_of}
use Rattle.cx_flattening.specs.FedOnce.{one_more, count_fed, FedOnce, FedOnceBelow}
use Rattle.cx_flattening.specs.Seeing.{NoCircle, NoneBelow}
use Rattle.cx_flattening.proofs.FlatDeeds.{lower}
use Rattle.cx_flattening.proofs.DeedSources.{Does, rests, a_group, a_part, all_arms, one_branch, other_branch, a_round, an_invoke, a_capture, DoesArms, no_arms, an_arm}
use Rattle.cx_flattening.proofs.DeedsApart.{own-both, fed-both, below-both, own-lower, fed-lower, lower-there, lower-elsewhere, timed_parts, Stands, stands_whole, stands_part, stands_arm, stands_one, stands_other, stands_round, IsOwned, IsFedBy, owned_more, fed_more, owned_drives, fed_drives, owned_reads}
use Rattle.cx_flattening.proofs.FlatDeeper.{still_entries}
use Rattle.cx_flattening.proofs.Ruled.{IsRuled, AllRuled, AllRuledBelow}
use Rattle.cx_meaning.proofs.ControlLaws.{in_parts}

module _ (part : PlainComponent) (cells : Cells) where
  abbrev i : Instance
  i = Node part cells

  -- WHERE AN ENTRY AND A FEED COME FROM
  list_groups : (written : Option ℕ) (ss : PlainStatements) (s : PlainStatement) (g : ℕ) → In (list_of ss) s → IsOwned part (form_of s) g → IsOwned part (StaticSeq written ss) g
  list_groups written ss s g k own = owned_more part (StaticSeq written ss) s g (λ h m. in_parts ss s h k m) (λ j m. timed_parts ss s j k m) own

  list_fed : (written : Option ℕ) (ss : PlainStatements) (s : PlainStatement) (c : ℕ) → In (list_of ss) s → IsFedBy part (form_of s) c → IsFedBy part (StaticSeq written ss) c
  list_fed written ss s c k own = fed_more part (StaticSeq written ss) s c (λ j m. timed_parts ss s j k m) own

  -- an arm that has it
  record OfArm (ss : List PlainStatement) (P : PlainForm → Type 0) : Type 0 where
    number : ℕ
    arm : PlainStatement
    among : In ss arm
    is : slice_get ss number ≡ Some arm
    has : P (form_of arm)

  later_arm : (s : PlainStatement) (ss : List PlainStatement) (P : PlainForm → Type 0) → OfArm ss P → OfArm (s ∷ ss) P
  later_arm s ss P a = record { number = suc a.number; arm = a.arm; among = inr a.among; is = a.is; has = a.has }

  one_more_is : (b : Bool) (n : ℕ) → 1 ≤ one_more b n → n ≡ 0 → b ≡ true
  one_more_is true n h e = refl
  one_more_is false n h e = absurd (omega (arith, h, e))

  mutual
    entry_from : (form : PlainForm) (ds : List Deed) → Does i form ds → (e : Entry) → In (own_entries ds) e → IsOwned part form e.group
    entry_from _ _ rests e k = absurd k
    entry_from _ _ (a_group x) e (inl same) = inl (inl (ap (λ y. y.group) same))
    entry_from _ _ (a_group x) e (inr k) = absurd k
    entry_from (StaticSeq written ss) ds (a_part s among does) e k = list_groups written ss s e.group among (entry_from (form_of s) ds does e k)
    entry_from (StaticPar written ss) ds (all_arms does) e k = let a = entry_arm (list_of ss) ds does e k in list_groups written ss a.arm e.group a.among a.has
    entry_from (StaticIf written test a b) ds (one_branch does) e k =
        owned_more part (StaticIf written test a b) a e.group (λ h m. in_left (groups_of a) (groups_of b) h m) (λ j m. in_left (timed_of a) (timed_of b) j m) (entry_from (form_of a) ds does e k)
    entry_from (StaticIf written test a b) ds (other_branch does) e k =
        owned_more part (StaticIf written test a b) b e.group (λ h m. in_right (groups_of a) (groups_of b) h m) (λ j m. in_right (timed_of a) (timed_of b) j m) (entry_from (form_of b) ds does e k)
    entry_from (StaticRepeat written count a) ds (a_round does) e k = owned_more part (StaticRepeat written count a) a e.group (λ h m. m) (λ j m. m) (entry_from (form_of a) ds does e k)
    entry_from _ _ (an_invoke {kds = kds} j child less at static does) e k = absurd (subst (λ l. In l e) (own-lower (the_invoke part j).cell kds) k)
    entry_from _ _ (a_capture j x less captures) e (inl same) = inr (j, inl refl, less, captures ∙ ap (λ (y : Entry). Some y.group) same)
    entry_from _ _ (a_capture j x less captures) e (inr k) = absurd k

    entry_arm : (ss : List PlainStatement) (ds : List Deed) → DoesArms i ss ds → (e : Entry) → In (own_entries ds) e → OfArm ss (λ form. IsOwned part form e.group)
    entry_arm _ _ no_arms e k = absurd k
    entry_arm _ _ (an_arm {ss = ss} {ds = ds} {ws = ws} s does later) e k =
        ⊎_elim
        (λ m. record { number = 0; arm = s; among = inl refl; is = refl; has = entry_from (form_of s) ds does e m })
        (λ m. later_arm s ss (λ form. IsOwned part form e.group) (entry_arm ss ws later e m))
        (in_either (own_entries ds) (own_entries ws) e (subst (λ l. In l e) (own-both ds ws) k))

  mutual
    fed_from : (form : PlainForm) (ds : List Deed) (c : ℕ) → Does i form ds → 1 ≤ count_fed c ds → IsFedBy part form c
    fed_from _ _ c rests h = absurd (omega (arith, h))
    fed_from _ _ c (a_group x) h = absurd (omega (arith, h))
    fed_from (StaticSeq written ss) ds c (a_part s among does) h = list_fed written ss s c among (fed_from (form_of s) ds c does h)
    fed_from (StaticPar written ss) ds c (all_arms does) h = let a = fed_arm (list_of ss) ds c does h in list_fed written ss a.arm c a.among a.has
    fed_from (StaticIf written test a b) ds c (one_branch does) h = fed_more part (StaticIf written test a b) a c (λ j m. in_left (timed_of a) (timed_of b) j m) (fed_from (form_of a) ds c does h)
    fed_from (StaticIf written test a b) ds c (other_branch does) h = fed_more part (StaticIf written test a b) b c (λ j m. in_right (timed_of a) (timed_of b) j m) (fed_from (form_of b) ds c does h)
    fed_from (StaticRepeat written count a) ds c (a_round does) h = fed_more part (StaticRepeat written count a) a c (λ j m. m) (fed_from (form_of a) ds c does h)
    fed_from _ _ c (an_invoke {kds = kds} j child less at static does) h =
        (j, inl refl, less, eqb-true (the_invoke part j).cell c (one_more_is (nat_eq (the_invoke part j).cell c) (count_fed c (map (lower ((the_invoke part j).cell ∷ [])) kds)) h (fed-lower (the_invoke part j).cell c kds)))
    fed_from _ _ c (a_capture j x less captures) h = absurd (omega (arith, h))

    fed_arm : (ss : List PlainStatement) (ds : List Deed) (c : ℕ) → DoesArms i ss ds → 1 ≤ count_fed c ds → OfArm ss (λ form. IsFedBy part form c)
    fed_arm _ _ c no_arms h = absurd (omega (arith, h))
    fed_arm _ _ c (an_arm {ss = ss} {ds = ds} {ws = ws} s does later) h =
        by (count_fed c ds) refl (λ m. record { number = 0; arm = s; among = inl refl; is = refl; has = fed_from (form_of s) ds c does m }) (λ m. later_arm s ss (λ form. IsFedBy part form c) (fed_arm ss ws c later m))
      where
        by : (n : ℕ) → count_fed c ds ≡ n → (1 ≤ count_fed c ds → OfArm (s ∷ ss) (λ form. IsFedBy part form c)) → (1 ≤ count_fed c ws → OfArm (s ∷ ss) (λ form. IsFedBy part form c)) → OfArm (s ∷ ss) (λ form. IsFedBy part form c)
        by zero e one other = other (let all = fed-both c ds ws in omega (arith, h, all, e))
        by (suc n) e one other = one (omega (arith, e))

  module _ (ruled : IsRuled part i) where
    -- arms of a static par that is visited
    record Visit (all : List PlainStatement) : Type 0 where
      unshared : (c : ℕ) → IsShared part all c → ⊥

    visit_of : (written : Option ℕ) (ss : PlainStatements) → Stands part (StaticPar written ss) → Visit (list_of ss)
    visit_of written ss h =
        record { unshared = ruled.apart (record { context = h.context; form = StaticPar written ss; place = h.place }) (h.inside (record { context = h.context; form = StaticPar written ss; place = h.place }) (inl refl)) }

    abbrev two_arms : (all : List PlainStatement) (m n : ℕ) (a b : PlainStatement) → (m ≡ n → ⊥) → slice_get all m ≡ Some a → slice_get all n ≡ Some b → Arms all
    two_arms all m n a b apart e f = record { one = m; other = n; differ = apart; first = a; second = b; first_stands = e; second_stands = f }

    -- NOTHING IS FED TWICE
    mutual
      once : (form : PlainForm) (ds : List Deed) (c : ℕ) → Does i form ds → Stands part form → count_fed c ds ≤ 1
      once _ _ c rests h = omega arith
      once _ _ c (a_group x) h = omega arith
      once (StaticSeq written ss) ds c (a_part s among does) h = once (form_of s) ds c does (stands_part part s h among)
      once (StaticPar written ss) ds c (all_arms does) h = once_arms (list_of ss) (list_of ss) 0 ds c (λ n. ap (slice_get (list_of ss)) (plus n)) (λ s k. stands_arm part s h k) (visit_of written ss h) does
        where
          plus : (a : ℕ) → a ≡ 0 + a
          plus a = omega arith
      once (StaticIf written test a b) ds c (one_branch does) h = once (form_of a) ds c does (stands_one part h)
      once (StaticIf written test a b) ds c (other_branch does) h = once (form_of b) ds c does (stands_other part h)
      once (StaticRepeat written count a) ds c (a_round does) h = once (form_of a) ds c does (stands_round part h)
      once _ _ c (an_invoke {kds = kds} j child less at static does) h = single (nat_eq (the_invoke part j).cell c) (count_fed c (map (lower ((the_invoke part j).cell ∷ [])) kds)) (fed-lower (the_invoke part j).cell c kds)
        where
          single : (b : Bool) (n : ℕ) → n ≡ 0 → one_more b n ≤ 1
          single true n e = omega (arith, e)
          single false n e = omega (arith, e)
      once _ _ c (a_capture j x less captures) h = omega arith

      once_arms : (all ss : List PlainStatement) (k : ℕ) (ds : List Deed) (c : ℕ) → ((n : ℕ) → slice_get ss n ≡ slice_get all (k + n)) → ((s : PlainStatement) → In ss s → Stands part (form_of s)) → Visit all
          → DoesArms i ss ds → count_fed c ds ≤ 1
      once_arms all _ k _ c tail stands v no_arms = omega arith
      once_arms all _ k _ c tail stands v (an_arm {ss = ss} {ds = ds} {ws = ws} s does later) =
          by (count_fed c ds) (count_fed c ws) refl refl (once (form_of s) ds c does (stands s (inl refl)))
          (once_arms all ss (suc k) ws c (λ n. tail (suc n) ∙ ap (slice_get all) (plus k n)) (λ x m. stands x (inr m)) v later)
        where
          plus : (a b : ℕ) → a + suc b ≡ suc a + b
          plus a b = omega arith

          zero_plus : (a : ℕ) → a ≡ a + 0
          zero_plus a = omega arith

          by : (m n : ℕ) → count_fed c ds ≡ m → count_fed c ws ≡ n → count_fed c ds ≤ 1 → count_fed c ws ≤ 1 → count_fed c (ds ++ ws) ≤ 1
          by zero n e f one other = let all_fed = fed-both c ds ws in omega (arith, all_fed, e, other)
          by (suc m) zero e f one other = let all_fed = fed-both c ds ws in omega (arith, all_fed, f, one)
          by (suc m) (suc n) e f one other =
              let a = fed_arm ss ws c later (omega (arith, f)) in
              let s_drives : drives_all part s c ≡ true = fed_drives part s c (fed_from (form_of s) ds c does (omega (arith, e))) in
              let a_drives : drives_all part a.arm c ≡ true = fed_drives part a.arm c a.has in
              absurd (v.unshared c (two_arms all k (k + suc a.number) s a.arm (λ same. omega (arith, same)) (ap (slice_get all) (zero_plus k) ∙ sym (tail 0)) (sym (tail (suc a.number)) ∙ a.is), s_drives, driven a_drives))

    -- NO GROUP LOOKS AT WHAT ANOTHER DRIVES
    abbrev Clear : Entry → Entry → Type 0
    Clear e f = (e.group ≡ f.group → ⊥) → (c : ℕ) → group_drives part f.group c ≡ true → Reads part (enabled e.group) c → ⊥

    same_entry : (x e f : Entry) → x ≡ e → x ≡ f → Clear e f
    same_entry x e f one other apart c drives reads = apart (ap (λ (y : Entry). y.group) (sym one ∙ other))

    mutual
      clear : (form : PlainForm) (ds : List Deed) → Does i form ds → Stands part form → (e f : Entry) → In (own_entries ds) e → In (own_entries ds) f → Clear e f
      clear _ _ rests h e f k m = absurd k
      clear _ _ (a_group x) h e f (inl one) (inl other) = same_entry x e f one other
      clear _ _ (a_group x) h e f (inl one) (inr m) = absurd m
      clear _ _ (a_group x) h e f (inr k) m = absurd k
      clear (StaticSeq written ss) ds (a_part s among does) h e f k m = clear (form_of s) ds does (stands_part part s h among) e f k m
      clear (StaticPar written ss) ds (all_arms does) h e f k m =
          clear_arms (list_of ss) (list_of ss) 0 ds (λ n. ap (slice_get (list_of ss)) (plus n)) (λ s x. stands_arm part s h x) (visit_of written ss h) does e f k m
        where
          plus : (a : ℕ) → a ≡ 0 + a
          plus a = omega arith
      clear (StaticIf written test a b) ds (one_branch does) h e f k m = clear (form_of a) ds does (stands_one part h) e f k m
      clear (StaticIf written test a b) ds (other_branch does) h e f k m = clear (form_of b) ds does (stands_other part h) e f k m
      clear (StaticRepeat written count a) ds (a_round does) h e f k m = clear (form_of a) ds does (stands_round part h) e f k m
      clear _ _ (an_invoke {kds = kds} j child less at static does) h e f k m = absurd (subst (λ l. In l e) (own-lower (the_invoke part j).cell kds) k)
      clear _ _ (a_capture j x less captures) h e f (inl one) (inl other) = same_entry x e f one other
      clear _ _ (a_capture j x less captures) h e f (inl one) (inr m) = absurd m
      clear _ _ (a_capture j x less captures) h e f (inr k) m = absurd k

      clear_arms : (all ss : List PlainStatement) (n : ℕ) (ds : List Deed) → ((m : ℕ) → slice_get ss m ≡ slice_get all (n + m)) → ((s : PlainStatement) → In ss s → Stands part (form_of s)) → Visit all
          → DoesArms i ss ds → (e f : Entry) → In (own_entries ds) e → In (own_entries ds) f → Clear e f
      clear_arms all _ n _ tail stands v no_arms e f k m = absurd k
      clear_arms all _ n _ tail stands v (an_arm {ss = ss} {ds = ds} {ws = ws} s does later) e f k m =
          by (in_either (own_entries ds) (own_entries ws) e (subst (λ l. In l e) (own-both ds ws) k)) (in_either (own_entries ds) (own_entries ws) f (subst (λ l. In l f) (own-both ds ws) m))
          (λ x y. clear (form_of s) ds does (stands s (inl refl)) e f x y)
          (λ x y. clear_arms all ss (suc n) ws (λ j. tail (suc j) ∙ ap (slice_get all) (plus n j)) (λ z x. stands z (inr x)) v later e f x y)
        where
          plus : (a b : ℕ) → a + suc b ≡ suc a + b
          plus a b = omega arith

          zero_plus : (a : ℕ) → a ≡ a + 0
          zero_plus a = omega arith

          -- one of the first arm and one of a later one
          crossed : In (own_entries ds) e → In (own_entries ws) f → Clear e f
          crossed x y apart c drives reads =
              let a = entry_arm ss ws later f y in
              v.unshared c (
                two_arms all (n + suc a.number) n a.arm s (λ same. omega (arith, same)) (sym (tail (suc a.number)) ∙ a.is) (ap (slice_get all) (zero_plus n) ∙ sym (tail 0)),
                owned_drives part a.arm f.group c a.has drives,
                owned_reads part s e.group (entry_from (form_of s) ds does e x) reads,
              )

          crossed_back : In (own_entries ws) e → In (own_entries ds) f → Clear e f
          crossed_back x y apart c drives reads =
              let a = entry_arm ss ws later e x in
              v.unshared c (
                two_arms all n (n + suc a.number) s a.arm (λ same. omega (arith, same)) (ap (slice_get all) (zero_plus n) ∙ sym (tail 0)) (sym (tail (suc a.number)) ∙ a.is),
                owned_drives part s f.group c (entry_from (form_of s) ds does f y) drives,
                owned_reads part a.arm e.group a.has reads,
              )

          by : In (own_entries ds) e ⊎ In (own_entries ws) e → In (own_entries ds) f ⊎ In (own_entries ws) f → (In (own_entries ds) e → In (own_entries ds) f → Clear e f) → (In (own_entries ws) e → In (own_entries ws) f → Clear e f) → Clear e f
          by (inl x) (inl y) one other = one x y
          by (inl x) (inr y) one other = crossed x y
          by (inr x) (inl y) one other = crossed_back x y
          by (inr x) (inr y) one other = other x y

    own_apart : (form : PlainForm) (ds : List Deed) → Does i form ds → Stands part form → StandApart part (entries (own_entries ds))
    own_apart form ds does h = record {
      sources = ruled.fit;
      apart = λ g k c (m, a) (n, b) differ drives reads.
          let x = entry_of (own_entries ds) g m a in
          let y = entry_of (own_entries ds) k n b in
          clear form ds does h x.0 y.0 x.1 y.1 (λ e. differ (sym x.2 ∙ e ∙ y.2)) c
          (subst (λ z. group_drives part z c ≡ true) (sym y.2) drives) (subst (λ z. Reads part (enabled z) c) (sym x.2) reads);
    }

    own_circle : (form : PlainForm) (ds : List Deed) → Does i form ds → Stands part form → IsAcyclic i (entries (own_entries ds))
    own_circle form ds does h = no_shared_circle i (entries (own_entries ds)) (own_apart form ds does h) ruled.no_circle ruled.group_circle

    -- WHAT IS DONE BELOW A CELL is what the child's control does, where it is fed
    record IsBelow (c : ℕ) (ds : List Deed) : Type 0 where
      child : Instance
      at : cell_at cells c ≡ OfInstance child
      deeds : List Deed
      is : deeds_below c ds ≡ deeds
      does : Does child (form_of (part_of child).control) deeds
      fed : 1 ≤ count_fed c ds

    mutual
      below : (form : PlainForm) (ds : List Deed) (c : ℕ) → Does i form ds → Stands part form → (deeds_below c ds ≡ []) ⊎ IsBelow c ds
      below _ _ c rests h = inl refl
      below _ _ c (a_group x) h = inl refl
      below (StaticSeq written ss) ds c (a_part s among does) h = below (form_of s) ds c does (stands_part part s h among)
      below (StaticPar written ss) ds c (all_arms does) h = below_arms (list_of ss) (list_of ss) 0 ds c (λ n. ap (slice_get (list_of ss)) (plus n)) (λ s k. stands_arm part s h k) (visit_of written ss h) does
        where
          plus : (a : ℕ) → a ≡ 0 + a
          plus a = omega arith
      below (StaticIf written test a b) ds c (one_branch does) h = below (form_of a) ds c does (stands_one part h)
      below (StaticIf written test a b) ds c (other_branch does) h = below (form_of b) ds c does (stands_other part h)
      below (StaticRepeat written count a) ds c (a_round does) h = below (form_of a) ds c does (stands_round part h)
      below _ _ c (an_invoke {kds = kds} j child less at static does) h =
          ⊎_elim
          (λ (e : (the_invoke part j).cell ≡ c).
          inr (record {
            child = child;
            at = ap (cell_at cells) (sym e) ∙ at;
            deeds = kds;
            is = lower-there (the_invoke part j).cell c kds e;
            does = does;
            fed = subst (λ b. 1 ≤ one_more b (count_fed c (map (lower ((the_invoke part j).cell ∷ [])) kds))) (sym (eq-eqb (the_invoke part j).cell c e)) (omega arith);
          }))
          (λ (apart : (the_invoke part j).cell ≡ c → ⊥). inl (lower-elsewhere (the_invoke part j).cell c kds apart))
          (cases_eq (the_invoke part j).cell c)
      below _ _ c (a_capture j x less captures) h = inl refl

      below_arms : (all ss : List PlainStatement) (k : ℕ) (ds : List Deed) (c : ℕ) → ((n : ℕ) → slice_get ss n ≡ slice_get all (k + n)) → ((s : PlainStatement) → In ss s → Stands part (form_of s)) → Visit all
          → DoesArms i ss ds → (deeds_below c ds ≡ []) ⊎ IsBelow c ds
      below_arms all _ k _ c tail stands v no_arms = inl refl
      below_arms all _ k _ c tail stands v (an_arm {ss = ss} {ds = ds} {ws = ws} s does later) =
          by (below (form_of s) ds c does (stands s (inl refl))) (below_arms all ss (suc k) ws c (λ n. tail (suc n) ∙ ap (slice_get all) (plus k n)) (λ x m. stands x (inr m)) v later)
          (once_arms all (s ∷ ss) k (ds ++ ws) c tail stands v (an_arm s does later))
        where
          plus : (a b : ℕ) → a + suc b ≡ suc a + b
          plus a b = omega arith

          by : (deeds_below c ds ≡ []) ⊎ IsBelow c ds → (deeds_below c ws ≡ []) ⊎ IsBelow c ws → count_fed c (ds ++ ws) ≤ 1 → (deeds_below c (ds ++ ws) ≡ []) ⊎ IsBelow c (ds ++ ws)
          by (inl e) (inl f) single = inl (below-both c ds ws ∙ ap (λ l. l ++ deeds_below c ws) e ∙ f)
          by (inl e) (inr b) single =
              inr (record { child = b.child; at = b.at; deeds = b.deeds; is = below-both c ds ws ∙ ap (λ l. l ++ deeds_below c ws) e ∙ b.is; does = b.does; fed = (let all_fed = fed-both c ds ws in let f = b.fed in omega (arith, all_fed, f)) })
          by (inr b) (inl f) single =
              inr (record { child = b.child; at = b.at; deeds = b.deeds; is = below-both c ds ws ∙ ap (λ l. deeds_below c ds ++ l) f ∙ append-nil (deeds_below c ds) ∙ b.is; does = b.does; fed = (let all_fed = fed-both c ds ws in let g = b.fed in omega (arith, all_fed, g)) })
          by (inr a) (inr b) single = absurd (let all_fed = fed-both c ds ws in let f = a.fed in let g = b.fed in omega (arith, all_fed, f, g, single))

-- NOTHING AT ALL is fed once
mutual
  pub none_once : (i : Instance) → FedOnce i []
  none_once (Node part cells) = (λ c. omega arith, none_once_below cells 0)

  none_once_below : (cells : Cells) (c : ℕ) → FedOnceBelow cells c []
  none_once_below no_cells c = tt
  none_once_below (a_primitive row rest) c = none_once_below rest (suc c)
  none_once_below (an_instance child rest) c = (λ static. none_once child, none_once_below rest (suc c))

-- what is done below a cell, as to a child that stands there
abbrev ChildDoes : Instance → List Deed → Type 0
ChildDoes child ds = (ds ≡ []) ⊎ Does child (form_of (part_of child).control) ds

child_does : (part : PlainComponent) (cells : Cells) (ruled : IsRuled part (Node part cells)) (form : PlainForm) (ds : List Deed) (c : ℕ) (child : Instance) → cell_at cells c ≡ OfInstance child
    → Does (Node part cells) form ds → Stands part form → ChildDoes child (deeds_below c ds)
child_does part cells ruled form ds c child at does h =
    ⊎_elim
    (λ e. inl e)
    (λ b.
    let same : b.child ≡ child = instance_is b.child child (sym b.at ∙ at) in
    inr (subst (λ l. Does child (form_of (part_of child).control) l) (sym b.is) (subst (λ x. Does x (form_of (part_of x).control) b.deeds) same b.does)))
    (below part cells ruled form ds c does h)

mutual
  -- NO STATIC CHILD IS FED TWICE
  pub fed_once : (i : Instance) → AllRuled i → (form : PlainForm) (ds : List Deed) → Does i form ds → Stands (part_of i) form → FedOnce i ds
  fed_once (Node part cells) ruled form ds does h =
      (λ c. once part cells ruled.0 form ds c does h, fed_below cells 0 ruled.1 ds (λ n child at. child_does part cells ruled.0 form ds (0 + n) child (ap (cell_at cells) (zero_plus n) ∙ at) does h))
    where
      zero_plus : (a : ℕ) → 0 + a ≡ a
      zero_plus a = omega arith

  fed_below : (rest : Cells) (c : ℕ) → AllRuledBelow rest → (ds : List Deed) → ((n : ℕ) (child : Instance) → cell_at rest n ≡ OfInstance child → ChildDoes child (deeds_below (c + n) ds)) → FedOnceBelow rest c ds
  fed_below no_cells c ruled ds h = tt
  fed_below (a_primitive row rest) c ruled ds h = fed_below rest (suc c) ruled ds (λ n child at. subst (λ k. ChildDoes child (deeds_below k ds)) (plus c n) (h (suc n) child at))
    where
      plus : (a b : ℕ) → a + suc b ≡ suc a + b
      plus a b = omega arith
  fed_below (an_instance child rest) c ruled ds h = (
    λ static. subst (FedOnce child) (ap (λ k. deeds_below k ds) (zero_plus c))
        (⊎_elim
        (λ (e : deeds_below (c + 0) ds ≡ []). subst (FedOnce child) (sym e) (none_once child))
        (λ does. fed_once child ruled.0 (form_of (part_of child).control) (deeds_below (c + 0) ds) does (stands_whole (part_of child)))
        (h 0 child refl)),
    fed_below rest (suc c) ruled.1 ds (λ n other at. subst (λ k. ChildDoes other (deeds_below k ds)) (plus c n) (h (suc n) other at)),
  )
    where
      zero_plus : (a : ℕ) → a + 0 ≡ a
      zero_plus a = omega arith

      plus : (a b : ℕ) → a + suc b ≡ suc a + b
      plus a b = omega arith

mutual
  -- AND NOTHING LEADS IN A CIRCLE
  pub deeds_circle : (i : Instance) → AllRuled i → AreAcyclic i → (form : PlainForm) (ds : List Deed) → Does i form ds → Stands (part_of i) form → NoCircle i (entries (own_entries ds)) ds
  deeds_circle (Node part cells) ruled calm form ds does h =
      (own_circle part cells ruled.0 form ds does h, calm.1, circle_below cells 0 ruled.1 calm.1 ds (λ n child at. child_does part cells ruled.0 form ds (0 + n) child (ap (cell_at cells) (zero_plus n) ∙ at) does h))
    where
      zero_plus : (a : ℕ) → 0 + a ≡ a
      zero_plus a = omega arith

  circle_below : (rest : Cells) (c : ℕ) → AllRuledBelow rest → AcyclicBelow rest → (ds : List Deed) → ((n : ℕ) (child : Instance) → cell_at rest n ≡ OfInstance child → ChildDoes child (deeds_below (c + n) ds)) → NoneBelow rest c ds
  circle_below no_cells c ruled calm ds h = tt
  circle_below (a_primitive row rest) c ruled calm ds h = circle_below rest (suc c) ruled calm ds (λ n child at. subst (λ k. ChildDoes child (deeds_below k ds)) (plus c n) (h (suc n) child at))
    where
      plus : (a b : ℕ) → a + suc b ≡ suc a + b
      plus a b = omega arith
  circle_below (an_instance child rest) c ruled calm ds h = (
    λ static. subst (λ l. NoCircle child (entries (own_entries l)) l) (ap (λ k. deeds_below k ds) (zero_plus c))
        (⊎_elim
        (λ (e : deeds_below (c + 0) ds ≡ []). subst (λ l. NoCircle child (entries (own_entries l)) l) (sym e) (still_entries child calm.0))
        (λ does. deeds_circle child ruled.0 calm.0 (form_of (part_of child).control) (deeds_below (c + 0) ds) does (stands_whole (part_of child)))
        (h 0 child refl)),
    circle_below rest (suc c) ruled.1 calm.1 ds (λ n other at. subst (λ k. ChildDoes other (deeds_below k ds)) (plus c n) (h (suc n) other at)),
  )
    where
      zero_plus : (a : ℕ) → a + 0 ≡ a
      zero_plus a = omega arith

      plus : (a b : ℕ) → a + suc b ≡ suc a + b
      plus a b = omega arith
