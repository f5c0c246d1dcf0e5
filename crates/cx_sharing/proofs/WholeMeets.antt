-- WHAT IS DONE AT ONCE in an instance and in its static children: the candidates that acting groups use meet, and no source of a fed cell is a port of
-- a candidate.
use Rattle.std.proofs.Common.{◌≡◌, ℕ, zero, suc, ◌+◌, ◌<◌, ◌≤◌, ◌⊎◌, inl, inr, ⊎_elim, true, false, List, [], ◌∷◌, ◌++◌, length, map, Option, Some, refl, sym, ap, ◌∙◌, subst, arith}
use Rattle.std.specs.Prelude.{slice_get, get_or}
use Rattle.std.specs.List.{list_any}
use Rattle.std.proofs.lemmas.Bool.{cases_eq, eq-eqb, both_ways}
use Rattle.std.proofs.lemmas.List.{append-nil}
use Rattle.cx_text.proofs.MemberLaws.{in_either, in_left, in_right}
use Rattle.cx_text.proofs.BoolLaws.{or_left}
use Rattle.cx_text.specs.Members.{In}
use Rattle.cx_meaning.specs.declared.ports.PortRef.{PortRef}
use Rattle.cx_meaning.specs.declared.ports.PortRef.TheVariants as ports
use Rattle.cx_meaning.specs.declared.ports.PlacedPort.{PlacedPort}
use Rattle.cx_meaning.specs.Designs.{PlainAssign, PlainInvoke, PlainComponent, PlainForm, StaticSeq, StaticPar, StaticIf, StaticRepeat, PlainStatement, Placed, form_of, PlainStatements, list_of}
use Rattle.cx_meaning.specs.Instances.{Instance, Node, Cells, no_cells, a_primitive, an_instance, OfInstance, part_of, cell_at}
use Rattle.cx_meaning.specs.Active.{Entry, entries}
use Rattle.cx_meaning.specs.Control.{groups_of, groups_in, targets_cell}
use Rattle.cx_meaning.proofs.ActiveLemmas.{entry_of}
use Rattle.cx_meaning.proofs.ControlLaws.{in_parts}
use Rattle.cx_meaning.proofs.InstancesLemmas.{instance_is}
use Rattle.cx_rules.specs.Circles.{IsAcyclic, AreAcyclic, AcyclicBelow}
use Rattle.cx_rules.specs.Items.{Visited, statements_in, tests_of}
use Rattle.cx_flattening.specs.Events.{no_invoke, the_invoke}
use Rattle.cx_flattening.specs.Deeds.{Deed, Acts, Fed, own_entries, deeds_below}
use Rattle.cx_flattening.specs.FedOnce.{one_more, count_fed}
use Rattle.cx_flattening.specs.Whole.{is_static}
use Rattle.cx_flattening.proofs.FlatDeeds.{lower}
use Rattle.cx_flattening.proofs.FlatDeeper.{still_entries}
use Rattle.cx_flattening.proofs.DeedSources.{Does, rests, a_group, a_part, all_arms, one_branch, other_branch, a_round, an_invoke, a_capture, DoesArms, no_arms, an_arm}
use Rattle.cx_flattening.proofs.DeedsApart.{own-both, fed-both, below-both, own-lower, lower-there, lower-elsewhere, Stands, stands_whole, stands_part, stands_arm, stands_one, stands_other, stands_round}
use Rattle.cx_flattening.proofs.DeedsOnce.{fed_once, deeds_circle}
use Rattle.cx_flattening.proofs.Ruled.{AllRuled, AllRuledBelow}
use Rattle.cx_sharing.specs.Uses.{group_uses, uses, is_candidate}
use Rattle.cx_sharing.specs.Meeting.{arms_meet, form_meets, meet}
use Rattle.cx_sharing.proofs.UsedLemmas.{any_of, Covers, UsedMeet, group_meets, statement_meets}
use Rattle.cx_sharing.proofs.MeetLemmas.{arms_meet-true, in_form}
use Rattle.cx_sharing.proofs.InvokesShared.{NoneInvoked}
use Rattle.cx_sharing.proofs.WholeTwins.{Twins, twins, Remain, none_left, a_row_stays, a_row_goes, a_child}

-- a port of no candidate
abbrev pub IsQuiet : PlainComponent → PortRef → Type 0
IsQuiet part p = (c n : ℕ) → p ≡ ports.Cell c n → is_candidate part c ≡ false

-- what acting groups use, and that candidates of it meet; and that sources of fed cells are of no candidates
module _ (part : PlainComponent) (ds : List Deed) where
  abbrev pub DoneUses : ℕ → Type 0
  DoneUses c = (e : Entry) × In (own_entries ds) e × (group_uses part e.group c ≡ true)

  abbrev pub FedQuiet : Type 0
  FedQuiet = (c : ℕ) (inputs : List PlainAssign) → In ds (Fed [] c inputs) → (a : PlainAssign) → In inputs a → IsQuiet part a.source.port

  pub done_covers : Covers part DoneUses (entries (own_entries ds))
  done_covers g k c acts uses = let r = entry_of (own_entries ds) g k acts in (r.0, r.1, ap (λ n. group_uses part n c) r.2 ∙ uses)

-- ALL THAT IS ASKED of what is done, in the instance and in its static children
abbrev mutual
  pub Fine : Instance → List Deed → Type 0
  Fine (Node part cells) ds = UsedMeet part (DoneUses part ds) × IsAcyclic (Node part cells) (entries (own_entries ds)) × FedQuiet part ds × FineBelow cells 0 ds

  pub FineBelow : Cells → ℕ → List Deed → Type 0
  FineBelow no_cells c ds = Unit {0}
  FineBelow (a_primitive row rest) c ds = FineBelow rest (suc c) ds
  FineBelow (an_instance child rest) c ds = (is_static child ≡ true → Fine child (deeds_below c ds)) × FineBelow rest (suc c) ds

module _ (part : PlainComponent) (cells : Cells) (none : NoneInvoked part) where
  abbrev i : Instance
  i = Node part cells

  invoked : (j : ℕ) → j < length part.invokes → In part.invokes (the_invoke part j)
  invoked j less = in_got part.invokes j less
    where
      in_got : (list : List PlainInvoke) (k : ℕ) → k < length list → In list (get_or list k no_invoke)
      in_got [] k less = absurd (omega (arith, less))
      in_got (x ∷ rest) zero less = inl refl
      in_got (x ∷ rest) (suc k) less = inr (in_got rest k (omega (arith, less)))

  -- A GROUP THAT ACTS and uses a candidate is one that the statement enables
  abbrev Enabled : PlainForm → Entry → Type 0
  Enabled form e = (c : ℕ) → is_candidate part c ≡ true → group_uses part e.group c ≡ true → In (groups_in form) e.group

  groups_same : (s : PlainStatement) (g : ℕ) → In (groups_in (form_of s)) g → In (groups_of s) g
  groups_same (Placed form place) g h = h

  -- an arm that has it
  record OfArm (ss : List PlainStatement) (P : PlainForm → Type 0) : Type 0 where
    number : ℕ
    arm : PlainStatement
    among : In ss arm
    is : slice_get ss number ≡ Some arm
    has : P (form_of arm)

  later_arm : (s : PlainStatement) (ss : List PlainStatement) (P : PlainForm → Type 0) → OfArm ss P → OfArm (s ∷ ss) P
  later_arm s ss P a = record { number = suc a.number; arm = a.arm; among = inr a.among; is = a.is; has = a.has }

  mutual
    enabled_by : (form : PlainForm) (ds : List Deed) → Does i form ds → (e : Entry) → In (own_entries ds) e → Enabled form e
    enabled_by _ _ rests e k c on u = absurd k
    enabled_by _ _ (a_group x) e (inl same) c on u = inl (ap (λ (y : Entry). y.group) same)
    enabled_by _ _ (a_group x) e (inr k) c on u = absurd k
    enabled_by (StaticSeq written ss) ds (a_part s among does) e k c on u = in_parts ss s e.group among (groups_same s e.group (enabled_by (form_of s) ds does e k c on u))
    enabled_by (StaticPar written ss) ds (all_arms does) e k c on u = let a = enabled_arm (list_of ss) ds does e k in in_parts ss a.arm e.group a.among (groups_same a.arm e.group (a.has c on u))
    enabled_by (StaticIf written test a b) ds (one_branch does) e k c on u = in_left (groups_of a) (groups_of b) e.group (groups_same a e.group (enabled_by (form_of a) ds does e k c on u))
    enabled_by (StaticIf written test a b) ds (other_branch does) e k c on u = in_right (groups_of a) (groups_of b) e.group (groups_same b e.group (enabled_by (form_of b) ds does e k c on u))
    enabled_by (StaticRepeat written count a) ds (a_round does) e k c on u = groups_same a e.group (enabled_by (form_of a) ds does e k c on u)
    enabled_by _ _ (an_invoke {kds = kds} j child less at static does) e k c on u = absurd (subst (λ l. In l e) (own-lower (the_invoke part j).cell kds) k)
    enabled_by _ _ (a_capture j x less captures) e (inl same) c on u =
        absurd (both_ways (is_candidate part c) (none.captures (the_invoke part j) (invoked j less) e.group c (captures ∙ ap (λ (y : Entry). Some y.group) same) u) on)
    enabled_by _ _ (a_capture j x less captures) e (inr k) c on u = absurd k

    enabled_arm : (ss : List PlainStatement) (ds : List Deed) → DoesArms i ss ds → (e : Entry) → In (own_entries ds) e → OfArm ss (λ form. Enabled form e)
    enabled_arm _ _ no_arms e k = absurd k
    enabled_arm _ _ (an_arm {ss = ss} {ds = ds} {ws = ws} s does later) e k =
        ⊎_elim
        (λ m. record { number = 0; arm = s; among = inl refl; is = refl; has = enabled_by (form_of s) ds does e m })
        (λ m. later_arm s ss (λ form. Enabled form e) (enabled_arm ss ws later e m))
        (in_either (own_entries ds) (own_entries ws) e (subst (λ l. In l e) (own-both ds ws) k))

  -- CANDIDATES THAT ARE USED AT ONCE MEET
  abbrev Meets : Entry → Entry → Type 0
  Meets e f = (x y : ℕ) → is_candidate part x ≡ true → is_candidate part y ≡ true → group_uses part e.group x ≡ true → group_uses part f.group y ≡ true → meet part x y ≡ true

  same_entry : (z e f : Entry) → z ≡ e → z ≡ f → Meets e f
  same_entry z e f one other x y on too a b = group_meets part e.group x y a (ap (λ (w : Entry). group_uses part w.group y) (sym one ∙ other) ∙ b)

  -- by two arms of a static par of the component
  arm_uses : (s : PlainStatement) (g c : ℕ) → In (groups_of s) g → group_uses part g c ≡ true → uses part s c ≡ true
  arm_uses s g c k e = or_left (list_any (λ h. group_uses part h c) (groups_of s)) (list_any (λ (p : PlacedPort). targets_cell p.port c) (tests_of s)) (any_of (λ h. group_uses part h c) (groups_of s) g k e)

  abbrev ArmsMeet : List PlainStatement → Type 0
  ArmsMeet all = (x y : ℕ) → arms_meet part all x y ≡ true → meet part x y ≡ true

  par_arms : (written : Option ℕ) (ss : PlainStatements) → Stands part (StaticPar written ss) → ArmsMeet (list_of ss)
  par_arms written ss h x y e =
      let v : Visited = record { context = h.context; form = StaticPar written ss; place = h.place } in
      statement_meets part x y (any_of (λ (w : Visited). form_meets part w.form x y) (statements_in part) v (h.inside v (inl refl)) (in_form part v.form x y e))

  mutual
    meets : (form : PlainForm) (ds : List Deed) → Does i form ds → Stands part form → (e f : Entry) → In (own_entries ds) e → In (own_entries ds) f → Meets e f
    meets _ _ rests h e f k m = absurd k
    meets _ _ (a_group x) h e f (inl one) (inl other) = same_entry x e f one other
    meets _ _ (a_group x) h e f (inl one) (inr m) = absurd m
    meets _ _ (a_group x) h e f (inr k) m = absurd k
    meets (StaticSeq written ss) ds (a_part s among does) h e f k m = meets (form_of s) ds does (stands_part part s h among) e f k m
    meets (StaticPar written ss) ds (all_arms does) h e f k m =
        meets_arms (list_of ss) (list_of ss) 0 ds (λ n. ap (slice_get (list_of ss)) (plus n)) (λ s x. stands_arm part s h x) (par_arms written ss h) does e f k m
      where
        plus : (a : ℕ) → a ≡ 0 + a
        plus a = omega arith
    meets (StaticIf written test a b) ds (one_branch does) h e f k m = meets (form_of a) ds does (stands_one part h) e f k m
    meets (StaticIf written test a b) ds (other_branch does) h e f k m = meets (form_of b) ds does (stands_other part h) e f k m
    meets (StaticRepeat written count a) ds (a_round does) h e f k m = meets (form_of a) ds does (stands_round part h) e f k m
    meets _ _ (an_invoke {kds = kds} j child less at static does) h e f k m = absurd (subst (λ l. In l e) (own-lower (the_invoke part j).cell kds) k)
    meets _ _ (a_capture j x less captures) h e f (inl one) (inl other) = same_entry x e f one other
    meets _ _ (a_capture j x less captures) h e f (inl one) (inr m) = absurd m
    meets _ _ (a_capture j x less captures) h e f (inr k) m = absurd k

    meets_arms : (all ss : List PlainStatement) (n : ℕ) (ds : List Deed) → ((m : ℕ) → slice_get ss m ≡ slice_get all (n + m)) → ((s : PlainStatement) → In ss s → Stands part (form_of s)) → ArmsMeet all
        → DoesArms i ss ds → (e f : Entry) → In (own_entries ds) e → In (own_entries ds) f → Meets e f
    meets_arms all _ n _ tail stands v no_arms e f k m = absurd k
    meets_arms all _ n _ tail stands v (an_arm {ss = ss} {ds = ds} {ws = ws} s does later) e f k m =
        by (in_either (own_entries ds) (own_entries ws) e (subst (λ l. In l e) (own-both ds ws) k)) (in_either (own_entries ds) (own_entries ws) f (subst (λ l. In l f) (own-both ds ws) m))
        (λ a b. meets (form_of s) ds does (stands s (inl refl)) e f a b)
        (λ a b. meets_arms all ss (suc n) ws (λ j. tail (suc j) ∙ ap (slice_get all) (plus n j)) (λ z a2. stands z (inr a2)) v later e f a b)
      where
        plus : (a b : ℕ) → a + suc b ≡ suc a + b
        plus a b = omega arith

        zero_plus : (a : ℕ) → a ≡ a + 0
        zero_plus a = omega arith

        first_is : slice_get all n ≡ Some s
        first_is = ap (slice_get all) (zero_plus n) ∙ sym (tail 0)

        -- one of the first arm and one of a later one
        crossed : In (own_entries ds) e → In (own_entries ws) f → Meets e f
        crossed p q x y on too a b =
            let r = enabled_arm ss ws later f q in
            v x y (arms_meet-true part all n (n + suc r.number) s r.arm x y (λ same. omega (arith, same)) first_is (sym (tail (suc r.number)) ∙ r.is)
            (arm_uses s e.group x (groups_same s e.group (enabled_by (form_of s) ds does e p x on a)) a) (arm_uses r.arm f.group y (groups_same r.arm f.group (r.has y too b)) b))

        crossed_back : In (own_entries ws) e → In (own_entries ds) f → Meets e f
        crossed_back p q x y on too a b =
            let r = enabled_arm ss ws later e p in
            v x y (arms_meet-true part all (n + suc r.number) n r.arm s x y (λ same. omega (arith, same)) (sym (tail (suc r.number)) ∙ r.is) first_is
            (arm_uses r.arm e.group x (groups_same r.arm e.group (r.has x on a)) a) (arm_uses s f.group y (groups_same s f.group (enabled_by (form_of s) ds does f q y too b)) b))

        by : In (own_entries ds) e ⊎ In (own_entries ws) e → In (own_entries ds) f ⊎ In (own_entries ws) f → (In (own_entries ds) e → In (own_entries ds) f → Meets e f) → (In (own_entries ws) e → In (own_entries ws) f → Meets e f) → Meets e f
        by (inl a) (inl b) one other = one a b
        by (inl a) (inr b) one other = crossed a b
        by (inr a) (inl b) one other = crossed_back a b
        by (inr a) (inr b) one other = other a b

  pub done_meet : (form : PlainForm) (ds : List Deed) → Does i form ds → Stands part form → UsedMeet part (DoneUses part ds)
  done_meet form ds does h x y on too (e, k, a) (f, m, b) = inr (meets form ds does h e f k m x y on too a b)

  -- THE SOURCES OF FED CELLS
  not_lower : (d c : ℕ) (inputs : List PlainAssign) (kds : List Deed) → In (map (lower (d ∷ [])) kds) (Fed [] c inputs) → ⊥
  not_lower d c inputs [] k = absurd k
  not_lower d c inputs (Acts at e ∷ rest) (inl same) = absurd (cc)
  not_lower d c inputs (Acts at e ∷ rest) (inr k) = not_lower d c inputs rest k
  not_lower d c inputs (Fed at e list ∷ rest) (inl same) = absurd (cc)
  not_lower d c inputs (Fed at e list ∷ rest) (inr k) = not_lower d c inputs rest k

  mutual
    pub done_quiet : (form : PlainForm) (ds : List Deed) → Does i form ds → FedQuiet part ds
    done_quiet _ _ rests c inputs k = absurd k
    done_quiet _ _ (a_group x) c inputs (inl same) = absurd (cc)
    done_quiet _ _ (a_group x) c inputs (inr k) = absurd k
    done_quiet (StaticSeq written ss) ds (a_part s among does) c inputs k = done_quiet (form_of s) ds does c inputs k
    done_quiet (StaticPar written ss) ds (all_arms does) c inputs k = arms_quiet (list_of ss) ds does c inputs k
    done_quiet (StaticIf written test a b) ds (one_branch does) c inputs k = done_quiet (form_of a) ds does c inputs k
    done_quiet (StaticIf written test a b) ds (other_branch does) c inputs k = done_quiet (form_of b) ds does c inputs k
    done_quiet (StaticRepeat written count a) ds (a_round does) c inputs k = done_quiet (form_of a) ds does c inputs k
    done_quiet _ _ (an_invoke {kds = kds} j child less at static does) c inputs (inl same) =
        let list : (the_invoke part j).inputs ≡ inputs = cc in
        (λ a m d n e. none.inputs (the_invoke part j) (invoked j less) a (subst (λ l. In l a) (sym list) m) d n (inr e))
    done_quiet _ _ (an_invoke {kds = kds} j child less at static does) c inputs (inr k) = absurd (not_lower (the_invoke part j).cell c inputs kds k)
    done_quiet _ _ (a_capture j x less captures) c inputs (inl same) = absurd (cc)
    done_quiet _ _ (a_capture j x less captures) c inputs (inr k) = absurd k

    arms_quiet : (ss : List PlainStatement) (ds : List Deed) → DoesArms i ss ds → FedQuiet part ds
    arms_quiet _ _ no_arms c inputs k = absurd k
    arms_quiet _ _ (an_arm {ss = ss} {ds = ds} {ws = ws} s does later) c inputs k =
        ⊎_elim (λ m. done_quiet (form_of s) ds does c inputs m) (λ m. arms_quiet ss ws later c inputs m) (in_either ds ws (Fed [] c inputs) k)

  -- WHAT IS DONE BELOW A CELL is what the child's control does, where the cell is fed once at most
  record IsBelow (c : ℕ) (ds : List Deed) : Type 0 where
    child : Instance
    at : cell_at cells c ≡ OfInstance child
    deeds : List Deed
    is : deeds_below c ds ≡ deeds
    does : Does child (form_of (part_of child).control) deeds
    fed : 1 ≤ count_fed c ds

  mutual
    below : (form : PlainForm) (ds : List Deed) (c : ℕ) → Does i form ds → count_fed c ds ≤ 1 → (deeds_below c ds ≡ []) ⊎ IsBelow c ds
    below _ _ c rests once = inl refl
    below _ _ c (a_group x) once = inl refl
    below (StaticSeq written ss) ds c (a_part s among does) once = below (form_of s) ds c does once
    below (StaticPar written ss) ds c (all_arms does) once = below_arms (list_of ss) ds c does once
    below (StaticIf written test a b) ds c (one_branch does) once = below (form_of a) ds c does once
    below (StaticIf written test a b) ds c (other_branch does) once = below (form_of b) ds c does once
    below (StaticRepeat written count a) ds c (a_round does) once = below (form_of a) ds c does once
    below _ _ c (an_invoke {kds = kds} j child less at static does) once =
        ⊎_elim
        (λ (e : (the_invoke part j).cell ≡ c).
        inr (record {
          child = child;
          at = ap (cell_at cells) (sym e) ∙ at;
          deeds = kds;
          is = lower-there (the_invoke part j).cell c kds e;
          does = does;
          fed = subst (λ b. 1 ≤ one_more b (count_fed c (map (lower ((the_invoke part j).cell ∷ [])) kds))) (sym (eq-eqb (the_invoke part j).cell c e)) (omega arith);
        }))
        (λ (apart : (the_invoke part j).cell ≡ c → ⊥). inl (lower-elsewhere (the_invoke part j).cell c kds apart))
        (cases_eq (the_invoke part j).cell c)
    below _ _ c (a_capture j x less captures) once = inl refl

    below_arms : (ss : List PlainStatement) (ds : List Deed) (c : ℕ) → DoesArms i ss ds → count_fed c ds ≤ 1 → (deeds_below c ds ≡ []) ⊎ IsBelow c ds
    below_arms _ _ c no_arms once = inl refl
    below_arms _ _ c (an_arm {ss = ss} {ds = ds} {ws = ws} s does later) once =
        let all = fed-both c ds ws in
        by (below (form_of s) ds c does (omega (arith, all, once))) (below_arms ss ws c later (omega (arith, all, once)))
      where
        by : (deeds_below c ds ≡ []) ⊎ IsBelow c ds → (deeds_below c ws ≡ []) ⊎ IsBelow c ws → (deeds_below c (ds ++ ws) ≡ []) ⊎ IsBelow c (ds ++ ws)
        by (inl e) (inl f) = inl (below-both c ds ws ∙ ap (λ l. l ++ deeds_below c ws) e ∙ f)
        by (inl e) (inr b) =
            inr (record { child = b.child; at = b.at; deeds = b.deeds; is = below-both c ds ws ∙ ap (λ l. l ++ deeds_below c ws) e ∙ b.is; does = b.does; fed = (let all = fed-both c ds ws in let f = b.fed in omega (arith, all, f)) })
        by (inr b) (inl f) =
            inr (record { child = b.child; at = b.at; deeds = b.deeds; is = below-both c ds ws ∙ ap (λ l. deeds_below c ds ++ l) f ∙ append-nil (deeds_below c ds) ∙ b.is; does = b.does; fed = (let all = fed-both c ds ws in let g = b.fed in omega (arith, all, g)) })
        by (inr a) (inr b) = absurd (let all = fed-both c ds ws in let f = a.fed in let g = b.fed in omega (arith, all, f, g, once))

  -- to a child that stands there
  pub child_does : (form : PlainForm) (ds : List Deed) (c : ℕ) (child : Instance) → cell_at cells c ≡ OfInstance child → Does i form ds → count_fed c ds ≤ 1
      → (deeds_below c ds ≡ []) ⊎ Does child (form_of (part_of child).control) (deeds_below c ds)
  child_does form ds c child at does once =
      ⊎_elim
      (λ e. inl e)
      (λ b.
      let same : b.child ≡ child = instance_is b.child child (sym b.at ∙ at) in
      inr (subst (λ l. Does child (form_of (part_of child).control) l) (sym b.is) (subst (λ x. Does x (form_of (part_of x).control) b.deeds) same b.does)))
      (below form ds c does once)

-- NOTHING is fine
mutual
  pub fine_none : (i : Instance) → AreAcyclic i → Fine i []
  fine_none (Node part cells) calm = (λ x y on too (e, k, a) u. absurd k, (still_entries (Node part cells) calm).0, λ c inputs k. absurd k, fine_none_below cells 0 calm.1)

  pub fine_none_below : (cells : Cells) (c : ℕ) → AcyclicBelow cells → FineBelow cells c []
  fine_none_below no_cells c calm = tt
  fine_none_below (a_primitive row rest) c calm = fine_none_below rest (suc c) calm
  fine_none_below (an_instance child rest) c calm = (λ static. fine_none child calm.0, fine_none_below rest (suc c) calm.1)

-- of cells one further
next_cell : (c n : ℕ) (ds : List Deed) (child : Instance) → (deeds_below (c + suc n) ds ≡ []) ⊎ Does child (form_of (part_of child).control) (deeds_below (c + suc n) ds)
    → (deeds_below (suc c + n) ds ≡ []) ⊎ Does child (form_of (part_of child).control) (deeds_below (suc c + n) ds)
next_cell c n ds child h = let next : c + suc n ≡ suc c + n = omega arith in subst (λ k. (deeds_below k ds ≡ []) ⊎ Does child (form_of (part_of child).control) (deeds_below k ds)) next h

mutual
  -- WHAT A STATEMENT DOES in a cycle is fine
  pub done_fine : {i j : Instance} → Twins i j → AllRuled i → AreAcyclic i → (form : PlainForm) (ds : List Deed) → Does i form ds → Stands (part_of i) form → Fine i ds
  done_fine (twins {part} {other} {cells} {kin} twin fit none remain) rules calm form ds does h = (
    done_meet part cells none form ds does h,
    (deeds_circle (Node part cells) rules calm form ds does h).0,
    done_quiet part cells none form ds does,
    fine_below remain rules.1 calm.1 ds (λ n child at.
        let start : n ≡ 0 + n = omega arith in
        subst (λ k. (deeds_below k ds ≡ []) ⊎ Does child (form_of (part_of child).control) (deeds_below k ds)) start
        (child_does part cells none form ds n child at does ((fed_once (Node part cells) rules form ds does h).0 n))),
  )

  fine_below : {i j : Instance} {c : ℕ} {cells kin : Cells} → Remain i j c cells kin → AllRuledBelow cells → AcyclicBelow cells → (ds : List Deed)
      → ((n : ℕ) (child : Instance) → cell_at cells n ≡ OfInstance child → (deeds_below (c + n) ds ≡ []) ⊎ Does child (form_of (part_of child).control) (deeds_below (c + n) ds)) → FineBelow cells c ds
  fine_below none_left rules calm ds h = tt
  fine_below {c = c} (a_row_stays row twin on remain) rules calm ds h = fine_below remain rules calm ds (λ n child at. next_cell c n ds child (h (suc n) child at))
  fine_below {c = c} (a_row_goes row off remain) rules calm ds h = fine_below remain rules calm ds (λ n child at. next_cell c n ds child (h (suc n) child at))
  fine_below {c = c} (a_child {rest = rest} child twin here there other both remain) rules calm ds h = (
    λ static. subst (λ k. Fine child (deeds_below k ds)) zero_more
        (⊎_elim
        (λ e. subst (Fine child) (sym e) (fine_none child calm.0))
        (λ does. done_fine both rules.0 calm.0 (form_of (part_of child).control) (deeds_below (c + 0) ds) does (stands_whole (part_of child)))
        (h 0 child refl)),
    fine_below remain rules.1 calm.1 ds (λ n kid at. next_cell c n ds kid (h (suc n) kid at)),
  )
    where
      zero_more : c + 0 ≡ c
      zero_more = omega arith
