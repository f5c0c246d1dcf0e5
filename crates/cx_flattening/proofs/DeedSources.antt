-- WHERE THE DEEDS OF A STATEMENT COME FROM: in one cycle those of one part of a static seq, of one branch, of one round; those of all arms; and
-- of an invoke the feed with what the child's control does, or the group that captures.
use Rattle.std.proofs.Common.{◌≡◌, ℕ, zero, suc, ◌+◌, ◌*◌, ◌-◌, ◌<◌, ◌⊎◌, inl, inr, Bool, true, false, ◌&&◌, List, [], ◌∷◌, ◌++◌, length, map, Option, Some, None, refl, sym, ap, ◌∙◌, subst, arith}
use Rattle.std.proofs.lemmas.List.{map-append, append-nil, append_assoc}
use Rattle.cx_meaning.specs.declared.ports.PlacedPort.{PlacedPort}
use Rattle.cx_meaning.specs.Designs.{PlainInvoke, PlainComponent, PlainForm, Empty, Enable, Seq, Par, If, While, Repeat, StaticSeq, StaticPar, StaticIf, StaticRepeat, Timed, PlainStatement, Placed, form_of, PlainStatements, no_statements, a_statement, list_of}
use Rattle.cx_meaning.specs.Instances.{Instance, Node, Cells, no_cells, a_primitive, an_instance, OfInstance, part_of, cells_of, cell_at, Path}
use Rattle.cx_meaning.specs.Active.{Entry}
use Rattle.cx_meaning.specs.Islands.{group_length, or_zero, is_wanted}
use Rattle.cx_text.specs.Members.{In}
use Rattle.cx_rules.specs.Invokes.{lasts, sum_lasts}
use Rattle.cx_flattening.specs.Events.{the_invoke, Spot, spot, Event, Beginning, Events, later_by, also_if, group_events, capture_events, rounds_events, bound_below, invoke_events, form_events, events, seq_events, par_events, control_events, events_below}
use Rattle.cx_flattening.specs.Deeds.{History, hold, Deed, Acts, Fed, deed_if, is_now, deeds_in}
use Rattle.cx_flattening.specs.Whole.{is_static}
use Rattle.cx_flattening.specs.Controlled.{timed_in, timed_of, timed_all, IsInvoked, IsControlled, AllControlled, AllControlledBelow}
use Rattle.cx_flattening.specs.Lists.{island_events}
use Rattle.cx_flattening.proofs.FlatLengths.{AllThere, there_left, there_right}
use Rattle.cx_flattening.proofs.Windows.{deeds-both, events-child, window_now, now_is, Within, rounds_within, one_within, seq_within, ControlWithin, kids_within}
use Rattle.cx_flattening.proofs.FlatDeeds.{lower}

mutual
  pub data Does : Instance → PlainForm → List Deed → Type 0 where
    rests : {i : Instance} {form : PlainForm} → Does i form []
    a_group : {i : Instance} (e : Entry) → Does i (Enable e.group) (Acts [] e ∷ [])
    a_part : {i : Instance} {written : Option ℕ} {ss : PlainStatements} {ds : List Deed} (s : PlainStatement) → In (list_of ss) s → Does i (form_of s) ds → Does i (StaticSeq written ss) ds
    all_arms : {i : Instance} {written : Option ℕ} {ss : PlainStatements} {ds : List Deed} → DoesArms i (list_of ss) ds → Does i (StaticPar written ss) ds
    one_branch : {i : Instance} {written : Option ℕ} {test : PlacedPort} {a b : PlainStatement} {ds : List Deed} → Does i (form_of a) ds → Does i (StaticIf written test a b) ds
    other_branch : {i : Instance} {written : Option ℕ} {test : PlacedPort} {a b : PlainStatement} {ds : List Deed} → Does i (form_of b) ds → Does i (StaticIf written test a b) ds
    a_round : {i : Instance} {written : Option ℕ} {count : ℕ} {a : PlainStatement} {ds : List Deed} → Does i (form_of a) ds → Does i (StaticRepeat written count a) ds
    an_invoke : {i : Instance} {kds : List Deed} (j : ℕ) (child : Instance) → j < length (part_of i).invokes → cell_at (cells_of i) (the_invoke (part_of i) j).cell ≡ OfInstance child → is_static child ≡ true
        → Does child (form_of (part_of child).control) kds
        → Does i (Timed j) (Fed [] (the_invoke (part_of i) j).cell (the_invoke (part_of i) j).inputs ∷ map (lower ((the_invoke (part_of i) j).cell ∷ [])) kds)
    a_capture : {i : Instance} (j : ℕ) (e : Entry) → j < length (part_of i).invokes → (the_invoke (part_of i) j).captures ≡ Some e.group → Does i (Timed j) (Acts [] e ∷ [])

  pub data DoesArms : Instance → List PlainStatement → List Deed → Type 0 where
    no_arms : {i : Instance} → DoesArms i [] []
    an_arm : {i : Instance} {ss : List PlainStatement} {ds ws : List Deed} (s : PlainStatement) → Does i (form_of s) ds → DoesArms i ss ws → DoesArms i (s ∷ ss) (ds ++ ws)

-- what is found of a form of an instance below a path
pub record Stem (i : Instance) (form : PlainForm) (at : Path) (done : List Deed) : Type 0 where
  pub deeds : List Deed
  pub are : done ≡ map (lower at) deeds
  pub does : Does i form deeds

none : (i : Instance) (form : PlainForm) (at : Path) (done : List Deed) → done ≡ [] → Stem i form at done
none i form at done e = record { deeds = []; are = e; does = rests }

empty_list : (ds : List Deed) → ((d : Deed) → In ds d → ⊥) → ds ≡ []
empty_list [] h = refl
empty_list (d ∷ ds) h = absurd (h d (inl refl))

-- some deed, or none
some_or_none : (ds : List Deed) → ((d : Deed) × In ds d) ⊎ (ds ≡ [])
some_or_none [] = inr refl
some_or_none (d ∷ ds) = inl (d, inl refl)

lower_deeper : (at : Path) (c : ℕ) (list : List Deed) → map (lower (at ++ (c ∷ []))) list ≡ map (lower at) (map (lower (c ∷ [])) list)
lower_deeper at c [] = refl
lower_deeper at c (Acts path e ∷ rest) = ap (λ p. Acts p e ∷ map (lower (at ++ (c ∷ []))) rest) (append_assoc at (c ∷ []) path) ∙ ap (λ l. Acts (at ++ ((c ∷ []) ++ path)) e ∷ l) (lower_deeper at c rest)
lower_deeper at c (Fed path d inputs ∷ rest) = ap (λ p. Fed p d inputs ∷ map (lower (at ++ (c ∷ []))) rest) (append_assoc at (c ∷ []) path) ∙ ap (λ l. Fed (at ++ ((c ∷ []) ++ path)) d inputs ∷ l) (lower_deeper at c rest)

module _ (h : History) (t : ℕ) where
  -- of two lists of which one does nothing
  first_alone : (xs ys : List Event) → deeds_in h t ys ≡ [] → deeds_in h t (xs ++ ys) ≡ deeds_in h t xs
  first_alone xs ys e = deeds-both h t xs ys ∙ ap (λ l. deeds_in h t xs ++ l) e ∙ append-nil (deeds_in h t xs)

  second_alone : (xs ys : List Event) → deeds_in h t xs ≡ [] → deeds_in h t (xs ++ ys) ≡ deeds_in h t ys
  second_alone xs ys e = deeds-both h t xs ys ∙ ap (λ l. l ++ deeds_in h t ys) e

  -- what is done in a stretch is not done in a later one
  later_empty : (b : Beginning) (n m : ℕ) (xs ys : List Event) → Within h t b n xs → Within h t (later_by n b) m ys → (d : Deed) → In (deeds_in h t xs) d → deeds_in h t ys ≡ []
  later_empty b n m xs ys first later d i =
      let w = first d i in
      empty_list (deeds_in h t ys) (λ e j. let v = later e j in let l = w.left in let r = v.begun in absurd (omega (arith, l, r)))

  -- nor what is done on a condition on its opposite
  branch_empty : (b : Beginning) (x : Spot) (n m : ℕ) (xs ys : List Event) → Within h t (also_if x true b) n xs → Within h t (also_if x false b) m ys → (d : Deed) → In (deeds_in h t xs) d → deeds_in h t ys ≡ []
  branch_empty b x n m xs ys first later d i =
      let w = first d i in
      empty_list (deeds_in h t ys) (λ e j. let v = later e j in absurd (clash (h x b.from) (hold h b.conditions) w.holds v.holds))
    where
      clash : (p q : Bool) → (is_wanted true p && q) ≡ true → (is_wanted false p && q) ≡ true → ⊥
      clash true true e f = cc
      clash true false e f = cc
      clash false true e f = cc
      clash false false e f = cc

  abbrev pub ControlDoes : Instance → Type 0
  ControlDoes i = (b : Beginning) → Stem i (form_of (part_of i).control) b.at (deeds_in h t (control_events i b))

  module _ (part : PlainComponent) (cells : Cells) (controlled : IsControlled (Node part cells)) (within : (c : ℕ) (child : Instance) → cell_at cells c ≡ OfInstance child → ControlWithin h t child)
      (below : (c : ℕ) (child : Instance) → cell_at cells c ≡ OfInstance child → ControlDoes child) where
    abbrev i : Instance
    i = Node part cells

    abbrev list : PlainForm → Beginning → List Event
    list form b = form_events part (events_below cells) form b

    group_does : (g : ℕ) (o : Option ℕ) (b : Beginning) → Stem i (Enable g) b.at (deeds_in h t (group_events g o b))
    group_does g None b = none i (Enable g) b.at [] refl
    group_does g (Some n) b = choice (is_now h t b.from (b.from + n) b.conditions)
      where
        choice : (x : Bool) → Stem i (Enable g) b.at (deed_if x (Acts b.at (record { group = g; offset = t - b.from })) [])
        choice true = record { deeds = Acts [] (record { group = g; offset = t - b.from }) ∷ []; are = ap (λ p. Acts p (record { group = g; offset = t - b.from }) ∷ []) (sym (append-nil b.at)); does = a_group (record { group = g; offset = t - b.from }) }
        choice false = none i (Enable g) b.at [] refl

    -- one of the parts of a static seq
    record OnePart (ss : PlainStatements) (at : Path) (done : List Deed) : Type 0 where
      statement : PlainStatement
      among : In (list_of ss) statement
      stem : Stem i (form_of statement) at done

    as_stem : (written : Option ℕ) (ss : PlainStatements) (at : Path) (done : List Deed) → (done ≡ []) ⊎ OnePart ss at done → Stem i (StaticSeq written ss) at done
    as_stem written ss at done (inl e) = none i (StaticSeq written ss) at done e
    as_stem written ss at done (inr p) = record { deeds = p.stem.deeds; are = p.stem.are; does = a_part p.statement p.among p.stem.does }

    further : (s : PlainStatement) (ss : PlainStatements) (at : Path) (done : List Deed) → (done ≡ []) ⊎ OnePart ss at done → (done ≡ []) ⊎ OnePart (a_statement s ss) at done
    further s ss at done (inl e) = inl e
    further s ss at done (inr p) = inr (record { statement = p.statement; among = inr p.among; stem = p.stem })

    same_part : (ss : PlainStatements) (at : Path) (one other : List Deed) → one ≡ other → (other ≡ []) ⊎ OnePart ss at other → (one ≡ []) ⊎ OnePart ss at one
    same_part ss at one other e p = subst (λ l. (l ≡ []) ⊎ OnePart ss at l) (sym e) p

    record Arms (ss : List PlainStatement) (at : Path) (done : List Deed) : Type 0 where
      deeds : List Deed
      are : done ≡ map (lower at) deeds
      does : DoesArms i ss deeds

    rounds_do : (form : PlainForm) (body : Events) (n : ℕ) → ((b : Beginning) → Within h t b n (body b)) → ((b : Beginning) → Stem i form b.at (deeds_in h t (body b)))
        → (count : ℕ) (b : Beginning) → Stem i form b.at (deeds_in h t (rounds_events body n count b))
    rounds_do form body n inside one zero b = none i form b.at [] refl
    rounds_do form body n inside one (suc count) b = by (some_or_none (deeds_in h t (body b))) (rounds_do form body n inside one count (later_by n b))
      where
        by : ((d : Deed) × In (deeds_in h t (body b)) d) ⊎ (deeds_in h t (body b) ≡ []) → Stem i form b.at (deeds_in h t (rounds_events body n count (later_by n b)))
            → Stem i form b.at (deeds_in h t (body b ++ rounds_events body n count (later_by n b)))
        by (inl d) rest =
            subst (Stem i form b.at) (sym (first_alone (body b) (rounds_events body n count (later_by n b))
            (later_empty b n (count * n) (body b) (rounds_events body n count (later_by n b)) (inside b) (rounds_within h t body n inside count (later_by n b)) d.0 d.1))) (one b)
        by (inr e) rest = subst (Stem i form b.at) (sym (second_alone (body b) (rounds_events body n count (later_by n b)) e)) rest

    -- an invoke
    timed_does : (j : ℕ) → j < length part.invokes → (b : Beginning) → Stem i (Timed j) b.at (deeds_in h t (invoke_events (events_below cells) (the_invoke part j) b))
    timed_does j there b = by (is_now h t b.from (b.from + or_zero v.latency) b.conditions) refl
      where
        v : PlainInvoke
        v = the_invoke part j

        its : IsInvoked i v
        its = controlled.invokes j there

        start : Beginning
        start = record { at = b.at ++ (v.cell ∷ []); bound = bound_below b.bound b.at v.cell v.inputs; from = b.from; conditions = b.conditions }

        inner : List Event
        inner = events_below cells v.cell start

        inner_is : inner ≡ control_events its.child start
        inner_is = events-child cells v.cell its.child start its.stands

        inner_within : Within h t b (or_zero v.latency) inner
        inner_within =
            subst (λ l. Within h t b (or_zero v.latency) l) (sym inner_is) (subst (λ n. Within h t b n (control_events its.child start)) (sym (ap or_zero its.latency)) (within v.cell its.child its.stands start))

        stem : Stem its.child (form_of (part_of its.child).control) start.at (deeds_in h t inner)
        stem = subst (λ l. Stem its.child (form_of (part_of its.child).control) start.at (deeds_in h t l)) (sym inner_is) (below v.cell its.child its.stands start)

        capture_does : (o : Option ℕ) → v.captures ≡ o → Stem i (Timed j) b.at (deeds_in h t (capture_events o (later_by (or_zero v.latency) b)))
        capture_does None e = none i (Timed j) b.at [] refl
        capture_does (Some g) e = choice (is_now h t (b.from + or_zero v.latency) (b.from + or_zero v.latency + 1) b.conditions)
          where
            choice : (x : Bool) → Stem i (Timed j) b.at (deed_if x (Acts b.at (record { group = g; offset = t - (b.from + or_zero v.latency) })) [])
            choice true = record {
              deeds = Acts [] (record { group = g; offset = t - (b.from + or_zero v.latency) }) ∷ [];
              are = ap (λ p. Acts p (record { group = g; offset = t - (b.from + or_zero v.latency) }) ∷ []) (sym (append-nil b.at));
              does = a_capture j (record { group = g; offset = t - (b.from + or_zero v.latency) }) there e;
            }
            choice false = none i (Timed j) b.at [] refl

        capture_empty : (o : Option ℕ) → t < b.from + or_zero v.latency → deeds_in h t (capture_events o (later_by (or_zero v.latency) b)) ≡ []
        capture_empty None less = refl
        capture_empty (Some g) less = choice (is_now h t (b.from + or_zero v.latency) (b.from + or_zero v.latency + 1) b.conditions) refl
          where
            choice : (x : Bool) → is_now h t (b.from + or_zero v.latency) (b.from + or_zero v.latency + 1) b.conditions ≡ x → deed_if x (Acts b.at (record { group = g; offset = t - (b.from + or_zero v.latency) })) [] ≡ []
            choice true f = absurd (let w = now_is h t (b.from + or_zero v.latency) (b.from + or_zero v.latency + 1) b.conditions f in let r = w.begun in omega (arith, less, r))
            choice false f = refl

        by : (x : Bool) → is_now h t b.from (b.from + or_zero v.latency) b.conditions ≡ x → Stem i (Timed j) b.at (deed_if x (Fed b.at v.cell v.inputs) (deeds_in h t (inner ++ capture_events v.captures (later_by (or_zero v.latency) b))))
        by true now =
            let w = now_is h t b.from (b.from + or_zero v.latency) b.conditions now in
            record {
              deeds = Fed [] v.cell v.inputs ∷ map (lower (v.cell ∷ [])) stem.deeds;
              are =
                  ap (λ l. Fed b.at v.cell v.inputs ∷ l) (first_alone inner (capture_events v.captures (later_by (or_zero v.latency) b)) (capture_empty v.captures w.left) ∙ stem.are ∙ lower_deeper b.at v.cell stem.deeds)
                  ∙ ap (λ p. Fed p v.cell v.inputs ∷ map (lower b.at) (map (lower (v.cell ∷ [])) stem.deeds)) (sym (append-nil b.at));
              does = an_invoke j its.child there its.stands its.static stem.does;
            }
        by false now =
            subst (Stem i (Timed j) b.at)
            (sym (second_alone inner (capture_events v.captures (later_by (or_zero v.latency) b))
            (empty_list (deeds_in h t inner) (λ d k. absurd (let yes : true ≡ false = sym (window_now h t b.from (b.from + or_zero v.latency) b.conditions (inner_within d k)) ∙ now in cc)))))
            (capture_does v.captures refl)

    if_does : (written : Option ℕ) (test : PlacedPort) (x y : PlainStatement) (b : Beginning) → AllThere (timed_of x) (length part.invokes) → AllThere (timed_of y) (length part.invokes)
        → Stem i (form_of x) b.at (deeds_in h t (events part (events_below cells) x (also_if (b.bound test.port) true b))) → Stem i (form_of y) b.at (deeds_in h t (events part (events_below cells) y (also_if (b.bound test.port) false b)))
        → Stem i (StaticIf written test x y) b.at (deeds_in h t (list (StaticIf written test x y) b))
    if_does written test x y b there other one two = by (some_or_none (deeds_in h t xs))
      where
        xs : List Event
        xs = events part (events_below cells) x (also_if (b.bound test.port) true b)

        ys : List Event
        ys = events part (events_below cells) y (also_if (b.bound test.port) false b)

        by : ((d : Deed) × In (deeds_in h t xs) d) ⊎ (deeds_in h t xs ≡ []) → Stem i (StaticIf written test x y) b.at (deeds_in h t (xs ++ ys))
        by (inl d) =
            let e = first_alone xs ys (branch_empty b (b.bound test.port) (lasts part x) (lasts part y) xs ys
            (one_within h t part cells controlled within x there (also_if (b.bound test.port) true b)) (one_within h t part cells controlled within y other (also_if (b.bound test.port) false b)) d.0 d.1) in
            record { deeds = one.deeds; are = e ∙ one.are; does = one_branch one.does }
        by (inr e) = record { deeds = two.deeds; are = second_alone xs ys e ∙ two.are; does = other_branch two.does }

    seq_by : (s : PlainStatement) (ss : PlainStatements) (b : Beginning) → AllThere (timed_of s) (length part.invokes) → AllThere (timed_all ss) (length part.invokes)
        → Stem i (form_of s) b.at (deeds_in h t (events part (events_below cells) s b))
        → (deeds_in h t (seq_events part (events_below cells) ss (later_by (lasts part s) b)) ≡ []) ⊎ OnePart ss b.at (deeds_in h t (seq_events part (events_below cells) ss (later_by (lasts part s) b)))
        → (deeds_in h t (seq_events part (events_below cells) (a_statement s ss) b) ≡ []) ⊎ OnePart (a_statement s ss) b.at (deeds_in h t (seq_events part (events_below cells) (a_statement s ss) b))
    seq_by s ss b there later one rest = by (some_or_none (deeds_in h t xs))
      where
        xs : List Event
        xs = events part (events_below cells) s b

        ys : List Event
        ys = seq_events part (events_below cells) ss (later_by (lasts part s) b)

        by : ((d : Deed) × In (deeds_in h t xs) d) ⊎ (deeds_in h t xs ≡ []) → (deeds_in h t (xs ++ ys) ≡ []) ⊎ OnePart (a_statement s ss) b.at (deeds_in h t (xs ++ ys))
        by (inl d) =
            inr (record {
              statement = s;
              among = inl refl;
              stem = subst (Stem i (form_of s) b.at) (sym (first_alone xs ys (later_empty b (lasts part s) (sum_lasts part ss) xs ys
                  (one_within h t part cells controlled within s there b) (seq_within h t part cells controlled within ss later (later_by (lasts part s) b)) d.0 d.1))) one;
            })
        by (inr e) = same_part (a_statement s ss) b.at (deeds_in h t (xs ++ ys)) (deeds_in h t ys) (second_alone xs ys e) (further s ss b.at (deeds_in h t ys) rest)

    mutual
      pub form_does : (form : PlainForm) → AllThere (timed_in form) (length part.invokes) → (b : Beginning) → Stem i form b.at (deeds_in h t (list form b))
      form_does Empty there b = none i Empty b.at [] refl
      form_does (Enable g) there b = group_does g (group_length part g) b
      form_does (Seq parts) there b = none i (Seq parts) b.at [] refl
      form_does (Par arms) there b = none i (Par arms) b.at [] refl
      form_does (If test comb a c) there b = none i (If test comb a c) b.at [] refl
      form_does (While test comb a) there b = none i (While test comb a) b.at [] refl
      form_does (Repeat count a) there b = none i (Repeat count a) b.at [] refl
      form_does (StaticSeq written ss) there b = as_stem written ss b.at (deeds_in h t (seq_events part (events_below cells) ss b)) (seq_does ss there b)
      form_does (StaticPar written ss) there b = let a = arms_do ss there b in record { deeds = a.deeds; are = a.are; does = all_arms a.does }
      form_does (StaticIf written test x y) there b =
          if_does written test x y b (there_left (timed_of x) (timed_of y) _ there) (there_right (timed_of x) (timed_of y) _ there)
          (statement_does x (there_left (timed_of x) (timed_of y) _ there) (also_if (b.bound test.port) true b)) (statement_does y (there_right (timed_of x) (timed_of y) _ there) (also_if (b.bound test.port) false b))
      form_does (StaticRepeat written count a) there b =
          let r = rounds_do (form_of a) (events part (events_below cells) a) (lasts part a) (λ e. one_within h t part cells controlled within a there e) (λ e. statement_does a there e) count b in
          record { deeds = r.deeds; are = r.are; does = a_round r.does }
      form_does (Timed j) there b = timed_does j (there j (inl refl)) b

      pub statement_does : (s : PlainStatement) → AllThere (timed_of s) (length part.invokes) → (b : Beginning) → Stem i (form_of s) b.at (deeds_in h t (events part (events_below cells) s b))
      statement_does (Placed form place) there b = form_does form there b

      seq_does : (ss : PlainStatements) → AllThere (timed_all ss) (length part.invokes) → (b : Beginning)
          → (deeds_in h t (seq_events part (events_below cells) ss b) ≡ []) ⊎ OnePart ss b.at (deeds_in h t (seq_events part (events_below cells) ss b))
      seq_does no_statements there b = inl refl
      seq_does (a_statement s ss) there b =
          seq_by s ss b (there_left (timed_of s) (timed_all ss) _ there) (there_right (timed_of s) (timed_all ss) _ there)
          (statement_does s (there_left (timed_of s) (timed_all ss) _ there) b) (seq_does ss (there_right (timed_of s) (timed_all ss) _ there) (later_by (lasts part s) b))

      arms_do : (ss : PlainStatements) → AllThere (timed_all ss) (length part.invokes) → (b : Beginning) → Arms (list_of ss) b.at (deeds_in h t (par_events part (events_below cells) ss b))
      arms_do no_statements there b = record { deeds = []; are = refl; does = no_arms }
      arms_do (a_statement s ss) there b =
          let one = statement_does s (there_left (timed_of s) (timed_all ss) _ there) b in
          let rest = arms_do ss (there_right (timed_of s) (timed_all ss) _ there) b in
          record {
            deeds = one.deeds ++ rest.deeds;
            are = deeds-both h t (events part (events_below cells) s b) (par_events part (events_below cells) ss b)
                ∙ ap (λ l. l ++ deeds_in h t (par_events part (events_below cells) ss b)) one.are ∙ ap (λ l. map (lower b.at) one.deeds ++ l) rest.are ∙ sym (map-append (lower b.at) one.deeds rest.deeds);
            does = an_arm s one.does rest.does;
          }

  mutual
    pub control_does : (i : Instance) → AllControlled i → ControlDoes i
    control_does (Node part cells) controlled b = statement_does part cells controlled.0 (kids_within h t cells controlled.1) (kids_do cells controlled.1) part.control controlled.0.timed b

    pub kids_do : (cells : Cells) → AllControlledBelow cells → (c : ℕ) (child : Instance) → cell_at cells c ≡ OfInstance child → ControlDoes child
    kids_do no_cells controlled c child e = absurd (cc)
    kids_do (a_primitive row rest) controlled zero child e = absurd (cc)
    kids_do (a_primitive row rest) controlled (suc c) child e = kids_do rest controlled c child e
    kids_do (an_instance other rest) controlled zero child e = let same : other ≡ child = cc in subst ControlDoes same (control_does other controlled.0)
    kids_do (an_instance other rest) controlled (suc c) child e = kids_do rest controlled.1 c child e

lower_still : (list : List Deed) → map (lower []) list ≡ list
lower_still [] = refl
lower_still (Acts at e ∷ rest) = ap (λ l. Acts at e ∷ l) (lower_still rest)
lower_still (Fed at c inputs ∷ rest) = ap (λ l. Fed at c inputs ∷ l) (lower_still rest)

-- WHAT AN ISLAND DOES in one cycle
pub island_does : (h : History) (t : ℕ) (i : Instance) (form : PlainForm) → AllControlled i → AllThere (timed_in form) (length (part_of i).invokes) → Does i form (deeds_in h t (island_events i form))
island_does h t (Node part cells) form controlled there =
    let s = form_does h t part cells controlled.0 (kids_within h t cells controlled.1) (kids_do h t cells controlled.1) form there (record { at = []; bound = spot []; from = 0; conditions = [] }) in
    subst (Does (Node part cells) form) (sym (s.are ∙ lower_still s.deeds)) s.does
