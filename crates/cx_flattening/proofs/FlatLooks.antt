-- THE PORTS AT WHICH THE LIST OF THE FLAT COMPONENT LOOKS in a cycle stand, one by one, for those at which the tree looks.
use Rattle.std.proofs.Common.{◌≡◌, ℕ, zero, suc, ◌+◌, ◌-◌, ◌<◌, inl, inr, Bool, true, false, ◌&&◌, nat_eq, List, [], ◌∷◌, ◌++◌, length, Option, Some, None, refl, sym, ap, ◌∙◌, subst, arith}
use Rattle.std.proofs.lemmas.List.{append-nil}
use Rattle.cx_text.proofs.MemberLaws.{in_left, in_right}
use Rattle.cx_meaning.specs.declared.ports.PortRef.{PortRef}
use Rattle.cx_meaning.specs.declared.ports.PortRef.TheVariants as ports
use Rattle.cx_meaning.specs.Designs.{PlainComponent, PlainForm, Empty, Enable, Seq, Par, If, While, Repeat, StaticSeq, StaticPar, StaticIf, StaticRepeat, Timed, PlainStatement, Placed, PlainStatements, no_statements, a_statement}
use Rattle.cx_meaning.specs.Instances.{Instance, Node, Cells, no_cells, a_primitive, an_instance, OfInstance, part_of, cell_at, Path}
use Rattle.cx_meaning.specs.Control.{groups_in, groups_of, groups_in_all}
use Rattle.cx_meaning.specs.Islands.{group_length, or_zero, length_of, Condition, condition, Occurrence, occurrence, rounds_from, form_flat, flat, seq_flat, par_flat, is_wanted, port_if, looked_at}
use Rattle.cx_meaning.specs.Islands as islands
use Rattle.cx_text.specs.Members.{In}
use Rattle.cx_rules.specs.Invokes.{lasts}
use Rattle.cx_flattening.specs.Events.{the_invoke, Spot, spot, Sample, Event, Runs, Feeds, Looks, Beginning, Events, later_by, source_to, group_events, capture_events, rounds_events, bound_below, invoke_events, form_events, events, seq_events, par_events, control_events, events_below}
use Rattle.cx_flattening.specs.Deeds.{History, hold, spot_if, looked_in}
use Rattle.cx_flattening.specs.Whole.{is_static}
use Rattle.cx_flattening.specs.Copies.{copied_form, copied_statement, copied_statements}
use Rattle.cx_flattening.specs.Flattened as flattening
use Rattle.cx_flattening.specs.Flattened.{Kids, kid_at, kept_at, start_of, wire_at, flat_kids, flat_part, own_port, invoke_port, copy_of, with_capture, inlined, flat_form, flat_statement, flat_statements}
use Rattle.cx_flattening.specs.Levels.{own_of}
use Rattle.cx_flattening.specs.Fair.{IsNamed, IsFair, AllFair, AllFairBelow}
use Rattle.cx_flattening.specs.Sampling.{placed, AllSpots, SpotsBelow, SampledAlike}
use Rattle.cx_flattening.specs.Controlled.{timed_in, timed_of, timed_all, tested_in, tested_of, tested_all, IsControlled, AllControlled, AllControlledBelow}
use Rattle.cx_flattening.proofs.CopiedControl.{statement_twice}
use Rattle.cx_flattening.proofs.LevelSights.{kid-static}
use Rattle.cx_flattening.proofs.FlatLengths.{LastsAlike, Lasting, lasting_left, lasting_right, AllThere, there_left, there_right, invoke_lasting, one_lasting, kids_last}
use Rattle.cx_flattening.proofs.Windows.{events-child}

-- one list beside another
abbrev pub AllRelated : (Spot → PortRef → Type 0) → List Spot → List PortRef → Type 0
AllRelated S [] [] = Unit {0}
AllRelated S [] (q ∷ qs) = ⊥
AllRelated S (x ∷ xs) [] = ⊥
AllRelated S (x ∷ xs) (q ∷ qs) = S x q × AllRelated S xs qs

related_both : (S : Spot → PortRef → Type 0) (xs ys : List Spot) (ps qs : List PortRef) → AllRelated S xs ps → AllRelated S ys qs → AllRelated S (xs ++ ys) (ps ++ qs)
related_both S [] ys [] qs a b = b
related_both S [] ys (p ∷ ps) qs a b = absurd a
related_both S (x ∷ xs) ys [] qs a b = absurd a
related_both S (x ∷ xs) ys (p ∷ ps) qs a b = (a.0, related_both S xs ys ps qs a.1 b)

looked-both : (h : History) (t : ℕ) (xs ys : List Event) → looked_in h t (xs ++ ys) ≡ looked_in h t xs ++ looked_in h t ys
looked-both h t [] ys = refl
looked-both h t (Runs at g from to conditions ∷ xs) ys = looked-both h t xs ys
looked-both h t (Feeds at c inputs from to conditions ∷ xs) ys = looked-both h t xs ys
looked-both h t (Looks x at conditions ∷ xs) ys = choice (nat_eq t at && hold h conditions) (looked-both h t xs ys)
  where
    choice : (b : Bool) → looked_in h t (xs ++ ys) ≡ looked_in h t xs ++ looked_in h t ys → spot_if b x (looked_in h t (xs ++ ys)) ≡ spot_if b x (looked_in h t xs) ++ looked_in h t ys
    choice true ih = ap (λ l. x ∷ l) ih
    choice false ih = ih

ports-both : (k : islands.History) (t : ℕ) (xs ys : List Occurrence) → looked_at k t (xs ++ ys) ≡ looked_at k t xs ++ looked_at k t ys
ports-both k t [] ys = refl
ports-both k t (islands.Runs g from to conditions ∷ xs) ys = ports-both k t xs ys
ports-both k t (islands.Looks port at conditions ∷ xs) ys = choice (nat_eq t at && islands.hold k conditions) (ports-both k t xs ys)
  where
    choice : (b : Bool) → looked_at k t (xs ++ ys) ≡ looked_at k t xs ++ looked_at k t ys → port_if b port (looked_at k t (xs ++ ys)) ≡ port_if b port (looked_at k t xs) ++ looked_at k t ys
    choice true ih = ap (λ l. port ∷ l) ih
    choice false ih = ih

module _ (S : Spot → PortRef → Type 0) where
  spots_child : (kids : Kids) (part : PlainComponent) (rest : Cells) (c n first : ℕ) (at : Path) (child : Instance) → SpotsBelow S kids part rest c first at → cell_at rest n ≡ OfInstance child → is_static child ≡ true
      → AllSpots S child (first + start_of kids part (c + n)) (at ++ ((c + n) ∷ []))
  spots_child kids part no_cells c n first at child agree e static = absurd (cc)
  spots_child kids part (a_primitive row rest) c zero first at child agree e static = absurd (cc)
  spots_child kids part (a_primitive row rest) c (suc n) first at child agree e static = subst (λ d. AllSpots S child (first + start_of kids part d) (at ++ (d ∷ []))) (plus c n) (spots_child kids part rest (suc c) n first at child agree e static)
    where
      plus : (a b : ℕ) → suc a + b ≡ a + suc b
      plus a b = omega arith
  spots_child kids part (an_instance other rest) c zero first at child agree e static =
      subst (λ d. AllSpots S child (first + start_of kids part d) (at ++ (d ∷ []))) (plus_zero c) (subst (λ j. is_static j ≡ true → AllSpots S j (first + start_of kids part c) (at ++ (c ∷ []))) (same_child e) agree.0 static)
    where
      plus_zero : (a : ℕ) → a ≡ a + 0
      plus_zero a = omega arith

      same_child : OfInstance other ≡ OfInstance child → other ≡ child
      same_child e = cc
  spots_child kids part (an_instance other rest) c (suc n) first at child agree e static = subst (λ d. AllSpots S child (first + start_of kids part d) (at ++ (d ∷ []))) (plus c n) (spots_child kids part rest (suc c) n first at child agree.1 e static)
    where
      plus : (a b : ℕ) → suc a + b ≡ a + suc b
      plus a b = omega arith

  -- f gives the ports of the copy, bound where the ports of the instance are seen
  pub record BindsSpots (i : Instance) (first : ℕ) (f : PortRef → PortRef) (bound : PortRef → Spot) (at : Path) : Type 0 where
    pub cells : (e p : ℕ) → f (ports.Cell e p) ≡ ports.Cell (first + e) p
    pub literals : (w v : ℕ) → f (ports.Literal w v) ≡ ports.Literal w v
    pub inputs : (n : ℕ) → n < length (part_of i).inputs → S (bound (ports.Input n)) (f (ports.Input n))
    pub own_cells : (c p : ℕ) → bound (ports.Cell c p) ≡ spot at (ports.Cell c p)
    pub own_literals : (w v : ℕ) → bound (ports.Literal w v) ≡ spot at (ports.Literal w v)

  pub bound_spot : (i : Instance) (first : ℕ) (f : PortRef → PortRef) (bound : PortRef → Spot) (at : Path) → BindsSpots i first f bound at → AllSpots S i first at → (p : PortRef) → IsNamed i p → S (bound p) (f (own_of i p))
  bound_spot (Node part cells) first f bound at binds agree (ports.Cell c p) named =
      subst (λ x. S x (f (own_port (flat_kids cells) part (ports.Cell c p)))) (sym (binds.own_cells c p)) (subst (S (spot at (ports.Cell c p))) (sym (choice (kid_at (flat_kids cells) c))) (agree.0 (ports.Cell c p) named tt))
    where
      choice : (o : Option PlainComponent) → f (flattening.port_if (flat_kids cells) part o c p) ≡ placed first (flattening.port_if (flat_kids cells) part o c p)
      choice None = binds.cells (kept_at (flat_kids cells) c) p
      choice (Some kid) = binds.cells (wire_at (flat_kids cells) part kid c (p - 1 - length kid.inputs)) 1
  bound_spot (Node part cells) first f bound at binds agree (ports.Input n) named = binds.inputs n named
  bound_spot (Node part cells) first f bound at binds agree (ports.Output n) named = absurd named
  bound_spot (Node part cells) first f bound at binds agree (ports.Done g) named = absurd named
  bound_spot (Node part cells) first f bound at binds agree (ports.Literal w v) named =
      subst (λ x. S x (f (ports.Literal w v))) (sym (binds.own_literals w v)) (subst (S (spot at (ports.Literal w v))) (sym (binds.literals w v)) (agree.0 (ports.Literal w v) named tt))

  module _ (h : History) (k : islands.History) (t : ℕ) (samples_alike : (x : Spot) (q : PortRef) → S x q → SampledAlike h k x q) where
    abbrev pub LooksAlike : Instance → Type 0
    LooksAlike i = (J : PlainComponent) (f : PortRef → PortRef) (copy : ℕ → ℕ) (first x : ℕ) (at : Path) (bound : PortRef → Spot) (samples : List Sample) (conditions : List Condition)
        → Lasting J (flat_part i) copy (groups_of (flat_part i).control) → BindsSpots i first f bound at → AllSpots S i first at → hold h samples ≡ islands.hold k conditions
        → AllRelated S (looked_in h t (control_events i (record { at = at; bound = bound; from = x; conditions = samples }))) (looked_at k t (flat J (copied_statement f copy (flat_part i).control) x conditions))

    module _ (part : PlainComponent) (cells : Cells) (fair : IsFair (Node part cells)) (controlled : IsControlled (Node part cells))
        (lasting : (c : ℕ) (child : Instance) → cell_at cells c ≡ OfInstance child → LastsAlike child) (below : (c : ℕ) (child : Instance) → cell_at cells c ≡ OfInstance child → LooksAlike child)
        (J : PlainComponent) (f : PortRef → PortRef) (copy : ℕ → ℕ) (first : ℕ) (at : Path) (bound : PortRef → Spot)
        (binds : BindsSpots (Node part cells) first f bound at) (agree : AllSpots S (Node part cells) first at) where
      abbrev kids : Kids
      kids = flat_kids cells

      abbrev K : PlainComponent
      K = flat_part (Node part cells)

      abbrev start : ℕ → List Sample → Beginning
      start x samples = record { at = at; bound = bound; from = x; conditions = samples }

      abbrev SameLooks : List Event → List Occurrence → Type 0
      SameLooks one other = AllRelated S (looked_in h t one) (looked_at k t other)

      abbrev SameHold : List Sample → List Condition → Type 0
      SameHold samples conditions = hold h samples ≡ islands.hold k conditions

      both_looks : (one two : List Event) (other more : List Occurrence) → SameLooks one other → SameLooks two more → SameLooks (one ++ two) (other ++ more)
      both_looks one two other more a b =
          subst (λ l. AllRelated S l (looked_at k t (other ++ more))) (sym (looked-both h t one two))
          (subst (AllRelated S (looked_in h t one ++ looked_in h t two)) (sym (ports-both k t other more)) (related_both S (looked_in h t one) (looked_in h t two) (looked_at k t other) (looked_at k t more) a b))

      group_looks : (g x : ℕ) (o u : Option ℕ) (b : Beginning) (conditions : List Condition) → SameLooks (group_events g o b) (occurrence (copy g) x conditions u)
      group_looks g x None None b conditions = tt
      group_looks g x None (Some n) b conditions = tt
      group_looks g x (Some m) None b conditions = tt
      group_looks g x (Some m) (Some n) b conditions = tt

      rounds_looks : (body : Events) (list : List Condition → ℕ → List Occurrence) (n m : ℕ) → m ≡ n → ((x : ℕ) (samples : List Sample) (conditions : List Condition) → SameHold samples conditions → SameLooks (body (start x samples)) (list conditions x))
          → (count x : ℕ) (samples : List Sample) (conditions : List Condition) → SameHold samples conditions → SameLooks (rounds_events body n count (start x samples)) (rounds_from (λ y. list conditions y) m count x)
      rounds_looks body list n m e one zero x samples conditions same = tt
      rounds_looks body list n m e one (suc count) x samples conditions same =
          both_looks (body (start x samples)) (rounds_events body n count (start (x + n) samples)) (list conditions x) (rounds_from (λ y. list conditions y) m count (x + m)) (one x samples conditions same)
          (subst (λ z. SameLooks (rounds_events body n count (start (x + n) samples)) (rounds_from (λ y. list conditions y) m count (x + z))) (sym e) (rounds_looks body list n m e one count (x + n) samples conditions same))

      capture_looks : (o : Option ℕ) (s : PlainStatement) (x : ℕ) (b : Beginning) (conditions : List Condition) (xs : List Spot) → AllRelated S xs (looked_at k t (flat J (copied_statement f copy s) x conditions))
          → AllRelated S (xs ++ looked_in h t (capture_events o b)) (looked_at k t (form_flat J (copied_form f copy (with_capture o s)) x conditions))
      capture_looks None (Placed form place) x b conditions xs r = subst (λ l. AllRelated S l (looked_at k t (form_flat J (copied_form f copy form) x conditions))) (sym (append-nil xs)) r
      capture_looks (Some g) s x b conditions xs r =
          subst (AllRelated S (xs ++ [])) (sym (ports-both k t (flat J (copied_statement f copy s) x conditions) (occurrence (copy g) (x + length_of J (copied_statement f copy s)) conditions (group_length J (copy g)) ++ [])))
          (related_both S xs [] (looked_at k t (flat J (copied_statement f copy s) x conditions)) _ r (none (group_length J (copy g))))
        where
          none : (u : Option ℕ) → AllRelated S [] (looked_at k t (occurrence (copy g) (x + length_of J (copied_statement f copy s)) conditions u ++ []))
          none None = tt
          none (Some n) = tt

      zero_plus : (a : ℕ) → 0 + a ≡ a
      zero_plus a = omega arith

      sum : (a b c : ℕ) → a + (b + c) ≡ a + b + c
      sum a b c = omega arith

      timed_looks : (j : ℕ) → j < length part.invokes → (x : ℕ) (samples : List Sample) (conditions : List Condition) → SameHold samples conditions
          → Lasting J K copy (groups_in (inlined kids part (kid_at kids (the_invoke part j).cell) j (the_invoke part j)))
          → SameLooks (invoke_events (events_below cells) (the_invoke part j) (start x samples)) (form_flat J (copied_form f copy (inlined kids part (kid_at kids (the_invoke part j).cell) j (the_invoke part j))) x conditions)
      timed_looks j there x samples conditions same lasts_there =
          let its = controlled.invokes j there in
          let v = the_invoke part j in
          let kid = flat_part its.child in
          let at_kid : kid_at kids v.cell ≡ Some kid = kid-static cells v.cell its.child its.stands its.static in
          let lasts_here = subst (λ o. Lasting J K copy (groups_in (inlined kids part o j v))) at_kid lasts_there in
          let begun : Beginning = record { at = at ++ (v.cell ∷ []); bound = bound_below bound at v.cell v.inputs; from = x; conditions = samples } in
          let its_binds : BindsSpots its.child (first + start_of kids part v.cell) (λ q. f (invoke_port kids part kid v q)) (bound_below bound at v.cell v.inputs) (at ++ (v.cell ∷ [])) = record {
            cells = λ e p. binds.cells (start_of kids part v.cell + e) p ∙ ap (λ n. ports.Cell n p) (sum first (start_of kids part v.cell) e);
            literals = binds.literals;
            inputs = λ n less. bound_spot (Node part cells) first f bound at binds agree (source_to v.cell v.inputs n) (fair.sources j n its.child there its.stands less);
            own_cells = λ c p. refl;
            own_literals = λ w y. refl;
          } in
          let its_spots = subst (λ d. AllSpots S its.child (first + start_of kids part d) (at ++ (d ∷ []))) (zero_plus v.cell) (spots_child kids part cells 0 v.cell first at its.child agree.1 its.stands its.static) in
          let found = below v.cell its.child its.stands J (λ q. f (invoke_port kids part kid v q)) (λ g. copy (copy_of kids part kid j g)) (first + start_of kids part v.cell) x (at ++ (v.cell ∷ [])) (bound_below bound at v.cell v.inputs) samples conditions
          (invoke_lasting part cells fair controlled lasting J copy j there kid at_kid lasts_here) its_binds its_spots same in
          let copied = subst (λ s. AllRelated S (looked_in h t (control_events its.child begun)) (looked_at k t (flat J s x conditions))) (sym (statement_twice f (invoke_port kids part kid v) copy (copy_of kids part kid j) kid.control)) found in
          let child = subst (λ l. AllRelated S (looked_in h t l) (looked_at k t (flat J (copied_statement f copy (copied_statement (invoke_port kids part kid v) (copy_of kids part kid j) kid.control)) x conditions))) (sym (events-child cells v.cell its.child begun its.stands)) copied in
          subst (λ o. SameLooks (invoke_events (events_below cells) v (start x samples)) (form_flat J (copied_form f copy (inlined kids part o j v)) x conditions)) (sym at_kid)
          (subst (λ l. AllRelated S l (looked_at k t (form_flat J (copied_form f copy (with_capture v.captures (copied_statement (invoke_port kids part kid v) (copy_of kids part kid j) kid.control))) x conditions)))
          (sym (looked-both h t (events_below cells v.cell begun) (capture_events v.captures (later_by (or_zero v.latency) (start x samples)))))
          (capture_looks v.captures (copied_statement (invoke_port kids part kid v) (copy_of kids part kid j) kid.control) x (later_by (or_zero v.latency) (start x samples)) conditions (looked_in h t (events_below cells v.cell begun)) child))

      mutual
        pub form_looks : (form : PlainForm) → AllThere (groups_in form) (length part.groups) → AllThere (timed_in form) (length part.invokes) → ((p : PortRef) → In (tested_in form) p → IsNamed (Node part cells) p)
            → Lasting J K copy (groups_in (flat_form kids part form)) → (x : ℕ) (samples : List Sample) (conditions : List Condition) → SameHold samples conditions
            → SameLooks (form_events part (events_below cells) form (start x samples)) (form_flat J (copied_form f copy (flat_form kids part form)) x conditions)
        form_looks Empty own timed tested lasts_there x samples conditions same = tt
        form_looks (Enable g) own timed tested lasts_there x samples conditions same = group_looks g x (group_length part g) (group_length J (copy g)) (start x samples) conditions
        form_looks (Seq ss) own timed tested lasts_there x samples conditions same = tt
        form_looks (Par arms) own timed tested lasts_there x samples conditions same = tt
        form_looks (If test comb a b) own timed tested lasts_there x samples conditions same = tt
        form_looks (While test comb a) own timed tested lasts_there x samples conditions same = tt
        form_looks (Repeat count a) own timed tested lasts_there x samples conditions same = tt
        form_looks (StaticSeq length ss) own timed tested lasts_there x samples conditions same = seq_looks ss own timed tested lasts_there x samples conditions same
        form_looks (StaticPar length arms) own timed tested lasts_there x samples conditions same = par_looks arms own timed tested lasts_there x samples conditions same
        form_looks (StaticIf length test a b) own timed tested lasts_there x samples conditions same =
            subst (λ y. AllRelated S (spot_if (nat_eq t x && hold h samples) (bound test.port) (looked_in h t (E1 ++ E2))) (port_if (nat_eq t x && y) (f (own_port kids part test.port)) (looked_at k t (F1 ++ F2)))) same
            (choice (nat_eq t x && hold h samples) (looked_in h t (E1 ++ E2)) (looked_at k t (F1 ++ F2))
            (both_looks E1 E2 F1 F2
            (one_looks a (there_left (groups_of a) (groups_of b) _ own) (there_left (timed_of a) (timed_of b) _ timed) (λ p i. tested p (inr (in_left (tested_of a) (tested_of b) p i)))
            (lasting_left J K copy (groups_of (flat_statement kids part a)) (groups_of (flat_statement kids part b)) lasts_there) x _ _ (holds_with true))
            (one_looks b (there_right (groups_of a) (groups_of b) _ own) (there_right (timed_of a) (timed_of b) _ timed) (λ p i. tested p (inr (in_right (tested_of a) (tested_of b) p i)))
            (lasting_right J K copy (groups_of (flat_statement kids part a)) (groups_of (flat_statement kids part b)) lasts_there) x _ _ (holds_with false))))
          where
            E1 : List Event
            E1 = events part (events_below cells) a (start x (record { spot = bound test.port; cycle = x; wanted = true } ∷ samples))

            E2 : List Event
            E2 = events part (events_below cells) b (start x (record { spot = bound test.port; cycle = x; wanted = false } ∷ samples))

            F1 : List Occurrence
            F1 = flat J (copied_statement f copy (flat_statement kids part a)) x (condition (f (own_port kids part test.port)) x true ∷ conditions)

            F2 : List Occurrence
            F2 = flat J (copied_statement f copy (flat_statement kids part b)) x (condition (f (own_port kids part test.port)) x false ∷ conditions)

            its : S (bound test.port) (f (own_port kids part test.port))
            its = bound_spot (Node part cells) first f bound at binds agree test.port (tested test.port (inl refl))

            holds_with : (wanted : Bool) → (is_wanted wanted (h (bound test.port) x) && hold h samples) ≡ (is_wanted wanted (k (f (own_port kids part test.port)) x) && islands.hold k conditions)
            holds_with wanted = ap (λ y. is_wanted wanted y && hold h samples) (sym (samples_alike (bound test.port) (f (own_port kids part test.port)) its x)) ∙ ap (λ y. is_wanted wanted (k (f (own_port kids part test.port)) x) && y) same

            choice : (b : Bool) (xs : List Spot) (qs : List PortRef) → AllRelated S xs qs → AllRelated S (spot_if b (bound test.port) xs) (port_if b (f (own_port kids part test.port)) qs)
            choice true xs qs r = (its, r)
            choice false xs qs r = r
        form_looks (StaticRepeat length count a) own timed tested lasts_there x samples conditions same =
            rounds_looks (events part (events_below cells) a) (λ cs y. flat J (copied_statement f copy (flat_statement kids part a)) y cs) (lasts part a) (length_of J (copied_statement f copy (flat_statement kids part a)))
            (one_lasting part cells fair controlled lasting J f copy a own timed lasts_there) (λ y ss cs e. one_looks a own timed tested lasts_there y ss cs e) count x samples conditions same
        form_looks (Timed j) own timed tested lasts_there x samples conditions same = timed_looks j (timed j (inl refl)) x samples conditions same lasts_there

        pub one_looks : (s : PlainStatement) → AllThere (groups_of s) (length part.groups) → AllThere (timed_of s) (length part.invokes) → ((p : PortRef) → In (tested_of s) p → IsNamed (Node part cells) p)
            → Lasting J K copy (groups_of (flat_statement kids part s)) → (x : ℕ) (samples : List Sample) (conditions : List Condition) → SameHold samples conditions
            → SameLooks (events part (events_below cells) s (start x samples)) (flat J (copied_statement f copy (flat_statement kids part s)) x conditions)
        one_looks (Placed form place) own timed tested lasts_there x samples conditions same = form_looks form own timed tested lasts_there x samples conditions same

        seq_looks : (ss : PlainStatements) → AllThere (groups_in_all ss) (length part.groups) → AllThere (timed_all ss) (length part.invokes) → ((p : PortRef) → In (tested_all ss) p → IsNamed (Node part cells) p)
            → Lasting J K copy (groups_in_all (flat_statements kids part ss)) → (x : ℕ) (samples : List Sample) (conditions : List Condition) → SameHold samples conditions
            → SameLooks (seq_events part (events_below cells) ss (start x samples)) (seq_flat J (copied_statements f copy (flat_statements kids part ss)) x conditions)
        seq_looks no_statements own timed tested lasts_there x samples conditions same = tt
        seq_looks (a_statement s ss) own timed tested lasts_there x samples conditions same =
            both_looks (events part (events_below cells) s (start x samples)) (seq_events part (events_below cells) ss (start (x + lasts part s) samples))
            (flat J (copied_statement f copy (flat_statement kids part s)) x conditions) (seq_flat J (copied_statements f copy (flat_statements kids part ss)) (x + length_of J (copied_statement f copy (flat_statement kids part s))) conditions)
            (one_looks s (there_left (groups_of s) (groups_in_all ss) _ own) (there_left (timed_of s) (timed_all ss) _ timed) (λ p i. tested p (in_left (tested_of s) (tested_all ss) p i)) here x samples conditions same)
            (subst (λ n. SameLooks (seq_events part (events_below cells) ss (start (x + lasts part s) samples)) (seq_flat J (copied_statements f copy (flat_statements kids part ss)) (x + n) conditions))
            (sym (one_lasting part cells fair controlled lasting J f copy s (there_left (groups_of s) (groups_in_all ss) _ own) (there_left (timed_of s) (timed_all ss) _ timed) here))
            (seq_looks ss (there_right (groups_of s) (groups_in_all ss) _ own) (there_right (timed_of s) (timed_all ss) _ timed) (λ p i. tested p (in_right (tested_of s) (tested_all ss) p i))
            (lasting_right J K copy (groups_of (flat_statement kids part s)) (groups_in_all (flat_statements kids part ss)) lasts_there) (x + lasts part s) samples conditions same))
          where
            here : Lasting J K copy (groups_of (flat_statement kids part s))
            here = lasting_left J K copy (groups_of (flat_statement kids part s)) (groups_in_all (flat_statements kids part ss)) lasts_there

        par_looks : (ss : PlainStatements) → AllThere (groups_in_all ss) (length part.groups) → AllThere (timed_all ss) (length part.invokes) → ((p : PortRef) → In (tested_all ss) p → IsNamed (Node part cells) p)
            → Lasting J K copy (groups_in_all (flat_statements kids part ss)) → (x : ℕ) (samples : List Sample) (conditions : List Condition) → SameHold samples conditions
            → SameLooks (par_events part (events_below cells) ss (start x samples)) (par_flat J (copied_statements f copy (flat_statements kids part ss)) x conditions)
        par_looks no_statements own timed tested lasts_there x samples conditions same = tt
        par_looks (a_statement s ss) own timed tested lasts_there x samples conditions same =
            both_looks (events part (events_below cells) s (start x samples)) (par_events part (events_below cells) ss (start x samples))
            (flat J (copied_statement f copy (flat_statement kids part s)) x conditions) (par_flat J (copied_statements f copy (flat_statements kids part ss)) x conditions)
            (one_looks s (there_left (groups_of s) (groups_in_all ss) _ own) (there_left (timed_of s) (timed_all ss) _ timed) (λ p i. tested p (in_left (tested_of s) (tested_all ss) p i))
            (lasting_left J K copy (groups_of (flat_statement kids part s)) (groups_in_all (flat_statements kids part ss)) lasts_there) x samples conditions same)
            (par_looks ss (there_right (groups_of s) (groups_in_all ss) _ own) (there_right (timed_of s) (timed_all ss) _ timed) (λ p i. tested p (in_right (tested_of s) (tested_all ss) p i))
            (lasting_right J K copy (groups_of (flat_statement kids part s)) (groups_in_all (flat_statements kids part ss)) lasts_there) x samples conditions same)

    mutual
      pub control_looks : (i : Instance) → AllFair i → AllControlled i → LooksAlike i
      control_looks (Node part cells) fair controlled J f copy first x at bound samples conditions lasts_there binds agree same =
          one_looks part cells fair.0 controlled.0 (kids_last cells fair.1 controlled.1) (kids_look cells fair.1 controlled.1) J f copy first at bound binds agree part.control
          controlled.0.enables controlled.0.timed controlled.0.tests lasts_there x samples conditions same

      pub kids_look : (cells : Cells) → AllFairBelow cells → AllControlledBelow cells → (c : ℕ) (child : Instance) → cell_at cells c ≡ OfInstance child → LooksAlike child
      kids_look no_cells fair controlled c child e = absurd (cc)
      kids_look (a_primitive row rest) fair controlled zero child e = absurd (cc)
      kids_look (a_primitive row rest) fair controlled (suc c) child e = kids_look rest fair controlled c child e
      kids_look (an_instance other rest) fair controlled zero child e = let same : other ≡ child = cc in subst LooksAlike same (control_looks other fair.0 controlled.0)
      kids_look (an_instance other rest) fair controlled (suc c) child e = kids_look rest fair.1 controlled.1 c child e
