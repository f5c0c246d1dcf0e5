-- Lowering keeps what nests: an occurrence or a point stands under no more samples than there are statements around it.
use Rattle.std.proofs.Common.{◌≡◌, inl, inr, ℕ, suc, ◌+◌, ◌*◌, ◌≤◌, true, false, List, [], ◌∷◌, ◌++◌, length, Option, Some, None, refl, arith, length-append}
use Rattle.cx_text.proofs.MemberLaws.{in_left, in_right, each_append}
use Rattle.cx_text.specs.declared.places.Place.{Place}
use Rattle.cx_meaning.specs.declared.ports.PlacedPort.{PlacedPort}
use Rattle.cx_meaning.specs.Designs.{PlainComponent, PlainForm, Empty, Enable, Seq, Par, If, While, Repeat, StaticSeq, StaticPar, StaticIf, StaticRepeat, Timed, PlainStatement, Placed, PlainStatements, no_statements, a_statement}
use Rattle.cx_meaning.specs.Islands.{group_length, form_length, length_of}
use Rattle.cx_text.specs.Members.{In, Each}
use Rattle.cx_rules.specs.Items.{Context, Dynamic, InStatic, Branch, Visited, visit, visit_all, test_in}
use Rattle.cx_net.specs.NetLimits.{IsRead}
use Rattle.cx_static.specs.Islands.{PlainOccurrence}
use Rattle.cx_static.specs.Lowering.{Gathered, Begin, begin_at, later, sampled, if_sampled, with_timer, with_point, with_occurrence, form_gathered, gathered, parts_gathered, arms_gathered, island_gathered, island_of, Lowering, with_island, after_enable, lowered_enable, form_after, after, parts_after, lowered_form, lowered, lowered_parts}
use Rattle.cx_wiring.specs.Nesting.{most, PointNests, FormNests, StatementNests, PartsNest, IslandNests}

some_visited : (context : Context) (s : PlainStatement) → 1 ≤ length (visit context s)
some_visited context (Placed form place) = omega arith

module _ (part : PlainComponent) where
  -- no test of these statements reads an output
  abbrev pub AllRead : List Visited → Type 0
  AllRead vs = (v : Visited) → In vs v → (p : PlacedPort) → test_in v.form ≡ Some p → IsRead p.port

  read_first : (vs more : List Visited) → AllRead (vs ++ more) → AllRead vs
  read_first vs more keep v i = keep v (in_left vs more v i)

  read_rest : (vs more : List Visited) → AllRead (vs ++ more) → AllRead more
  read_rest vs more keep v i = keep v (in_right vs more v i)

  abbrev FewSamples : PlainOccurrence → Type 0
  FewSamples o = 3 + length o.samples ≤ most

  record Nested (g : Gathered) : Type 0 where
    points : Each PointNests g.points
    occurrences : Each FewSamples g.occurrences

  -- so many statements from here on, under these samples
  abbrev Under : Begin → ℕ → Type 0
  Under x count = suc (length x.samples + length x.samples + count) ≤ most

  occurrence_nests : (group : ℕ) (x : Begin) (o : Option ℕ) (g : Gathered) → Under x 1 → Nested g → Nested (with_occurrence group x o g)
  occurrence_nests group x None g few h = h
  occurrence_nests group x (Some n) g few h =
      let less : 3 + length x.samples ≤ most = omega arith in
      record { points = h.points; occurrences = each_append FewSamples g.occurrences (record { group = group; timer = x.timer; from = x.at; to = x.at + n; samples = x.samples } ∷ []) h.occurrences (less, tt) }

  mutual
    form_nests : (form : PlainForm) (context : Context) (place : Place) (x : Begin) (g : Gathered) → AllRead (visit context (Placed form place)) → Under x (length (visit context (Placed form place))) → Nested g → Nested (form_gathered part form x g)
    form_nests Empty context place x g read few h = h
    form_nests (Enable group) context place x g read few h = occurrence_nests group x (group_length part group) g few h
    form_nests (Seq parts) context place x g read few h = h
    form_nests (Par arms) context place x g read few h = h
    form_nests (If test comb y z) context place x g read few h = h
    form_nests (While test comb y) context place x g read few h = h
    form_nests (Repeat count y) context place x g read few h = h
    form_nests (StaticSeq written parts) context place x g read few h =
        let less : suc (length x.samples + length x.samples + length (visit_all InStatic parts)) ≤ most = omega arith in
        parts_nest parts x g (λ v i. read v (inr i)) less h
    form_nests (StaticPar written arms) context place x g read few h =
        let less : suc (length x.samples + length x.samples + length (visit_all InStatic arms)) ≤ most = omega arith in
        arms_nest arms x g (λ v i. read v (inr i)) less h
    form_nests (StaticIf written test y z) context place x g read few h =
        let both : length (visit Branch y ++ visit Branch z) ≡ length (visit Branch y) + length (visit Branch z) = length-append (visit Branch y) (visit Branch z) in
        let first : length (sampled (length g.points) true x.samples) ≡ length x.samples + 1 = length-append x.samples (record { point = length g.points; wanted = true } ∷ []) in
        let second : length (sampled (length g.points) false x.samples) ≡ length x.samples + 1 = length-append x.samples (record { point = length g.points; wanted = false } ∷ []) in
        let left : 1 ≤ length (visit Branch y) = some_visited Branch y in
        let right : 1 ≤ length (visit Branch z) = some_visited Branch z in
        let own : 3 + length x.samples ≤ most = omega arith in
        let under_first : Under (if_sampled (length g.points) true x) (length (visit Branch y)) = omega arith in
        let under_second : Under (if_sampled (length g.points) false x) (length (visit Branch z)) = omega arith in
        let port = read (record { context = context; form = StaticIf written test y z; place = place }) (inl refl) test refl in
        let point : Nested (with_point test.port x g) = record {
          points = each_append PointNests g.points (record { port = test.port; timer = x.timer; at = x.at; samples = x.samples } ∷ []) h.points (record { port = port; few = own }, tt);
          occurrences = h.occurrences;
        } in
        nests z Branch (if_sampled (length g.points) false x) (gathered part y (if_sampled (length g.points) true x) (with_point test.port x g)) (read_rest (visit Branch y) (visit Branch z) (λ v i. read v (inr i))) under_second
        (nests y Branch (if_sampled (length g.points) true x) (with_point test.port x g) (read_first (visit Branch y) (visit Branch z) (λ v i. read v (inr i))) under_first point)
    form_nests (StaticRepeat written count y) context place x g read few h =
        let less : suc (length x.samples + length x.samples + length (visit InStatic y)) ≤ most = omega arith in
        nests y InStatic (begin_at (length g.timers) 0 x.samples) (with_timer part.place (length_of part y) (Some x.timer) x.at (x.at + count * length_of part y) g) (λ v i. read v (inr i)) less
        (record { points = h.points; occurrences = h.occurrences })
    form_nests (Timed k) context place x g read few h = h

    nests : (s : PlainStatement) (context : Context) (x : Begin) (g : Gathered) → AllRead (visit context s) → Under x (length (visit context s)) → Nested g → Nested (gathered part s x g)
    nests (Placed form place) context x g read few h = form_nests form context place x g read few h

    parts_nest : (ss : PlainStatements) (x : Begin) (g : Gathered) → AllRead (visit_all InStatic ss) → Under x (length (visit_all InStatic ss)) → Nested g → Nested (parts_gathered part ss x g)
    parts_nest no_statements x g read few h = h
    parts_nest (a_statement s ss) x g read few h =
        let both : length (visit InStatic s ++ visit_all InStatic ss) ≡ length (visit InStatic s) + length (visit_all InStatic ss) = length-append (visit InStatic s) (visit_all InStatic ss) in
        let one : Under x (length (visit InStatic s)) = omega arith in
        let rest : Under (later (length_of part s) x) (length (visit_all InStatic ss)) = omega arith in
        parts_nest ss (later (length_of part s) x) (gathered part s x g) (read_rest (visit InStatic s) (visit_all InStatic ss) read) rest (nests s InStatic x g (read_first (visit InStatic s) (visit_all InStatic ss) read) one h)

    arms_nest : (ss : PlainStatements) (x : Begin) (g : Gathered) → AllRead (visit_all InStatic ss) → Under x (length (visit_all InStatic ss)) → Nested g → Nested (arms_gathered part ss x g)
    arms_nest no_statements x g read few h = h
    arms_nest (a_statement s ss) x g read few h =
        let both : length (visit InStatic s ++ visit_all InStatic ss) ≡ length (visit InStatic s) + length (visit_all InStatic ss) = length-append (visit InStatic s) (visit_all InStatic ss) in
        let one : Under x (length (visit InStatic s)) = omega arith in
        let rest : Under x (length (visit_all InStatic ss)) = omega arith in
        arms_nest ss x (gathered part s x g) (read_rest (visit InStatic s) (visit_all InStatic ss) read) rest (nests s InStatic x g (read_first (visit InStatic s) (visit_all InStatic ss) read) one h)

  -- CONTROL
  abbrev pub IslandsNest : Lowering → Type 0
  IslandsNest l = Each IslandNests l.islands

  island_nests : (form : PlainForm) (place : Place) (l : Lowering) → AllRead (visit Dynamic (Placed form place)) → suc (length (visit Dynamic (Placed form place))) ≤ most → IslandsNest l → IslandsNest (with_island part form l)
  island_nests form place l read few h =
      let under : Under (begin_at 0 0 []) (length (visit Dynamic (Placed form place))) = omega arith in
      let all = form_nests form Dynamic place (begin_at 0 0 []) (with_timer part.place (form_length part form) None 0 (form_length part form) (record { cells = l.cells; timers = []; points = []; occurrences = [] })) read under
      (record { points = tt; occurrences = tt }) in
      each_append IslandNests l.islands (island_of (form_length part form) (island_gathered part form l.cells) ∷ []) h (record { points = all.points; occurrences = all.occurrences }, tt)

  enable_island_nests : (g : ℕ) (place : Place) (o : Option ℕ) (l : Lowering) → AllRead (visit Dynamic (Placed (Enable g) place)) → 2 ≤ most → IslandsNest l → IslandsNest (after_enable part g o l)
  enable_island_nests g place None l read few h = h
  enable_island_nests g place (Some n) l read few h = island_nests (Enable g) place l read few h

  mutual
    form_islands_nest : (form : PlainForm) (place : Place) (l : Lowering) → AllRead (visit Dynamic (Placed form place)) → suc (length (visit Dynamic (Placed form place))) ≤ most → IslandsNest l → IslandsNest (form_after part form l)
    form_islands_nest Empty place l read few h = h
    form_islands_nest (Enable g) place l read few h = enable_island_nests g place (group_length part g) l read few h
    form_islands_nest (Seq parts) place l read few h = let less : suc (length (visit_all Dynamic parts)) ≤ most = omega arith in parts_islands_nest parts l (λ v i. read v (inr i)) less h
    form_islands_nest (Par arms) place l read few h = let less : suc (length (visit_all Dynamic arms)) ≤ most = omega arith in parts_islands_nest arms l (λ v i. read v (inr i)) less h
    form_islands_nest (If test comb a b) place l read few h =
        let both : length (visit Dynamic a ++ visit Dynamic b) ≡ length (visit Dynamic a) + length (visit Dynamic b) = length-append (visit Dynamic a) (visit Dynamic b) in
        let one : suc (length (visit Dynamic a)) ≤ most = omega arith in
        let two : suc (length (visit Dynamic b)) ≤ most = omega arith in
        islands_nest b (after part a l) (read_rest (visit Dynamic a) (visit Dynamic b) (λ v i. read v (inr i))) two (islands_nest a l (read_first (visit Dynamic a) (visit Dynamic b) (λ v i. read v (inr i))) one h)
    form_islands_nest (While test comb a) place l read few h = let less : suc (length (visit Dynamic a)) ≤ most = omega arith in islands_nest a l (λ v i. read v (inr i)) less h
    form_islands_nest (Repeat count a) place l read few h = let less : suc (length (visit Dynamic a)) ≤ most = omega arith in islands_nest a l (λ v i. read v (inr i)) less h
    form_islands_nest (StaticSeq written parts) place l read few h = island_nests (StaticSeq written parts) place l read few h
    form_islands_nest (StaticPar written arms) place l read few h = island_nests (StaticPar written arms) place l read few h
    form_islands_nest (StaticIf written test a b) place l read few h = island_nests (StaticIf written test a b) place l read few h
    form_islands_nest (StaticRepeat written count a) place l read few h = island_nests (StaticRepeat written count a) place l read few h
    form_islands_nest (Timed k) place l read few h = h

    -- THE ISLANDS of control nest
    pub islands_nest : (s : PlainStatement) (l : Lowering) → AllRead (visit Dynamic s) → suc (length (visit Dynamic s)) ≤ most → IslandsNest l → IslandsNest (after part s l)
    islands_nest (Placed form place) l read few h = form_islands_nest form place l read few h

    parts_islands_nest : (ss : PlainStatements) (l : Lowering) → AllRead (visit_all Dynamic ss) → suc (length (visit_all Dynamic ss)) ≤ most → IslandsNest l → IslandsNest (parts_after part ss l)
    parts_islands_nest no_statements l read few h = h
    parts_islands_nest (a_statement s ss) l read few h =
        let both : length (visit Dynamic s ++ visit_all Dynamic ss) ≡ length (visit Dynamic s) + length (visit_all Dynamic ss) = length-append (visit Dynamic s) (visit_all Dynamic ss) in
        let one : suc (length (visit Dynamic s)) ≤ most = omega arith in
        let rest : suc (length (visit_all Dynamic ss)) ≤ most = omega arith in
        parts_islands_nest ss (after part s l) (read_rest (visit Dynamic s) (visit_all Dynamic ss) read) rest (islands_nest s l (read_first (visit Dynamic s) (visit_all Dynamic ss) read) one h)

  -- the tests of lowered control
  enable_lowers : (g : ℕ) (o : Option ℕ) (l : Lowering) → FormNests (lowered_enable part g o l)
  enable_lowers g None l = tt
  enable_lowers g (Some n) l = tt

  mutual
    form_lowers : (form : PlainForm) (place : Place) (l : Lowering) → AllRead (visit Dynamic (Placed form place)) → FormNests (lowered_form part form l)
    form_lowers Empty place l read = tt
    form_lowers (Enable g) place l read = enable_lowers g (group_length part g) l
    form_lowers (Seq parts) place l read = parts_lower parts l (λ v i. read v (inr i))
    form_lowers (Par arms) place l read = parts_lower arms l (λ v i. read v (inr i))
    form_lowers (If test comb a b) place l read = (
      read (record { context = Dynamic; form = If test comb a b; place = place }) (inl refl) test refl,
      lowers a l (read_first (visit Dynamic a) (visit Dynamic b) (λ v i. read v (inr i))),
      lowers b (after part a l) (read_rest (visit Dynamic a) (visit Dynamic b) (λ v i. read v (inr i))),
    )
    form_lowers (While test comb a) place l read = (read (record { context = Dynamic; form = While test comb a; place = place }) (inl refl) test refl, lowers a l (λ v i. read v (inr i)))
    form_lowers (Repeat count a) place l read = lowers a l (λ v i. read v (inr i))
    form_lowers (StaticSeq written parts) place l read = tt
    form_lowers (StaticPar written arms) place l read = tt
    form_lowers (StaticIf written test a b) place l read = tt
    form_lowers (StaticRepeat written count a) place l read = tt
    form_lowers (Timed k) place l read = tt

    pub lowers : (s : PlainStatement) (l : Lowering) → AllRead (visit Dynamic s) → StatementNests (lowered part s l)
    lowers (Placed form place) l read = form_lowers form place l read

    parts_lower : (ss : PlainStatements) (l : Lowering) → AllRead (visit_all Dynamic ss) → PartsNest (lowered_parts part ss l)
    parts_lower no_statements l read = tt
    parts_lower (a_statement s ss) l read = (lowers s l (read_first (visit Dynamic s) (visit_all Dynamic ss) read), parts_lower ss (after part s l) (read_rest (visit Dynamic s) (visit_all Dynamic ss) read))
