-- The groups of an island that are active in a cycle are what its statement may have active at once, whatever its timers count and its
-- samples are: of parts that follow each other the count is in the range of one, and a static if has one sample.
use Rattle.std.proofs.Common.{◌≡◌, ℕ, ◌+◌, ◌*◌, ◌<◌, ◌≤◌, ◌⊎◌, inl, inr, max, Bool, true, false, List, [], ◌∷◌, length, Option, Some, None, slice_get, if◌then◌else◌, refl, sym, ap, ◌∙◌, subst, arith}
use Rattle.std.proofs.lemmas.Bool.{cases_lt, eq-eqb}
use Rattle.cx_text.proofs.MemberLaws.{in_either, in_left, in_right}
use Rattle.cx_text.specs.declared.places.Place.{Place}
use Rattle.cx_meaning.specs.declared.ports.PlacedPort.{PlacedPort}
use Rattle.cx_meaning.specs.Designs.{PlainComponent, PlainForm, Empty, Enable, Seq, Par, If, While, Repeat, StaticSeq, StaticPar, StaticIf, StaticRepeat, Timed, PlainStatement, Placed, PlainStatements, no_statements, a_statement, list_of}
use Rattle.cx_meaning.specs.Active.{Active, nothing, entries}
use Rattle.cx_text.specs.Members.{In}
use Rattle.cx_meaning.specs.Islands.{or_zero, group_length, form_length, length_of, sum_length, max_length}
use Rattle.cx_control.specs.Together.{union, IsTogether, at_rest, at_offset, in_static_seq, in_static_par, in_static_then, in_static_else, in_static_repeat, AreTogether, no_arm, an_arm}
use Rattle.cx_static.specs.declared.islands.Sample.{Sample}
use Rattle.cx_static.specs.declared.islands.IslandTimer.{IslandTimer}
use Rattle.cx_static.specs.Islands.{PlainOccurrence}
use Rattle.cx_static.specs.Lowering.{Gathered, Begin, begin_at, later, sampled, if_sampled, with_timer, with_point, with_occurrence, form_gathered, gathered, parts_gathered, arms_gathered}
use Rattle.cx_wiring.proofs.GatherLaws.{grows, parts_grow, arms_grow}
use Rattle.cx_wiring_runs.proofs.TogetherGoes.{IsOn, union_left, union_right}
use Rattle.cx_text.proofs.ListLaws.{get_end, front as slice_left}

module _ (part : PlainComponent) (live : ℕ → Bool) (count : ℕ → ℕ) (sample : ℕ → Bool) (final : List IslandTimer) where
  abbrev Wanted : List Sample → Type 0
  Wanted samples = (s : Sample) → In samples s → sample s.point ≡ s.wanted

  -- a timer runs, has a count from the first to before the second, and the samples are as wanted
  pub record IsWithin (timer from to : ℕ) (samples : List Sample) : Type 0 where
    pub runs : live timer ≡ true
    pub low : from ≤ count timer
    pub high : count timer < to
    pub wanted : (s : Sample) → In samples s → sample s.point ≡ s.wanted

  abbrev pub Acts : PlainOccurrence → Type 0
  Acts o = IsWithin o.timer o.from o.to o.samples

  -- what has begun in so many cycles
  abbrev Begun : Begin → ℕ → Type 0
  Begun x n = IsWithin x.timer x.at (x.at + n) x.samples

  -- the timers of a stage are timers of the island, and a timer inside another runs in its range alone
  abbrev Stage : Gathered → Type 0
  Stage g = (t : ℕ) (timer : IslandTimer) → slice_get g.timers t ≡ Some timer → slice_get final t ≡ Some timer

  module _ (inner : (t outer : ℕ) (timer : IslandTimer) → slice_get final t ≡ Some timer → timer.outer ≡ Some outer → live t ≡ true → (live outer ≡ true) × (timer.from ≤ count outer) × (count outer < timer.to)) where
    -- of the occurrences that a stage has beside an earlier one
    abbrev Goes : Active → Gathered → Gathered → Type 0
    Goes act g h = (o : PlainOccurrence) → In h.occurrences o → In g.occurrences o ⊎ (Acts o → IsOn act o.group)

    abbrev Quiet : Gathered → Gathered → Type 0
    Quiet g h = (o : PlainOccurrence) → In h.occurrences o → In g.occurrences o ⊎ (Acts o → ⊥)

    goes_both : (act : Active) (a b c : Gathered) → Goes act a b → Goes act b c → Goes act a c
    goes_both act a b c h k o i = elim (k o i) [ inl j ↦ h o j | inr f ↦ inr f ]

    quiet_both : (a b c : Gathered) → Quiet a b → Quiet b c → Quiet a c
    quiet_both a b c h k o i = elim (k o i) [ inl j ↦ h o j | inr f ↦ inr f ]

    quiet_goes : (act : Active) (a b : Gathered) → Quiet a b → Goes act a b
    quiet_goes act a b h o i = elim (h o i) [ inl j ↦ inl j | inr f ↦ inr (λ acts. absurd (f acts)) ]

    goes_more : (act other : Active) (a b : Gathered) → ((g : ℕ) → IsOn act g → IsOn other g) → Goes act a b → Goes other a b
    goes_more act other a b f h o i = elim (h o i) [ inl j ↦ inl j | inr k ↦ inr (λ acts. f o.group (k acts)) ]

    same_goes : (act : Active) (a : Gathered) → Goes act a a
    same_goes act a o i = inl i

    same_quiet : (a : Gathered) → Quiet a a
    same_quiet a o i = inl i

    -- WHAT A STATEMENT ADDS
    pub record Adds (s : PlainStatement) (x : Begin) (n : ℕ) (g h : Gathered) : Type 0 where
      pub act : Active
      pub together : IsTogether s act
      pub goes : Goes act g h
      pub quiet : (Begun x n → ⊥) → Quiet g h

    record PartsAdd (ss : PlainStatements) (x : Begin) (n : ℕ) (g h : Gathered) : Type 0 where
      act : Active
      one_of_them : (act ≡ nothing) ⊎ ((s : PlainStatement) × In (list_of ss) s × IsTogether s act)
      goes : Goes act g h
      quiet : (Begun x n → ⊥) → Quiet g h

    record ArmsAdd (ss : PlainStatements) (x : Begin) (n : ℕ) (g h : Gathered) : Type 0 where
      act : Active
      together : AreTogether (list_of ss) act
      goes : Goes act g h
      quiet : (Begun x n → ⊥) → Quiet g h

    adds_nothing : (s : PlainStatement) (x : Begin) (n : ℕ) (g : Gathered) → Adds s x n g g
    adds_nothing s x n g = record { act = nothing; together = at_rest; goes = same_goes nothing g; quiet = λ off. same_quiet g }

    shorter : (x : Begin) (n m : ℕ) → n ≤ m → (Begun x m → ⊥) → Begun x n → ⊥
    shorter x n m less off w = off (record { runs = w.runs; low = w.low; high = let h = w.high in omega arith; wanted = w.wanted })

    -- an earlier stage
    before_parts : (ss : PlainStatements) (x : Begin) (g : Gathered) → Stage (parts_gathered part ss x g) → Stage g
    before_parts ss x g stage t timer e =
        stage t timer
        (parts_grow part (λ h. slice_get h.timers t ≡ Some timer) (λ p outer from to h k. slice_left h.timers _ t timer k) (λ port y h k. k) (λ group y n h k. k) ss x g e)

    before_arms : (ss : PlainStatements) (x : Begin) (g : Gathered) → Stage (arms_gathered part ss x g) → Stage g
    before_arms ss x g stage t timer e =
        stage t timer
        (arms_grow part (λ h. slice_get h.timers t ≡ Some timer) (λ p outer from to h k. slice_left h.timers _ t timer k) (λ port y h k. k) (λ group y n h k. k) ss x g e)

    before_one : (s : PlainStatement) (x : Begin) (g : Gathered) → Stage (gathered part s x g) → Stage g
    before_one s x g stage t timer e =
        stage t timer (grows part (λ h. slice_get h.timers t ≡ Some timer) (λ p outer from to h k. slice_left h.timers _ t timer k) (λ port y h k. k) (λ group y n h k. k) s x g e)

    on_offset : (g o : ℕ) → IsOn (entries (record { group = g; offset = o } ∷ [])) g
    on_offset g o = (o, ap (λ b. if b then Some o else None) (eq-eqb g g refl))

    enable_adds : (group : ℕ) (place : Place) (o : Option ℕ) (x : Begin) (g : Gathered) → Adds (Placed (Enable group) place) x (or_zero o) g (with_occurrence group x o g)
    enable_adds group place None x g = adds_nothing (Placed (Enable group) place) x 0 g
    enable_adds group place (Some n) x g = record { act = entries (record { group = group; offset = 0 } ∷ []); together = at_offset 0; goes = goes; quiet = quiet }
      where
        its : PlainOccurrence
        its = record { group = group; timer = x.timer; from = x.at; to = x.at + n; samples = x.samples }

        goes : Goes (entries (record { group = group; offset = 0 } ∷ [])) g (with_occurrence group x (Some n) g)
        goes o i = elim (in_either g.occurrences (record { group = group; timer = x.timer; from = x.at; to = x.at + n; samples = x.samples } ∷ []) o i) [
          | inl j ↦ inl j
          | inr j ↦ elim j [ inl e ↦ inr (λ acts. subst (λ (v : PlainOccurrence). IsOn (entries (record { group = group; offset = 0 } ∷ [])) v.group) e (on_offset group 0)) | inr none ↦ absurd none ]
        ]

        quiet : (Begun x n → ⊥) → Quiet g (with_occurrence group x (Some n) g)
        quiet off o i = elim (in_either g.occurrences (record { group = group; timer = x.timer; from = x.at; to = x.at + n; samples = x.samples } ∷ []) o i) [
          | inl j ↦ inl j
          | inr j ↦ elim j [ inl e ↦ inr (λ acts. off (subst (λ (v : PlainOccurrence). Acts v) (sym e) acts)) | inr none ↦ absurd none ]
        ]

    -- the first part of several, and the others
    parts_join : (s : PlainStatement) (ss : PlainStatements) (x : Begin) (n m : ℕ) (a b c : Gathered) → Adds s x n a b → PartsAdd ss (later n x) m b c → PartsAdd (a_statement s ss) x (n + m) a c
    parts_join s ss x n m a b c first rest = by (cases_lt (count x.timer) (x.at + n))
      where
        off_rest : (Begun x (n + m) → ⊥) → Begun (later n x) m → ⊥
        off_rest off w = off (record { runs = w.runs; low = let l = w.low in omega arith; high = let h = w.high in omega arith; wanted = w.wanted })

        quiet_all : (Begun x (n + m) → ⊥) → Quiet a c
        quiet_all off = quiet_both a b c (Adds.quiet first (shorter x n (n + m) (omega arith) off)) (PartsAdd.quiet rest (off_rest off))

        further : (act : Active) → (act ≡ nothing) ⊎ ((t : PlainStatement) × In (list_of ss) t × IsTogether t act) → (act ≡ nothing) ⊎ ((t : PlainStatement) × In (list_of (a_statement s ss)) t × IsTogether t act)
        further act (inl e) = inl e
        further act (inr (t, j, h)) = inr (t, inr j, h)

        by : (count x.timer < x.at + n) ⊎ (x.at + n ≤ count x.timer) → PartsAdd (a_statement s ss) x (n + m) a c
        by (inl early) = record {
          act = Adds.act first;
          one_of_them = inr (s, inl refl, Adds.together first);
          goes = goes_both (Adds.act first) a b c (Adds.goes first) (quiet_goes (Adds.act first) b c (PartsAdd.quiet rest (λ w. let l = w.low in omega arith)));
          quiet = quiet_all;
        }
        by (inr late) = record {
          act = PartsAdd.act rest;
          one_of_them = further (PartsAdd.act rest) (PartsAdd.one_of_them rest);
          goes = goes_both (PartsAdd.act rest) a b c (quiet_goes (PartsAdd.act rest) a b (Adds.quiet first (λ w. let h = w.high in omega arith))) (PartsAdd.goes rest);
          quiet = quiet_all;
        }

    true_is : true ≡ false → ⊥
    true_is e = cc

    false_is : false ≡ true → ⊥
    false_is e = cc

    -- the branches of an if, of which one has its sample as wanted
    if_adds : (written : Option ℕ) (test : PlacedPort) (a b : PlainStatement) (place : Place) (x : Begin) (g h k : Gathered) → Adds a (if_sampled (length g.points) true x) (length_of part a) (with_point test.port x g) h
        → Adds b (if_sampled (length g.points) false x) (length_of part b) h k → Adds (Placed (StaticIf written test a b) place) x (max (length_of part a) (length_of part b)) g k
    if_adds written test a b place x g h k first second = by (sample (length g.points)) refl
      where
        last : (want : Bool) → Wanted (sampled (length g.points) want x.samples) → sample (length g.points) ≡ want
        last want w = w (record { point = length g.points; wanted = want }) (in_right x.samples (record { point = length g.points; wanted = want } ∷ []) _ (inl refl))

        front : (want : Bool) → Wanted (sampled (length g.points) want x.samples) → Wanted x.samples
        front want w s i = w s (in_left x.samples (record { point = length g.points; wanted = want } ∷ []) s i)

        off_branch : (want : Bool) (n : ℕ) → n ≤ max (length_of part a) (length_of part b) → (Begun x (max (length_of part a) (length_of part b)) → ⊥) → Begun (if_sampled (length g.points) want x) n → ⊥
        off_branch want n less off w = off (record { runs = w.runs; low = w.low; high = let l = w.high in omega arith; wanted = front want w.wanted })

        quiet_all : (Begun x (max (length_of part a) (length_of part b)) → ⊥) → Quiet g k
        quiet_all off = quiet_both (with_point test.port x g) h k (Adds.quiet first (off_branch true (length_of part a) (omega arith) off)) (Adds.quiet second (off_branch false (length_of part b) (omega arith) off))

        by : (v : Bool) → sample (length g.points) ≡ v → Adds (Placed (StaticIf written test a b) place) x (max (length_of part a) (length_of part b)) g k
        by true e = record {
          act = Adds.act first;
          together = in_static_then (Adds.together first);
          goes = goes_both (Adds.act first) (with_point test.port x g) h k (Adds.goes first) (quiet_goes (Adds.act first) h k (Adds.quiet second (λ w. true_is (sym e ∙ last false w.wanted))));
          quiet = quiet_all;
        }
        by false e = record {
          act = Adds.act second;
          together = in_static_else (Adds.together second);
          goes = goes_both (Adds.act second) (with_point test.port x g) h k (quiet_goes (Adds.act second) (with_point test.port x g) h (Adds.quiet first (λ w. false_is (sym e ∙ last true w.wanted)))) (Adds.goes second);
          quiet = quiet_all;
        }

    mutual
      pub form_adds : (form : PlainForm) (place : Place) (x : Begin) (g : Gathered) → Stage (form_gathered part form x g) → Adds (Placed form place) x (form_length part form) g (form_gathered part form x g)
      form_adds Empty place x g stage = adds_nothing (Placed Empty place) x 0 g
      form_adds (Enable group) place x g stage = enable_adds group place (group_length part group) x g
      form_adds (Seq parts) place x g stage = adds_nothing (Placed (Seq parts) place) x 0 g
      form_adds (Par arms) place x g stage = adds_nothing (Placed (Par arms) place) x 0 g
      form_adds (If test comb a b) place x g stage = adds_nothing (Placed (If test comb a b) place) x 0 g
      form_adds (While test comb a) place x g stage = adds_nothing (Placed (While test comb a) place) x 0 g
      form_adds (Repeat n a) place x g stage = adds_nothing (Placed (Repeat n a) place) x 0 g
      form_adds (StaticSeq written parts) place x g stage =
          let all = parts_add parts x g stage in
          record { act = PartsAdd.act all; together = seq_together (PartsAdd.act all) (PartsAdd.one_of_them all); goes = PartsAdd.goes all; quiet = PartsAdd.quiet all }
        where
          seq_together : (act : Active) → (act ≡ nothing) ⊎ ((t : PlainStatement) × In (list_of parts) t × IsTogether t act) → IsTogether (Placed (StaticSeq written parts) place) act
          seq_together act (inl e) = subst (IsTogether (Placed (StaticSeq written parts) place)) (sym e) at_rest
          seq_together act (inr (t, j, h)) = in_static_seq j h
      form_adds (StaticPar written arms) place x g stage =
          let all = arms_add arms x g stage in
          record { act = ArmsAdd.act all; together = in_static_par (ArmsAdd.together all); goes = ArmsAdd.goes all; quiet = ArmsAdd.quiet all }
      form_adds (StaticIf written test a b) place x g stage =
          let first = adds a (if_sampled (length g.points) true x) (with_point test.port x g)
          (before_one b (if_sampled (length g.points) false x) (gathered part a (if_sampled (length g.points) true x) (with_point test.port x g)) stage) in
          let second = adds b (if_sampled (length g.points) false x) (gathered part a (if_sampled (length g.points) true x) (with_point test.port x g)) stage in
          if_adds written test a b place x g (gathered part a (if_sampled (length g.points) true x) (with_point test.port x g)) (form_gathered part (StaticIf written test a b) x g) first second
      form_adds (StaticRepeat written n a) place x g stage =
          let body = adds a (begin_at (length g.timers) 0 x.samples) (with_timer part.place (length_of part a) (Some x.timer) x.at (x.at + n * length_of part a) g) stage in
          let earlier = before_one a (begin_at (length g.timers) 0 x.samples) (with_timer part.place (length_of part a) (Some x.timer) x.at (x.at + n * length_of part a) g) stage in
          record {
            act = Adds.act body;
            together = in_static_repeat (Adds.together body);
            goes = Adds.goes body;
            quiet = λ off. Adds.quiet body (λ w.
                let r = inner (length g.timers) x.timer _ (earlier (length g.timers) _ (get_end g.timers (record { cell = length g.cells; outer = Some x.timer; from = x.at; to = x.at + n * length_of part a }))) refl w.runs in
                off (record { runs = r.0; low = r.1; high = r.2; wanted = w.wanted }));
          }
      form_adds (Timed k) place x g stage = adds_nothing (Placed (Timed k) place) x 0 g

      pub adds : (s : PlainStatement) (x : Begin) (g : Gathered) → Stage (gathered part s x g) → Adds s x (length_of part s) g (gathered part s x g)
      adds (Placed form place) x g stage = form_adds form place x g stage

      parts_add : (ss : PlainStatements) (x : Begin) (g : Gathered) → Stage (parts_gathered part ss x g) → PartsAdd ss x (sum_length part ss) g (parts_gathered part ss x g)
      parts_add no_statements x g stage = record { act = nothing; one_of_them = inl refl; goes = same_goes nothing g; quiet = λ off. same_quiet g }
      parts_add (a_statement s ss) x g stage =
          parts_join s ss x (length_of part s) (sum_length part ss) g (gathered part s x g) (parts_gathered part ss (later (length_of part s) x) (gathered part s x g))
          (adds s x g (before_parts ss (later (length_of part s) x) (gathered part s x g) stage)) (parts_add ss (later (length_of part s) x) (gathered part s x g) stage)

      arms_add : (ss : PlainStatements) (x : Begin) (g : Gathered) → Stage (arms_gathered part ss x g) → ArmsAdd ss x (max_length part ss) g (arms_gathered part ss x g)
      arms_add no_statements x g stage = record { act = nothing; together = no_arm; goes = same_goes nothing g; quiet = λ off. same_quiet g }
      arms_add (a_statement s ss) x g stage =
          let first = adds s x g (before_arms ss x (gathered part s x g) stage) in
          let rest = arms_add ss x (gathered part s x g) stage in
          record {
            act = union (Adds.act first) (ArmsAdd.act rest);
            together = an_arm (Adds.together first) (ArmsAdd.together rest);
            goes = goes_both (union (Adds.act first) (ArmsAdd.act rest)) g (gathered part s x g) (arms_gathered part ss x (gathered part s x g))
                (goes_more (Adds.act first) (union (Adds.act first) (ArmsAdd.act rest)) g (gathered part s x g) (union_left (Adds.act first) (ArmsAdd.act rest)) (Adds.goes first))
                (goes_more (ArmsAdd.act rest) (union (Adds.act first) (ArmsAdd.act rest)) (gathered part s x g) (arms_gathered part ss x (gathered part s x g)) (union_right (Adds.act first) (ArmsAdd.act rest)) (ArmsAdd.goes rest));
            quiet = λ off. quiet_both g (gathered part s x g) (arms_gathered part ss x (gathered part s x g))
                (Adds.quiet first (shorter x (length_of part s) (max (length_of part s) (max_length part ss)) (omega arith) off)) (ArmsAdd.quiet rest (shorter x (max_length part ss) (max (length_of part s) (max_length part ss)) (omega arith) off));
          }
