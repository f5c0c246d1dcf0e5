-- THE LISTS GIVE THE ENTRIES: in a cycle of an island the occurrences whose timer runs, whose range holds its count and whose samples
-- are as wanted are the groups that are active by the samples, in their order, each at its offset.
use Rattle.std.proofs.Common.{◌≡◌, ℕ, suc, ◌+◌, ◌-◌, ◌*◌, ◌%◌, ◌≤◌, max, ⊎_elim, not, nat_lt, Bool, true, false, if◌then◌else◌, List, [], ◌∷◌, ◌++◌, length, Option, Some, None, option_map, option_and_then, unwrap_or, slice_get, refl, sym, ap, ◌∙◌, arith}
use Rattle.std.proofs.lemmas.Bool.{cases_lt}
use Rattle.std.proofs.lemmas.List.{append_assoc, append-nil}
use Rattle.cx_meaning.specs.Designs.{PlainCell, PlainComponent, PlainForm, Empty, Enable, Seq, Par, If, While, Repeat, StaticSeq, StaticPar, StaticIf, StaticRepeat, Timed, PlainStatement, Placed, PlainStatements, no_statements, a_statement}
use Rattle.cx_meaning.specs.Active.{Entry}
use Rattle.cx_meaning.specs.Islands.{or_zero, group_length, form_length, length_of, sum_length, max_length}
use Rattle.cx_laws.specs.Positions.{entry_at, no_entry}
use Rattle.cx_laws.specs.Samples.{form_ifs, ifs_of, ifs_in, form_by, statement_by, while_by, parts_by, arms_by}
use Rattle.cx_control.specs.Sampling.{within_length, behind_length, where_so}
use Rattle.cx_static.specs.declared.islands.IslandTimer.{IslandTimer}
use Rattle.cx_static.specs.Islands.{PlainPoint, PlainOccurrence}
use Rattle.cx_static.specs.Lowering.{Gathered, Begin, begin_at, later, if_sampled, timer_cell, with_timer, with_point, with_occurrence, form_gathered, gathered, parts_gathered, arms_gathered}
use Rattle.cx_wiring.specs.TimerCounts.{nested, kind_cycles, cycles_at}
use Rattle.cx_wiring.proofs.GatherLaws.{grows, parts_grow, arms_grow}
use Rattle.cx_wiring_cycles.proofs.IslandOffsets.{range_in, at_before, at_behind, are_wanted, live_in, live_short, live_behind, live_round, live_true, live_false}
use Rattle.cx_text.proofs.ListLaws.{get_end, snoc_length, front}

-- what stands at an offset, where there is one
abbrev pub by_live : {A : Type 0} → Option ℕ → (ℕ → List A) → List A
by_live None f = []
by_live (Some j) f = f j

live_nothing : {A : Type 0} (o : Option ℕ) → by_live {A = A} o (λ j. []) ≡ []
live_nothing None = refl
live_nothing (Some j) = refl

live_split : {A : Type 0} (a : ℕ) (o : Option ℕ) (f h : ℕ → List A) → by_live o (λ j. if nat_lt j a then f j else h (j - a)) ≡ by_live (option_and_then (within_length a) o) f ++ by_live (option_and_then (behind_length a) o) h
live_split a None f h = refl
live_split a (Some j) f h = by (nat_lt j a)
  where
    by : (b : Bool) → (if b then f j else h (j - a)) ≡ by_live (if b then Some j else None) f ++ by_live (if b then None else Some (j - a)) h
    by true = sym (append-nil (f j))
    by false = refl

live_both : {A : Type 0} (o : Option ℕ) (f h : ℕ → List A) → by_live o (λ j. f j ++ h j) ≡ by_live o f ++ by_live o h
live_both None f h = refl
live_both (Some j) f h = refl

live_while : {A : Type 0} (a : ℕ) (o : Option ℕ) (f : ℕ → List A) → by_live o (λ j. if nat_lt j a then f j else []) ≡ by_live (option_and_then (within_length a) o) f
live_while a None f = refl
live_while a (Some j) f = by (nat_lt j a)
  where
    by : (b : Bool) → (if b then f j else []) ≡ by_live (if b then Some j else None) f
    by true = refl
    by false = refl

live_map : {A : Type 0} (p : ℕ) (o : Option ℕ) (f : ℕ → List A) → by_live o (λ j. f (j % p)) ≡ by_live (option_map (λ j. j % p) o) f
live_map p None f = refl
live_map p (Some j) f = refl

range_none : (from : ℕ) (o : Option ℕ) → range_in from 0 o ≡ None
range_none from None = refl
range_none from (Some c) = ⊎_elim (λ l. at_before from 0 c l) (λ l. at_behind from 0 c l (omega arith)) (cases_lt c from)

-- LISTS that others extend
pub record Extends (g final : Gathered) : Type 0 where
  pub timers : (n : ℕ) (timer : IslandTimer) → slice_get g.timers n ≡ Some timer → slice_get final.timers n ≡ Some timer
  pub cells : (c : ℕ) (cell : PlainCell) → slice_get g.cells c ≡ Some cell → slice_get final.cells c ≡ Some cell
  pub points : (n : ℕ) (p : PlainPoint) → slice_get g.points n ≡ Some p → slice_get final.points n ≡ Some p

module _ (part : PlainComponent) where
  -- as many points as static ifs
  mutual
    pub form_points : (form : PlainForm) (x : Begin) (g : Gathered) → length (form_gathered part form x g).points ≡ length g.points + form_ifs form
    form_points Empty x g = omega arith
    form_points (Enable group) x g = of_enable (group_length part group)
      where
        of_enable : (o : Option ℕ) → length (with_occurrence group x o g).points ≡ length g.points + 0
        of_enable None = omega arith
        of_enable (Some n) = omega arith
    form_points (Seq parts) x g = omega arith
    form_points (Par arms) x g = omega arith
    form_points (If test comb a b) x g = omega arith
    form_points (While test comb a) x g = omega arith
    form_points (Repeat count a) x g = omega arith
    form_points (StaticSeq written parts) x g = parts_points parts x g
    form_points (StaticPar written arms) x g = arms_points arms x g
    form_points (StaticIf written test a b) x g =
        let one : length (with_point test.port x g).points ≡ suc (length g.points) = snoc_length g.points (record { port = test.port; timer = x.timer; at = x.at; samples = x.samples }) in
        let first : length (gathered part a (if_sampled (length g.points) true x) (with_point test.port x g)).points ≡ length (with_point test.port x g).points + ifs_of a = points a (if_sampled (length g.points) true x) (with_point test.port x g) in
        points b (if_sampled (length g.points) false x) (gathered part a (if_sampled (length g.points) true x) (with_point test.port x g)) ∙ omega arith
    form_points (StaticRepeat written count a) x g = points a (begin_at (length g.timers) 0 x.samples) (with_timer part.place (length_of part a) (Some x.timer) x.at (x.at + count * length_of part a) g)
    form_points (Timed k) x g = omega arith

    pub points : (s : PlainStatement) (x : Begin) (g : Gathered) → length (gathered part s x g).points ≡ length g.points + ifs_of s
    points (Placed form place) x g = form_points form x g

    parts_points : (ss : PlainStatements) (x : Begin) (g : Gathered) → length (parts_gathered part ss x g).points ≡ length g.points + ifs_in ss
    parts_points no_statements x g = omega arith
    parts_points (a_statement s ss) x g =
        let first : length (gathered part s x g).points ≡ length g.points + ifs_of s = points s x g in
        parts_points ss (later (length_of part s) x) (gathered part s x g) ∙ omega arith

    arms_points : (ss : PlainStatements) (x : Begin) (g : Gathered) → length (arms_gathered part ss x g).points ≡ length g.points + ifs_in ss
    arms_points no_statements x g = omega arith
    arms_points (a_statement s ss) x g =
        let first : length (gathered part s x g).points ≡ length g.points + ifs_of s = points s x g in
        arms_points ss x (gathered part s x g) ∙ omega arith

  -- what is gathered is extended by what is gathered behind it
  step_timer : (h : Gathered) (p outer from to : ℕ) (g : Gathered) → Extends h g → Extends h (with_timer part.place p (Some outer) from to g)
  step_timer h p outer from to g e = record {
    timers = λ n timer f. front g.timers (record { cell = length g.cells; outer = Some outer; from = from; to = to } ∷ []) n timer (e.timers n timer f);
    cells = λ c cell f. front g.cells (timer_cell part.place p ∷ []) c cell (e.cells c cell f);
    points = e.points;
  }

  step_point : (h : Gathered) (port : _) (x : Begin) (g : Gathered) → Extends h g → Extends h (with_point port x g)
  step_point h port x g e = record {
    timers = e.timers;
    cells = e.cells;
    points = λ n p f. front g.points (record { port = port; timer = x.timer; at = x.at; samples = x.samples } ∷ []) n p (e.points n p f);
  }

  step_occurrence : (h : Gathered) (group : ℕ) (x : Begin) (n : ℕ) (g : Gathered) → Extends h g → Extends h (with_occurrence group x (Some n) g)
  step_occurrence h group x n g e = record { timers = e.timers; cells = e.cells; points = e.points }

  itself : (g : Gathered) → Extends g g
  itself g = record { timers = λ n timer f. f; cells = λ c cell f. f; points = λ n p f. f }

  pub both_extend : (a b c : Gathered) → Extends a b → Extends b c → Extends a c
  both_extend a b c e f = record { timers = λ n timer h. f.timers n timer (e.timers n timer h); cells = λ n cell h. f.cells n cell (e.cells n cell h); points = λ n p h. f.points n p (e.points n p h) }

  pub extended : (s : PlainStatement) (x : Begin) (g : Gathered) → Extends g (gathered part s x g)
  extended s x g = grows part (Extends g) (λ p outer from to k b. step_timer g p outer from to k b) (λ port y k b. step_point g port y k b) (λ group y n k b. step_occurrence g group y n k b) s x g (itself g)

  pub parts_extended : (ss : PlainStatements) (x : Begin) (g : Gathered) → Extends g (parts_gathered part ss x g)
  parts_extended ss x g = parts_grow part (Extends g) (λ p outer from to k b. step_timer g p outer from to k b) (λ port y k b. step_point g port y k b) (λ group y n k b. step_occurrence g group y n k b) ss x g (itself g)

  pub arms_extended : (ss : PlainStatements) (x : Begin) (g : Gathered) → Extends g (arms_gathered part ss x g)
  arms_extended ss x g = arms_grow part (Extends g) (λ p outer from to k b. step_timer g p outer from to k b) (λ port y k b. step_point g port y k b) (λ group y n k b. step_occurrence g group y n k b) ss x g (itself g)

  -- IN A CYCLE, with the counts of timers, the samples, and all lists
  module _ (counts : ℕ → Option ℕ) (kept : ℕ → Bool) (final : Gathered)
      (held : (n : ℕ) (timer : IslandTimer) → slice_get final.timers n ≡ Some timer → (outer : ℕ) → timer.outer ≡ Some outer → counts n ≡ nested timer.from timer.to (cycles_at final.cells timer.cell) (counts outer)) where
    -- the timer of a repeat
    pub round_held : (x : Begin) (p count : ℕ) (g : Gathered) → Extends (with_timer part.place p (Some x.timer) x.at (x.at + count * p) g) final → counts (length g.timers) ≡ nested x.at (x.at + count * p) p (counts x.timer)
    round_held x p count g e =
        let timer : IslandTimer = record { cell = length g.cells; outer = Some x.timer; from = x.at; to = x.at + count * p } in
        held (length g.timers) timer (e.timers (length g.timers) timer (get_end g.timers timer)) x.timer refl
        ∙ ap (λ q. nested x.at (x.at + count * p) q (counts x.timer))
        (ap (λ (o : Option PlainCell). unwrap_or (option_map (λ (c : PlainCell). kind_cycles c.kind) o) 0) (e.cells (length g.cells) (timer_cell part.place p) (get_end g.cells (timer_cell part.place p))))

    -- an occurrence is active at an offset
    abbrev pub offset_now : PlainOccurrence → Option ℕ
    offset_now o = live_in counts kept (begin_at o.timer o.from o.samples) (o.to - o.from)

    abbrev pub active_among : List PlainOccurrence → List Entry
    active_among [] = []
    active_among (o ∷ rest) = by_live (offset_now o) (entry_at o.group) ++ active_among rest

    among_both : (xs ys : List PlainOccurrence) → active_among (xs ++ ys) ≡ active_among xs ++ active_among ys
    among_both [] ys = refl
    among_both (x ∷ xs) ys = ap (λ l. by_live (offset_now x) (entry_at x.group) ++ l) (among_both xs ys) ∙ sym (append_assoc (by_live (offset_now x) (entry_at x.group)) (active_among xs) (active_among ys))

    abbrev Live : Begin → ℕ → Option ℕ
    Live = live_in counts kept

    of_form : PlainForm → ℕ → ℕ → List Entry
    of_form form n j = form_by part kept entry_at no_entry form n j

    behind_nothing : (xs : List Entry) (o : Option ℕ) → xs ≡ xs ++ by_live {A = Entry} o (λ j. [])
    behind_nothing xs o = sym (append-nil xs) ∙ ap (λ l. xs ++ l) (sym (live_nothing o))

    none_live : (x : Begin) (group : ℕ) → by_live (live_in counts kept x 0) (entry_at group) ≡ []
    none_live x group = by (are_wanted counts kept x.samples)
      where
        by : (b : Bool) → by_live (where_so b (range_in x.at 0 (counts x.timer))) (entry_at group) ≡ []
        by true = ap (λ o. by_live o (entry_at group)) (range_none x.at (counts x.timer))
        by false = refl

    enable_entries : (group : ℕ) (x : Begin) (g : Gathered) (o : Option ℕ) → active_among (with_occurrence group x o g).occurrences ≡ active_among g.occurrences ++ by_live (live_in counts kept x (or_zero o)) (entry_at group)
    enable_entries group x g None =
        sym (append-nil (active_among g.occurrences)) ∙ ap (λ l. active_among g.occurrences ++ l) (sym (none_live x group))
    enable_entries group x g (Some n) =
        let cycles : (x.at + n) - x.at ≡ n = omega arith in
        among_both g.occurrences (record { group = group; timer = x.timer; from = x.at; to = x.at + n; samples = x.samples } ∷ [])
        ∙ ap (λ l. active_among g.occurrences ++ l) (append-nil (by_live (live_in counts kept x ((x.at + n) - x.at)) (entry_at group)) ∙ ap (λ m. by_live (live_in counts kept x m) (entry_at group)) cycles)

    while_is : (s : PlainStatement) (n : ℕ) (o : Option ℕ) → by_live o (while_by part kept entry_at no_entry s n) ≡ by_live (option_and_then (within_length (length_of part s)) o) (statement_by part kept entry_at no_entry s n)
    while_is (Placed form place) n o = live_while (length_of part (Placed form place)) o (form_by part kept entry_at no_entry form n)

    -- of two branches that of the sample
    branches : (a b : PlainStatement) (x : Begin) (n len : ℕ) → length_of part a ≤ len → length_of part b ≤ len
        → by_live (live_in counts kept (if_sampled n true x) (length_of part a)) (statement_by part kept entry_at no_entry a (suc n)) ++ by_live (live_in counts kept (if_sampled n false x) (length_of part b)) (statement_by part kept entry_at no_entry b (suc n + ifs_of a))
        ≡ by_live (live_in counts kept x len) (λ j. if kept n then while_by part kept entry_at no_entry a (suc n) j else while_by part kept entry_at no_entry b (suc n + ifs_of a) j)
    branches a b x n len la lb =
        ap (λ o. by_live o (statement_by part kept entry_at no_entry a (suc n)) ++ by_live (Live (if_sampled n false x) (length_of part b)) (statement_by part kept entry_at no_entry b (suc n + ifs_of a))) (live_true counts kept x n (length_of part a))
        ∙ ap (λ o. by_live (where_so (kept n) (Live x (length_of part a))) (statement_by part kept entry_at no_entry a (suc n)) ++ by_live o (statement_by part kept entry_at no_entry b (suc n + ifs_of a))) (live_false counts kept x n (length_of part b))
        ∙ by (kept n)
      where
        by : (c : Bool) → by_live (where_so c (live_in counts kept x (length_of part a))) (statement_by part kept entry_at no_entry a (suc n)) ++ by_live (where_so (not c) (live_in counts kept x (length_of part b))) (statement_by part kept entry_at no_entry b (suc n + ifs_of a))
            ≡ by_live (live_in counts kept x len) (λ j. if c then while_by part kept entry_at no_entry a (suc n) j else while_by part kept entry_at no_entry b (suc n + ifs_of a) j)
        by true = append-nil (by_live (Live x (length_of part a)) (statement_by part kept entry_at no_entry a (suc n)))
            ∙ sym (while_is a (suc n) (Live x len) ∙ ap (λ o. by_live o (statement_by part kept entry_at no_entry a (suc n))) (live_short counts kept x len (length_of part a) la))
        by false = sym (while_is b (suc n + ifs_of a) (Live x len) ∙ ap (λ o. by_live o (statement_by part kept entry_at no_entry b (suc n + ifs_of a))) (live_short counts kept x len (length_of part b) lb))

    mutual
      pub form_entries : (form : PlainForm) (x : Begin) (g : Gathered) → Extends (form_gathered part form x g) final
          → active_among (form_gathered part form x g).occurrences ≡ active_among g.occurrences ++ by_live (live_in counts kept x (form_length part form)) (form_by part kept entry_at no_entry form (length g.points))
      form_entries Empty x g e = behind_nothing (active_among g.occurrences) (Live x 0)
      form_entries (Enable group) x g e = enable_entries group x g (group_length part group)
      form_entries (Seq parts) x g e = behind_nothing (active_among g.occurrences) (Live x 0)
      form_entries (Par arms) x g e = behind_nothing (active_among g.occurrences) (Live x 0)
      form_entries (If test comb a b) x g e = behind_nothing (active_among g.occurrences) (Live x 0)
      form_entries (While test comb a) x g e = behind_nothing (active_among g.occurrences) (Live x 0)
      form_entries (Repeat count a) x g e = behind_nothing (active_among g.occurrences) (Live x 0)
      form_entries (StaticSeq written parts) x g e = parts_entries parts x g e
      form_entries (StaticPar written arms) x g e = arms_entries arms x (max_length part arms) g (omega arith) e
      form_entries (StaticIf written test a b) x g e =
          let n = length g.points in
          let mid = with_point test.port x g in
          let xa = if_sampled (length g.points) true x in
          let xb = if_sampled (length g.points) false x in
          let ga = gathered part a xa mid in
          let one : length mid.points ≡ suc (length g.points) = snoc_length g.points (record { port = test.port; timer = x.timer; at = x.at; samples = x.samples }) in
          let two : length ga.points ≡ suc (length g.points) + ifs_of a = points a xa mid ∙ ap (λ m. m + ifs_of a) one in
          let first = entries a xa mid (both_extend ga (gathered part b xb ga) final (extended b xb ga) e) in
          let second = entries b xb ga e in
          second ∙ ap (λ l. l ++ by_live (Live xb (length_of part b)) (statement_by part kept entry_at no_entry b (length ga.points))) first
          ∙ append_assoc (active_among g.occurrences) (by_live (Live xa (length_of part a)) (statement_by part kept entry_at no_entry a (length mid.points))) (by_live (Live xb (length_of part b)) (statement_by part kept entry_at no_entry b (length ga.points)))
          ∙ ap (λ m. active_among g.occurrences ++ (by_live (Live xa (length_of part a)) (statement_by part kept entry_at no_entry a m) ++ by_live (Live xb (length_of part b)) (statement_by part kept entry_at no_entry b (length ga.points)))) one
          ∙ ap (λ m. active_among g.occurrences ++ (by_live (Live xa (length_of part a)) (statement_by part kept entry_at no_entry a (suc n)) ++ by_live (Live xb (length_of part b)) (statement_by part kept entry_at no_entry b m))) two
          ∙ ap (λ l. active_among g.occurrences ++ l) (branches a b x n (max (length_of part a) (length_of part b)) (omega arith) (omega arith))
      form_entries (StaticRepeat written count a) x g e =
          let p = length_of part a in
          let y = begin_at (length g.timers) 0 x.samples in
          let mid = with_timer part.place (length_of part a) (Some x.timer) x.at (x.at + count * length_of part a) g in
          entries a y mid e
          ∙ ap (λ l. active_among g.occurrences ++ l)
          (ap (λ o. by_live o (statement_by part kept entry_at no_entry a (length g.points))) (live_round counts kept x (length g.timers) count p (round_held x p count g (both_extend mid (gathered part a y mid) final (extended a y mid) e)))
          ∙ sym (live_map p (Live x (count * p)) (statement_by part kept entry_at no_entry a (length g.points))))
      form_entries (Timed k) x g e = behind_nothing (active_among g.occurrences) (Live x 0)

      pub entries : (s : PlainStatement) (x : Begin) (g : Gathered) → Extends (gathered part s x g) final
          → active_among (gathered part s x g).occurrences ≡ active_among g.occurrences ++ by_live (live_in counts kept x (length_of part s)) (statement_by part kept entry_at no_entry s (length g.points))
      entries (Placed form place) x g e = form_entries form x g e

      parts_entries : (ss : PlainStatements) (x : Begin) (g : Gathered) → Extends (parts_gathered part ss x g) final
          → active_among (parts_gathered part ss x g).occurrences ≡ active_among g.occurrences ++ by_live (live_in counts kept x (sum_length part ss)) (parts_by part kept entry_at no_entry ss (length g.points))
      parts_entries no_statements x g e = behind_nothing (active_among g.occurrences) (Live x 0)
      parts_entries (a_statement s ss) x g e =
          let a = length_of part s in
          let b = sum_length part ss in
          let y = later (length_of part s) x in
          let mid = gathered part s x g in
          let n = length g.points in
          let two : length mid.points ≡ length g.points + ifs_of s = points s x g in
          let first = entries s x g (both_extend mid (parts_gathered part ss y mid) final (parts_extended ss y mid) e) in
          parts_entries ss y mid e ∙ ap (λ l. l ++ by_live (Live y b) (parts_by part kept entry_at no_entry ss (length mid.points))) first
          ∙ append_assoc (active_among g.occurrences) (by_live (Live x a) (statement_by part kept entry_at no_entry s n)) (by_live (Live y b) (parts_by part kept entry_at no_entry ss (length mid.points)))
          ∙ ap (λ m. active_among g.occurrences ++ (by_live (Live x a) (statement_by part kept entry_at no_entry s n) ++ by_live (Live y b) (parts_by part kept entry_at no_entry ss m))) two
          ∙ ap (λ l. active_among g.occurrences ++ l) (sym (
          live_split a (Live x (a + b)) (statement_by part kept entry_at no_entry s n) (parts_by part kept entry_at no_entry ss (n + ifs_of s))
          ∙ ap (λ o. by_live o (statement_by part kept entry_at no_entry s n) ++ by_live (option_and_then (behind_length a) (Live x (a + b))) (parts_by part kept entry_at no_entry ss (n + ifs_of s))) (live_short counts kept x (a + b) a (omega arith))
          ∙ ap (λ o. by_live (Live x a) (statement_by part kept entry_at no_entry s n) ++ by_live o (parts_by part kept entry_at no_entry ss (n + ifs_of s))) (live_behind counts kept x a b)))

      arms_entries : (ss : PlainStatements) (x : Begin) (len : ℕ) (g : Gathered) → max_length part ss ≤ len → Extends (arms_gathered part ss x g) final
          → active_among (arms_gathered part ss x g).occurrences ≡ active_among g.occurrences ++ by_live (live_in counts kept x len) (arms_by part kept entry_at no_entry ss (length g.points))
      arms_entries no_statements x len g less e = behind_nothing (active_among g.occurrences) (Live x len)
      arms_entries (a_statement s ss) x len g less e =
          let m : max (length_of part s) (max_length part ss) ≤ len = less in
          let a = length_of part s in
          let mid = gathered part s x g in
          let n = length g.points in
          let two : length mid.points ≡ length g.points + ifs_of s = points s x g in
          let first = entries s x g (both_extend mid (arms_gathered part ss x mid) final (arms_extended ss x mid) e) in
          arms_entries ss x len mid (omega arith) e ∙ ap (λ l. l ++ by_live (Live x len) (arms_by part kept entry_at no_entry ss (length mid.points))) first
          ∙ append_assoc (active_among g.occurrences) (by_live (Live x a) (statement_by part kept entry_at no_entry s n)) (by_live (Live x len) (arms_by part kept entry_at no_entry ss (length mid.points)))
          ∙ ap (λ k. active_among g.occurrences ++ (by_live (Live x a) (statement_by part kept entry_at no_entry s n) ++ by_live (Live x len) (arms_by part kept entry_at no_entry ss k))) two
          ∙ ap (λ l. active_among g.occurrences ++ l) (sym (
          live_both (Live x len) (while_by part kept entry_at no_entry s n) (arms_by part kept entry_at no_entry ss (n + ifs_of s))
          ∙ ap (λ l. l ++ by_live (Live x len) (arms_by part kept entry_at no_entry ss (n + ifs_of s)))
          (while_is s n (Live x len) ∙ ap (λ o. by_live o (statement_by part kept entry_at no_entry s n)) (live_short counts kept x len a (omega arith)))))
