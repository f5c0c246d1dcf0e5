-- The lists of an island: each timer within runs in a range of an earlier one, a whole number of its rounds, before the end of that
-- one's round; points and occurrences name timers and earlier points.
use Rattle.std.proofs.Common.{◌≡◌, ℕ, zero, suc, ◌+◌, ◌*◌, ◌<◌, ◌≤◌, ◌⊎◌, inl, inr, max, true, false, List, [], ◌∷◌, ◌++◌, length, Option, Some, None, slice_get, refl, sym, ap, ◌∙◌, subst, arith}
use Rattle.cx_meaning.specs.declared.ports.PortRef.{PortRef}
use Rattle.cx_meaning.specs.Designs.{PlainCell, PlainComponent, PlainForm, Empty, Enable, Seq, Par, If, While, Repeat, StaticSeq, StaticPar, StaticIf, StaticRepeat, Timed, PlainStatement, Placed, PlainStatements, no_statements, a_statement}
use Rattle.cx_text.specs.Members.{In}
use Rattle.cx_meaning.specs.Islands.{or_zero, group_length, form_length, length_of, sum_length, max_length}
use Rattle.cx_static.specs.declared.islands.Sample.{Sample}
use Rattle.cx_static.specs.declared.islands.IslandTimer.{IslandTimer}
use Rattle.cx_static.specs.Islands.{PlainPoint, PlainOccurrence}
use Rattle.cx_static.specs.Lowering.{Gathered, Begin, begin_at, later, if_sampled, timer_cell, with_timer, with_point, with_occurrence, form_gathered, gathered, parts_gathered, arms_gathered, island_gathered}
use Rattle.cx_wiring.proofs.GatherLaws.{IsFound, earlier, last, found, form_grows, grows}
use Rattle.cx_text.proofs.ListLaws.{get_end, there_below, snoc_length, front}

in_more : (xs : List Sample) (y s : Sample) → In (xs ++ y ∷ []) s → In xs s ⊎ (y ≡ s)
in_more [] y s (inl e) = inr e
in_more [] y s (inr i) = absurd i
in_more (x ∷ xs) y s (inl e) = inl (inl e)
in_more (x ∷ xs) y s (inr i) = again (in_more xs y s i)
  where
    again : In xs s ⊎ (y ≡ s) → In (x ∷ xs) s ⊎ (y ≡ s)
    again (inl j) = inl (inr j)
    again (inr e) = inr e

module _ (part : PlainComponent) where
  -- the timer with a number, in its cell, counts so many cycles
  pub record HasTimer (g : Gathered) (n p : ℕ) : Type 0 where
    pub timer : IslandTimer
    pub listed : slice_get g.timers n ≡ Some timer
    pub cell : slice_get g.cells timer.cell ≡ Some (timer_cell part.place p)

  -- A STATEMENT of n cycles begins at a count of a timer, before the end of whose round it is over, under samples of points
  pub record Begins (x : Begin) (n : ℕ) (g : Gathered) : Type 0 where
    pub cycles : ℕ
    pub timer : HasTimer g x.timer cycles
    pub within : x.at + n ≤ cycles
    pub samples : (s : Sample) → In x.samples s → s.point < length g.points

  has_timer : (p : ℕ) (outer : Option ℕ) (from to : ℕ) (g : Gathered) (n q : ℕ) → HasTimer g n q → HasTimer (with_timer part.place p outer from to g) n q
  has_timer p outer from to g n q h = record {
    timer = h.timer;
    listed = front g.timers (record { cell = length g.cells; outer = outer; from = from; to = to } ∷ []) n h.timer h.listed;
    cell = front g.cells (timer_cell part.place p ∷ []) (HasTimer.timer h).cell (timer_cell part.place q) h.cell;
  }

  begins_timer : (x : Begin) (n p : ℕ) (outer : Option ℕ) (from to : ℕ) (g : Gathered) → Begins x n g → Begins x n (with_timer part.place p outer from to g)
  begins_timer x n p outer from to g h = record { cycles = h.cycles; timer = has_timer p outer from to g x.timer h.cycles h.timer; within = h.within; samples = h.samples }

  begins_point : (x : Begin) (n : ℕ) (port : PortRef) (y : Begin) (g : Gathered) → Begins x n g → Begins x n (with_point port y g)
  begins_point x n port y g h = record {
    cycles = h.cycles;
    timer = record { timer = (HasTimer.timer (Begins.timer h)); listed = HasTimer.listed (Begins.timer h); cell = HasTimer.cell (Begins.timer h) };
    within = h.within;
    samples = λ s i. let k : s.point < length g.points = h.samples s i in
        let more : length (g.points ++ record { port = port; timer = y.timer; at = y.at; samples = y.samples } ∷ []) ≡ suc (length g.points) = snoc_length g.points (record { port = port; timer = y.timer; at = y.at; samples = y.samples }) in omega arith;
  }

  begins_occurrence : (x : Begin) (n : ℕ) (group : ℕ) (y : Begin) (m : ℕ) (g : Gathered) → Begins x n g → Begins x n (with_occurrence group y (Some m) g)
  begins_occurrence x n group y m g h = record {
    cycles = h.cycles;
    timer = record { timer = (HasTimer.timer (Begins.timer h)); listed = HasTimer.listed (Begins.timer h); cell = HasTimer.cell (Begins.timer h) };
    within = h.within;
    samples = h.samples;
  }

  -- it does so when more is gathered
  pub begins_still : (x : Begin) (n : ℕ) (s : PlainStatement) (y : Begin) (g : Gathered) → Begins x n g → Begins x n (gathered part s y g)
  begins_still x n s y g h =
      grows part (Begins x n) (λ p outer from to k b. begins_timer x n p (Some outer) from to k b) (λ port z k b. begins_point x n port z k b) (λ group z m k b. begins_occurrence x n group z m k b) s y g h

  pub begins_short : (x : Begin) (n m : ℕ) (g : Gathered) → m ≤ n → Begins x n g → Begins x m g
  begins_short x n m g less h = let w : x.at + n ≤ h.cycles = h.within in record { cycles = h.cycles; timer = h.timer; within = omega arith; samples = h.samples }

  pub begins_later : (x : Begin) (n m : ℕ) (g : Gathered) → Begins x (n + m) g → Begins (later n x) m g
  begins_later x n m g h = let w : x.at + (n + m) ≤ h.cycles = h.within in record { cycles = h.cycles; timer = h.timer; within = omega arith; samples = h.samples }

  pub begins_round : (x : Begin) (n p from to : ℕ) (outer : Option ℕ) (g : Gathered) → Begins x n g → Begins (begin_at (length g.timers) 0 x.samples) p (with_timer part.place p outer from to g)
  begins_round x n p from to outer g h = record {
    cycles = p;
    timer = record { timer = record { cell = length g.cells; outer = outer; from = from; to = to }; listed = get_end g.timers (record { cell = length g.cells; outer = outer; from = from; to = to }); cell = get_end g.cells (timer_cell part.place p) };
    within = omega arith;
    samples = h.samples;
  }

  pub begins_branch : (x : Begin) (n : ℕ) (port : PortRef) (wanted : _) (g : Gathered) → Begins x n g → Begins (if_sampled (length g.points) wanted x) n (with_point port x g)
  begins_branch x n port wanted g h =
      let k = begins_point x n port x g h in
      record { cycles = k.cycles; timer = k.timer; within = k.within; samples = λ s i. by s (in_more x.samples (record { point = length g.points; wanted = wanted }) s i) (k.samples s) }
    where
      by : (s : Sample) → In x.samples s ⊎ (record { point = length g.points; wanted = wanted } ≡ s) → (In x.samples s → s.point < length (with_point port x g).points) → s.point < length (with_point port x g).points
      by s (inl i) old = old i
      by s (inr e) old =
          let more : length (g.points ++ record { port = port; timer = x.timer; at = x.at; samples = x.samples } ∷ []) ≡ suc (length g.points) = snoc_length g.points (record { port = port; timer = x.timer; at = x.at; samples = x.samples }) in
          let same : length g.points ≡ s.point = ap (λ (z : Sample). z.point) e in omega arith

  -- of each static repeat, its count and the cycles of its body
  module _ (R : ℕ → ℕ → Type 0) where
    abbrev mutual
      pub FormRepeats : PlainForm → Type 0
      FormRepeats Empty = Unit {0}
      FormRepeats (Enable g) = Unit {0}
      FormRepeats (Seq parts) = Unit {0}
      FormRepeats (Par arms) = Unit {0}
      FormRepeats (If test comb a b) = Unit {0}
      FormRepeats (While test comb a) = Unit {0}
      FormRepeats (Repeat count a) = Unit {0}
      FormRepeats (StaticSeq written parts) = AllRepeats parts
      FormRepeats (StaticPar written arms) = AllRepeats arms
      FormRepeats (StaticIf written test a b) = StatementRepeats a × StatementRepeats b
      FormRepeats (StaticRepeat written count a) = R count (length_of part a) × StatementRepeats a
      FormRepeats (Timed k) = Unit {0}

      pub StatementRepeats : PlainStatement → Type 0
      StatementRepeats (Placed form place) = FormRepeats form

      pub AllRepeats : PlainStatements → Type 0
      AllRepeats no_statements = Unit {0}
      AllRepeats (a_statement s ss) = StatementRepeats s × AllRepeats ss

    module _ (each : (count p : ℕ) → R count p) where
      mutual
        form_repeats : (form : PlainForm) → FormRepeats form
        form_repeats Empty = tt
        form_repeats (Enable g) = tt
        form_repeats (Seq parts) = tt
        form_repeats (Par arms) = tt
        form_repeats (If test comb a b) = tt
        form_repeats (While test comb a) = tt
        form_repeats (Repeat count a) = tt
        form_repeats (StaticSeq written parts) = all_repeats parts
        form_repeats (StaticPar written arms) = all_repeats arms
        form_repeats (StaticIf written test a b) = (statement_repeats a, statement_repeats b)
        form_repeats (StaticRepeat written count a) = (each count (length_of part a), statement_repeats a)
        form_repeats (Timed k) = tt

        statement_repeats : (s : PlainStatement) → StatementRepeats s
        statement_repeats (Placed form place) = form_repeats form

        all_repeats : (ss : PlainStatements) → AllRepeats ss
        all_repeats no_statements = tt
        all_repeats (a_statement s ss) = (statement_repeats s, all_repeats ss)

  -- WHAT EACH STEP KEEPS where its statement begins so
  module _ (R : ℕ → ℕ → Type 0) (Q : Gathered → Type 0)
      (of_timer : (x : Begin) (p count : ℕ) (g : Gathered) → R count p → Begins x (count * p) g → Q g → Q (with_timer part.place p (Some x.timer) x.at (x.at + count * p) g))
      (of_point : (x : Begin) (n : ℕ) (port : PortRef) (g : Gathered) → Begins x n g → Q g → Q (with_point port x g))
      (of_occurrence : (x : Begin) (n group : ℕ) (g : Gathered) → Begins x n g → Q g → Q (with_occurrence group x (Some n) g)) where
    enable_keeps : (group : ℕ) (x : Begin) (o : Option ℕ) (g : Gathered) → Begins x (or_zero o) g → Q g → Q (with_occurrence group x o g)
    enable_keeps group x None g b q = q
    enable_keeps group x (Some n) g b q = of_occurrence x n group g b q

    mutual
      pub form_keeps : (form : PlainForm) (x : Begin) (g : Gathered) → FormRepeats R form → Begins x (form_length part form) g → Q g → Q (form_gathered part form x g)
      form_keeps Empty x g r b q = q
      form_keeps (Enable group) x g r b q = enable_keeps group x (group_length part group) g b q
      form_keeps (Seq parts) x g r b q = q
      form_keeps (Par arms) x g r b q = q
      form_keeps (If test comb a c) x g r b q = q
      form_keeps (While test comb a) x g r b q = q
      form_keeps (Repeat count a) x g r b q = q
      form_keeps (StaticSeq written parts) x g r b q = parts_keep parts x g r b q
      form_keeps (StaticPar written arms) x g r b q = arms_keep arms x (max_length part arms) g (omega arith) r b q
      form_keeps (StaticIf written test a c) x g r b q =
          keeps c (if_sampled (length g.points) false x) (gathered part a (if_sampled (length g.points) true x) (with_point test.port x g)) r.1
          (begins_still (if_sampled (length g.points) false x) (length_of part c) a (if_sampled (length g.points) true x) (with_point test.port x g)
          (begins_branch x (length_of part c) test.port false g (begins_short x _ (length_of part c) g (omega arith) b)))
          (keeps a (if_sampled (length g.points) true x) (with_point test.port x g) r.0 (begins_branch x (length_of part a) test.port true g (begins_short x _ (length_of part a) g (omega arith) b)) (of_point x _ test.port g b q))
      form_keeps (StaticRepeat written count a) x g r b q =
          keeps a (begin_at (length g.timers) 0 x.samples) (with_timer part.place (length_of part a) (Some x.timer) x.at (x.at + count * length_of part a) g) r.1
          (begins_round x _ (length_of part a) x.at (x.at + count * length_of part a) (Some x.timer) g b) (of_timer x (length_of part a) count g r.0 b q)
      form_keeps (Timed k) x g r b q = q

      pub keeps : (s : PlainStatement) (x : Begin) (g : Gathered) → StatementRepeats R s → Begins x (length_of part s) g → Q g → Q (gathered part s x g)
      keeps (Placed form place) x g r b q = form_keeps form x g r b q

      parts_keep : (ss : PlainStatements) (x : Begin) (g : Gathered) → AllRepeats R ss → Begins x (sum_length part ss) g → Q g → Q (parts_gathered part ss x g)
      parts_keep no_statements x g r b q = q
      parts_keep (a_statement s ss) x g r b q =
          parts_keep ss (later (length_of part s) x) (gathered part s x g) r.1
          (begins_later x (length_of part s) (sum_length part ss) _ (begins_still x (length_of part s + sum_length part ss) s x g b))
          (keeps s x g r.0 (begins_short x _ (length_of part s) g (omega arith) b) q)

      arms_keep : (ss : PlainStatements) (x : Begin) (n : ℕ) (g : Gathered) → max_length part ss ≤ n → AllRepeats R ss → Begins x n g → Q g → Q (arms_gathered part ss x g)
      arms_keep no_statements x n g less r b q = q
      arms_keep (a_statement s ss) x n g less r b q =
          let m : max (length_of part s) (max_length part ss) ≤ n = less in
          arms_keep ss x n (gathered part s x g) (omega arith) r.1 (begins_still x n s x g b) (keeps s x g r.0 (begins_short x n (length_of part s) g (omega arith) b) q)

  -- THE LISTS
  pub record TimerFits (g : Gathered) (n : ℕ) (timer : IslandTimer) (outer : ℕ) : Type 0 where
    pub before : outer < n
    pub own : ℕ
    pub own_cell : slice_get g.cells timer.cell ≡ Some (timer_cell part.place own)
    pub rounds : ℕ
    pub whole : timer.to ≡ timer.from + rounds * own
    pub around : ℕ
    pub around_it : HasTimer g outer around
    pub within : timer.to ≤ around

  pub record AreListed (g : Gathered) : Type 0 where
    pub some : 0 < length g.timers
    pub first : (timer : IslandTimer) → slice_get g.timers 0 ≡ Some timer → timer.outer ≡ None
    pub within : (n : ℕ) (timer : IslandTimer) → slice_get g.timers n ≡ Some timer → 0 < n → (outer : ℕ) × (timer.outer ≡ Some outer) × TimerFits g n timer outer
    pub points : (n : ℕ) (p : PlainPoint) → slice_get g.points n ≡ Some p → (p.timer < length g.timers) × ((s : Sample) → In p.samples s → s.point < n)
    pub occurrences : (n : ℕ) (o : PlainOccurrence) → slice_get g.occurrences n ≡ Some o → (o.timer < length g.timers) × ((s : Sample) → In o.samples s → s.point < length g.points)

  fits_still : (p : ℕ) (by : Option ℕ) (from to : ℕ) (g : Gathered) (n : ℕ) (timer : IslandTimer) (outer : ℕ) → TimerFits g n timer outer → TimerFits (with_timer part.place p by from to g) n timer outer
  fits_still p by from to g n timer outer h = record {
    before = h.before;
    own = h.own;
    own_cell = front g.cells (timer_cell part.place p ∷ []) timer.cell (timer_cell part.place h.own) h.own_cell;
    rounds = h.rounds;
    whole = h.whole;
    around = h.around;
    around_it = has_timer p by from to g outer h.around h.around_it;
    within = h.within;
  }

  listed_timer : (x : Begin) (p count : ℕ) (g : Gathered) → Unit {0} → Begins x (count * p) g → AreListed g → AreListed (with_timer part.place p (Some x.timer) x.at (x.at + count * p) g)
  listed_timer x p count g any b h =
      let more : length (with_timer part.place p (Some x.timer) x.at (x.at + count * p) g).timers ≡ suc (length g.timers) = snoc_length g.timers (record { cell = length g.cells; outer = Some x.timer; from = x.at; to = x.at + count * p }) in
      let some : 0 < length g.timers = h.some in
      record {
        some = omega arith;
        first = λ timer e. at_first timer (found g.timers _ 0 timer e);
        within = λ n timer e later. inside n timer later (found g.timers _ n timer e);
        points = λ n q e. let k = h.points n q e in let l : q.timer < length g.timers = k.0 in (omega arith, k.1);
        occurrences = λ n o e. let k = h.occurrences n o e in let l : o.timer < length g.timers = k.0 in (omega arith, k.1);
      }
    where
      at_first : (timer : IslandTimer) → IsFound g.timers (record { cell = length g.cells; outer = Some x.timer; from = x.at; to = x.at + count * p }) 0 timer → timer.outer ≡ None
      at_first timer (earlier f) = h.first timer f
      at_first timer (last f same) = let some : 0 < length g.timers = h.some in absurd (omega arith)

      inside : (n : ℕ) (timer : IslandTimer) → 0 < n → IsFound g.timers (record { cell = length g.cells; outer = Some x.timer; from = x.at; to = x.at + count * p }) n timer
          → (outer : ℕ) × (timer.outer ≡ Some outer) × TimerFits (with_timer part.place p (Some x.timer) x.at (x.at + count * p) g) n timer outer
      inside n timer later (earlier f) = let k = h.within n timer f later in (k.0, k.1, fits_still p (Some x.timer) x.at (x.at + count * p) g n timer k.0 k.2)
      inside n timer later (last f same) =
          let t : HasTimer g x.timer b.cycles = b.timer in
          let below : x.timer < length g.timers = there_below g.timers x.timer t.timer t.listed in (
            x.timer,
            ap (λ (z : IslandTimer). z.outer) same,
            record {
              before = omega arith;
              own = p;
              own_cell = ap (λ (z : IslandTimer). slice_get (g.cells ++ timer_cell part.place p ∷ []) z.cell) same ∙ get_end g.cells (timer_cell part.place p);
              rounds = count;
              whole = ap (λ (z : IslandTimer). z.to) same ∙ ap (λ (z : IslandTimer). z.from + count * p) (sym same);
              around = b.cycles;
              around_it = has_timer p (Some x.timer) x.at (x.at + count * p) g x.timer b.cycles b.timer;
              within = let w : x.at + count * p ≤ b.cycles = b.within in let to : timer.to ≡ x.at + count * p = ap (λ (z : IslandTimer). z.to) same in omega arith;
            },
          )

  listed_point : (x : Begin) (n : ℕ) (port : PortRef) (g : Gathered) → Begins x n g → AreListed g → AreListed (with_point port x g)
  listed_point x n port g b h =
      let more : length (with_point port x g).points ≡ suc (length g.points) = snoc_length g.points (record { port = port; timer = x.timer; at = x.at; samples = x.samples }) in
      record {
        some = h.some;
        first = h.first;
        within = λ m timer e later. let k = h.within m timer e later in
            (k.0, k.1, record { before = k.2.before; own = k.2.own; own_cell = k.2.own_cell; rounds = k.2.rounds; whole = k.2.whole; around = k.2.around; around_it = record { timer = k.2.around_it.timer; listed = k.2.around_it.listed; cell = k.2.around_it.cell }; within = k.2.within });
        points = λ m q e. one m q (found g.points _ m q e);
        occurrences = λ m o e. let k = h.occurrences m o e in (k.0, λ s i. let l : s.point < length g.points = k.1 s i in omega arith);
      }
    where
      one : (m : ℕ) (q : PlainPoint) → IsFound g.points (record { port = port; timer = x.timer; at = x.at; samples = x.samples }) m q → (q.timer < length g.timers) × ((s : Sample) → In q.samples s → s.point < m)
      one m q (earlier f) = h.points m q f
      one m q (last f same) =
          let t : HasTimer g x.timer b.cycles = b.timer in
          let below : x.timer < length g.timers = there_below g.timers x.timer t.timer t.listed in
          let timer : q.timer ≡ x.timer = ap (λ (z : PlainPoint). z.timer) same in
          (omega arith, λ s i. let l : s.point < length g.points = b.samples s (subst (λ (z : PlainPoint). In z.samples s) same i) in omega arith)

  listed_occurrence : (x : Begin) (n group : ℕ) (g : Gathered) → Begins x n g → AreListed g → AreListed (with_occurrence group x (Some n) g)
  listed_occurrence x n group g b h = record {
    some = h.some;
    first = h.first;
    within = λ m timer e later. let k = h.within m timer e later in
        (k.0, k.1, record { before = k.2.before; own = k.2.own; own_cell = k.2.own_cell; rounds = k.2.rounds; whole = k.2.whole; around = k.2.around; around_it = record { timer = k.2.around_it.timer; listed = k.2.around_it.listed; cell = k.2.around_it.cell }; within = k.2.within });
    points = h.points;
    occurrences = λ m o e. one m o (found g.occurrences _ m o e);
  }
    where
      one : (m : ℕ) (o : PlainOccurrence) → IsFound g.occurrences (record { group = group; timer = x.timer; from = x.at; to = x.at + n; samples = x.samples }) m o → (o.timer < length g.timers) × ((s : Sample) → In o.samples s → s.point < length g.points)
      one m o (earlier f) = h.occurrences m o f
      one m o (last f same) =
          let t : HasTimer g x.timer b.cycles = b.timer in
          let below : x.timer < length g.timers = there_below g.timers x.timer t.timer t.listed in
          let timer : o.timer ≡ x.timer = ap (λ (z : PlainOccurrence). z.timer) same in
          (omega arith, λ s i. b.samples s (subst (λ (z : PlainOccurrence). In z.samples s) same i))

  -- an island begins at count 0 of its first timer
  abbrev pub only_timer : PlainForm → List PlainCell → Gathered
  only_timer form cells = with_timer part.place (form_length part form) None 0 (form_length part form) (record { cells = cells; timers = []; points = []; occurrences = [] })

  pub island_begins : (form : PlainForm) (cells : List PlainCell) → Begins (begin_at 0 0 []) (form_length part form) (only_timer form cells)
  island_begins form cells = record {
    cycles = form_length part form;
    timer = record { timer = record { cell = length cells; outer = None; from = 0; to = form_length part form }; listed = refl; cell = get_end cells (timer_cell part.place (form_length part form)) };
    within = omega arith;
    samples = λ s i. absurd i;
  }

  pub island_listed : (form : PlainForm) (cells : List PlainCell) → AreListed (island_gathered part form cells)
  island_listed form cells =
      form_keeps (λ c p. Unit {0}) AreListed listed_timer listed_point listed_occurrence form (begin_at 0 0 []) (only_timer form cells) (form_repeats (λ c p. Unit {0}) (λ c p. tt) form) (island_begins form cells) (record {
        some = omega arith;
        first = λ timer e. first_is timer e;
        within = λ n timer e later. absurd (none n timer e later);
        points = λ n p e. absurd cc;
        occurrences = λ n o e. absurd cc;
      })
    where
      first_is : (timer : IslandTimer) → slice_get (only_timer form cells).timers 0 ≡ Some timer → timer.outer ≡ None
      first_is timer e = let s : record { cell = length cells; outer = None; from = 0; to = form_length part form } ≡ timer = cc in sym (ap (λ (z : IslandTimer). z.outer) s)

      none : (n : ℕ) (timer : IslandTimer) → slice_get (only_timer form cells).timers n ≡ Some timer → 0 < n → ⊥
      none zero timer e later = omega arith
      none (suc n) timer e later = cc

  -- the first timer counts the whole island
  pub first_has : (form : PlainForm) (cells : List PlainCell) → HasTimer (island_gathered part form cells) 0 (form_length part form)
  first_has form cells =
      form_grows part (λ g. HasTimer g 0 (form_length part form)) (λ p outer from to k b. has_timer p (Some outer) from to k 0 (form_length part form) b)
      (λ port z k b. record { timer = b.timer; listed = b.listed; cell = b.cell }) (λ group z m k b. record { timer = b.timer; listed = b.listed; cell = b.cell }) form (begin_at 0 0 []) (only_timer form cells)
      (record { timer = record { cell = length cells; outer = None; from = 0; to = form_length part form }; listed = refl; cell = get_end cells (timer_cell part.place (form_length part form)) })

  -- where each repeat takes some cycles, so does the range of each timer within
  abbrev SomeCycles : ℕ → ℕ → Type 0
  SomeCycles count p = 0 < count * p

  abbrev AllRun : Gathered → Type 0
  AllRun g = (n : ℕ) (timer : IslandTimer) → slice_get g.timers n ≡ Some timer → 0 < n → timer.from < timer.to

  pub island_runs : (form : PlainForm) (cells : List PlainCell) → FormRepeats (λ count p. 0 < count * p) form → AllRun (island_gathered part form cells)
  island_runs form cells r =
      form_keeps SomeCycles AllRun (λ x p count g some b h. one x p count g some h) (λ x n port g b h. h) (λ x n group g b h. h) form (begin_at 0 0 []) (only_timer form cells) r (island_begins form cells) none
    where
      one : (x : Begin) (p count : ℕ) (g : Gathered) → 0 < count * p → AllRun g → AllRun (with_timer part.place p (Some x.timer) x.at (x.at + count * p) g)
      one x p count g some h n timer e later = by (found g.timers (record { cell = length g.cells; outer = Some x.timer; from = x.at; to = x.at + count * p }) n timer e)
        where
          by : IsFound g.timers (record { cell = length g.cells; outer = Some x.timer; from = x.at; to = x.at + count * p }) n timer → timer.from < timer.to
          by (earlier f) = h n timer f later
          by (last f same) =
              let from : timer.from ≡ x.at = ap (λ (z : IslandTimer). z.from) same in
              let to : timer.to ≡ x.at + count * p = ap (λ (z : IslandTimer). z.to) same in omega arith

      none : AllRun (only_timer form cells)
      none zero timer e later = absurd (omega arith)
      none (suc n) timer e later = absurd cc
