-- Lowering keeps what fits: timers are cells of 1 to 2 ^ 32 - 1 cycles, and every count in an island is one of the timer that it names.
use Rattle.std.proofs.Common.{◌≡◌, inl, inr, ℕ, zero, suc, ◌+◌, ◌*◌, ◌<◌, ◌≤◌, Bool, true, false, List, [], ◌∷◌, ◌++◌, length, Option, Some, None, slice_get, refl, ap, sym, ◌∙◌, subst, arith, length-append, zero-mul, mul-zero, suc-mul}
use Rattle.std.specs.Prelude.{◌^◌, ◌&&◌, max, nat_lt, if◌then◌else◌, IsSome}
use Rattle.std.proofs.lemmas.Bool.{le-leb, lt-ltb}
use Rattle.cx_text.specs.declared.places.Place.{Place}
use Rattle.cx_prim.specs.declared.names.PrimitiveName.TheVariants as primitives
use Rattle.cx_prim.specs.PipeRows.{timer_row}
use Rattle.cx_prim.specs.Table.{HasRow}
use Rattle.cx_meaning.specs.declared.ports.PlacedPort.{PlacedPort}
use Rattle.cx_meaning.specs.Designs.{PlainCell, PlainComponent, PlainForm, Empty, Enable, Seq, Par, If, While, Repeat, StaticSeq, StaticPar, StaticIf, StaticRepeat, Timed, PlainStatement, Placed, PlainStatements, no_statements, a_statement}
use Rattle.cx_meaning.specs.Islands.{group_length, or_zero, form_length, length_of, sum_length, max_length}
use Rattle.cx_rules.specs.Items.{Context, Dynamic, InStatic, Branch, Visited, visit, visit_parts, visit_all, test_in}
use Rattle.cx_rules.specs.LimitRule.{count_in}
use Rattle.cx_rules.specs.StaticControl.{is_static, may_stand, is_island, form_has_length}
use Rattle.cx_rules.specs.Wellformed.{IsForm}
use Rattle.cx_laws.proofs.VisitLemmas.{AllHold, first_hold, rest_hold}
use Rattle.cx_laws.proofs.LengthLemmas.{StandsWell, long_form}
use Rattle.cx_net.specs.Nets.{PlainNetComponent, PlainNet}
use Rattle.cx_net.specs.NetFits.{HasPortWidth}
use Rattle.cx_static.specs.declared.islands.Sample.{Sample}
use Rattle.cx_static.specs.declared.islands.IslandTimer.{IslandTimer}
use Rattle.cx_static.specs.Islands.{PlainPoint, PlainOccurrence, PlainIsland}
use Rattle.cx_static.specs.Lowering.{Gathered, Begin, begin_at, later, sampled, if_sampled, timer_cell, with_timer, with_point, with_occurrence, form_gathered, gathered, parts_gathered, arms_gathered, island_gathered, island_of, Lowering, with_island, after_enable, lowered_enable, form_after, after, parts_after, lowered_form, lowered, lowered_parts}
use Rattle.cx_wiring.specs.Fitting.{CellFits, IsTimer, OuterFits, TimerFits, SampleFits, OccurrenceFits, PointFits, IslandFits, FormFits, StatementFits, PartsFit}
use Rattle.cx_wiring.proofs.FitLemmas.{are_more, slice_right}
use Rattle.cx_text.proofs.NumberLaws.{false_true}
use Rattle.cx_text.proofs.ListLaws.{front}
use Rattle.cx_text.specs.Members.{Each}
use Rattle.cx_text.proofs.MemberLaws.{each_append}

factor_some : (c n : ℕ) → 0 < c * n → (1 ≤ n) × (n ≤ c * n)
factor_some zero n h = absurd (omega (arith, zero-mul n))
factor_some (suc m) zero h = absurd (omega (arith, mul-zero (suc m)))
factor_some (suc m) (suc k) h = (omega arith, omega (arith, suc-mul m (suc k)))

timer_row_there : (n : ℕ) → 1 ≤ n → n < 2 ^ 32 → HasRow (record { name = primitives.Timer; numbers = n ∷ [] })
timer_row_there n some few = subst (λ b. IsSome (if b && nat_lt n (2 ^ 32) then Some (timer_row n) else None)) (sym (le-leb 1 n some)) (subst (λ b. IsSome (if b then Some (timer_row n) else None)) (sym (lt-ltb n (2 ^ 32) few)) refl)

-- the cells of one list stand in another
abbrev StandIn : List PlainCell → List PlainCell → Type 0
StandIn xs ys = (c : ℕ) (cell : PlainCell) → slice_get xs c ≡ Some cell → slice_get ys c ≡ Some cell

timer_in : (xs ys : List PlainCell) → StandIn xs ys → (c : ℕ) → IsTimer xs c → IsTimer ys c
timer_in xs ys more c t = record { cell = t.cell; stands = more c t.cell t.stands; cycles = t.cycles; is = t.is; some = t.some; few = t.few }

outer_in : (m n : ℕ) → m ≤ n → (outer : Option ℕ) → OuterFits m outer → OuterFits n outer
outer_in m n more None h = tt
outer_in m n more (Some o) h = let less : o < m = h in let there : o < n = omega arith in there

timers_in : (xs ys : List PlainCell) (m n : ℕ) → StandIn xs ys → m ≤ n → (ts : List IslandTimer) → Each (TimerFits xs m) ts → Each (TimerFits ys n) ts
timers_in xs ys m n stand more ts h =
    are_more (TimerFits xs m) (TimerFits ys n) (λ t f. record { cell = timer_in xs ys stand t.cell f.cell; outer = outer_in m n more t.outer f.outer; from = f.from; to = f.to }) ts h

samples_in : (m n : ℕ) → m ≤ n → (ss : List Sample) → Each (SampleFits m) ss → Each (SampleFits n) ss
samples_in m n more ss h = are_more (SampleFits m) (SampleFits n) (λ s f. let less : s.point < m = f in let there : s.point < n = omega arith in there) ss h

module _ (net : PlainNet) (npart : PlainNetComponent) (part : PlainComponent) where
  -- what the rules say of a statement
  pub record Fine (v : Visited) : Type 0 where
    pub form : IsForm part v.form
    pub no_invoke : part.invokes ≡ []
    pub stands : StandsWell part v
    pub test : (p : PlacedPort) → test_in v.form ≡ Some p → HasPortWidth net npart p.port 1
    pub short : is_island part v ≡ true → form_length part v.form < 2 ^ 32
    pub rounds : (n : ℕ) → count_in v.form ≡ Some n → n < 2 ^ 32

  abbrev pub AllFine : List Visited → Type 0
  AllFine = AllHold Fine

  points_in : (t m p n : ℕ) → t ≤ m → p ≤ n → (ps : List PlainPoint) → Each (PointFits net npart t p) ps → Each (PointFits net npart m n) ps
  points_in t m p n more wide ps h =
      are_more (PointFits net npart t p) (PointFits net npart m n)
      (λ x f. let less : x.timer < t = f.timer in
      let there : x.timer < m = omega arith in
      record { port = f.port; timer = there; at = f.at; samples = samples_in p n wide x.samples f.samples })
      ps h

  -- the groups of occurrences are short
  abbrev pub IsShort : PlainOccurrence → Type 0
  IsShort o = (n : ℕ) → group_length part o.group ≡ Some n → n < 2 ^ 32

  abbrev groups : ℕ
  groups = length part.groups

  occurrences_in : (t m p n : ℕ) → t ≤ m → p ≤ n → (os : List PlainOccurrence) → Each (OccurrenceFits groups t p) os → Each (OccurrenceFits groups m n) os
  occurrences_in t m p n more wide os h =
      are_more (OccurrenceFits groups t p) (OccurrenceFits groups m n)
      (λ x f. let less : x.timer < t = f.timer in
      let there : x.timer < m = omega arith in
      record { group = f.group; timer = there; from = f.from; to = f.to; samples = samples_in p n wide x.samples f.samples })
      os h

  -- WHAT IS GATHERED fits
  record Gathers (g : Gathered) : Type 0 where
    cells : Each CellFits g.cells
    timers : Each (TimerFits g.cells (length g.timers)) g.timers
    points : Each (PointFits net npart (length g.timers) (length g.points)) g.points
    occurrences : Each (OccurrenceFits groups (length g.timers) (length g.points)) g.occurrences
    short : Each IsShort g.occurrences

  -- and no less is there than before
  record Keeps (g h : Gathered) : Type 0 where
    gathers : Gathers h
    cells : StandIn g.cells h.cells
    timers : length g.timers ≤ length h.timers
    points : length g.points ≤ length h.points

  keeps_itself : (g : Gathered) → Gathers g → Keeps g g
  keeps_itself g fits = record { gathers = fits; cells = λ c cell e. e; timers = omega arith; points = omega arith }

  keeps_on : {f g h : Gathered} → Keeps f g → Keeps g h → Keeps f h
  keeps_on {f} {g} {h} a b =
      let t : length f.timers ≤ length g.timers = a.timers in
      let u : length g.timers ≤ length h.timers = b.timers in
      let p : length f.points ≤ length g.points = a.points in
      let q : length g.points ≤ length h.points = b.points in
      record { gathers = b.gathers; cells = λ c cell e. b.cells c cell (a.cells c cell e); timers = omega arith; points = omega arith }

  -- where a statement of so many cycles begins
  record Begins (g : Gathered) (x : Begin) (cycles : ℕ) : Type 0 where
    timer : x.timer < length g.timers
    few : x.at + cycles < 2 ^ 32
    samples : Each (SampleFits (length g.points)) x.samples

  begins_in : {g h : Gathered} (x : Begin) (m n : ℕ) → Keeps g h → n ≤ m → Begins g x m → Begins h x n
  begins_in {g} {h} x m n keeps less b =
      let t : length g.timers ≤ length h.timers = keeps.timers in
      let u : x.timer < length g.timers = b.timer in
      let f : x.at + m < 2 ^ 32 = b.few in
      record { timer = omega arith; few = omega arith; samples = samples_in (length g.points) (length h.points) keeps.points x.samples b.samples }

  timer_there : (place : Place) (n : ℕ) (cells : List PlainCell) → 1 ≤ n → n < 2 ^ 32 → IsTimer (cells ++ timer_cell place n ∷ []) (length cells)
  timer_there place n cells some few = record {
    cell = timer_cell place n;
    stands = (let same : length cells ≡ length cells + 0 = omega arith in ap (slice_get (cells ++ timer_cell place n ∷ [])) same ∙ slice_right cells (timer_cell place n ∷ []) 0);
    cycles = n;
    is = refl;
    some = some;
    few = few;
  }

  timer_keeps : (place : Place) (n : ℕ) (outer : Option ℕ) (from to : ℕ) (g : Gathered) → Gathers g → 1 ≤ n → n < 2 ^ 32 → OuterFits (length g.timers) outer → from < 2 ^ 32 → to < 2 ^ 32
      → Keeps g (with_timer place n outer from to g)
  timer_keeps place n outer from to g fits some few out low high =
      let timer : IslandTimer = record { cell = length g.cells; outer = outer; from = from; to = to } in
      let stand : StandIn g.cells (g.cells ++ timer_cell place n ∷ []) = λ c cell e. front g.cells (timer_cell place n ∷ []) c cell e in
      let more : length g.timers ≤ length (g.timers ++ timer ∷ []) = omega (arith, length-append g.timers (timer ∷ [])) in
      let same : length g.points ≤ length g.points = omega arith in
      record {
        gathers = record {
          cells = each_append CellFits g.cells (timer_cell place n ∷ []) fits.cells (record { row = timer_row_there n some few; memory = λ e. absurd (false_true e) }, tt);
          timers = each_append (TimerFits (g.cells ++ timer_cell place n ∷ []) (length (g.timers ++ timer ∷ []))) g.timers (timer ∷ [])
              (timers_in g.cells (g.cells ++ timer_cell place n ∷ []) (length g.timers) (length (g.timers ++ timer ∷ [])) stand more g.timers fits.timers)
              (record { cell = timer_there place n g.cells some few; outer = outer_in (length g.timers) (length (g.timers ++ timer ∷ [])) more outer out; from = low; to = high }, tt);
          points = points_in (length g.timers) (length (g.timers ++ timer ∷ [])) (length g.points) (length g.points) more same g.points fits.points;
          occurrences = occurrences_in (length g.timers) (length (g.timers ++ timer ∷ [])) (length g.points) (length g.points) more same g.occurrences fits.occurrences;
          short = fits.short;
        };
        cells = stand;
        timers = more;
        points = same;
      }

  point_keeps : (test : PlacedPort) (x : Begin) (n : ℕ) (g : Gathered) → Gathers g → HasPortWidth net npart test.port 1 → Begins g x n → Keeps g (with_point test.port x g)
  point_keeps test x n g fits bit b =
      let point : PlainPoint = record { port = test.port; timer = x.timer; at = x.at; samples = x.samples } in
      let more : length g.points ≤ length (g.points ++ point ∷ []) = omega (arith, length-append g.points (point ∷ [])) in
      let same : length g.timers ≤ length g.timers = omega arith in
      let f : x.at + n < 2 ^ 32 = b.few in
      let at : x.at < 2 ^ 32 = omega arith in
      record {
        gathers = record {
          cells = fits.cells;
          timers = fits.timers;
          points = each_append (PointFits net npart (length g.timers) (length (g.points ++ point ∷ []))) g.points (point ∷ [])
              (points_in (length g.timers) (length g.timers) (length g.points) (length (g.points ++ point ∷ [])) same more g.points fits.points)
              (record { port = bit; timer = b.timer; at = at; samples = samples_in (length g.points) (length (g.points ++ point ∷ [])) more x.samples b.samples }, tt);
          occurrences = occurrences_in (length g.timers) (length g.timers) (length g.points) (length (g.points ++ point ∷ [])) same more g.occurrences fits.occurrences;
          short = fits.short;
        };
        cells = λ c cell e. e;
        timers = same;
        points = more;
      }

  occurrence_keeps : (group : ℕ) (x : Begin) (o : Option ℕ) (g : Gathered) → group_length part group ≡ o → group < groups → Gathers g → Begins g x (or_zero o) → Keeps g (with_occurrence group x o g)
  occurrence_keeps group x None g is there fits b = keeps_itself g fits
  occurrence_keeps group x (Some n) g is there fits b =
      let occurrence : PlainOccurrence = record { group = group; timer = x.timer; from = x.at; to = x.at + n; samples = x.samples } in
      let f : x.at + n < 2 ^ 32 = b.few in
      let low : x.at < 2 ^ 32 = omega arith in
      let long : n < 2 ^ 32 = omega arith in
      record {
        gathers = record {
          cells = fits.cells;
          timers = fits.timers;
          points = fits.points;
          occurrences = each_append (OccurrenceFits groups (length g.timers) (length g.points)) g.occurrences (occurrence ∷ []) fits.occurrences
              (record { group = there; timer = b.timer; from = low; to = f; samples = b.samples }, tt);
          short = each_append IsShort g.occurrences (occurrence ∷ []) fits.short ((λ m e. let same : n ≡ m = some_same n m (sym is ∙ e) in subst (λ y. y < 2 ^ 32) same long), tt);
        };
        cells = λ c cell e. e;
        timers = omega arith;
        points = omega arith;
      }
    where
      some_same : (n m : ℕ) → Some n ≡ Some m → n ≡ m
      some_same n m e = cc

  length_static : part.invokes ≡ [] → (context : Context) (form : PlainForm) → may_stand part context form ≡ true → AllFine (visit_parts context form) → form_has_length part context form ≡ true
  length_static none context form may fine = long_form part none context form may (λ v i. (fine v i).stands)

  sampled_fits : (n : ℕ) (b : Bool) (ss : List Sample) → Each (SampleFits n) ss → Each (SampleFits (suc n)) (sampled n b ss)
  sampled_fits n b ss h =
      let more : n ≤ suc n = omega arith in
      let less : n < suc n = omega arith in
      each_append (SampleFits (suc n)) ss (record { point = n; wanted = b } ∷ []) (samples_in n (suc n) more ss h) (less, tt)

  mutual
    form_keeps : (form : PlainForm) (context : Context) (place : Place) (x : Begin) (g : Gathered) → AllFine (visit context (Placed form place)) → Gathers g → Begins g x (form_length part form) → Keeps g (form_gathered part form x g)
    form_keeps Empty context place x g fine fits b = keeps_itself g fits
    form_keeps (Enable group) context place x g fine fits b =
        occurrence_keeps group x (group_length part group) g refl (fine (record { context = context; form = Enable group; place = place }) (inl refl)).form.0 fits b
    form_keeps (Seq parts) context place x g fine fits b = keeps_itself g fits
    form_keeps (Par arms) context place x g fine fits b = keeps_itself g fits
    form_keeps (If test comb y z) context place x g fine fits b = keeps_itself g fits
    form_keeps (While test comb y) context place x g fine fits b = keeps_itself g fits
    form_keeps (Repeat count y) context place x g fine fits b = keeps_itself g fits
    form_keeps (StaticSeq written parts) context place x g fine fits b = parts_keep parts x g (λ v i. fine v (inr i)) fits b
    form_keeps (StaticPar written arms) context place x g fine fits b = arms_keep arms x g (λ v i. fine v (inr i)) fits b
    form_keeps (StaticIf written test y z) context place x g fine fits b =
        let own = fine (record { context = context; form = StaticIf written test y z; place = place }) (inl refl) in
        let point : PlainPoint = record { port = test.port; timer = x.timer; at = x.at; samples = x.samples } in
        let first = point_keeps test x (form_length part (StaticIf written test y z)) g fits (own.test test refl) b in
        let long : length (g.points ++ point ∷ []) ≡ suc (length g.points) = omega (arith, length-append g.points (point ∷ [])) in
        let f : x.at + max (length_of part y) (length_of part z) < 2 ^ 32 = b.few in
        let begin_first : Begins (with_point test.port x g) (if_sampled (length g.points) true x) (length_of part y) = record {
          timer = b.timer;
          few = omega arith;
          samples = subst (λ n. Each (SampleFits n) (sampled (length g.points) true x.samples)) (sym long) (sampled_fits (length g.points) true x.samples b.samples);
        } in
        let second = keeps y Branch (if_sampled (length g.points) true x) (with_point test.port x g) (first_hold (visit Branch y) (visit Branch z) (λ v i. fine v (inr i))) first.gathers begin_first in
        let begin_second : Begins (with_point test.port x g) (if_sampled (length g.points) false x) (length_of part z) = record {
          timer = b.timer;
          few = omega arith;
          samples = subst (λ n. Each (SampleFits n) (sampled (length g.points) false x.samples)) (sym long) (sampled_fits (length g.points) false x.samples b.samples);
        } in
        let third = keeps z Branch (if_sampled (length g.points) false x) (gathered part y (if_sampled (length g.points) true x) (with_point test.port x g)) (rest_hold (visit Branch y) (visit Branch z) (λ v i. fine v (inr i))) second.gathers
        (begins_in (if_sampled (length g.points) false x) (length_of part z) (length_of part z) second (omega arith) begin_second) in
        keeps_on first (keeps_on second third)
    form_keeps (StaticRepeat written count y) context place x g fine fits b =
        let own = fine (record { context = context; form = StaticRepeat written count y; place = place }) (inl refl) in
        let some : 0 < count * length_of part y = own.stands.lasts refl (length_static own.no_invoke context (StaticRepeat written count y) refl (λ v i. fine v (inr i))) in
        let body = factor_some count (length_of part y) some in
        let one : 1 ≤ length_of part y = body.0 in
        let less : length_of part y ≤ count * length_of part y = body.1 in
        let f : x.at + count * length_of part y < 2 ^ 32 = b.few in
        let few : length_of part y < 2 ^ 32 = omega arith in
        let low : x.at < 2 ^ 32 = omega arith in
        let timer : IslandTimer = record { cell = length g.cells; outer = Some x.timer; from = x.at; to = x.at + count * length_of part y } in
        let first = timer_keeps part.place (length_of part y) (Some x.timer) x.at (x.at + count * length_of part y) g fits one few b.timer low f in
        let there : length g.timers < length (g.timers ++ timer ∷ []) = omega (arith, length-append g.timers (timer ∷ [])) in
        let from_0 : 0 + length_of part y < 2 ^ 32 = omega arith in
        keeps_on first
        (keeps y InStatic (begin_at (length g.timers) 0 x.samples) (with_timer part.place (length_of part y) (Some x.timer) x.at (x.at + count * length_of part y) g) (λ v i. fine v (inr i)) first.gathers
        (record { timer = there; few = from_0; samples = b.samples }))
    form_keeps (Timed k) context place x g fine fits b = keeps_itself g fits

    keeps : (s : PlainStatement) (context : Context) (x : Begin) (g : Gathered) → AllFine (visit context s) → Gathers g → Begins g x (length_of part s) → Keeps g (gathered part s x g)
    keeps (Placed form place) context x g fine fits b = form_keeps form context place x g fine fits b

    parts_keep : (ss : PlainStatements) (x : Begin) (g : Gathered) → AllFine (visit_all InStatic ss) → Gathers g → Begins g x (sum_length part ss) → Keeps g (parts_gathered part ss x g)
    parts_keep no_statements x g fine fits b = keeps_itself g fits
    parts_keep (a_statement s ss) x g fine fits b =
        let f : x.at + (length_of part s + sum_length part ss) < 2 ^ 32 = b.few in
        let here : x.at + length_of part s < 2 ^ 32 = omega arith in
        let after_it : x.at + length_of part s + sum_length part ss < 2 ^ 32 = omega arith in
        let first = keeps s InStatic x g (first_hold (visit InStatic s) (visit_all InStatic ss) fine) fits (record { timer = b.timer; few = here; samples = b.samples }) in
        keeps_on first
        (parts_keep ss (later (length_of part s) x) (gathered part s x g) (rest_hold (visit InStatic s) (visit_all InStatic ss) fine) first.gathers
        (begins_in (later (length_of part s) x) (sum_length part ss) (sum_length part ss) first (omega arith) (record { timer = b.timer; few = after_it; samples = b.samples })))

    arms_keep : (ss : PlainStatements) (x : Begin) (g : Gathered) → AllFine (visit_all InStatic ss) → Gathers g → Begins g x (max_length part ss) → Keeps g (arms_gathered part ss x g)
    arms_keep no_statements x g fine fits b = keeps_itself g fits
    arms_keep (a_statement s ss) x g fine fits b =
        let f : x.at + max (length_of part s) (max_length part ss) < 2 ^ 32 = b.few in
        let here : x.at + length_of part s < 2 ^ 32 = omega arith in
        let beside : x.at + max_length part ss < 2 ^ 32 = omega arith in
        let first = keeps s InStatic x g (first_hold (visit InStatic s) (visit_all InStatic ss) fine) fits (record { timer = b.timer; few = here; samples = b.samples }) in
        keeps_on first
        (arms_keep ss x (gathered part s x g) (rest_hold (visit InStatic s) (visit_all InStatic ss) fine) first.gathers
        (begins_in x (max_length part ss) (max_length part ss) first (omega arith) (record { timer = b.timer; few = beside; samples = b.samples })))

  -- CONTROL: the islands so far fit, with the cells so far
  pub record IslandHolds (cells : List PlainCell) (island : PlainIsland) : Type 0 where
    pub fits : IslandFits net npart groups cells island
    pub short : Each IsShort island.occurrences

  pub record IslandsHold (l : Lowering) : Type 0 where
    pub cells : Each CellFits l.cells
    pub islands : Each (IslandHolds l.cells) l.islands

  island_in : (xs ys : List PlainCell) → StandIn xs ys → (island : PlainIsland) → IslandHolds xs island → IslandHolds ys island
  island_in xs ys stand island h =
      let same : length island.timers ≤ length island.timers = omega arith in
      record {
        fits = record {
          length_few = h.fits.length_few;
          first = h.fits.first;
          timers = timers_in xs ys (length island.timers) (length island.timers) stand same island.timers h.fits.timers;
          points = h.fits.points;
          occurrences = h.fits.occurrences;
        };
        short = h.short;
      }

  island_holds : (form : PlainForm) (place : Place) (l : Lowering) → AllFine (visit Dynamic (Placed form place)) → 1 ≤ form_length part form → form_length part form < 2 ^ 32 → IslandsHold l → IslandsHold (with_island part form l)
  island_holds form place l fine some few holds =
      let bare : Gathered = record { cells = l.cells; timers = []; points = []; occurrences = [] } in
      let start = timer_keeps part.place (form_length part form) None 0 (form_length part form) bare (record { cells = holds.cells; timers = tt; points = tt; occurrences = tt; short = tt }) some few tt (omega arith) few in
      let from_0 : 0 + form_length part form < 2 ^ 32 = omega arith in
      let one : 0 < 1 = omega arith in
      let all = form_keeps form Dynamic place (begin_at 0 0 []) (with_timer part.place (form_length part form) None 0 (form_length part form) bare) fine start.gathers (record { timer = one; few = from_0; samples = tt }) in
      let whole = keeps_on start all in
      record {
        cells = whole.gathers.cells;
        islands = each_append (IslandHolds (island_gathered part form l.cells).cells) l.islands (island_of (form_length part form) (island_gathered part form l.cells) ∷ [])
            (are_more (IslandHolds l.cells) (IslandHolds (island_gathered part form l.cells).cells) (island_in l.cells (island_gathered part form l.cells).cells whole.cells) l.islands holds.islands) (
              record {
                fits = record {
                  length_few = few;
                  first = (let t : 1 ≤ length (island_gathered part form l.cells).timers = all.timers in t);
                  timers = whole.gathers.timers;
                  points = whole.gathers.points;
                  occurrences = whole.gathers.occurrences;
                };
                short = whole.gathers.short;
              },
              tt,
            );
      }

  module _ (lasting : (g n : ℕ) → g < length part.groups → group_length part g ≡ Some n → 0 < n) where
    abbrev here : PlainForm → Place → Visited
    here form place = record { context = Dynamic; form = form; place = place }

    static_holds : (form : PlainForm) (place : Place) (l : Lowering) → AllFine (visit Dynamic (Placed form place)) → is_static form ≡ true → is_island part (here form place) ≡ true → may_stand part Dynamic form ≡ true → IslandsHold l
        → IslandsHold (with_island part form l)
    static_holds form place l fine static island may holds =
        let own = fine (here form place) (inl refl) in
        let some : 0 < form_length part form = own.stands.lasts static (length_static own.no_invoke Dynamic form may (λ v i. fine v (inr i))) in
        island_holds form place l fine some (own.short island) holds

    enable_holds : (g : ℕ) (place : Place) (o : Option ℕ) (l : Lowering) → group_length part g ≡ o → AllFine (visit Dynamic (Placed (Enable g) place)) → IslandsHold l → IslandsHold (after_enable part g o l)
    enable_holds g place None l is fine holds = holds
    enable_holds g place (Some n) l is fine holds =
        let own = fine (here (Enable g) place) (inl refl) in
        let long : form_length part (Enable g) ≡ n = ap or_zero is in
        let some : 0 < n = lasting g n own.form.0 is in
        let one : 1 ≤ form_length part (Enable g) = omega (arith, long) in
        island_holds (Enable g) place l fine one (own.short (ap some_is is)) holds
      where
        some_is : Option ℕ → Bool
        some_is None = false
        some_is (Some m) = true

    mutual
      form_holds : (form : PlainForm) (place : Place) (l : Lowering) → AllFine (visit Dynamic (Placed form place)) → IslandsHold l → IslandsHold (form_after part form l)
      form_holds Empty place l fine holds = holds
      form_holds (Enable g) place l fine holds = enable_holds g place (group_length part g) l refl fine holds
      form_holds (Seq parts) place l fine holds = parts_hold parts l (λ v i. fine v (inr i)) holds
      form_holds (Par arms) place l fine holds = parts_hold arms l (λ v i. fine v (inr i)) holds
      form_holds (If test comb a b) place l fine holds =
          statement_holds b (after part a l) (rest_hold (visit Dynamic a) (visit Dynamic b) (λ v i. fine v (inr i))) (statement_holds a l (first_hold (visit Dynamic a) (visit Dynamic b) (λ v i. fine v (inr i))) holds)
      form_holds (While test comb a) place l fine holds = statement_holds a l (λ v i. fine v (inr i)) holds
      form_holds (Repeat count a) place l fine holds = statement_holds a l (λ v i. fine v (inr i)) holds
      form_holds (StaticSeq written parts) place l fine holds = static_holds (StaticSeq written parts) place l fine refl refl refl holds
      form_holds (StaticPar written arms) place l fine holds = static_holds (StaticPar written arms) place l fine refl refl refl holds
      form_holds (StaticIf written test a b) place l fine holds = static_holds (StaticIf written test a b) place l fine refl refl refl holds
      form_holds (StaticRepeat written count a) place l fine holds = static_holds (StaticRepeat written count a) place l fine refl refl refl holds
      form_holds (Timed k) place l fine holds = holds

      -- THE ISLANDS of control fit
      pub statement_holds : (s : PlainStatement) (l : Lowering) → AllFine (visit Dynamic s) → IslandsHold l → IslandsHold (after part s l)
      statement_holds (Placed form place) l fine holds = form_holds form place l fine holds

      parts_hold : (ss : PlainStatements) (l : Lowering) → AllFine (visit_all Dynamic ss) → IslandsHold l → IslandsHold (parts_after part ss l)
      parts_hold no_statements l fine holds = holds
      parts_hold (a_statement s ss) l fine holds =
          parts_hold ss (after part s l) (rest_hold (visit Dynamic s) (visit_all Dynamic ss) fine) (statement_holds s l (first_hold (visit Dynamic s) (visit_all Dynamic ss) fine) holds)

  -- tests are bits, and rounds are numbers of 32 bits, where control is lowered
  enable_lowers : (g : ℕ) (o : Option ℕ) (l : Lowering) → FormFits net npart (lowered_enable part g o l)
  enable_lowers g None l = tt
  enable_lowers g (Some n) l = tt

  mutual
    form_lowers : (form : PlainForm) (place : Place) (l : Lowering) → AllFine (visit Dynamic (Placed form place)) → FormFits net npart (lowered_form part form l)
    form_lowers Empty place l fine = tt
    form_lowers (Enable g) place l fine = enable_lowers g (group_length part g) l
    form_lowers (Seq parts) place l fine = parts_lower parts l (λ v i. fine v (inr i))
    form_lowers (Par arms) place l fine = parts_lower arms l (λ v i. fine v (inr i))
    form_lowers (If test comb a b) place l fine = (
      (fine (record { context = Dynamic; form = If test comb a b; place = place }) (inl refl)).test test refl,
      statement_lowers a l (first_hold (visit Dynamic a) (visit Dynamic b) (λ v i. fine v (inr i))),
      statement_lowers b (after part a l) (rest_hold (visit Dynamic a) (visit Dynamic b) (λ v i. fine v (inr i))),
    )
    form_lowers (While test comb a) place l fine =
        ((fine (record { context = Dynamic; form = While test comb a; place = place }) (inl refl)).test test refl, statement_lowers a l (λ v i. fine v (inr i)))
    form_lowers (Repeat count a) place l fine =
        ((fine (record { context = Dynamic; form = Repeat count a; place = place }) (inl refl)).rounds count refl, statement_lowers a l (λ v i. fine v (inr i)))
    form_lowers (StaticSeq written parts) place l fine = tt
    form_lowers (StaticPar written arms) place l fine = tt
    form_lowers (StaticIf written test a b) place l fine = tt
    form_lowers (StaticRepeat written count a) place l fine = tt
    form_lowers (Timed k) place l fine = tt

    pub statement_lowers : (s : PlainStatement) (l : Lowering) → AllFine (visit Dynamic s) → StatementFits net npart (lowered part s l)
    statement_lowers (Placed form place) l fine = form_lowers form place l fine

    parts_lower : (ss : PlainStatements) (l : Lowering) → AllFine (visit_all Dynamic ss) → PartsFit net npart (lowered_parts part ss l)
    parts_lower no_statements l fine = tt
    parts_lower (a_statement s ss) l fine =
        (statement_lowers s l (first_hold (visit Dynamic s) (visit_all Dynamic ss) fine), parts_lower ss (after part s l) (rest_hold (visit Dynamic s) (visit_all Dynamic ss) fine))

-- lowered control has no more statements
module _ (part : PlainComponent) where
  enable_few : (g : ℕ) (o : Option ℕ) (l : Lowering) → length (visit_parts Dynamic (lowered_enable part g o l)) ≤ 0
  enable_few g None l = omega arith
  enable_few g (Some n) l = omega arith

  mutual
    form_few : (form : PlainForm) (l : Lowering) → length (visit_parts Dynamic (lowered_form part form l)) ≤ length (visit_parts Dynamic form)
    form_few Empty l = omega arith
    form_few (Enable g) l = enable_few g (group_length part g) l
    form_few (Seq parts) l = parts_few parts l
    form_few (Par arms) l = parts_few arms l
    form_few (If test comb a b) l =
        let h : length (visit Dynamic (lowered part a l)) ≤ length (visit Dynamic a) = lowered_few a l in
        let k : length (visit Dynamic (lowered part b (after part a l))) ≤ length (visit Dynamic b) = lowered_few b (after part a l) in
        omega (arith, length-append (visit Dynamic a) (visit Dynamic b), length-append (visit Dynamic (lowered part a l)) (visit Dynamic (lowered part b (after part a l))))
    form_few (While test comb a) l = lowered_few a l
    form_few (Repeat count a) l = lowered_few a l
    form_few (StaticSeq written parts) l = omega arith
    form_few (StaticPar written arms) l = omega arith
    form_few (StaticIf written test a b) l = omega arith
    form_few (StaticRepeat written count a) l = omega arith
    form_few (Timed k) l = omega arith

    pub lowered_few : (s : PlainStatement) (l : Lowering) → length (visit Dynamic (lowered part s l)) ≤ length (visit Dynamic s)
    lowered_few (Placed form place) l = let h : length (visit_parts Dynamic (lowered_form part form l)) ≤ length (visit_parts Dynamic form) = form_few form l in omega arith

    parts_few : (ss : PlainStatements) (l : Lowering) → length (visit_all Dynamic (lowered_parts part ss l)) ≤ length (visit_all Dynamic ss)
    parts_few no_statements l = omega arith
    parts_few (a_statement s ss) l =
        let h : length (visit Dynamic (lowered part s l)) ≤ length (visit Dynamic s) = lowered_few s l in
        let k : length (visit_all Dynamic (lowered_parts part ss (after part s l))) ≤ length (visit_all Dynamic ss) = parts_few ss (after part s l) in
        omega (arith, length-append (visit Dynamic s) (visit_all Dynamic ss), length-append (visit Dynamic (lowered part s l)) (visit_all Dynamic (lowered_parts part ss (after part s l))))
