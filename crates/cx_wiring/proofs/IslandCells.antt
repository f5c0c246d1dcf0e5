-- The timers of a component's islands stand behind its cells, island by island.
use Rattle.std.proofs.Common.{◌≡◌, ℕ, zero, suc, ◌+◌, ◌*◌, ◌<◌, ◌≤◌, List, [], ◌∷◌, ◌++◌, length, Option, Some, None, slice_get, refl, sym, ap, ◌∙◌, subst, arith}
use Rattle.cx_text.specs.Members.{In}
use Rattle.cx_meaning.specs.Designs.{PlainCell, PlainComponent, PlainForm, Empty, Enable, Seq, Par, If, While, Repeat, StaticSeq, StaticPar, StaticIf, StaticRepeat, Timed, PlainStatement, Placed, PlainStatements, no_statements, a_statement}
use Rattle.cx_meaning.specs.Islands.{group_length, form_length}
use Rattle.cx_static.specs.declared.islands.IslandTimer.{IslandTimer}
use Rattle.cx_static.specs.declared.islands.Sample.{Sample}
use Rattle.cx_static.specs.Islands.{PlainPoint, PlainOccurrence, PlainIsland}
use Rattle.cx_text.specs.declared.places.Place.{Place}
use Rattle.cx_static.specs.Lowering.{Gathered, timer_cell, Lowering, island_gathered, island_of, with_island, after_enable, form_after, after, parts_after, unlowered, lowered_component}
use Rattle.cx_wiring.proofs.GatherLaws.{IsFound, earlier, last, found, island_aligned, island_keeps, island_there}
use Rattle.cx_wiring.specs.TimerCounts.{kind_cycles}
use Rattle.cx_wiring.proofs.ListedLaws.{HasTimer, FormRepeats, TimerFits, AreListed, island_listed, first_has, island_runs}
use Rattle.cx_text.proofs.ListLaws.{there_below, front}

-- the timers of the first islands
abbrev pub timers_before : List PlainIsland → ℕ → ℕ
timers_before [] k = 0
timers_before (island ∷ rest) zero = 0
timers_before (island ∷ rest) (suc k) = length island.timers + timers_before rest k

-- the cells of the timers from one number to before another, in order
abbrev pub StandFrom : ℕ → List PlainIsland → ℕ → Type 0
StandFrom a [] b = a ≡ b
StandFrom a (island ∷ rest) b = ((t : ℕ) (timer : IslandTimer) → slice_get island.timers t ≡ Some timer → timer.cell ≡ a + t) × StandFrom (a + length island.timers) rest b

one_behind : (a b c : ℕ) (islands : List PlainIsland) (island : PlainIsland) → StandFrom a islands b → ((t : ℕ) (timer : IslandTimer) → slice_get island.timers t ≡ Some timer → timer.cell ≡ b + t) → c ≡ b + length island.timers
    → StandFrom a (islands ++ island ∷ []) c
one_behind a b c [] island h k e = ((λ t timer f. k t timer f ∙ ap (λ n. n + t) (sym h)), (ap (λ n. n + length island.timers) h ∙ sym e))
one_behind a b c (first ∷ rest) island h k e = (h.0, one_behind (a + length first.timers) b c rest island h.1 k e)

pub cell_stands : (a b : ℕ) (islands : List PlainIsland) → StandFrom a islands b → (k : ℕ) (island : PlainIsland) → slice_get islands k ≡ Some island → (t : ℕ) (timer : IslandTimer) → slice_get island.timers t ≡ Some timer
    → timer.cell ≡ a + timers_before islands k + t
cell_stands a b [] h k island is t timer at = absurd cc
cell_stands a b (first ∷ rest) h zero island is t timer at =
    let same : first ≡ island = of_some first island is in
    h.0 t timer (subst (λ (i : PlainIsland). slice_get i.timers t ≡ Some timer) (sym same) at) ∙ omega arith
  where
    of_some : (x y : PlainIsland) → ◌≡◌ {A = Option PlainIsland} (Some x) (Some y) → x ≡ y
    of_some x y e = cc
cell_stands a b (first ∷ rest) h (suc k) island is t timer at =
    let c : timer.cell ≡ a + length first.timers + timers_before rest k + t = cell_stands (a + length first.timers) b rest h.1 k island is t timer at in omega arith

pub before_later : (islands : List PlainIsland) (k j : ℕ) (island : PlainIsland) → slice_get islands k ≡ Some island → k < j → timers_before islands k + length island.timers ≤ timers_before islands j
before_later [] k j island is less = absurd cc
before_later (first ∷ rest) zero zero island is less = absurd (omega arith)
before_later (first ∷ rest) zero (suc j) island is less =
    let same : length first.timers ≡ length island.timers = of_some first island is in omega arith
  where
    of_some : (x y : PlainIsland) → ◌≡◌ {A = Option PlainIsland} (Some x) (Some y) → length x.timers ≡ length y.timers
    of_some x y e = let s : x ≡ y = cc in ap (λ (i : PlainIsland). length i.timers) s
before_later (first ∷ rest) (suc k) zero island is less = absurd (omega arith)
before_later (first ∷ rest) (suc k) (suc j) island is less =
    let h : timers_before rest k + length island.timers ≤ timers_before rest j = before_later rest k j island is (omega arith) in omega arith

-- timers of different islands have different cells
pub apart : (a b : ℕ) (islands : List PlainIsland) → StandFrom a islands b → (k j : ℕ) (one other : PlainIsland) → slice_get islands k ≡ Some one → slice_get islands j ≡ Some other → k < j
    → (t u : ℕ) (timer late : IslandTimer) → slice_get one.timers t ≡ Some timer → slice_get other.timers u ≡ Some late → timer.cell < late.cell
apart a b islands h k j one other is also less t u timer late at there =
    let c : timer.cell ≡ a + timers_before islands k + t = cell_stands a b islands h k one is t timer at in
    let d : late.cell ≡ a + timers_before islands j + u = cell_stands a b islands h j other also u late there in
    let e : timers_before islands k + length one.timers ≤ timers_before islands j = before_later islands k j one is less in
    let f : t < length one.timers = there_below one.timers t timer at in omega arith

-- WHAT EACH ISLAND KEEPS all of control keeps
module _ (part : PlainComponent) (Q : Lowering → Type 0) (of_island : (form : PlainForm) (l : Lowering) → Q l → Q (with_island part form l)) where
  enable_lowers : (g : ℕ) (o : Option ℕ) (l : Lowering) → Q l → Q (after_enable part g o l)
  enable_lowers g None l q = q
  enable_lowers g (Some n) l q = of_island (Enable g) l q

  mutual
    form_lowers : (form : PlainForm) (l : Lowering) → Q l → Q (form_after part form l)
    form_lowers Empty l q = q
    form_lowers (Enable g) l q = enable_lowers g (group_length part g) l q
    form_lowers (Seq parts) l q = parts_lower parts l q
    form_lowers (Par arms) l q = parts_lower arms l q
    form_lowers (If test comb a b) l q = lowers b (after part a l) (lowers a l q)
    form_lowers (While test comb a) l q = lowers a l q
    form_lowers (Repeat count a) l q = lowers a l q
    form_lowers (StaticSeq written parts) l q = of_island (StaticSeq written parts) l q
    form_lowers (StaticPar written arms) l q = of_island (StaticPar written arms) l q
    form_lowers (StaticIf written test a b) l q = of_island (StaticIf written test a b) l q
    form_lowers (StaticRepeat written count a) l q = of_island (StaticRepeat written count a) l q
    form_lowers (Timed k) l q = q

    pub lowers : (s : PlainStatement) (l : Lowering) → Q l → Q (after part s l)
    lowers (Placed form place) l q = form_lowers form l q

    pub parts_lower : (ss : PlainStatements) (l : Lowering) → Q l → Q (parts_after part ss l)
    parts_lower no_statements l q = q
    parts_lower (a_statement s ss) l q = parts_lower ss (after part s l) (lowers s l q)

-- islands and cells stay when more is lowered
pub record IsBefore (first final : Lowering) : Type 0 where
  pub islands : (k : ℕ) (island : PlainIsland) → slice_get first.islands k ≡ Some island → slice_get final.islands k ≡ Some island
  pub cells : (c : ℕ) (cell : PlainCell) → slice_get first.cells c ≡ Some cell → slice_get final.cells c ≡ Some cell

-- an island is made of a form, whose cells stay
pub record IsMade (part : PlainComponent) (l : Lowering) (island : PlainIsland) : Type 0 where
  pub form : PlainForm
  pub cells : List PlainCell
  pub is : island ≡ island_of (form_length part form) (island_gathered part form cells)
  pub stay : (c : ℕ) (cell : PlainCell) → slice_get (island_gathered part form cells).cells c ≡ Some cell → slice_get l.cells c ≡ Some cell

-- an island's lists, each timer, point and occurrence by those before it
pub record IsListed (island : PlainIsland) : Type 0 where
  pub some : 0 < length island.timers
  pub first : (timer : IslandTimer) → slice_get island.timers 0 ≡ Some timer → timer.outer ≡ None
  pub within : (n : ℕ) (timer : IslandTimer) → slice_get island.timers n ≡ Some timer → 0 < n → (outer : ℕ) × (timer.outer ≡ Some outer) × (outer < n)
  pub points : (n : ℕ) (p : PlainPoint) → slice_get island.points n ≡ Some p → (p.timer < length island.timers) × ((s : Sample) → In p.samples s → s.point < n)
  pub occurrences : (n : ℕ) (o : PlainOccurrence) → slice_get island.occurrences n ≡ Some o → (o.timer < length island.timers) × ((s : Sample) → In o.samples s → s.point < length island.points)

module _ (part : PlainComponent) where
  island_before : (first : Lowering) (form : PlainForm) (l : Lowering) → IsBefore first l → IsBefore first (with_island part form l)
  island_before first form l b = record {
    islands = λ k island e. front l.islands (island_of (form_length part form) (island_gathered part form l.cells) ∷ []) k island (b.islands k island e);
    cells = λ c cell e. island_keeps part form l.cells c cell (b.cells c cell e);
  }

  pub itself : (l : Lowering) → IsBefore l l
  itself l = record { islands = λ k island e. e; cells = λ c cell e. e }

  pub both_before : (a b c : Lowering) → IsBefore a b → IsBefore b c → IsBefore a c
  both_before a b c f g = record { islands = λ k island e. g.islands k island (f.islands k island e); cells = λ n cell e. g.cells n cell (f.cells n cell e) }

  pub before_after : (s : PlainStatement) (l : Lowering) → IsBefore l (after part s l)
  before_after s l = lowers part (IsBefore l) (λ form k b. island_before l form k b) s l (itself l)

  pub before_parts : (ss : PlainStatements) (l : Lowering) → IsBefore l (parts_after part ss l)
  before_parts ss l = parts_lower part (IsBefore l) (λ form k b. island_before l form k b) ss l (itself l)

  abbrev AllMade : Lowering → Type 0
  AllMade l = (k : ℕ) (island : PlainIsland) → slice_get l.islands k ≡ Some island → IsMade part l island

  island_made : (form : PlainForm) (l : Lowering) → AllMade l → AllMade (with_island part form l)
  island_made form l h k island is = one (found l.islands (island_of (form_length part form) (island_gathered part form l.cells)) k island is)
    where
      one : IsFound l.islands (island_of (form_length part form) (island_gathered part form l.cells)) k island → IsMade part (with_island part form l) island
      one (earlier f) = let m = h k island f in record { form = m.form; cells = m.cells; is = m.is; stay = λ c cell e. island_keeps part form l.cells c cell (m.stay c cell e) }
      one (last f same) = record { form = form; cells = l.cells; is = same; stay = λ c cell e. e }

  abbrev Stand : Lowering → Type 0
  Stand l = StandFrom (length part.cells) l.islands (length l.cells)

  island_stands : (form : PlainForm) (l : Lowering) → Stand l → Stand (with_island part form l)
  island_stands form l h =
      let g = island_aligned part form l.cells in
      one_behind (length part.cells) (length l.cells) _ l.islands (island_of (form_length part form) (island_gathered part form l.cells)) h g.timers g.cells

  -- OF A LOWERED COMPONENT
  abbrev pub final : Lowering
  final = after part part.control (unlowered part)

  pub made : (k : ℕ) (island : PlainIsland) → slice_get (lowered_component part).islands k ≡ Some island → IsMade part (after part part.control (unlowered part)) island
  made = lowers part AllMade island_made part.control (unlowered part) (λ k island is. absurd cc)

  pub timers_stand : StandFrom (length part.cells) (lowered_component part).islands (length (lowered_component part).part.cells)
  timers_stand = lowers part Stand island_stands part.control (unlowered part) refl

  pub timers_lie : (k : ℕ) (island : PlainIsland) → slice_get (lowered_component part).islands k ≡ Some island → (t : ℕ) (timer : IslandTimer) → slice_get island.timers t ≡ Some timer
      → (p : ℕ) × (slice_get (lowered_component part).part.cells timer.cell ≡ Some (timer_cell part.place p))
  timers_lie k island is t timer at =
      let m = made k island is in
      let there = island_there part m.form m.cells t timer (subst (λ (i : PlainIsland). slice_get i.timers t ≡ Some timer) m.is at) in (there.0, m.stay timer.cell (timer_cell part.place there.0) there.1)

  listed_made : (form : PlainForm) (cells : List PlainCell) → IsListed (island_of (form_length part form) (island_gathered part form cells))
  listed_made form cells =
      let h = island_listed part form cells in
      record { some = h.some; first = h.first; within = λ n timer e later. let k = h.within n timer e later in (k.0, k.1, k.2.before); points = h.points; occurrences = h.occurrences }

  pub listed : (k : ℕ) (island : PlainIsland) → slice_get (lowered_component part).islands k ≡ Some island → IsListed island
  listed k island is = let m = made k island is in subst IsListed (sym m.is) (listed_made m.form m.cells)

-- WITH WHAT HOLDS of each form that becomes an island
module _ (part : PlainComponent) (P : PlainForm → Type 0) where
  abbrev mutual
    pub FormMakes : PlainForm → Type 0
    FormMakes Empty = Unit {0}
    FormMakes (Enable g) = (n : ℕ) → group_length part g ≡ Some n → P (Enable g)
    FormMakes (Seq parts) = PartsMake parts
    FormMakes (Par arms) = PartsMake arms
    FormMakes (If test comb a b) = StatementMakes a × StatementMakes b
    FormMakes (While test comb a) = StatementMakes a
    FormMakes (Repeat count a) = StatementMakes a
    FormMakes (StaticSeq written parts) = P (StaticSeq written parts)
    FormMakes (StaticPar written arms) = P (StaticPar written arms)
    FormMakes (StaticIf written test a b) = P (StaticIf written test a b)
    FormMakes (StaticRepeat written count a) = P (StaticRepeat written count a)
    FormMakes (Timed k) = Unit {0}

    pub StatementMakes : PlainStatement → Type 0
    StatementMakes (Placed form place) = FormMakes form

    pub PartsMake : PlainStatements → Type 0
    PartsMake no_statements = Unit {0}
    PartsMake (a_statement s ss) = StatementMakes s × PartsMake ss

  abbrev MadeWell : Lowering → Type 0
  MadeWell l = (k : ℕ) (island : PlainIsland) → slice_get l.islands k ≡ Some island → (m : IsMade part l island) × P m.form

  island_well : (form : PlainForm) (l : Lowering) → P form → MadeWell l → MadeWell (with_island part form l)
  island_well form l p h k island is = one (found l.islands (island_of (form_length part form) (island_gathered part form l.cells)) k island is)
    where
      one : IsFound l.islands (island_of (form_length part form) (island_gathered part form l.cells)) k island → (m : IsMade part (with_island part form l) island) × P m.form
      one (earlier f) =
          let m = h k island f in
          (record { form = (IsMade.form m.0); cells = IsMade.cells m.0; is = IsMade.is m.0; stay = λ c cell e. island_keeps part form l.cells c cell (IsMade.stay m.0 c cell e) }, m.1)
      one (last f same) = (record { form = form; cells = l.cells; is = same; stay = λ c cell e. e }, p)

  enable_well : (g : ℕ) (o : Option ℕ) (l : Lowering) → ((n : ℕ) → o ≡ Some n → P (Enable g)) → MadeWell l → MadeWell (after_enable part g o l)
  enable_well g None l p h = h
  enable_well g (Some n) l p h = island_well (Enable g) l (p n refl) h

  mutual
    form_well : (form : PlainForm) (l : Lowering) → FormMakes form → MadeWell l → MadeWell (form_after part form l)
    form_well Empty l p h = h
    form_well (Enable g) l p h = enable_well g (group_length part g) l p h
    form_well (Seq parts) l p h = parts_well parts l p h
    form_well (Par arms) l p h = parts_well arms l p h
    form_well (If test comb a b) l p h = statement_well b (after part a l) p.1 (statement_well a l p.0 h)
    form_well (While test comb a) l p h = statement_well a l p h
    form_well (Repeat count a) l p h = statement_well a l p h
    form_well (StaticSeq written parts) l p h = island_well (StaticSeq written parts) l p h
    form_well (StaticPar written arms) l p h = island_well (StaticPar written arms) l p h
    form_well (StaticIf written test a b) l p h = island_well (StaticIf written test a b) l p h
    form_well (StaticRepeat written count a) l p h = island_well (StaticRepeat written count a) l p h
    form_well (Timed k) l p h = h

    statement_well : (s : PlainStatement) (l : Lowering) → StatementMakes s → MadeWell l → MadeWell (after part s l)
    statement_well (Placed form place) l p h = form_well form l p h

    parts_well : (ss : PlainStatements) (l : Lowering) → PartsMake ss → MadeWell l → MadeWell (parts_after part ss l)
    parts_well no_statements l p h = h
    parts_well (a_statement s ss) l p h = parts_well ss (after part s l) p.1 (statement_well s l p.0 h)

  pub made_well : StatementMakes part.control → (k : ℕ) (island : PlainIsland) → slice_get (lowered_component part).islands k ≡ Some island → (m : IsMade part (after part part.control (unlowered part)) island) × P m.form
  made_well p = statement_well part.control (unlowered part) p (λ k island is. absurd cc)

-- THE CYCLES of timers: where an island takes some cycles, and no more than a limit, and each repeat in it takes some, so do its timers
module _ (part : PlainComponent) (limit : ℕ) where
  pub record RunsWell (form : PlainForm) : Type 0 where
    pub some : 0 < form_length part form
    pub few : form_length part form < limit
    pub repeats : FormRepeats part (λ count p. 0 < count * p) form

  same_cycles : (place : Place) (p q : ℕ) → timer_cell place p ≡ timer_cell place q → p ≡ q
  same_cycles place p q e = ap (λ (c : PlainCell). kind_cycles c.kind) e

  of_some : (x y : PlainCell) → ◌≡◌ {A = Option PlainCell} (Some x) (Some y) → x ≡ y
  of_some x y e = cc

  module _ (form : PlainForm) (cells : List PlainCell) (well : RunsWell form) where
    abbrev G : Gathered
    G = island_gathered part form cells

    lists : AreListed part (island_gathered part form cells)
    lists = island_listed part form cells

    timers_below : (bound n : ℕ) (timer : IslandTimer) (p : ℕ) → n < bound → slice_get (island_gathered part form cells).timers n ≡ Some timer → slice_get (island_gathered part form cells).cells timer.cell ≡ Some (timer_cell part.place p)
        → (1 ≤ p) × (p < limit)
    timers_below zero n timer p less at e = absurd (omega arith)
    timers_below (suc bound) zero timer p less at e =
        let h = first_has part form cells in
        let same : h.timer ≡ timer = cc_timer h.timer timer (sym h.listed ∙ at) in
        let is : form_length part form ≡ p = same_cycles part.place (form_length part form) p (of_some (timer_cell part.place (form_length part form)) (timer_cell part.place p) (sym h.cell ∙ ap (λ (z : IslandTimer). slice_get G.cells z.cell) same ∙ e)) in
        let some : 0 < form_length part form = well.some in
        let few : form_length part form < limit = well.few in
        (omega arith, omega arith)
      where
        cc_timer : (x y : IslandTimer) → ◌≡◌ {A = Option IslandTimer} (Some x) (Some y) → x ≡ y
        cc_timer x y f = cc
    timers_below (suc bound) (suc n) timer p less at e =
        let w = lists.within (suc n) timer at (omega arith) in
        let f = w.2 in
        let before : w.0 < suc n = f.before in
        let around = timers_below bound w.0 (HasTimer.timer (TimerFits.around_it f)) f.around (omega arith) (HasTimer.listed (TimerFits.around_it f)) (HasTimer.cell (TimerFits.around_it f)) in
        let is : f.own ≡ p = same_cycles part.place f.own p (of_some (timer_cell part.place f.own) (timer_cell part.place p) (sym f.own_cell ∙ e)) in
        let runs : timer.from < timer.to = island_runs part form cells well.repeats (suc n) timer at (omega arith) in
        let whole : timer.to ≡ timer.from + f.rounds * f.own = f.whole in
        let within : timer.to ≤ f.around = f.within in
        let few : f.around < limit = around.1 in
        let own = some_own f.rounds f.own (omega arith) in
        let low : 1 ≤ f.own = own.0 in
        let high : f.own ≤ f.rounds * f.own = own.1 in
        (omega arith, omega arith)
      where
        some_own : (c q : ℕ) → 0 < c * q → (1 ≤ q) × (q ≤ c * q)
        some_own zero q some = absurd (omega arith)
        some_own (suc c) zero some = let none : suc c * 0 ≡ 0 = omega arith in absurd (omega arith)
        some_own (suc c) (suc q) some = let all : suc c * suc q ≡ suc q + c * suc q = omega arith in (omega arith, omega arith)

  pub timers_fit : StatementMakes part RunsWell part.control → (k : ℕ) (island : PlainIsland) → slice_get (lowered_component part).islands k ≡ Some island → (t : ℕ) (timer : IslandTimer) → slice_get island.timers t ≡ Some timer
      → (p : ℕ) → slice_get (lowered_component part).part.cells timer.cell ≡ Some (timer_cell part.place p) → (1 ≤ p) × (p < limit)
  timers_fit makes k island is t timer at p e =
      let m = made_well part RunsWell makes k island is in
      let at_it : slice_get (island_gathered part (IsMade.form m.0) (IsMade.cells m.0)).timers t ≡ Some timer = subst (λ (i : PlainIsland). slice_get i.timers t ≡ Some timer) (IsMade.is m.0) at in
      let there = island_there part (IsMade.form m.0) (IsMade.cells m.0) t timer at_it in
      let is_p : there.0 ≡ p = same_cycles part.place there.0 p (of_some (timer_cell part.place there.0) (timer_cell part.place p) (sym (IsMade.stay m.0 timer.cell (timer_cell part.place there.0) there.1) ∙ e)) in
      subst (λ q. (1 ≤ q) × (q < limit)) is_p (timers_below (IsMade.form m.0) (IsMade.cells m.0) m.1 (suc t) t timer there.0 (omega arith) at_it there.1)
