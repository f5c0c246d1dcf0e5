-- What goes in an island of the net is together, where its statement stands: the enables that are active are those of one cycle, and none
-- is where control does not stand there.
use Rattle.std.proofs.Common.{◌≡◌, ℕ, zero, suc, ◌+◌, ◌-◌, ◌<◌, ◌≤◌, inl, inr, ◌==◌, not, nat_lt, Bool, true, false, if◌then◌else◌, List, [], ◌∷◌, length, Option, Some, None, unwrap_or, slice_get, refl, sym, ap, ◌∙◌, subst, arith}
use Rattle.std.proofs.lemmas.Bool.{eqb-true, ltb-true, cases_lt}
use Rattle.std.proofs.lemmas.Bool.Decides.{nat_tests}
use Rattle.cx_text.proofs.MemberLaws.{in_at}
use Rattle.cx_bits.specs.BitVector.{BitVector}
use Rattle.cx_text.specs.declared.places.Place.{Place}
use Rattle.cx_meaning.specs.declared.ports.PortRef.TheVariants as ports
use Rattle.cx_meaning.specs.Designs.{PlainComponent, PlainCell, PlainForm, Timed, Placed}
use Rattle.cx_meaning.specs.Islands.{form_length}
use Rattle.cx_meaning.specs.Active.{Active, nothing}
use Rattle.cx_text.specs.Members.{In}
use Rattle.cx_net.specs.Nets.{OfPort, OfWire, Inverse, ToHole, PlainNetDriver}
use Rattle.cx_net.specs.NetMeaning.{Node, APort, AWire, NetAround, is_true, truth_bit}
use Rattle.cx_static.specs.declared.islands.Sample.{Sample}
use Rattle.cx_static.specs.declared.islands.IslandTimer.{IslandTimer}
use Rattle.cx_static.specs.Islands.{PlainPoint, PlainOccurrence, PlainIsland}
use Rattle.cx_static.specs.Lowering.{Gathered, begin_at, with_timer, island_gathered, island_of}
use Rattle.cx_wiring.specs.Parts.{both}
use Rattle.cx_wiring.specs.Stands.{Stand, at}
use Rattle.cx_wiring.specs.IslandDrivers as wired
use Rattle.cx_wiring.specs.IslandDrivers.{wires_of_island, timer_drivers, point_drivers, occurrence_drivers, island_drivers, first_of_island}
use Rattle.cx_wiring.specs.Control.{timed_drivers, form_drivers}
use Rattle.cx_wiring.specs.Takings.{value}
use Rattle.cx_wiring_cycles.specs.Shown.{wide}
use Rattle.cx_wiring_cycles.proofs.IslandValues as values
use Rattle.cx_wiring_cycles.proofs.IslandValues.{IslandLooks}
use Rattle.cx_wiring_runs.proofs.KnownLemmas.{Known, On, two_true, known_inverse, AllTo, all_to_append}
use Rattle.cx_wiring_runs.proofs.TogetherGoes.{IsOn, GoesIn, Holes, IsleGoes}
use Rattle.cx_wiring_runs.proofs.StaticGoes as static
use Rattle.cx_wiring_runs.proofs.IslandKnown.{IslandGiven, runs_known, sample_known, active_known}
use Rattle.cx_text.proofs.BoolLaws.{and_both}
use Rattle.cx_text.proofs.ListLaws.{there_below, there_at}
use Rattle.cx_text.proofs.NumberLaws.{never}

not_below : (c from : ℕ) → not (nat_lt c from) ≡ true → from ≤ c
not_below c from e = grind (arith, nat_tests)

module _ (groups : ℕ) (x : Stand) (first : ℕ) (island : PlainIsland) (around : NetAround) (registers : ℕ → Option BitVector) (look : Node → Option BitVector) (given : IslandGiven groups x first island around registers look)
    (narrow : (n : ℕ) (v : BitVector) → first ≤ n → n < first + wires_of_island island → look (AWire n) ≡ Some v → (b : Bool) × (v ≡ truth_bit b)) (count : ℕ → ℕ) (done : Bool)
    (counts : (t : ℕ) (timer : IslandTimer) → slice_get island.timers t ≡ Some timer → look (APort (ports.Cell timer.cell 1)) ≡ Some (wide (count t)))
    (dones : (timer : IslandTimer) → slice_get island.timers 0 ≡ Some timer → look (APort (ports.Cell timer.cell 2)) ≡ Some (truth_bit done)) where
  wire_known : (n : ℕ) → first ≤ n → n < first + wires_of_island island → Known (look (AWire n))
  wire_known n low high =
      elim (cases_lt n (first + length island.timers)) [
        | inl l ↦ let t : first + (n - first) ≡ n = omega arith in subst (λ m. Known (look (AWire m))) t (runs_known groups x first island around registers look given (n - first) (omega arith))
        | inr l ↦ elim (cases_lt n (first + length island.timers + length island.points)) [
          | inl h ↦ let t : first + length island.timers + (n - (first + length island.timers)) ≡ n = omega arith in
              subst (λ m. Known (look (AWire m))) t (sample_known groups x first island around registers look given (n - (first + length island.timers)) (omega arith))
          | inr h ↦ let t : first + length island.timers + length island.points + (n - (first + length island.timers + length island.points)) ≡ n = omega arith in
              subst (λ m. Known (look (AWire m))) t (active_known groups x first island around registers look given (n - (first + length island.timers + length island.points)) (omega arith))
        ]
      ]

  looks : IslandLooks groups x first island around registers look count done
  looks = record {
    reads = IslandGiven.reads given;
    bits = λ n low high. let k = wire_known n low high in let b = narrow n k.0 low high k.1 in (b.0, k.1 ∙ ap Some b.1);
    high = IslandGiven.high given;
    groups_low = IslandGiven.groups_low given;
    counts = counts;
    dones = dones;
  }

  abbrev live : ℕ → Bool
  live t = values.live groups x first island around registers look count done looks t

  abbrev sample : ℕ → Bool
  sample n = values.sample groups x first island around registers look count done looks n

  abbrev Acts : PlainComponent → PlainOccurrence → Type 0
  Acts part o = static.Acts part live count sample island.timers o

  wanted_of : (list : List Sample) → values.all_wanted groups x first island around registers look count done looks list ≡ true → (s : Sample) → In list s → sample s.point ≡ s.wanted
  wanted_of [] e s i = absurd i
  wanted_of (z ∷ rest) e s (inl f) =
      let k = and_both _ _ e in
      subst (λ (v : Sample). sample v.point ≡ v.wanted) f (by (sample z.point) z.wanted k.0)
    where
      by : (b w : Bool) → (if w then b else not b) ≡ true → b ≡ w
      by true true g = refl
      by false true g = never g
      by true false g = never g
      by false false g = refl
  wanted_of (z ∷ rest) e s (inr i) = wanted_of rest (and_both _ _ e).1 s i

  -- an enable that is active acts
  acts_of : (part : PlainComponent) (n : ℕ) (o : PlainOccurrence) → slice_get island.occurrences n ≡ Some o → values.active groups x first island around registers look count done looks n ≡ true → Acts part o
  acts_of part n o e on =
      let l = (IslandGiven.listed given).occurrences n o e in
      let all = sym (values.active_is groups x first island around registers look count done looks n o e l.0 l.1) ∙ on in
      let a = and_both _ _ all in
      let b = and_both _ _ a.1 in
      let c = and_both _ _ b.1 in
      record { runs = a.0; low = not_below (count o.timer) o.from b.0; high = ltb-true (count o.timer) o.to c.0; wanted = wanted_of o.samples c.1 }

  -- a timer inside another runs in its range alone
  inner : (t outer : ℕ) (timer : IslandTimer) → slice_get island.timers t ≡ Some timer → timer.outer ≡ Some outer → live t ≡ true → (live outer ≡ true) × (timer.from ≤ count outer) × (count outer < timer.to)
  inner t outer timer e around_it on =
      let below = within_outer t e in
      let all = sym (values.live_within groups x first island around registers look count done looks t outer timer e around_it (below around_it)) ∙ on in
      let a = and_both _ _ all in
      let b = and_both _ _ a.1 in
      let c = and_both _ _ b.1 in
      (a.0, not_below (count outer) timer.from b.0, ltb-true (count outer) timer.to c.0)
    where
      same_number : (a b : ℕ) → ◌≡◌ {A = Option ℕ} (Some a) (Some b) → a ≡ b
      same_number a b f = cc

      none_number : (a : ℕ) → ◌≡◌ {A = Option ℕ} None (Some a) → ⊥
      none_number a f = cc

      within_outer : (t : ℕ) → slice_get island.timers t ≡ Some timer → timer.outer ≡ Some outer → outer < length island.timers
      within_outer zero f o = absurd (none_number outer (sym ((IslandGiven.listed given).first timer f) ∙ o))
      within_outer (suc t) f o =
          let k = (IslandGiven.listed given).within (suc t) timer f (omega arith) in
          let same : k.0 ≡ outer = same_number k.0 outer (sym k.1 ∙ o) in
          let less : suc t < length island.timers = there_below island.timers (suc t) timer f in
          let small : k.0 < suc t = k.2 in omega arith

  -- THE DRIVERS of goes, where the enables that act are in a set
  module _ (part : PlainComponent) (islands : List PlainIsland) (bound : ℕ) (kept : ℕ → ℕ) (act : Active) (in_set : (o : PlainOccurrence) → In island.occurrences o → Acts part o → IsOn act o.group) where
    abbrev P : ℕ → PlainNetDriver → Type 0
    P g = GoesIn part groups islands around registers look bound kept act g

    timers_go : (g t : ℕ) (rest : List IslandTimer) → AllTo (P g) (ToHole (groups + g)) (timer_drivers groups x first island t rest)
    timers_go g t [] = tt
    timers_go g t (timer ∷ rest) = ((λ e. never e), ((λ e. never e), timers_go g (suc t) rest))

    points_go : (g n : ℕ) (rest : List PlainPoint) → AllTo (P g) (ToHole (groups + g)) (point_drivers groups x first island n rest)
    points_go g n [] = tt
    points_go g n (p ∷ rest) = ((λ e. never e), ((λ e. never e), ((λ e. never e), ((λ e. never e), points_go g (suc n) rest))))

    hole_is : (g h : ℕ) → (groups + g == groups + h) ≡ true → g ≡ h
    hole_is g h e = let f : groups + g ≡ groups + h = eqb-true (groups + g) (groups + h) e in omega arith

    occurrences_go : (g n : ℕ) (rest : List PlainOccurrence) → ((j : ℕ) (o : PlainOccurrence) → slice_get rest j ≡ Some o → slice_get island.occurrences (n + j) ≡ Some o)
        → AllTo (P g) (ToHole (groups + g)) (occurrence_drivers groups x first island n rest)
    occurrences_go g n [] there = tt
    occurrences_go g n (o ∷ rest) there =
        let none : n + 0 ≡ n = omega arith in
        let e : slice_get island.occurrences n ≡ Some o = ap (slice_get island.occurrences) (sym none) ∙ there 0 o refl in
        let less : n < length island.occurrences = there_below island.occurrences n o e in
        let k = active_known groups x first island around registers look given n less in (
          (λ f. never f),
          (
            (λ f. (
              record { guard = k; source = λ on. (truth_bit true, refl) },
              (λ on. subst (IsOn act) (hole_is o.group g f) (in_set o (in_at island.occurrences n o e) (acts_of part n o e (is_on n on)))),
            )),
            ((λ f. never f), occurrences_go g (suc n) rest (λ j v f. let next : suc n + j ≡ n + suc j = omega arith in ap (slice_get island.occurrences) next ∙ there (suc j) v f)),
          ),
        )
      where
        is_on : (n : ℕ) → On around registers look (OfWire (wired.active_wire groups x first island n)) → values.active groups x first island around registers look count done looks n ≡ true
        is_on n on = ap (λ o. is_true (unwrap_or o (record { width = 1; value = 0 }))) on.1 ∙ on.2

    island_go : (g : ℕ) → AllTo (P g) (ToHole (groups + g)) (island_drivers groups x first island)
    island_go g = (
      (λ e. never e),
      all_to_append (P g) (ToHole (groups + g)) (timer_drivers groups x first island 0 island.timers) _ (timers_go g 0 island.timers)
          (all_to_append (P g) (ToHole (groups + g)) (point_drivers groups x first island 0 island.points) _ (points_go g 0 island.points)
          (occurrences_go g 0 island.occurrences (λ j v e. let none : 0 + j ≡ j = omega arith in ap (slice_get island.occurrences) none ∙ e))),
    )

  -- WHERE THE FIRST TIMER runs control stands at the island
  stands_there : live 0 ≡ true → On around registers look (at x)
  stands_there on =
      let k = there_at island.timers 0 ((IslandGiven.listed given).some) in
      let r = IslandGiven.reads given (first + 0) (omega arith) (let s = (IslandGiven.listed given).some in omega arith) in
      let known = runs_known groups x first island around registers look given 0 ((IslandGiven.listed given).some) in
      let source : look (AWire (first + 0)) ≡ value around registers look (both (at x) (Inverse (OfPort (ports.Cell k.0.cell 2)))) =
      r.1 ∙ values.timer_wire groups x first island around registers look (IslandGiven.high given) (IslandGiven.groups_low given) r.0 0 k.0 k.1
      ∙ ap (λ o. value around registers look (wired.timer_runs groups x first island k.0.cell o k.0.from k.0.to)) ((IslandGiven.listed given).first k.0 k.1) in
      let is_on : is_true known.0 ≡ true = sym (ap (λ o. is_true (unwrap_or o (record { width = 1; value = 0 }))) known.1) ∙ on in
      let t = two_true around registers look (at x) (Inverse (OfPort (ports.Cell k.0.cell 2))) known.0 (IslandGiven.at_known given) (known_inverse around registers look (OfPort (ports.Cell k.0.cell 2)) (IslandGiven.dones given 0 k.0 k.1)) (sym source ∙ known.1) is_on in
      ((IslandGiven.at_known given).0, (IslandGiven.at_known given).1, t.0 (IslandGiven.at_known given).0 (IslandGiven.at_known given).1)

  -- WHAT GOES in an island that is made of a form
  module _ (part : PlainComponent) (islands : List PlainIsland) (bound : ℕ) (kept : ℕ → ℕ) (form : PlainForm) (place : Place) (cells : List PlainCell) (k : ℕ) (is : slice_get islands k ≡ Some island)
      (made : island ≡ island_of (form_length part form) (island_gathered part form cells)) (first_is : first_of_island groups islands k ≡ first) where
    abbrev start : Gathered
    start = with_timer part.place (form_length part form) None 0 (form_length part form) (record { cells = cells; timers = []; points = []; occurrences = [] })

    added : static.Adds part live count sample island.timers inner (Placed form place) (begin_at 0 0 []) (form_length part form) start (island_gathered part form cells)
    added =
        static.form_adds part live count sample island.timers inner form place (begin_at 0 0 []) start
        (λ t timer e. subst (λ (z : PlainIsland). slice_get z.timers t ≡ Some timer) (sym made) e)

    its : (o : PlainOccurrence) → In island.occurrences o → In (Gathered.occurrences (island_gathered part form cells)) o
    its o i = subst (λ (z : PlainIsland). In z.occurrences o) made i

    to_drivers : (act : Active) → Holes part groups islands around registers look bound kept act (island_drivers groups x first island) → Holes part groups islands around registers look bound kept act (form_drivers groups islands x (Timed k))
    to_drivers act h g = (
      (λ e. never e),
      subst (λ o. AllTo (GoesIn part groups islands around registers look bound kept act g) (ToHole (groups + g)) (timed_drivers groups islands x k o)) (sym is)
          (subst (λ n. AllTo (GoesIn part groups islands around registers look bound kept act g) (ToHole (groups + g)) (island_drivers groups x n island)) (sym first_is) (h g)),
    )

    pub isle_goes : IsleGoes part groups islands around registers look bound kept form place k x
    isle_goes = record {
      act = static.Adds.act added;
      together = static.Adds.together added;
      goes = to_drivers (static.Adds.act added) (island_go part islands bound kept (static.Adds.act added) (λ o i acts. elim (static.Adds.goes added o (its o i)) [ inl none ↦ absurd none | inr f ↦ f acts ]));
      quiet = λ off. to_drivers nothing (island_go part islands bound kept nothing (λ o i acts.
          elim (static.Adds.quiet added (λ begun. off (stands_there (static.IsWithin.runs begun))) o (its o i)) [ inl none ↦ absurd none | inr f ↦ absurd (f acts) ]));
    }
