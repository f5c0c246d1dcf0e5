-- Where control does not stand at an island, or its region does not act, no timer of it runs and nothing of it acts, whatever its
-- counts and samples are; and its end is known in every cycle.
use Rattle.std.proofs.Common.{◌≡◌, ℕ, zero, suc, ◌+◌, ◌<◌, ◌≤◌, ◌==◌, ◌&&◌, not, Bool, false, List, [], ◌∷◌, ◌++◌, length, take, Option, Some, option_map, unwrap_or, slice_get, refl, sym, ap, ◌∙◌, subst, arith}
use Rattle.std.proofs.lemmas.Bool.{and_left, ne_eqb}
use Rattle.cx_text.specs.declared.places.Place.{Place}
use Rattle.cx_bits.specs.BitVector.{BitVector}
use Rattle.cx_meaning.specs.declared.ports.PortRef.{PortRef}
use Rattle.cx_meaning.specs.declared.ports.PortRef.TheVariants as ports
use Rattle.cx_meaning.specs.Designs.{PlainComponent, Timed, Placed}
use Rattle.cx_text.specs.Members.{In}
use Rattle.cx_net.specs.Nets.{OfWire, ToRegister}
use Rattle.cx_net.specs.NetMeaning.{Node, APort, AWire, NetAround, truth_bit, same_target}
use Rattle.cx_static.specs.declared.islands.Sample.{Sample}
use Rattle.cx_static.specs.declared.islands.IslandTimer.{IslandTimer}
use Rattle.cx_static.specs.Islands.{PlainPoint, PlainOccurrence, PlainIsland}
use Rattle.cx_static.specs.Lowering.{lowered_component}
use Rattle.cx_wiring.specs.Parts.{equals}
use Rattle.cx_wiring.specs.Counts.{sample_registers}
use Rattle.cx_wiring.specs.Stands.{Stand, at}
use Rattle.cx_wiring.specs.IslandDrivers as wired
use Rattle.cx_wiring.specs.IslandDrivers.{wires_of_island, island_wires, first_of_island, timer_drivers, point_drivers, occurrence_drivers, island_drivers}
use Rattle.cx_wiring.specs.Control.{timed_drivers, form_drivers}
use Rattle.cx_wiring.specs.Wiring.{groups, first_of_control}
use Rattle.cx_wiring.specs.Bounds.{AllDrive, OccurrencesName, IslandNames, IslandsName}
use Rattle.cx_wiring.specs.Takings.{Says, AllConnect, AllIdle, AreRegisters}
use Rattle.cx_wiring.proofs.TakingLemmas.{no_port_register, says_both, says_equals, others_pass, idle_both}
use Rattle.cx_wiring.proofs.IslandTargets.{wires_at, island_within, island_drives}
use Rattle.cx_wiring.proofs.ControlTargets.{names_at}
use Rattle.cx_wiring.proofs.IslandCells.{IsListed, listed}
use Rattle.cx_wiring.proofs.TimerRows.{EachTimer}
use Rattle.cx_wiring_cycles.specs.Standing.{IsStopped, IsIn, Away}
use Rattle.cx_wiring_cycles.specs.IslandTakes.{IslandNexts}
use Rattle.cx_wiring_cycles.specs.Shown.{wide}
use Rattle.cx_wiring_cycles.specs.IslandNumbers.{cell_of_timer}
use Rattle.cx_wiring_cycles.proofs.AwayLaws as away
use Rattle.cx_wiring_cycles.proofs.KnowLaws.{Known}
use Rattle.cx_wiring_cycles.proofs.IslandValues.{IslandLooks, live, says_live, says_active, count_is, live_first, live_within, says_begins, active_is, all_wanted}
use Rattle.cx_text.proofs.ListLaws.{there_below, there_at}

pub named_at : (groups : ℕ) (list : List PlainOccurrence) → OccurrencesName groups list → (j : ℕ) (v : PlainOccurrence) → slice_get list j ≡ Some v → v.group < groups
named_at groups [] names j v e = absurd cc
named_at groups (o ∷ rest) names zero v e = subst (λ (z : PlainOccurrence). z.group < groups) (same o v e) names.0
  where
    same : (a b : PlainOccurrence) → ◌≡◌ {A = Option PlainOccurrence} (Some a) (Some b) → a ≡ b
    same a b f = cc
named_at groups (o ∷ rest) names (suc j) v e = named_at groups rest names.1 j v e

module _ (part : PlainComponent) (named : IslandsName (groups (lowered_component part)) (lowered_component part).islands) (around : NetAround) (registers : ℕ → Option BitVector) (look : Node → Option BitVector) (kept next : ℕ → ℕ) (hole : ℕ → Bool) (port : PortRef → Bool)
    (bits : (n : ℕ) → groups (lowered_component part) ≤ n → n < first_of_control (lowered_component part) → (b : Bool) × (look (AWire n) ≡ Some (truth_bit b)))
    (count_of : ℕ → ℕ) (done_of : ℕ → Bool)
    (tells : EachTimer part (λ timer. (look (APort (ports.Cell timer.cell 1)) ≡ Some (wide (count_of timer.cell))) × (look (APort (ports.Cell timer.cell 2)) ≡ Some (truth_bit (done_of timer.cell))))) where
  abbrev G : ℕ
  G = groups (lowered_component part)

  abbrev I : List PlainIsland
  I = (lowered_component part).islands

  abbrev B : ℕ
  B = first_of_control (lowered_component part)

  module _ (k : ℕ) (y : Stand) (low : first_of_control (lowered_component part) ≤ y.wire) (n : IslandNexts (groups (lowered_component part)) (lowered_component part).islands around registers look kept next k y) where
    abbrev pub its_island : PlainIsland
    its_island = n.taken.there.0

    abbrev pub its_first : ℕ
    its_first = first_of_island (groups (lowered_component part)) (lowered_component part).islands k

    abbrev is_it : slice_get (lowered_component part).islands k ≡ Some n.taken.there.0
    is_it = n.taken.there.1

    abbrev lists : IsListed n.taken.there.0
    lists = listed part k n.taken.there.0 n.taken.there.1

    its_timer : (t : ℕ) → t < length n.taken.there.0.timers → (timer : IslandTimer) × (slice_get n.taken.there.0.timers t ≡ Some timer)
    its_timer t less = there_at n.taken.there.0.timers t less

    -- the counts of its timers, and whether the first one is done
    abbrev pub its_count : ℕ → ℕ
    its_count t = count_of (cell_of_timer n.taken.there.0.timers t)

    abbrev pub its_done : Bool
    its_done = done_of (cell_of_timer n.taken.there.0.timers 0)

    its_cell : (t : ℕ) (timer : IslandTimer) → slice_get n.taken.there.0.timers t ≡ Some timer → cell_of_timer n.taken.there.0.timers t ≡ timer.cell
    its_cell t timer e = ap (λ (o : Option IslandTimer). unwrap_or (option_map (λ (z : IslandTimer). z.cell) o) 0) e

    pub its_looks : IslandLooks (groups (lowered_component part)) y (first_of_island (groups (lowered_component part)) (lowered_component part).islands k) n.taken.there.0 around registers look its_count its_done
    its_looks =
        let within : island_wires (take k I) + wires_at (slice_get I k) ≤ island_wires I = island_within I k in
        let own : wires_at (slice_get I k) ≡ wires_of_island n.taken.there.0 = ap wires_at n.taken.there.1 in
        record {
          reads = λ m l h. n.taken.wires n.taken.there.0 n.taken.there.1 m l h;
          bits = λ m l h. bits m (omega arith) (omega arith);
          high = omega arith;
          groups_low = λ j v e. let less : v.group < G = named_at G n.taken.there.0.occurrences (subst (IslandNames G) n.taken.there.1 (names_at G I k named)) j v e in omega arith;
          counts = λ t timer e. (tells k n.taken.there.0 n.taken.there.1 t timer e).0 ∙ ap (λ c. Some (wide (count_of c))) (sym (its_cell t timer e));
          dones = λ timer e. (tells k n.taken.there.0 n.taken.there.1 0 timer e).1 ∙ ap (λ c. Some (truth_bit (done_of c))) (sym (its_cell 0 timer e));
        }

    abbrev pub runs_now : ℕ → Bool
    runs_now = live (groups (lowered_component part)) y (first_of_island (groups (lowered_component part)) (lowered_component part).islands k) n.taken.there.0 around registers look its_count its_done its_looks

    -- its end: where control stands there and the first timer is done
    pub end_so : (acts : Bool) (r : ℕ) → IsIn around registers look y.acts y.region acts r
        → AllConnect around registers look (first_of_control (lowered_component part)) (form_drivers (groups (lowered_component part)) (lowered_component part).islands y (Timed k))
        → Says around registers look (OfWire (suc y.wire)) ((acts && (r == y.position)) && its_done)
    end_so acts r i c =
        let c2 : AllConnect around registers look B (island_drivers G y (first_of_island G I k) n.taken.there.0) = subst (λ o. AllConnect around registers look B (timed_drivers G I y k o)) n.taken.there.1 c.1 in
        let high : B ≤ suc y.wire = omega arith in
        let t = its_timer 0 lists.some in
        c2.0 high ∙ says_both around registers look (at y) (wired.island_done G y (first_of_island G I k) n.taken.there.0) (acts && (r == y.position)) its_done
        (away.here G I around registers look B kept hole port y acts r i low c.0)
        (ap (λ c. look (APort (ports.Cell c 2))) (its_cell 0 t.0 t.1) ∙ IslandLooks.dones its_looks t.0 t.1)

    -- WHERE THE FIRST TIMER does not run none does
    none_below : runs_now 0 ≡ false → (m t : ℕ) → t < m → t < length n.taken.there.0.timers → runs_now t ≡ false
    none_below off zero t less there = absurd (omega arith)
    none_below off (suc m) zero less there = off
    none_below off (suc m) (suc t) less there =
        let timer = its_timer (suc t) there in
        let outer = lists.within (suc t) timer.0 timer.1 (omega arith) in
        let before : outer.0 < suc t = outer.2 in
        live_within G y (first_of_island G I k) n.taken.there.0 around registers look its_count its_done its_looks (suc t) outer.0 timer.0 timer.1 outer.1 (omega arith)
        ∙ and_left (runs_now outer.0) _ (none_below off m outer.0 (omega arith) (omega arith))

    pub none_runs : runs_now 0 ≡ false → (t : ℕ) → t < length n.taken.there.0.timers → runs_now t ≡ false
    none_runs off t there = none_below off (suc t) t (omega arith) there

    pub first_runs : (on : Bool) → Says around registers look (at y) on → runs_now 0 ≡ on && not its_done
    first_runs on h =
        let t = its_timer 0 lists.some in
        live_first G y (first_of_island G I k) n.taken.there.0 around registers look its_count its_done its_looks t.0 on t.1 (lists.first t.0 t.1) h

    -- NOTHING ACTS where control does not stand there
    module _ (off : Says around registers look (at y) false) where
      not_live : (t : ℕ) → t < length n.taken.there.0.timers → runs_now t ≡ false
      not_live t there = none_runs (first_runs false off) t there

      says_off : (t : ℕ) → t < length n.taken.there.0.timers → Says around registers look (wired.runs G y (first_of_island G I k) n.taken.there.0 t) false
      says_off t there = says_live G y (first_of_island G I k) n.taken.there.0 around registers look its_count its_done its_looks t there ∙ ap (λ b. Some (truth_bit b)) (not_live t there)

      timers_idle : (t : ℕ) (rest : List IslandTimer) → t + length rest ≤ length n.taken.there.0.timers → AllIdle around registers look (timer_drivers G y (first_of_island G I k) n.taken.there.0 t rest)
      timers_idle t [] l = tt
      timers_idle t (timer ∷ rest) l = (tt, (says_off t (omega arith), timers_idle (suc t) rest (omega arith)))

      points_idle : (m : ℕ) (rest : List PlainPoint)
          → ((j : ℕ) (p : PlainPoint) → slice_get rest j ≡ Some p → (p.timer < length n.taken.there.0.timers) × ((s : Sample) → In p.samples s → s.point < length n.taken.there.0.points))
          → AllIdle around registers look (point_drivers G y (first_of_island G I k) n.taken.there.0 m rest)
      points_idle m [] there = tt
      points_idle m (p ∷ rest) there =
          let less = there 0 p refl in (
            tt,
            (
              tt,
              (
                says_both around registers look (at y) (equals (wired.count G y (first_of_island G I k) n.taken.there.0 0) _) false _ off
                    (says_equals around registers look (wired.count G y (first_of_island G I k) n.taken.there.0 0) (wide (its_count 0)) _
                    (count_is G y (first_of_island G I k) n.taken.there.0 around registers look its_count its_done its_looks 0 lists.some)),
                (
                  says_begins G y (first_of_island G I k) n.taken.there.0 around registers look its_count its_done its_looks p less.0 less.1
                      ∙ ap (λ b. Some (truth_bit (b && ((its_count p.timer == p.at) && all_wanted G y (first_of_island G I k) n.taken.there.0 around registers look its_count its_done its_looks p.samples)))) (not_live p.timer less.0),
                  points_idle (suc m) rest (λ j q e. there (suc j) q e),
                ),
              ),
            ),
          )

      occurrences_idle : (m : ℕ) (rest : List PlainOccurrence) → ((j : ℕ) (o : PlainOccurrence) → slice_get rest j ≡ Some o → slice_get n.taken.there.0.occurrences (m + j) ≡ Some o)
          → AllIdle around registers look (occurrence_drivers G y (first_of_island G I k) n.taken.there.0 m rest)
      occurrences_idle m [] there = tt
      occurrences_idle m (o ∷ rest) there =
          let none : m + 0 ≡ m = omega arith in
          let here : slice_get n.taken.there.0.occurrences m ≡ Some o = ap (slice_get n.taken.there.0.occurrences) (sym none) ∙ there 0 o refl in
          let l = lists.occurrences m o here in
          let inactive = says_active G y (first_of_island G I k) n.taken.there.0 around registers look its_count its_done its_looks m (there_below n.taken.there.0.occurrences m o here)
          ∙ ap (λ b. Some (truth_bit b)) (active_is G y (first_of_island G I k) n.taken.there.0 around registers look its_count its_done its_looks m o here l.0 l.1 ∙ and_left (runs_now o.timer) _ (not_live o.timer l.0)) in
          (tt, (inactive, (tt, occurrences_idle (suc m) rest (λ j v e. let next : suc m + j ≡ m + suc j = omega arith in ap (slice_get n.taken.there.0.occurrences) next ∙ there (suc j) v e))))

      pub island_idle : AllIdle around registers look (form_drivers G I y (Timed k))
      island_idle =
          let F = first_of_island G I k in
          let island = n.taken.there.0 in (
            tt,
            subst (λ o. AllIdle around registers look (timed_drivers G I y k o)) (sym n.taken.there.1) (
              tt,
              idle_both around registers look (timer_drivers G y F island 0 island.timers) (point_drivers G y F island 0 island.points ++ occurrence_drivers G y F island 0 island.occurrences)
                  (timers_idle 0 island.timers (omega arith))
                  (idle_both around registers look (point_drivers G y F island 0 island.points) (occurrence_drivers G y F island 0 island.occurrences)
                  (points_idle 0 island.points (λ j p e. let l = lists.points j p e in let below : j < length island.points = there_below island.points j p e in (l.0, λ s i. let h : s.point < j = l.1 s i in omega arith)))
                  (occurrences_idle 0 island.occurrences (λ j o e. let none : 0 + j ≡ j = omega arith in ap (slice_get island.occurrences) none ∙ e))),
            ),
          )

  -- AWAY FROM AN ISLAND
  pub timed_away : (k : ℕ) (y : Stand) (acts : Bool) (r : ℕ) → IsIn around registers look y.acts y.region acts r → IsStopped acts r y.position 1 → first_of_control (lowered_component part) ≤ y.wire
      → AllConnect around registers look (first_of_control (lowered_component part)) (form_drivers (groups (lowered_component part)) (lowered_component part).islands y (Timed k))
      → AreRegisters around registers look kept y.register (sample_registers (slice_get (lowered_component part).islands k))
      → IslandNexts (groups (lowered_component part)) (lowered_component part).islands around registers look kept next k y → Away around registers look y (form_drivers (groups (lowered_component part)) (lowered_component part).islands y (Timed k))
  timed_away k y acts r i o low c regs n =
      let off : Says around registers look (at y) false = away.at_false G I around registers look B kept hole port y acts r 1 i (omega arith) o low c.0 in
      let here : Says around registers look (at y) (acts && (r == y.position)) = away.here G I around registers look B kept hole port y acts r i low c.0 in
      let none : (acts && (r == y.position)) ≡ false = away.not_here acts r y.position 1 (omega arith) o in
      record { ends = end_so k y low n acts r i c ∙ ap (λ b. Some (truth_bit (b && its_done k y low n))) none; idle = island_idle k y low n off }

  -- and its end is known, wherever control is
  pub timed_known : (k : ℕ) (place : Place) (y : Stand) (acts : Bool) (r : ℕ) → IsIn around registers look y.acts y.region acts r → first_of_control (lowered_component part) ≤ y.wire → y.region < y.register
      → AllConnect around registers look (first_of_control (lowered_component part)) (form_drivers (groups (lowered_component part)) (lowered_component part).islands y (Timed k))
      → AreRegisters around registers look kept y.register (sample_registers (slice_get (lowered_component part).islands k))
      → IslandNexts (groups (lowered_component part)) (lowered_component part).islands around registers look kept next k y
      → Known (groups (lowered_component part)) (lowered_component part).islands named around registers look (first_of_control (lowered_component part)) kept next hole port y (Placed (Timed k) place)
  timed_known k place y acts r i low apart c regs n = record {
    over = (acts && (r == y.position)) && its_done k y low n;
    ends = end_so k y low n acts r i c;
    region_wide = λ o. (
      o,
      others_pass around registers look (ToRegister y.region) (Some (wide o)) (form_drivers G I y (Timed k))
          drives,
    );
    nexts = n;
  }
    where
      drives : AllDrive (λ u. same_target u (ToRegister y.region) ≡ false) (form_drivers (groups (lowered_component part)) (lowered_component part).islands y (Timed k))
      drives =
          let island = n.taken.there.0 in (
            refl,
            subst (λ o. AllDrive (λ u. same_target u (ToRegister y.region) ≡ false) (timed_drivers G I y k o)) (sym n.taken.there.1)
                (island_drives (λ u. same_target u (ToRegister y.region) ≡ false) (no_port_register y.region) G y (first_of_island G I k) island (λ m l h. refl) refl (λ m l h. ne_eqb m y.region (λ e. omega arith)) (λ g less. refl) (λ g less. refl)
                (subst (IslandNames G) n.taken.there.1 (names_at G I k named))),
          )
