-- The wires of a component's islands, and the goes of their timers, take what the drivers of their own islands give them.
use Rattle.std.proofs.Common.{◌≡◌, ◌⊎◌, ◌==◌, ℕ, zero, suc, ◌+◌, ◌<◌, ◌≤◌, inl, inr, false, if◌then◌else◌, List, [], ◌∷◌, length, take, Option, Some, None, slice_get, refl, sym, ap, ◌∙◌, subst, arith}
use Rattle.std.proofs.lemmas.Bool.{cases_order, ne_eqb}
use Rattle.cx_bits.specs.BitVector.{BitVector}
use Rattle.cx_meaning.specs.declared.ports.PortRef.{PortRef}
use Rattle.cx_meaning.specs.declared.ports.PortRef.TheVariants as ports
use Rattle.cx_meaning.specs.Designs.{PlainComponent}
use Rattle.cx_net.specs.Nets.{PlainNetTarget, ToPort, ToRegister, ToWire, ToHole, ToDone, PlainNetDriver}
use Rattle.cx_net.specs.NetMeaning.{Node, APort, AWire, NetAround, truth_bit, same_target}
use Rattle.cx_static.specs.declared.islands.IslandTimer.{IslandTimer}
use Rattle.cx_static.specs.Islands.{PlainPoint, PlainOccurrence, PlainIsland}
use Rattle.cx_static.specs.Lowering.{lowered, lowered_component, unlowered}
use Rattle.cx_wiring.specs.Stands.{Stand}
use Rattle.cx_wiring.specs.IslandDrivers.{wires_of_island, island_wires, first_of_island, timer_drivers, point_drivers, occurrence_drivers, island_drivers}
use Rattle.cx_wiring.specs.Control.{timed_drivers, whole_stand, drivers_of}
use Rattle.cx_wiring.specs.Wiring.{groups, first_of_control}
use Rattle.cx_wiring.specs.Bounds.{AllDrive, IslandNames, IslandsName}
use Rattle.cx_wiring.specs.Takings.{takes}
use Rattle.cx_wiring.proofs.RoomLemmas.{drive_both}
use Rattle.cx_wiring.proofs.IslandTargets.{wires_at, island_within, island_drives}
use Rattle.cx_wiring.proofs.ControlTargets.{names_at}
use Rattle.cx_wiring.proofs.IslandCells.{timers_stand, apart}
use Rattle.cx_wiring_cycles.specs.IslandTakes.{StatementIslands, TakesIsland}
use Rattle.cx_wiring_cycles.proofs.ConnectLaws.{no_port, Reads}
use Rattle.cx_wiring_cycles.proofs.IslandReads.{IsUntimed, OfIsland, TakesIts, TakesItsIsland, AllTake, statement_takes}
use Rattle.cx_text.proofs.ListLaws.{there_at}

-- the wires of one island are before those of a later one
wires_later : (islands : List PlainIsland) (k j : ℕ) (island : PlainIsland) → slice_get islands k ≡ Some island → k < j → island_wires (take k islands) + wires_of_island island ≤ island_wires (take j islands)
wires_later [] k j island is less = absurd cc
wires_later (first ∷ rest) zero zero island is less = absurd (omega arith)
wires_later (first ∷ rest) zero (suc j) island is less = let same : wires_of_island first ≡ wires_of_island island = of_some first island is in omega arith
  where
    of_some : (x y : PlainIsland) → ◌≡◌ {A = Option PlainIsland} (Some x) (Some y) → wires_of_island x ≡ wires_of_island y
    of_some x y e = let s : x ≡ y = cc in ap wires_of_island s
wires_later (first ∷ rest) (suc k) zero island is less = absurd (omega arith)
wires_later (first ∷ rest) (suc k) (suc j) island is less =
    let h : island_wires (take k rest) + wires_of_island island ≤ island_wires (take j rest) = wires_later rest k j island is (omega arith) in omega arith

-- of a port that is no go of a timer of the island
module _ (c groups : ℕ) (x : Stand) (first : ℕ) (island : PlainIsland) where
  abbrev Skip : List PlainNetDriver → Type 0
  Skip ds = AllDrive (λ u. same_target u (ToPort (ports.Cell c 0)) ≡ false) ds

  timers_skip : (n : ℕ) (rest : List IslandTimer) → ((t : ℕ) (timer : IslandTimer) → slice_get rest t ≡ Some timer → timer.cell ≡ c → ⊥) → Skip (timer_drivers groups x first island n rest)
  timers_skip n [] other = tt
  timers_skip n (timer ∷ rest) other = (refl, (ap (λ b. if b then 0 == 0 else false) (ne_eqb timer.cell c (other 0 timer refl)), timers_skip (suc n) rest (λ t late e. other (suc t) late e)))

  points_skip : (n : ℕ) (rest : List PlainPoint) → Skip (point_drivers groups x first island n rest)
  points_skip n [] = tt
  points_skip n (p ∷ rest) = (refl, (refl, (refl, (refl, points_skip (suc n) rest))))

  occurrences_skip : (n : ℕ) (rest : List PlainOccurrence) → Skip (occurrence_drivers groups x first island n rest)
  occurrences_skip n [] = tt
  occurrences_skip n (o ∷ rest) = (refl, (refl, (refl, occurrences_skip (suc n) rest)))

  pub go_skips : ((t : ℕ) (timer : IslandTimer) → slice_get island.timers t ≡ Some timer → timer.cell ≡ c → ⊥) → Skip (island_drivers groups x first island)
  go_skips other = (
    refl,
    drive_both (λ u. same_target u (ToPort (ports.Cell c 0)) ≡ false) (timer_drivers groups x first island 0 island.timers) _ (timers_skip 0 island.timers other)
        (drive_both (λ u. same_target u (ToPort (ports.Cell c 0)) ≡ false) (point_drivers groups x first island 0 island.points) _ (points_skip 0 island.points) (occurrences_skip 0 island.occurrences)),
  )

module _ (part : PlainComponent) (named : IslandsName (groups (lowered_component part)) (lowered_component part).islands) (around : NetAround) (registers : ℕ → Option BitVector) (look : Node → Option BitVector) where
  abbrev G : ℕ
  G = groups (lowered_component part)

  abbrev I : List PlainIsland
  I = (lowered_component part).islands

  abbrev B : ℕ
  B = first_of_control (lowered_component part)

  -- the targets of an island: its wires, and the goes of its timers
  abbrev Mine : ℕ → PlainNetTarget → Type 0
  Mine j (ToWire n) = (island : PlainIsland) × (slice_get (lowered_component part).islands j ≡ Some island) × (first_of_island (groups (lowered_component part)) (lowered_component part).islands j ≤ n)
      × (n < first_of_island (groups (lowered_component part)) (lowered_component part).islands j + wires_of_island island)
  Mine j (ToPort p) = (island : PlainIsland) × (slice_get (lowered_component part).islands j ≡ Some island) × (t : ℕ) × (timer : IslandTimer) × (slice_get island.timers t ≡ Some timer) × (p ≡ ports.Cell timer.cell 0)
  Mine j (ToRegister n) = ⊥
  Mine j (ToHole n) = ⊥
  Mine j ToDone = ⊥

  abbrev HasIt : ℕ → Type 0
  HasIt j = (island : PlainIsland) × (slice_get (lowered_component part).islands j ≡ Some island)

  abbrev value_of : PlainNetTarget → Option BitVector
  value_of (ToWire n) = look (AWire n)
  value_of (ToPort p) = look (APort p)
  value_of (ToRegister n) = None
  value_of (ToHole n) = None
  value_of ToDone = None

  abbrev Base : PlainNetTarget → Option BitVector → Type 0
  Base (ToWire n) o = Unit {0}
  Base (ToPort p) o = o ≡ Some (truth_bit false)
  Base (ToRegister n) o = Unit {0}
  Base (ToHole n) o = Unit {0}
  Base ToDone o = Unit {0}

  at_island : (P : PlainNetTarget → Type 0) (y : Stand) (i : ℕ) (o : Option PlainIsland) → slice_get (lowered_component part).islands i ≡ o
      → ((island : PlainIsland) → slice_get (lowered_component part).islands i ≡ Some island → AllDrive P (island_drivers (groups (lowered_component part)) y (first_of_island (groups (lowered_component part)) (lowered_component part).islands i) island))
      → AllDrive P (timed_drivers (groups (lowered_component part)) (lowered_component part).islands y i o)
  at_island P y i None is each = tt
  at_island P y i (Some island) is each = each island is

  of_wire : (j n : ℕ) → Mine j (ToWire n) → OfIsland part (groups (lowered_component part)) (lowered_component part).islands (first_of_control (lowered_component part)) j (ToWire n)
  of_wire j n (island, is, low, high) =
      let within : island_wires (take j I) + wires_at (slice_get I j) ≤ island_wires I = island_within I j in
      let own : wires_at (slice_get I j) ≡ wires_of_island island = ap wires_at is in
      record {
        wire = λ m from. ne_eqb m n (λ e. omega arith);
        register = λ m. refl;
        hole = λ m. refl;
        others = λ i other y from. at_island (λ u. same_target u (ToWire n) ≡ false) y i (slice_get I i) refl
            (λ late at. island_drives (λ u. same_target u (ToWire n) ≡ false) (no_port G I named around registers look n) G y (first_of_island G I i) late
            (λ m from to. ne_eqb m n (λ e. disjoint i other late at m from to e)) (ne_eqb (suc y.wire) n (λ e. omega arith)) (λ m from to. refl) (λ g less. ne_eqb g n (λ e. omega arith)) (λ g less. refl)
            (subst (IslandNames G) at (names_at G I i named)));
      }
    where
      disjoint : (i : ℕ) → (i ≡ j → ⊥) → (late : PlainIsland) → slice_get (lowered_component part).islands i ≡ Some late → (m : ℕ) → first_of_island (groups (lowered_component part)) (lowered_component part).islands i ≤ m
          → m < first_of_island (groups (lowered_component part)) (lowered_component part).islands i + wires_of_island late → m ≡ n → ⊥
      disjoint i other late at m from to e = by (cases_order i j)
        where
          by : (i ≡ j) ⊎ ((i < j) ⊎ (j < i)) → ⊥
          by (inl same) = other same
          by (inr (inl less)) = let h : island_wires (take i I) + wires_of_island late ≤ island_wires (take j I) = wires_later I i j late at less in omega arith
          by (inr (inr more)) = let h : island_wires (take j I) + wires_of_island island ≤ island_wires (take i I) = wires_later I j i island is more in omega arith

  of_go : (j : ℕ) (p : PortRef) → Mine j (ToPort p) → OfIsland part (groups (lowered_component part)) (lowered_component part).islands (first_of_control (lowered_component part)) j (ToPort p)
  of_go j p (island, is, t, timer, at, same) =
      subst (λ q. OfIsland part (groups (lowered_component part)) (lowered_component part).islands (first_of_control (lowered_component part)) j (ToPort q)) (sym same)
      (record {
        wire = λ m from. refl;
        register = λ m. refl;
        hole = λ m. refl;
        others = λ i other y from. at_island (λ u. same_target u (ToPort (ports.Cell timer.cell 0)) ≡ false) y i (slice_get I i) refl
            (λ late there. go_skips timer.cell G y (first_of_island G I i) late (λ u second e f. distinct i other late there u second e f));
      })
    where
      distinct : (i : ℕ) → (i ≡ j → ⊥) → (late : PlainIsland) → slice_get (lowered_component part).islands i ≡ Some late → (u : ℕ) (second : IslandTimer) → slice_get late.timers u ≡ Some second → second.cell ≡ timer.cell → ⊥
      distinct i other late there u second e f = by (cases_order i j)
        where
          by : (i ≡ j) ⊎ ((i < j) ⊎ (j < i)) → ⊥
          by (inl alike) = other alike
          by (inr (inl less)) = let h : second.cell < timer.cell = apart _ _ I (timers_stand part) i j late island there is less u t second timer e at in omega arith
          by (inr (inr more)) = let h : timer.cell < second.cell = apart _ _ I (timers_stand part) j i island late is there more t u timer second at e in omega arith

  of_mine : (j : ℕ) (t : PlainNetTarget) → Mine j t → OfIsland part (groups (lowered_component part)) (lowered_component part).islands (first_of_control (lowered_component part)) j t
  of_mine j (ToWire n) mine = of_wire j n mine
  of_mine j (ToPort p) mine = of_go j p mine
  of_mine j (ToRegister n) mine = absurd mine
  of_mine j (ToHole n) mine = absurd mine
  of_mine j ToDone mine = absurd mine

  each_island : (j : ℕ) (y : Stand) → first_of_control (lowered_component part) ≤ y.wire
      → TakesItsIsland part (groups (lowered_component part)) (lowered_component part).islands (first_of_control (lowered_component part)) around registers look value_of Base HasIt Mine of_mine j y
      → TakesIsland (groups (lowered_component part)) (lowered_component part).islands around registers look j y
  each_island j y low h = record {
    there = h.0;
    wires = λ island is n from to. let k = h.1 (ToWire n) (island, is, from, to) in
        (k.0, k.2 ∙ ap (λ o. takes around registers look (ToWire n) k.0 (timed_drivers G I y j o)) is);
    goes = λ island is t timer at. let k = h.1 (ToPort (ports.Cell timer.cell 0)) (island, is, t, timer, at, refl) in
        k.2 ∙ ap (λ o. takes around registers look (ToPort (ports.Cell timer.cell 0)) k.0 (timed_drivers G I y j o)) is
        ∙ ap (λ o. takes around registers look (ToPort (ports.Cell timer.cell 0)) o (island_drivers G y (first_of_island G I j) island)) k.1;
  }

  -- WHERE THEY TAKE what all of control gives them
  pub islands_take : IsUntimed part.control
      → ((n : ℕ) → n < first_of_control (lowered_component part)
      → Reads (groups (lowered_component part)) (lowered_component part).islands named around registers look n
      (drivers_of (groups (lowered_component part)) (lowered_component part).islands (whole_stand (first_of_control (lowered_component part))) (lowered part part.control (unlowered part))))
      → ((k : ℕ) (island : PlainIsland) → slice_get (lowered_component part).islands k ≡ Some island → (t : ℕ) (timer : IslandTimer) → slice_get island.timers t ≡ Some timer
      → look (APort (ports.Cell timer.cell 0)) ≡ takes around registers look (ToPort (ports.Cell timer.cell 0)) (Some (truth_bit false))
      (drivers_of (groups (lowered_component part)) (lowered_component part).islands (whole_stand (first_of_control (lowered_component part))) (lowered part part.control (unlowered part))))
      → StatementIslands (TakesIsland (groups (lowered_component part)) (lowered_component part).islands around registers look) (lowered_component part).islands
      (whole_stand (first_of_control (lowered_component part))) (lowered part part.control (unlowered part))
  islands_take untimed wires goes =
      statement_takes part G I B around registers look value_of Base HasIt Mine of_mine (TakesIsland G I around registers look) each_island part.control (unlowered part) (whole_stand B) untimed (omega arith) all
    where
      all : AllTake part (groups (lowered_component part)) (lowered_component part).islands (first_of_control (lowered_component part)) around registers look value_of Base HasIt Mine of_mine 0 (length (lowered_component part).islands)
          (drivers_of (groups (lowered_component part)) (lowered_component part).islands (whole_stand (first_of_control (lowered_component part))) (lowered part part.control (unlowered part)))
      all j low high = (there_at I j high, at_target j)
        where
          at_target : (j : ℕ) (t : PlainNetTarget) → Mine j t → TakesIts part (groups (lowered_component part)) (lowered_component part).islands (first_of_control (lowered_component part)) around registers look value_of Base HasIt Mine of_mine t
              (drivers_of (groups (lowered_component part)) (lowered_component part).islands (whole_stand (first_of_control (lowered_component part))) (lowered part part.control (unlowered part)))
          at_target j (ToWire n) (island, is, from, to) =
              let within : island_wires (take j I) + wires_at (slice_get I j) ≤ island_wires I = island_within I j in
              let own : wires_at (slice_get I j) ≡ wires_of_island island = ap wires_at is in
              let r = wires n (omega arith) in (r.behind_them, tt, r.reads)
          at_target j (ToPort p) (island, is, t, timer, at, same) =
              (Some (truth_bit false), refl, ap (λ q. look (APort q)) same ∙ goes j island is t timer at ∙ ap (λ q. takes around registers look (ToPort q) (Some (truth_bit false)) (drivers_of G I (whole_stand B) (lowered part part.control (unlowered part)))) (sym same))
          at_target j (ToRegister n) mine = absurd mine
          at_target j (ToHole n) mine = absurd mine
          at_target j ToDone mine = absurd mine
