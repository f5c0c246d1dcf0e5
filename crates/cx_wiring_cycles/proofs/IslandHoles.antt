-- Which goes an island gives in one cycle: those of the groups that are active, and those of its timers that run.
use Rattle.std.proofs.Common.{◌≡◌, ℕ, zero, suc, ◌+◌, ◌<◌, ◌==◌, Bool, true, false, if◌then◌else◌, List, [], ◌∷◌, ◌++◌, length, Option, Some, None, slice_get, refl, sym, ap, ◌∙◌, subst, arith}
use Rattle.std.proofs.lemmas.Bool.{eq-eqb, ne_eqb}
use Rattle.cx_bits.specs.BitVector.{BitVector}
use Rattle.cx_meaning.specs.declared.ports.PortRef.TheVariants as ports
use Rattle.cx_meaning.specs.Active.{Entry}
use Rattle.cx_laws.specs.Positions.{entry_at}
use Rattle.cx_net.specs.Nets.{OfWire, ToPort, ToHole}
use Rattle.cx_net.specs.NetMeaning.{Node, NetAround, truth_bit, same_target}
use Rattle.cx_static.specs.declared.islands.IslandTimer.{IslandTimer}
use Rattle.cx_static.specs.Islands.{PlainPoint, PlainOccurrence, PlainIsland}
use Rattle.cx_wiring.specs.Parts.{one, drive}
use Rattle.cx_wiring.specs.Stands.{Stand}
use Rattle.cx_wiring.specs.IslandDrivers as wired
use Rattle.cx_wiring.specs.IslandDrivers.{timer_drivers, point_drivers, occurrence_drivers, island_drivers}
use Rattle.cx_wiring.specs.Bounds.{AllDrive}
use Rattle.cx_wiring.specs.Takings.{Says, takes, takes_of}
use Rattle.cx_wiring.proofs.TakingLemmas.{takes_append, takes_known, passes, others_pass}
use Rattle.cx_wiring_cycles.specs.Shown.{told}
use Rattle.cx_wiring_cycles.proofs.FormTurns.{go_known, told_append}
use Rattle.cx_wiring_cycles.proofs.EntryLaws.{by_live}
use Rattle.cx_wiring_cycles.proofs.CycleBits.{is_there}
use Rattle.cx_wiring_cycles.proofs.IslandOwns.{goings}
use Rattle.cx_wiring_cycles.proofs.IslandValues.{IslandLooks, live, active, says_live, says_active}
use Rattle.cx_text.proofs.ListLaws.{there_below}

goings_both : (xs ys : List Entry) → goings (xs ++ ys) ≡ goings xs ++ goings ys
goings_both [] ys = refl
goings_both (x ∷ xs) ys = ap (λ l. record { group = x.group; goes = true } ∷ l) (goings_both xs ys)

-- the entries of occurrences that are at an offset
abbrev pub among : (PlainOccurrence → Option ℕ) → List PlainOccurrence → List Entry
among offset [] = []
among offset (u ∷ rest) = by_live (offset u) (entry_at u.group) ++ among offset rest

module _ (groups : ℕ) (x : Stand) (first : ℕ) (island : PlainIsland) (around : NetAround) (registers : ℕ → Option BitVector) (look : Node → Option BitVector) (count : ℕ → ℕ) (done : Bool)
    (looks : IslandLooks groups x first island around registers look count done) where
  -- HOLES: that the groups of active enables go
  go_of : (g group wire : ℕ) (offset : Option ℕ) (later : Option BitVector) → Says around registers look (OfWire wire) (is_there offset)
      → takes_of around registers look (groups + group == groups + g) (drive (ToHole (groups + group)) (OfWire wire) one) later ≡ told g later (goings (by_live offset (entry_at group)))
  go_of g group wire None later h = passes around registers look (groups + group == groups + g) (drive (ToHole (groups + group)) (OfWire wire) one) later h
  go_of g group wire (Some j) later h = go_known around registers look groups group g (OfWire wire) one true later h refl

  holes_from : (offset : PlainOccurrence → Option ℕ) → ((m : ℕ) (u : PlainOccurrence) → slice_get island.occurrences m ≡ Some u → active groups x first island around registers look count done looks m ≡ is_there (offset u))
      → (n : ℕ) (rest : List PlainOccurrence) → ((j m : ℕ) (u : PlainOccurrence) → m ≡ n + j → slice_get rest j ≡ Some u → slice_get island.occurrences m ≡ Some u) → (g : ℕ) (o : Option BitVector)
      → takes around registers look (ToHole (groups + g)) o (occurrence_drivers groups x first island n rest) ≡ told g o (goings (among offset rest))
  holes_from offset so n [] there g o = refl
  holes_from offset so n (u ∷ rest) there g o =
      let here = there 0 n u (omega arith) refl in
      let low : n < length island.occurrences = there_below island.occurrences n u here in
      let wire = first + length island.timers + length island.points + n in
      let later = takes around registers look (ToHole (groups + g)) o (occurrence_drivers groups x first island (suc n) rest) in
      go_of g u.group wire (offset u) later (says_active groups x first island around registers look count done looks n low ∙ ap (λ b. Some (truth_bit b)) (so n u here))
      ∙ ap (λ z. told g z (goings (by_live (offset u) (entry_at u.group)))) (holes_from offset so (suc n) rest (λ j m v e f. there (suc j) m v (omega arith) f) g o)
      ∙ sym (told_append g o (goings (by_live (offset u) (entry_at u.group))) (goings (among offset rest))) ∙ ap (told g o) (sym (goings_both (by_live (offset u) (entry_at u.group)) (among offset rest)))

  timers_no_hole : (m n : ℕ) (rest : List IslandTimer) → AllDrive (λ u. same_target u (ToHole m) ≡ false) (timer_drivers groups x first island n rest)
  timers_no_hole m n [] = tt
  timers_no_hole m n (timer ∷ rest) = (refl, (refl, timers_no_hole m (suc n) rest))

  points_no_hole : (m n : ℕ) (rest : List PlainPoint) → AllDrive (λ u. same_target u (ToHole m) ≡ false) (point_drivers groups x first island n rest)
  points_no_hole m n [] = tt
  points_no_hole m n (p ∷ rest) = (refl, (refl, (refl, (refl, points_no_hole m (suc n) rest))))

  pub holes_so : (offset : PlainOccurrence → Option ℕ) → ((m : ℕ) (u : PlainOccurrence) → slice_get island.occurrences m ≡ Some u → active groups x first island around registers look count done looks m ≡ is_there (offset u))
      → (g : ℕ) (o : Option BitVector) → takes around registers look (ToHole (groups + g)) o (island_drivers groups x first island) ≡ told g o (goings (among offset island.occurrences))
  holes_so offset so g o =
      let ts = timer_drivers groups x first island 0 island.timers in
      let ps = point_drivers groups x first island 0 island.points in
      let os = occurrence_drivers groups x first island 0 island.occurrences in
      takes_append around registers look (ToHole (groups + g)) o ts (ps ++ os)
      ∙ others_pass around registers look (ToHole (groups + g)) (takes around registers look (ToHole (groups + g)) o (ps ++ os)) ts (timers_no_hole (groups + g) 0 island.timers)
      ∙ takes_append around registers look (ToHole (groups + g)) o ps os
      ∙ others_pass around registers look (ToHole (groups + g)) (takes around registers look (ToHole (groups + g)) o os) ps (points_no_hole (groups + g) 0 island.points)
      ∙ holes_from offset so 0 island.occurrences (λ j m u e f. let same : j ≡ m = omega arith in subst (λ i. slice_get island.occurrences i ≡ Some u) same f) g o

  -- PORTS: that timers go
  module _ (base : ℕ) (aligned : (n : ℕ) (timer : IslandTimer) → slice_get island.timers n ≡ Some timer → timer.cell ≡ base + n) where
    abbrev AreFrom : ℕ → List IslandTimer → Type 0
    AreFrom n rest = (j : ℕ) (timer : IslandTimer) → slice_get rest j ≡ Some timer → timer.cell ≡ base + n + j

    skip_port : (c e : ℕ) (wire : ℕ) (later : Option BitVector) → (e ≡ c → ⊥)
        → takes_of around registers look (same_target (ToPort (ports.Cell e 0)) (ToPort (ports.Cell c 0))) (drive (ToPort (ports.Cell e 0)) (OfWire wire) one) later ≡ later
    skip_port c e wire later apart = ap (λ b. takes_of around registers look (if b then true else false) (drive (ToPort (ports.Cell e 0)) (OfWire wire) one) later) (ne_eqb e c apart)

    miss_port : (c n : ℕ) (rest : List IslandTimer) → AreFrom n rest → c < base + n → (o : Option BitVector) → takes around registers look (ToPort (ports.Cell c 0)) o (timer_drivers groups x first island n rest) ≡ o
    miss_port c n [] from less o = refl
    miss_port c n (timer ∷ rest) from less o =
        let is : timer.cell ≡ base + n + 0 = from 0 timer refl in
        skip_port c timer.cell (first + n) (takes around registers look (ToPort (ports.Cell c 0)) o (timer_drivers groups x first island (suc n) rest)) (λ e. omega arith)
        ∙ miss_port c (suc n) rest (λ j z e. let at_it : z.cell ≡ base + n + suc j = from (suc j) z e in omega arith) (omega arith) o

    hit_port : (n i m : ℕ) (rest : List IslandTimer) (timer : IslandTimer) (b : Bool) → m ≡ n + i → slice_get rest i ≡ Some timer → AreFrom n rest → Says around registers look (wired.runs groups x first island m) b
        → takes around registers look (ToPort (ports.Cell timer.cell 0)) (Some (truth_bit false)) (timer_drivers groups x first island n rest) ≡ Some (truth_bit b)
    hit_port n i m [] timer b same e from h = absurd cc
    hit_port n zero m (y ∷ rest) timer b same e from h =
        let is : y ≡ timer = same_timer y timer e in
        let cell : y.cell ≡ base + n + 0 = from 0 y refl in
        let cells : y.cell ≡ timer.cell = ap (λ (z : IslandTimer). z.cell) is in
        let at_it : m ≡ n = omega arith in
        let later = takes around registers look (ToPort (ports.Cell timer.cell 0)) (Some (truth_bit false)) (timer_drivers groups x first island (suc n) rest) in
        ap (λ c. takes_of around registers look (if c then true else false) (drive (ToPort (ports.Cell y.cell 0)) (OfWire (first + n)) one) later) (eq-eqb y.cell timer.cell cells)
        ∙ takes_known around registers look (drive (ToPort (ports.Cell y.cell 0)) (OfWire (first + n)) one) b later (subst (λ k. Says around registers look (OfWire (first + k)) b) at_it h)
        ∙ ap (λ z. if b then Some (truth_bit true) else z)
        (miss_port timer.cell (suc n) rest (λ j z f. let at_z : z.cell ≡ base + n + suc j = from (suc j) z f in omega arith) (omega arith) (Some (truth_bit false)))
        ∙ by b
      where
        same_timer : (a c : IslandTimer) → ◌≡◌ {A = Option IslandTimer} (Some a) (Some c) → a ≡ c
        same_timer a c f = cc

        by : (c : Bool) → (if c then Some (truth_bit true) else Some (truth_bit false)) ≡ Some (truth_bit c)
        by true = refl
        by false = refl
    hit_port n (suc i) m (y ∷ rest) timer b same e from h =
        let cell : y.cell ≡ base + n + 0 = from 0 y refl in
        let own : timer.cell ≡ base + n + suc i = from (suc i) timer e in
        skip_port timer.cell y.cell (first + n) (takes around registers look (ToPort (ports.Cell timer.cell 0)) (Some (truth_bit false)) (timer_drivers groups x first island (suc n) rest)) (λ f. omega arith)
        ∙ hit_port (suc n) i m rest timer b (omega arith) e (λ j z f. let at_z : z.cell ≡ base + n + suc j = from (suc j) z f in omega arith) h

    points_no_port : (c n : ℕ) (rest : List PlainPoint) → AllDrive (λ u. same_target u (ToPort (ports.Cell c 0)) ≡ false) (point_drivers groups x first island n rest)
    points_no_port c n [] = tt
    points_no_port c n (p ∷ rest) = (refl, (refl, (refl, (refl, points_no_port c (suc n) rest))))

    occurrences_no_port : (c n : ℕ) (rest : List PlainOccurrence) → AllDrive (λ u. same_target u (ToPort (ports.Cell c 0)) ≡ false) (occurrence_drivers groups x first island n rest)
    occurrences_no_port c n [] = tt
    occurrences_no_port c n (u ∷ rest) = (refl, (refl, (refl, occurrences_no_port c (suc n) rest)))

    pub port_so : (t : ℕ) (timer : IslandTimer) → slice_get island.timers t ≡ Some timer
        → takes around registers look (ToPort (ports.Cell timer.cell 0)) (Some (truth_bit false)) (island_drivers groups x first island) ≡ Some (truth_bit (live groups x first island around registers look count done looks t))
    port_so t timer e =
        let low : t < length island.timers = there_below island.timers t timer e in
        let target = ToPort (ports.Cell timer.cell 0) in
        let ts = timer_drivers groups x first island 0 island.timers in
        let ps = point_drivers groups x first island 0 island.points in
        let os = occurrence_drivers groups x first island 0 island.occurrences in
        takes_append around registers look target (Some (truth_bit false)) ts (ps ++ os)
        ∙ ap (λ o. takes around registers look target o ts)
        (takes_append around registers look target (Some (truth_bit false)) ps os
        ∙ others_pass around registers look target (takes around registers look target (Some (truth_bit false)) os) ps (points_no_port timer.cell 0 island.points)
        ∙ others_pass around registers look target (Some (truth_bit false)) os (occurrences_no_port timer.cell 0 island.occurrences))
        ∙ hit_port 0 t t island.timers timer (live groups x first island around registers look count done looks t) (omega arith) e
        (λ j z f. let at_z : z.cell ≡ base + j = aligned j z f in omega arith) (says_live groups x first island around registers look count done looks t low)
