-- The wires of an island have values where control's wire at its statement has one, its timers show their counts, and its samples and the
-- ports of its static ifs have values; so its drivers are fed.
use Rattle.std.proofs.Common.{◌≡◌, ℕ, zero, suc, ◌+◌, ◌-◌, ◌^◌, ◌%◌, ◌<◌, ◌≤◌, inl, inr, Bool, true, false, if◌then◌else◌, List, [], ◌∷◌, ◌++◌, length, map, Option, Some, option_map, unwrap_or, slice_get, refl, sym, ap, ◌∙◌, subst, arith}
use Rattle.cx_bits.specs.BitVector.{BitVector}
use Rattle.cx_bits.specs.Operators.{and_of, sum_of}
use Rattle.cx_meaning.specs.declared.ports.PortRef.TheVariants as ports
use Rattle.cx_meaning.specs.declared.ports.Comparison.TheVariants.{Less, AtLeast}
use Rattle.cx_text.specs.Members.{In}
use Rattle.cx_meaning.specs.Truths.{compares}
use Rattle.cx_net.specs.Nets.{PlainNetExpr, OfPort, OfWire, OfRegister, Inverse, AllOf, Compares, exprs_of, PlainNetTarget, ToPort, ToRegister, ToWire, ToHole, PlainNetDriver}
use Rattle.cx_net.specs.NetMeaning.{Node, APort, AWire, NetAround, truth_bit, all_expr}
use Rattle.cx_static.specs.declared.islands.Sample.{Sample}
use Rattle.cx_static.specs.declared.islands.IslandTimer.{IslandTimer}
use Rattle.cx_static.specs.Islands.{PlainPoint, PlainOccurrence, PlainIsland}
use Rattle.cx_wiring.specs.Parts.{literal, word, one, both, equals, drive}
use Rattle.cx_wiring.specs.Stands.{Stand, at}
use Rattle.cx_wiring.specs.IslandDrivers as wired
use Rattle.cx_wiring.specs.IslandDrivers.{wires_of_island, timer_drivers, point_drivers, occurrence_drivers, island_drivers}
use Rattle.cx_wiring.specs.Takings.{value, takes}
use Rattle.cx_wiring.proofs.IslandCells.{IsListed}
use Rattle.cx_wiring_cycles.proofs.IslandValues as values
use Rattle.cx_wiring_runs.proofs.KnownLemmas.{Known, known_as, known_both, KnownExpr, Fed, known_two, known_equals, known_inverse, AllOfThem, all_append, fed_takes}
use Rattle.cx_wiring_runs.proofs.GuardsKnown.{fed_connect}
use Rattle.cx_text.proofs.ListLaws.{there_below, there_at}

module _ (groups : ℕ) (x : Stand) (first : ℕ) (island : PlainIsland) (around : NetAround) (registers : ℕ → Option BitVector) (look : Node → Option BitVector) where
  abbrev V : PlainNetExpr → Option BitVector
  V = value around registers look

  abbrev K : PlainNetExpr → Type 0
  K = KnownExpr around registers look

  -- WHAT IS KNOWN beside its own wires
  pub record IslandGiven : Type 0 where
    pub listed : IsListed island
    pub reads : (n : ℕ) → first ≤ n → n < first + wires_of_island island → (o : Option BitVector) × (look (AWire n) ≡ takes around registers look (ToWire n) o (island_drivers groups x first island))
    pub high : first + wires_of_island island ≤ suc x.wire
    pub groups_low : (j : ℕ) (v : PlainOccurrence) → slice_get island.occurrences j ≡ Some v → v.group < first
    pub at_known : KnownExpr around registers look (at x)
    pub counts : (t : ℕ) (timer : IslandTimer) → slice_get island.timers t ≡ Some timer → Known (look (APort (ports.Cell timer.cell 1)))
    pub dones : (t : ℕ) (timer : IslandTimer) → slice_get island.timers t ≡ Some timer → Known (look (APort (ports.Cell timer.cell 2)))
    pub kept : (n : ℕ) → n < length island.points → KnownExpr around registers look (OfRegister (x.register + n))
    pub ports_known : (n : ℕ) (p : PlainPoint) → slice_get island.points n ≡ Some p → KnownExpr around registers look (OfPort p.port)

  module _ (given : IslandGiven) where
    -- COUNTS of its timers
    its_port : (t q : ℕ) (timer : IslandTimer) → slice_get island.timers t ≡ Some timer → Known (look (APort (ports.Cell timer.cell q))) → Known (look (APort (ports.Cell (wired.timer_cell groups x first island t) q)))
    its_port t q timer e k = known_as _ _ (ap (λ (o : Option IslandTimer). look (APort (ports.Cell (unwrap_or (option_map (λ timer. timer.cell) o) 0) q))) e) k

    count_known : (t : ℕ) → t < length island.timers → K (wired.count groups x first island t)
    count_known t less = let k = there_at island.timers t less in its_port t 1 k.0 k.1 (given.counts t k.0 k.1)

    done_known : K (wired.island_done groups x first island)
    done_known = let k = there_at island.timers 0 given.listed.some in its_port 0 2 k.0 k.1 (given.dones 0 k.0 k.1)

    -- a conjunction of parts
    all_known : (e : PlainNetExpr) (es : List PlainNetExpr) → K e → Known (all_expr around registers look (exprs_of es)) → Known (all_expr around registers look (exprs_of (e ∷ es)))
    all_known e es k l = known_both and_of (V e) _ k l

    compare_known : (t n : ℕ) → t < length island.timers → K (Compares AtLeast (wired.count groups x first island t) (word n)) × K (Compares Less (wired.count groups x first island t) (word n))
    compare_known t n less = (
      known_both (λ y z. truth_bit (compares AtLeast y.value z.value)) (V (wired.count groups x first island t)) (Some (record { width = 32; value = n })) (count_known t less) (_, refl),
      known_both (λ y z. truth_bit (compares Less y.value z.value)) (V (wired.count groups x first island t)) (Some (record { width = 32; value = n })) (count_known t less) (_, refl),
    )

    range_known : (t from to : ℕ) (more : List PlainNetExpr) → t < length island.timers → K (wired.runs groups x first island t) → Known (all_expr around registers look (exprs_of more)) → K (AllOf (exprs_of (wired.in_range groups x first island t from to ++ more)))
    range_known t from to more less run rest =
        all_known (wired.runs groups x first island t) (Compares AtLeast (wired.count groups x first island t) (word from) ∷ Compares Less (wired.count groups x first island t) (word to) ∷ more) run
        (all_known (Compares AtLeast (wired.count groups x first island t) (word from)) (Compares Less (wired.count groups x first island t) (word to) ∷ more) (compare_known t from less).0
        (all_known (Compares Less (wired.count groups x first island t) (word to)) more (compare_known t to less).1 rest))

    -- TIMERS, each after the one around it
    runs_source : (t : ℕ) (timer : IslandTimer) → slice_get island.timers t ≡ Some timer → ((u : ℕ) → u < t → K (wired.runs groups x first island u)) → K (wired.timer_runs groups x first island timer.cell timer.outer timer.from timer.to)
    runs_source zero timer e earlier =
        let none = given.listed.first timer e in
        subst (λ o. K (wired.timer_runs groups x first island timer.cell o timer.from timer.to)) (sym none)
        (known_two around registers look (at x) (Inverse (OfPort (ports.Cell timer.cell 2))) given.at_known (known_inverse around registers look (OfPort (ports.Cell timer.cell 2)) (given.dones 0 timer e)))
    runs_source (suc t) timer e earlier =
        let outer = given.listed.within (suc t) timer e (omega arith) in
        let less : suc t < length island.timers = there_below island.timers (suc t) timer e in
        let small : outer.0 < suc t = outer.2 in
        subst (λ o. K (wired.timer_runs groups x first island timer.cell o timer.from timer.to)) (sym outer.1)
        (range_known outer.0 timer.from timer.to [] (omega arith) (earlier outer.0 outer.2) (truth_bit true, refl))

    runs_below : (m t : ℕ) → t < m → t < length island.timers → K (wired.runs groups x first island t)
    runs_below zero t l less = absurd (omega arith)
    runs_below (suc m) t l less =
        let k = there_at island.timers t less in
        let r = given.reads (first + t) (omega arith) (omega arith) in
        known_as _ _ (r.1 ∙ values.timer_wire groups x first island around registers look given.high given.groups_low r.0 t k.0 k.1)
        (runs_source t k.0 k.1 (λ u small. runs_below m u (omega arith) (omega arith)))

    pub runs_known : (t : ℕ) → t < length island.timers → K (wired.runs groups x first island t)
    runs_known t less = runs_below (suc t) t (omega arith) less

    -- SAMPLES, each after those around it
    wanted_known : (list : List Sample) → ((s : Sample) → In list s → K (OfWire (wired.sample_wire groups x first island s.point))) → Known (all_expr around registers look (exprs_of (map (wired.as_wanted groups x first island) list)))
    wanted_known [] h = (truth_bit true, refl)
    wanted_known (s ∷ rest) h = all_known (wired.as_wanted groups x first island s) (map (wired.as_wanted groups x first island) rest) (by s.wanted (h s (inl refl))) (wanted_known rest (λ v i. h v (inr i)))
      where
        by : (b : Bool) → K (OfWire (wired.sample_wire groups x first island s.point)) → K (if b then OfWire (wired.sample_wire groups x first island s.point) else Inverse (OfWire (wired.sample_wire groups x first island s.point)))
        by true k = k
        by false k = known_inverse around registers look (OfWire (wired.sample_wire groups x first island s.point)) k

    begins_source : (n : ℕ) (p : PlainPoint) → slice_get island.points n ≡ Some p → ((m : ℕ) → m < n → K (OfWire (wired.sample_wire groups x first island m))) → K (wired.begins groups x first island p)
    begins_source n p e earlier =
        let l = given.listed.points n p e in
        all_known (wired.runs groups x first island p.timer) (equals (wired.count groups x first island p.timer) p.at ∷ map (wired.as_wanted groups x first island) p.samples) (runs_known p.timer l.0)
        (all_known (equals (wired.count groups x first island p.timer) p.at) (map (wired.as_wanted groups x first island) p.samples) (known_equals around registers look (wired.count groups x first island p.timer) p.at (count_known p.timer l.0))
        (wanted_known p.samples (λ s i. earlier s.point (l.1 s i))))

    sample_below : (m n : ℕ) → n < m → n < length island.points → K (OfWire (wired.sample_wire groups x first island n))
    sample_below zero n l less = absurd (omega arith)
    sample_below (suc m) n l less =
        let k = there_at island.points n less in
        let r = given.reads (first + length island.timers + n) (omega arith) (omega arith) in
        let begins = begins_source n k.0 k.1 (λ u small. sample_below m u (omega arith) (omega arith)) in
        known_as _ _ (r.1 ∙ values.sample_wire groups x first island around registers look given.high given.groups_low r.0 n k.0 k.1)
        (fed_takes around registers look (ToWire 0) (V (OfRegister (x.register + n))) (drive (ToWire 0) (wired.begins groups x first island k.0) (OfPort k.0.port) ∷ [])
        ((λ e. record { guard = begins; source = λ on. given.ports_known n k.0 k.1 }), tt) (given.kept n less))

    pub sample_known : (n : ℕ) → n < length island.points → K (OfWire (wired.sample_wire groups x first island n))
    sample_known n less = sample_below (suc n) n (omega arith) less

    begins_known : (n : ℕ) (p : PlainPoint) → slice_get island.points n ≡ Some p → K (wired.begins groups x first island p)
    begins_known n p e = let below : n < length island.points = there_below island.points n p e in begins_source n p e (λ m less. sample_known m (omega arith))

    -- ENABLES
    active_source : (n : ℕ) (o : PlainOccurrence) → slice_get island.occurrences n ≡ Some o → K (wired.is_active groups x first island o)
    active_source n o e =
        let l = given.listed.occurrences n o e in
        range_known o.timer o.from o.to (map (wired.as_wanted groups x first island) o.samples) l.0 (runs_known o.timer l.0) (wanted_known o.samples (λ s i. sample_known s.point (l.1 s i)))

    pub active_known : (n : ℕ) → n < length island.occurrences → K (OfWire (wired.active_wire groups x first island n))
    active_known n less =
        let k = there_at island.occurrences n less in
        let r = given.reads (first + length island.timers + length island.points + n) (omega arith) (omega arith) in
        known_as _ _ (r.1 ∙ values.active_wire groups x first island around registers look given.high given.groups_low r.0 n k.0 k.1) (active_source n k.0 k.1)

    -- ALL ITS DRIVERS are fed
    abbrev AllFed : List PlainNetDriver → Type 0
    AllFed ds = AllOfThem (Fed around registers look) ds

    fed_drive : (t : PlainNetTarget) (e f : PlainNetExpr) → K e → K f → Fed around registers look (drive t e f)
    fed_drive t e f k l = record { guard = k; source = λ on. l }

    timers_fed : (t : ℕ) (rest : List IslandTimer) → ((j : ℕ) (timer : IslandTimer) → slice_get rest j ≡ Some timer → slice_get island.timers (t + j) ≡ Some timer) → AllFed (timer_drivers groups x first island t rest)
    timers_fed t [] there = tt
    timers_fed t (timer ∷ rest) there =
        let none : t + 0 ≡ t = omega arith in
        let e : slice_get island.timers t ≡ Some timer = ap (slice_get island.timers) (sym none) ∙ there 0 timer refl in
        let less : t < length island.timers = there_below island.timers t timer e in (
          fed_connect around registers look (first + t) _ (runs_source t timer e (λ u small. runs_known u (omega arith))),
          (
            fed_drive (ToPort (ports.Cell timer.cell 0)) (wired.runs groups x first island t) one (runs_known t less) (truth_bit true, refl),
            timers_fed (suc t) rest (λ j v f. let next : suc t + j ≡ t + suc j = omega arith in ap (slice_get island.timers) next ∙ there (suc j) v f),
          ),
        )

    points_fed : (n : ℕ) (rest : List PlainPoint) → ((j : ℕ) (p : PlainPoint) → slice_get rest j ≡ Some p → slice_get island.points (n + j) ≡ Some p) → AllFed (point_drivers groups x first island n rest)
    points_fed n [] there = tt
    points_fed n (p ∷ rest) there =
        let none : n + 0 ≡ n = omega arith in
        let e : slice_get island.points n ≡ Some p = ap (slice_get island.points) (sym none) ∙ there 0 p refl in
        let less : n < length island.points = there_below island.points n p e in
        let begins = begins_known n p e in (
          fed_drive (ToWire (wired.sample_wire groups x first island n)) (wired.begins groups x first island p) (OfPort p.port) begins (given.ports_known n p e),
          (
            fed_connect around registers look (wired.sample_wire groups x first island n) _ (given.kept n less),
            (
              fed_drive (ToRegister (x.register + n)) (wired.in_last_cycle groups x first island) (literal 1 0)
                  (known_two around registers look (at x) (equals (wired.count groups x first island 0) (island.length - 1)) given.at_known (known_equals around registers look (wired.count groups x first island 0) (island.length - 1) (count_known 0 given.listed.some))) (_, refl),
              (
                fed_drive (ToRegister (x.register + n)) (wired.begins groups x first island p) (OfPort p.port) begins (given.ports_known n p e),
                points_fed (suc n) rest (λ j v f. let next : suc n + j ≡ n + suc j = omega arith in ap (slice_get island.points) next ∙ there (suc j) v f),
              ),
            ),
          ),
        )

    occurrences_fed : (n : ℕ) (rest : List PlainOccurrence) → ((j : ℕ) (o : PlainOccurrence) → slice_get rest j ≡ Some o → slice_get island.occurrences (n + j) ≡ Some o) → AllFed (occurrence_drivers groups x first island n rest)
    occurrences_fed n [] there = tt
    occurrences_fed n (o ∷ rest) there =
        let none : n + 0 ≡ n = omega arith in
        let e : slice_get island.occurrences n ≡ Some o = ap (slice_get island.occurrences) (sym none) ∙ there 0 o refl in
        let less : n < length island.occurrences = there_below island.occurrences n o e in
        let l = given.listed.occurrences n o e in (
          fed_connect around registers look (wired.active_wire groups x first island n) _ (active_source n o e),
          (
            fed_drive (ToHole (groups + o.group)) (OfWire (wired.active_wire groups x first island n)) one (active_known n less) (truth_bit true, refl),
            (
              fed_drive (ToWire o.group) (OfWire (wired.active_wire groups x first island n)) (wired.offset_from groups x first island o) (active_known n less) (known_both sum_of (V (wired.count groups x first island o.timer)) (V (word ((2 ^ 32 - o.from) % 2 ^ 32))) (count_known o.timer l.0) (record { width = 32; value = (2 ^ 32 - o.from) % 2 ^ 32 }, refl)),
              occurrences_fed (suc n) rest (λ j v f. let next : suc n + j ≡ n + suc j = omega arith in ap (slice_get island.occurrences) next ∙ there (suc j) v f),
            ),
          ),
        )

    pub island_fed : AllOfThem (Fed around registers look) (island_drivers groups x first island)
    island_fed = (
      fed_connect around registers look (suc x.wire) _ (known_two around registers look (at x) (wired.island_done groups x first island) given.at_known done_known),
      all_append (Fed around registers look) (timer_drivers groups x first island 0 island.timers) _ (timers_fed 0 island.timers (λ j v e. let none : 0 + j ≡ j = omega arith in ap (slice_get island.timers) none ∙ e))
          (all_append (Fed around registers look) (point_drivers groups x first island 0 island.points) _ (points_fed 0 island.points (λ j v e. let none : 0 + j ≡ j = omega arith in ap (slice_get island.points) none ∙ e))
          (occurrences_fed 0 island.occurrences (λ j v e. let none : 0 + j ≡ j = omega arith in ap (slice_get island.occurrences) none ∙ e))),
    )

    pub end_source_known : K (both (at x) (wired.island_done groups x first island))
    end_source_known = known_two around registers look (at x) (wired.island_done groups x first island) given.at_known done_known
