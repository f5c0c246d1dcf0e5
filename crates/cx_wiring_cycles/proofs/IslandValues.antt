-- The values of an island's wires in one cycle, where each takes what the island's drivers give it: which timers run, what each sample
-- is, which enables are active.
use Rattle.std.proofs.Common.{◌≡◌, ℕ, zero, suc, ◌+◌, ◌<◌, ◌≤◌, ◌==◌, ◌&&◌, inl, inr, not, nat_lt, Bool, true, false, if◌then◌else◌, List, [], ◌∷◌, ◌++◌, length, map, Option, Some, None, option_map, unwrap_or, slice_get, refl, sym, ap, ◌∙◌, arith}
use Rattle.std.proofs.lemmas.Bool.{eq-eqb, ne_eqb}
use Rattle.cx_bits.specs.BitVector.{BitVector, zero_of}
use Rattle.cx_meaning.specs.declared.ports.PortRef.TheVariants as ports
use Rattle.cx_meaning.specs.declared.ports.Comparison.{Comparison}
use Rattle.cx_meaning.specs.declared.ports.Comparison.TheVariants.{Less, AtLeast}
use Rattle.cx_text.specs.Members.{In}
use Rattle.cx_meaning.specs.Truths.{compares}
use Rattle.cx_net.specs.Nets.{PlainNetExpr, OfPort, OfRegister, OfWire, Inverse, AllOf, Compares, exprs_of, ToPort, ToRegister, ToWire, ToHole, PlainNetDriver}
use Rattle.cx_net.specs.NetMeaning.{Node, APort, AWire, NetAround, both_known, is_true, truth_bit, all_expr, same_target}
use Rattle.cx_static.specs.declared.islands.Sample.{Sample}
use Rattle.cx_static.specs.declared.islands.IslandTimer.{IslandTimer}
use Rattle.cx_static.specs.Islands.{PlainPoint, PlainOccurrence, PlainIsland}
use Rattle.cx_wiring.specs.Parts.{word, literal, one, both, equals, drive, connect}
use Rattle.cx_wiring.specs.Stands.{Stand, at}
use Rattle.cx_wiring.specs.IslandDrivers as wired
use Rattle.cx_wiring.specs.IslandDrivers.{wires_of_island, timer_drivers, point_drivers, occurrence_drivers, island_drivers}
use Rattle.cx_wiring.specs.Bounds.{AllDrive}
use Rattle.cx_wiring.specs.Takings.{value, Says, takes, takes_of}
use Rattle.cx_wiring.proofs.TakingLemmas.{true_bit, says_both, says_not, says_all, says_equals, takes_append, others_pass}
use Rattle.cx_wiring_cycles.specs.Shown.{wide}
use Rattle.cx_text.proofs.ListLaws.{there_below, there_at}

-- WHICH DRIVER of an island's list a wire has
module _ (groups : ℕ) (x : Stand) (first : ℕ) (island : PlainIsland) (around : NetAround) (registers : ℕ → Option BitVector) (look : Node → Option BitVector) where
  abbrev Misses : ℕ → List PlainNetDriver → Type 0
  Misses w ds = AllDrive (λ u. same_target u (ToWire w) ≡ false) ds

  timers_miss : (w n : ℕ) (rest : List IslandTimer) → first + n + length rest ≤ w → Misses w (timer_drivers groups x first island n rest)
  timers_miss w n [] l = tt
  timers_miss w n (timer ∷ rest) l = (ne_eqb (first + n) w (λ e. omega arith), (refl, timers_miss w (suc n) rest (omega arith)))

  points_miss : (w n : ℕ) (rest : List PlainPoint) → first + length island.timers + n + length rest ≤ w → Misses w (point_drivers groups x first island n rest)
  points_miss w n [] l = tt
  points_miss w n (p ∷ rest) l =
      (ne_eqb (first + length island.timers + n) w (λ e. omega arith), (ne_eqb (first + length island.timers + n) w (λ e. omega arith), (refl, (refl, points_miss w (suc n) rest (omega arith)))))

  here : (w v : ℕ) (source : PlainNetExpr) (o : Option BitVector) (ds : List PlainNetDriver) → w ≡ v → takes around registers look (ToWire v) o (connect w source ∷ ds) ≡ value around registers look source
  here w v source o ds e = ap (λ s. takes_of around registers look s (connect w source) (takes around registers look (ToWire v) o ds)) (eq-eqb w v e)

  past_wire : (w v : ℕ) (guard source : PlainNetExpr) (o : Option BitVector) (ds : List PlainNetDriver) → (w ≡ v → ⊥)
      → takes around registers look (ToWire v) o (drive (ToWire w) guard source ∷ ds) ≡ takes around registers look (ToWire v) o ds
  past_wire w v guard source o ds apart = ap (λ s. takes_of around registers look s (drive (ToWire w) guard source) (takes around registers look (ToWire v) o ds)) (ne_eqb w v apart)

  past_list : (v : ℕ) (o : Option BitVector) (xs ys : List PlainNetDriver) → Misses v xs → takes around registers look (ToWire v) o (xs ++ ys) ≡ takes around registers look (ToWire v) o ys
  past_list v o xs ys miss = takes_append around registers look (ToWire v) o xs ys ∙ others_pass around registers look (ToWire v) (takes around registers look (ToWire v) o ys) xs miss

  of_timer : IslandTimer → PlainNetExpr
  of_timer timer = wired.timer_runs groups x first island timer.cell timer.outer timer.from timer.to

  same_timer : (a b : IslandTimer) → ◌≡◌ {A = Option IslandTimer} (Some a) (Some b) → a ≡ b
  same_timer a b f = cc

  same_point : (a b : PlainPoint) → ◌≡◌ {A = Option PlainPoint} (Some a) (Some b) → a ≡ b
  same_point a b f = cc

  same_occurrence : (a b : PlainOccurrence) → ◌≡◌ {A = Option PlainOccurrence} (Some a) (Some b) → a ≡ b
  same_occurrence a b f = cc

  timer_takes : (n i m : ℕ) (rest : List IslandTimer) (timer : IslandTimer) (o : Option BitVector) (ys : List PlainNetDriver) → m ≡ n + i → slice_get rest i ≡ Some timer
      → takes around registers look (ToWire (first + m)) o (timer_drivers groups x first island n rest ++ ys) ≡ value around registers look (wired.timer_runs groups x first island timer.cell timer.outer timer.from timer.to)
  timer_takes n i m [] timer o ys same e = absurd cc
  timer_takes n zero m (first_one ∷ rest) timer o ys same e =
      let source = wired.timer_runs groups x first island first_one.cell first_one.outer first_one.from first_one.to in
      let behind = drive (ToPort (ports.Cell first_one.cell 0)) (wired.runs groups x first island n) one ∷ (timer_drivers groups x first island (suc n) rest ++ ys) in
      here (first + n) (first + m) source o behind (omega arith)
      ∙ ap (λ (z : IslandTimer). value around registers look (wired.timer_runs groups x first island z.cell z.outer z.from z.to)) (same_timer first_one timer e)
  timer_takes n (suc i) m (first_one ∷ rest) timer o ys same e =
      let source = wired.timer_runs groups x first island first_one.cell first_one.outer first_one.from first_one.to in
      let behind = drive (ToPort (ports.Cell first_one.cell 0)) (wired.runs groups x first island n) one ∷ (timer_drivers groups x first island (suc n) rest ++ ys) in
      past_wire (first + n) (first + m) one source o behind (λ f. omega arith)
      ∙ timer_takes (suc n) i m rest timer o ys (omega arith) e

  point_takes : (n i m : ℕ) (rest : List PlainPoint) (p : PlainPoint) (o : Option BitVector) (ys : List PlainNetDriver) → m ≡ n + i → slice_get rest i ≡ Some p
      → takes around registers look (ToWire (first + length island.timers + m)) o (point_drivers groups x first island n rest ++ ys)
      ≡ takes_of around registers look true (drive (ToWire 0) (wired.begins groups x first island p) (OfPort p.port)) (registers (x.register + m))
  point_takes n i m [] p o ys same e = absurd cc
  point_takes n zero m (first_one ∷ rest) p o ys same e =
      let wire = first + length island.timers + n in
      let at_it : first + length island.timers + n ≡ first + length island.timers + m = omega arith in
      let reg : x.register + n ≡ x.register + m = omega arith in
      let forget = drive (ToRegister (x.register + n)) (wired.in_last_cycle groups x first island) (literal 1 0) in
      let keep = drive (ToRegister (x.register + n)) (wired.begins groups x first island first_one) (OfPort first_one.port) in
      let behind = forget ∷ keep ∷ (point_drivers groups x first island (suc n) rest ++ ys) in
      ap (λ s. takes_of around registers look s (drive (ToWire wire) (wired.begins groups x first island first_one) (OfPort first_one.port)) (takes around registers look (ToWire (first + length island.timers + m)) o (connect wire (OfRegister (x.register + n)) ∷ behind)))
      (eq-eqb wire (first + length island.timers + m) at_it)
      ∙ ap (takes_of around registers look true (drive (ToWire 0) (wired.begins groups x first island first_one) (OfPort first_one.port))) (here wire (first + length island.timers + m) (OfRegister (x.register + n)) o behind at_it ∙ ap registers reg)
      ∙ ap (λ (z : PlainPoint). takes_of around registers look true (drive (ToWire 0) (wired.begins groups x first island z) (OfPort z.port)) (registers (x.register + m))) (same_point first_one p e)
  point_takes n (suc i) m (first_one ∷ rest) p o ys same e =
      let wire = first + length island.timers + n in
      let forget = drive (ToRegister (x.register + n)) (wired.in_last_cycle groups x first island) (literal 1 0) in
      let keep = drive (ToRegister (x.register + n)) (wired.begins groups x first island first_one) (OfPort first_one.port) in
      let behind = forget ∷ keep ∷ (point_drivers groups x first island (suc n) rest ++ ys) in
      past_wire wire (first + length island.timers + m) (wired.begins groups x first island first_one) (OfPort first_one.port) o (connect wire (OfRegister (x.register + n)) ∷ behind) (λ f. omega arith)
      ∙ past_wire wire (first + length island.timers + m) one (OfRegister (x.register + n)) o behind (λ f. omega arith)
      ∙ point_takes (suc n) i m rest p o ys (omega arith) e

  active_takes : (n i m : ℕ) (rest : List PlainOccurrence) (u : PlainOccurrence) (o : Option BitVector) → m ≡ n + i → slice_get rest i ≡ Some u
      → ((j : ℕ) (v : PlainOccurrence) → slice_get rest j ≡ Some v → v.group < first)
      → takes around registers look (ToWire (first + length island.timers + length island.points + m)) o (occurrence_drivers groups x first island n rest) ≡ value around registers look (wired.is_active groups x first island u)
  active_takes n i m [] u o same e low = absurd cc
  active_takes n zero m (first_one ∷ rest) u o same e low =
      let wire = first + length island.timers + length island.points + n in
      let go = drive (ToHole (groups + first_one.group)) (OfWire wire) one in
      let offset = drive (ToWire first_one.group) (OfWire wire) (wired.offset_from groups x first island first_one) in
      here wire (first + length island.timers + length island.points + m) (wired.is_active groups x first island first_one) o (go ∷ offset ∷ occurrence_drivers groups x first island (suc n) rest) (omega arith)
      ∙ ap (λ (z : PlainOccurrence). value around registers look (wired.is_active groups x first island z)) (same_occurrence first_one u e)
  active_takes n (suc i) m (first_one ∷ rest) u o same e low =
      let wire = first + length island.timers + length island.points + n in
      let below : first_one.group < first = low 0 first_one refl in
      let go = drive (ToHole (groups + first_one.group)) (OfWire wire) one in
      let offset = drive (ToWire first_one.group) (OfWire wire) (wired.offset_from groups x first island first_one) in
      past_wire wire (first + length island.timers + length island.points + m) one (wired.is_active groups x first island first_one) o (go ∷ offset ∷ occurrence_drivers groups x first island (suc n) rest) (λ f. omega arith)
      ∙ past_wire first_one.group (first + length island.timers + length island.points + m) (OfWire wire) (wired.offset_from groups x first island first_one) o (occurrence_drivers groups x first island (suc n) rest) (λ f. omega arith)
      ∙ active_takes (suc n) i m rest u o (omega arith) e (λ j v f. low (suc j) v f)

  -- IN THE WHOLE LIST, whose end is another wire
  module _ (high : first + wires_of_island island ≤ suc x.wire) (groups_low : (j : ℕ) (v : PlainOccurrence) → slice_get island.occurrences j ≡ Some v → v.group < first) where
    past_end : (v : ℕ) (o : Option BitVector) → v < first + wires_of_island island → takes around registers look (ToWire v) o (island_drivers groups x first island)
        ≡ takes around registers look (ToWire v) o (timer_drivers groups x first island 0 island.timers ++ (point_drivers groups x first island 0 island.points ++ occurrence_drivers groups x first island 0 island.occurrences))
    past_end v o less = past_wire (suc x.wire) v one (both (at x) (wired.island_done groups x first island)) o
        (timer_drivers groups x first island 0 island.timers ++ (point_drivers groups x first island 0 island.points ++ occurrence_drivers groups x first island 0 island.occurrences)) (λ e. omega arith)

    pub timer_wire : (o : Option BitVector) (t : ℕ) (timer : IslandTimer) → slice_get island.timers t ≡ Some timer
        → takes around registers look (ToWire (first + t)) o (island_drivers groups x first island) ≡ value around registers look (wired.timer_runs groups x first island timer.cell timer.outer timer.from timer.to)
    timer_wire o t timer e =
        let l : t < length island.timers = there_below island.timers t timer e in
        past_end (first + t) o (omega arith) ∙ timer_takes 0 t t island.timers timer o (point_drivers groups x first island 0 island.points ++ occurrence_drivers groups x first island 0 island.occurrences) (omega arith) e

    pub sample_wire : (o : Option BitVector) (n : ℕ) (p : PlainPoint) → slice_get island.points n ≡ Some p
        → takes around registers look (ToWire (first + length island.timers + n)) o (island_drivers groups x first island)
        ≡ takes_of around registers look true (drive (ToWire 0) (wired.begins groups x first island p) (OfPort p.port)) (value around registers look (OfRegister (x.register + n)))
    sample_wire o n p e =
        let l : n < length island.points = there_below island.points n p e in
        past_end (first + length island.timers + n) o (omega arith)
        ∙ past_list (first + length island.timers + n) o (timer_drivers groups x first island 0 island.timers) (point_drivers groups x first island 0 island.points ++ occurrence_drivers groups x first island 0 island.occurrences) (timers_miss (first + length island.timers + n) 0 island.timers (omega arith))
        ∙ point_takes 0 n n island.points p o (occurrence_drivers groups x first island 0 island.occurrences) (omega arith) e

    pub active_wire : (o : Option BitVector) (n : ℕ) (u : PlainOccurrence) → slice_get island.occurrences n ≡ Some u
        → takes around registers look (ToWire (first + length island.timers + length island.points + n)) o (island_drivers groups x first island) ≡ value around registers look (wired.is_active groups x first island u)
    active_wire o n u e =
        let l : n < length island.occurrences = there_below island.occurrences n u e in
        past_end (first + length island.timers + length island.points + n) o (omega arith)
        ∙ past_list (first + length island.timers + length island.points + n) o (timer_drivers groups x first island 0 island.timers) (point_drivers groups x first island 0 island.points ++ occurrence_drivers groups x first island 0 island.occurrences) (timers_miss (first + length island.timers + length island.points + n) 0 island.timers (omega arith))
        ∙ past_list (first + length island.timers + length island.points + n) o (point_drivers groups x first island 0 island.points) (occurrence_drivers groups x first island 0 island.occurrences) (points_miss (first + length island.timers + length island.points + n) 0 island.points (omega arith))
        ∙ active_takes 0 n n island.occurrences u o (omega arith) e groups_low

  -- THE VALUES
  pub record IslandLooks (count : ℕ → ℕ) (done : Bool) : Type 0 where
    pub reads : (n : ℕ) → first ≤ n → n < first + wires_of_island island → (o : Option BitVector) × (look (AWire n) ≡ takes around registers look (ToWire n) o (island_drivers groups x first island))
    pub bits : (n : ℕ) → first ≤ n → n < first + wires_of_island island → (b : Bool) × (look (AWire n) ≡ Some (truth_bit b))
    pub high : first + wires_of_island island ≤ suc x.wire
    pub groups_low : (j : ℕ) (v : PlainOccurrence) → slice_get island.occurrences j ≡ Some v → v.group < first
    pub counts : (t : ℕ) (timer : IslandTimer) → slice_get island.timers t ≡ Some timer → look (APort (ports.Cell timer.cell 1)) ≡ Some (wide (count t))
    pub dones : (timer : IslandTimer) → slice_get island.timers 0 ≡ Some timer → look (APort (ports.Cell timer.cell 2)) ≡ Some (truth_bit done)

  module _ (count : ℕ → ℕ) (done : Bool) (looks : IslandLooks count done) where
    -- the bit that a wire is
    abbrev pub bit_at : ℕ → Bool
    bit_at n = is_true (unwrap_or (look (AWire n)) (zero_of 1))

    -- a timer runs, a sample is 1, an enable is active
    abbrev pub live : ℕ → Bool
    live t = bit_at (first + t)

    abbrev pub sample : ℕ → Bool
    sample n = bit_at (first + length island.timers + n)

    abbrev pub active : ℕ → Bool
    active n = bit_at (first + length island.timers + length island.points + n)

    pub bit_is : (n : ℕ) (b : Bool) → look (AWire n) ≡ Some (truth_bit b) → bit_at n ≡ b
    bit_is n b e = ap (λ o. is_true (unwrap_or o (zero_of 1))) e ∙ true_bit b

    says_wire : (n : ℕ) → first ≤ n → n < first + wires_of_island island → Says around registers look (OfWire n) (bit_at n)
    says_wire n l h = let b = looks.bits n l h in b.1 ∙ ap (λ c. Some (truth_bit c)) (sym (bit_is n b.0 b.1))

    pub says_live : (t : ℕ) → t < length island.timers → Says around registers look (wired.runs groups x first island t) (live t)
    says_live t less = says_wire (first + t) (omega arith) (omega arith)

    pub says_sample : (n : ℕ) → n < length island.points → Says around registers look (OfWire (first + length island.timers + n)) (sample n)
    says_sample n less = says_wire (first + length island.timers + n) (omega arith) (omega arith)

    pub says_active : (n : ℕ) → n < length island.occurrences → Says around registers look (OfWire (first + length island.timers + length island.points + n)) (active n)
    says_active n less = says_wire (first + length island.timers + length island.points + n) (omega arith) (omega arith)

    pub count_is : (t : ℕ) → t < length island.timers → value around registers look (wired.count groups x first island t) ≡ Some (wide (count t))
    count_is t less =
        let k = there_at island.timers t less in
        ap (λ (o : Option IslandTimer). look (APort (ports.Cell (unwrap_or (option_map (λ timer. timer.cell) o) 0) 1))) k.1 ∙ looks.counts t k.0 k.1

    says_compare : (c : Comparison) (e : PlainNetExpr) (b : BitVector) (m : ℕ) → value around registers look e ≡ Some b → Says around registers look (Compares c e (word m)) (compares c b.value m)
    says_compare c e b m h = ap (λ z. both_known (λ y w. truth_bit (compares c y.value w.value)) z (Some (record { width = 32; value = m }))) h

    -- a timer counts from one number to before another
    abbrev pub within : ℕ → ℕ → ℕ → Bool
    within t from to = not (nat_lt (count t) from) && (nat_lt (count t) to && true)

    pub says_range : (t from to : ℕ) (more : List PlainNetExpr) (b : Bool) → t < length island.timers → all_expr around registers look (exprs_of more) ≡ Some (truth_bit b)
        → Says around registers look (AllOf (exprs_of (wired.in_range groups x first island t from to ++ more))) (live t && (not (nat_lt (count t) from) && (nat_lt (count t) to && b)))
    says_range t from to more b less rest =
        let low = Compares AtLeast (wired.count groups x first island t) (word from) in
        let high = Compares Less (wired.count groups x first island t) (word to) in
        says_all around registers look (wired.runs groups x first island t) (exprs_of (low ∷ high ∷ more)) (live t) (not (nat_lt (count t) from) && (nat_lt (count t) to && b)) (says_live t less)
        (says_all around registers look low (exprs_of (high ∷ more)) (not (nat_lt (count t) from)) (nat_lt (count t) to && b) (says_compare AtLeast (wired.count groups x first island t) (wide (count t)) from (count_is t less))
        (says_all around registers look high (exprs_of more) (nat_lt (count t) to) b (says_compare Less (wired.count groups x first island t) (wide (count t)) to (count_is t less)) rest))

    -- THE FIRST TIMER runs where control stands at the island and it is not done
    pub live_first : (timer : IslandTimer) (here_so : Bool) → slice_get island.timers 0 ≡ Some timer → timer.outer ≡ None → Says around registers look (at x) here_so → live 0 ≡ here_so && not done
    live_first timer here_so e none on =
        let l : 0 < length island.timers = there_below island.timers 0 timer e in
        let r = looks.reads (first + 0) (omega arith) (omega arith) in
        bit_is (first + 0) _ (r.1 ∙ timer_wire looks.high looks.groups_low r.0 0 timer e
        ∙ ap (λ o. value around registers look (wired.timer_runs groups x first island timer.cell o timer.from timer.to)) none
        ∙ says_both around registers look (at x) (Inverse (OfPort (ports.Cell timer.cell 2))) here_so (not done) on (says_not around registers look (OfPort (ports.Cell timer.cell 2)) done (looks.dones timer e)))

    -- another one in its range of the timer around it
    pub live_within : (t outer : ℕ) (timer : IslandTimer) → slice_get island.timers t ≡ Some timer → timer.outer ≡ Some outer → outer < length island.timers
        → live t ≡ live outer && (not (nat_lt (count outer) timer.from) && (nat_lt (count outer) timer.to && true))
    live_within t outer timer e around_it less =
        let l : t < length island.timers = there_below island.timers t timer e in
        let r = looks.reads (first + t) (omega arith) (omega arith) in
        bit_is (first + t) _ (r.1 ∙ timer_wire looks.high looks.groups_low r.0 t timer e
        ∙ ap (λ o. value around registers look (wired.timer_runs groups x first island timer.cell o timer.from timer.to)) around_it
        ∙ says_range outer timer.from timer.to [] true less refl)

    -- AN ENABLE is active in a range, where the samples are as wanted
    abbrev pub as_wanted : Sample → Bool
    as_wanted s = if s.wanted then sample s.point else not (sample s.point)

    abbrev pub all_wanted : List Sample → Bool
    all_wanted [] = true
    all_wanted (s ∷ rest) = as_wanted s && all_wanted rest

    says_wanted : (s : Sample) → s.point < length island.points → Says around registers look (wired.as_wanted groups x first island s) (as_wanted s)
    says_wanted s less = by s.wanted
      where
        by : (b : Bool) → Says around registers look (if b then OfWire (first + length island.timers + s.point) else Inverse (OfWire (first + length island.timers + s.point))) (if b then sample s.point else not (sample s.point))
        by true = says_sample s.point less
        by false = says_not around registers look (OfWire (first + length island.timers + s.point)) (sample s.point) (says_sample s.point less)

    says_all_wanted : (list : List Sample) → ((s : Sample) → In list s → s.point < length island.points) → all_expr around registers look (exprs_of (map (wired.as_wanted groups x first island) list)) ≡ Some (truth_bit (all_wanted list))
    says_all_wanted [] there = refl
    says_all_wanted (s ∷ rest) there =
        says_all around registers look (wired.as_wanted groups x first island s) (exprs_of (map (wired.as_wanted groups x first island) rest)) (as_wanted s) (all_wanted rest) (says_wanted s (there s (inl refl))) (says_all_wanted rest (λ z i. there z (inr i)))

    -- A STATIC IF begins at a count of a timer that runs, where the samples are as wanted
    pub says_begins : (p : PlainPoint) → p.timer < length island.timers → ((s : Sample) → In p.samples s → s.point < length island.points)
        → Says around registers look (wired.begins groups x first island p) (live p.timer && ((count p.timer == p.at) && all_wanted p.samples))
    says_begins p less there =
        let at_it = equals (wired.count groups x first island p.timer) p.at in
        let wanted = map (wired.as_wanted groups x first island) p.samples in
        says_all around registers look (wired.runs groups x first island p.timer) (exprs_of (at_it ∷ wanted)) (live p.timer) ((count p.timer == p.at) && all_wanted p.samples) (says_live p.timer less)
        (says_all around registers look at_it (exprs_of wanted) (count p.timer == p.at) (all_wanted p.samples) (says_equals around registers look (wired.count groups x first island p.timer) (wide (count p.timer)) p.at (count_is p.timer less))
        (says_all_wanted p.samples there))

    pub active_is : (n : ℕ) (u : PlainOccurrence) → slice_get island.occurrences n ≡ Some u → u.timer < length island.timers → ((s : Sample) → In u.samples s → s.point < length island.points)
        → active n ≡ live u.timer && (not (nat_lt (count u.timer) u.from) && (nat_lt (count u.timer) u.to && all_wanted u.samples))
    active_is n u e less there =
        let l : n < length island.occurrences = there_below island.occurrences n u e in
        let r = looks.reads (first + length island.timers + length island.points + n) (omega arith) (omega arith) in
        bit_is (first + length island.timers + length island.points + n) _ (r.1 ∙ active_wire looks.high looks.groups_low r.0 n u e
        ∙ says_range u.timer u.from u.to (map (wired.as_wanted groups x first island) u.samples) (all_wanted u.samples) less (says_all_wanted u.samples there))
