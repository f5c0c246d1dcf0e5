-- The wires of an island in one of its cycles: which timers run, the samples that are taken, the enables that are active.
use Rattle.std.proofs.Common.{◌≡◌, ℕ, zero, suc, ◌+◌, ◌-◌, ◌<◌, ◌==◌, ◌&&◌, inl, inr, not, nat_lt, Bool, true, false, if◌then◌else◌, List, [], ◌∷◌, length, Option, Some, None, unwrap_or, slice_get, refl, sym, ap, ap₂, ◌∙◌, arith}
use Rattle.cx_bits.specs.BitVector.{BitVector, zero_of}
use Rattle.cx_meaning.specs.declared.ports.PortRef.{PortRef}
use Rattle.cx_meaning.specs.Designs.{PlainCell, PlainComponent, PlainForm}
use Rattle.cx_meaning.specs.Islands.{or_zero, form_length}
use Rattle.cx_meaning.specs.Active.{Entry}
use Rattle.cx_text.specs.Members.{In}
use Rattle.cx_control.specs.Sampling.{taken, form_now}
use Rattle.cx_laws.specs.Positions.{FormIfs, entry_at, no_entry}
use Rattle.cx_laws.specs.Samples.{form_ifs, form_by}
use Rattle.cx_net.specs.Nets.{OfPort, ToWire}
use Rattle.cx_net.specs.NetMeaning.{Node, NetAround, is_true, truth_bit}
use Rattle.cx_static.specs.declared.islands.Sample.{Sample}
use Rattle.cx_static.specs.declared.islands.IslandTimer.{IslandTimer}
use Rattle.cx_static.specs.Islands.{PlainPoint, PlainOccurrence}
use Rattle.cx_static.specs.Lowering.{Gathered, begin_at, island_gathered, island_of}
use Rattle.cx_wiring.specs.Parts.{drive}
use Rattle.cx_wiring.specs.Stands.{Stand, at}
use Rattle.cx_wiring.specs.IslandDrivers as wired
use Rattle.cx_wiring.specs.Takings.{value, Says}
use Rattle.cx_wiring.specs.TimerCounts.{nested, cycles_at, counts_in}
use Rattle.cx_wiring.proofs.TakingLemmas.{true_bit, takes_known}
use Rattle.cx_wiring.proofs.ListedLaws.{AreListed, TimerFits, only_timer, island_listed}
use Rattle.cx_wiring_cycles.proofs.IslandOffsets.{range_in, at_in, are_wanted, live_in}
use Rattle.cx_wiring_cycles.proofs.EntryLaws as entries
use Rattle.cx_wiring_cycles.proofs.EntryLaws.{Extends, form_points}
use Rattle.cx_wiring_cycles.proofs.WireSamples.{form_sampled}
use Rattle.cx_wiring_cycles.proofs.TimerHolds.{counts_hold, counts_first}
use Rattle.cx_wiring_cycles.proofs.CycleBits.{is_there, nested_there, taken_there, active_there}
use Rattle.cx_wiring_cycles.proofs.IslandValues.{IslandLooks, live, sample, active, all_wanted, sample_wire, live_first, live_within, says_begins, active_is}
use Rattle.cx_text.proofs.ListLaws.{there_below, there_at}
use Rattle.cx_text.proofs.OptionLaws.{some_is}

-- a timer within comes behind the one around it
pub outer_before : (part : PlainComponent) (form : PlainForm) (front : List PlainCell) (n : ℕ) (timer : IslandTimer) → slice_get (island_gathered part form front).timers n ≡ Some timer → (o : ℕ) → timer.outer ≡ Some o → o < n
outer_before part form front zero timer e o f = let none : timer.outer ≡ None = (island_listed part form front).first timer e in absurd (differ o (sym f ∙ none))
  where
    differ : (o : ℕ) → ◌≡◌ {A = Option ℕ} (Some o) None → ⊥
    differ o g = cc
outer_before part form front (suc n) timer e o f =
    let w = (island_listed part form front).within (suc n) timer e (omega arith) in
    let less : w.0 < suc n = TimerFits.before w.2 in
    let is : w.0 ≡ o = some_is w.0 o (sym w.1 ∙ f) in omega arith

module _ (part : PlainComponent) (form : PlainForm) (front : List PlainCell) (groups : ℕ) (x : Stand) (first : ℕ) (around : NetAround) (registers : ℕ → Option BitVector) (look : Node → Option BitVector) (count : ℕ → ℕ) (done : Bool)
    (looks : IslandLooks groups x first (island_of (form_length part form) (island_gathered part form front)) around registers look count done) (t : ℕ) (less : t < form_length part form) (cycles : ℕ → ℕ)
    (cycles_are : (n : ℕ) (timer : IslandTimer) → slice_get (island_gathered part form front).timers n ≡ Some timer → cycles timer.cell ≡ cycles_at (island_gathered part form front).cells timer.cell)
    (here : Says around registers look (at x) true) (undone : done ≡ false)
    (in_step : (m : ℕ) → m < length (island_gathered part form front).timers → count m ≡ or_zero (counts_in cycles (Some t) (island_gathered part form front).timers m)) where
  abbrev final : Gathered
  final = island_gathered part form front

  abbrev lists : AreListed part (island_gathered part form front)
  lists = island_listed part form front

  -- the count of each timer where it runs
  abbrev pub counts : ℕ → Option ℕ
  counts = counts_in cycles (Some t) (island_gathered part form front).timers

  pub held : (n : ℕ) (timer : IslandTimer) → slice_get (island_gathered part form front).timers n ≡ Some timer → (outer : ℕ) → timer.outer ≡ Some outer
      → counts n ≡ nested timer.from timer.to (cycles_at (island_gathered part form front).cells timer.cell) (counts outer)
  held n timer e outer f =
      counts_hold cycles (Some t) final.timers (outer_before part form front) n timer e outer f ∙ ap (λ p. nested timer.from timer.to p (counts outer)) (cycles_are n timer e)

  pub first_is : counts 0 ≡ Some t
  first_is =
      let k = there_at final.timers 0 lists.some in
      counts_first cycles (Some t) final.timers (outer_before part form front) k.0 k.1 (lists.first k.0 k.1)

  count_so : (m : ℕ) → m < length (island_gathered part form front).timers → (c : ℕ) → counts m ≡ Some c → count m ≡ c
  count_so m there c e = in_step m there ∙ ap or_zero e

  abbrev runs : ℕ → Bool
  runs = live groups x first (island_of (form_length part form) (island_gathered part form front)) around registers look count done looks

  abbrev pub taken_sample : ℕ → Bool
  taken_sample = sample groups x first (island_of (form_length part form) (island_gathered part form front)) around registers look count done looks

  abbrev is_active : ℕ → Bool
  is_active = active groups x first (island_of (form_length part form) (island_gathered part form front)) around registers look count done looks

  abbrev wanted : List Sample → Bool
  wanted = all_wanted groups x first (island_of (form_length part form) (island_gathered part form front)) around registers look count done looks

  -- A TIMER RUNS where it has a count
  runs_below : (bound m : ℕ) → m < bound → m < length (island_gathered part form front).timers → runs m ≡ is_there (counts m)
  runs_below zero m low there = absurd (omega arith)
  runs_below (suc bound) zero low there =
      let k = there_at final.timers 0 there in
      live_first groups x first (island_of (form_length part form) final) around registers look count done looks k.0 true k.1 (lists.first k.0 k.1) here
      ∙ ap not undone ∙ sym (ap is_there first_is)
  runs_below (suc bound) (suc m) low there =
      let k = there_at final.timers (suc m) there in
      let w = lists.within (suc m) k.0 k.1 (omega arith) in
      let before : w.0 < suc m = TimerFits.before w.2 in
      let around_there : w.0 < length final.timers = omega arith in
      live_within groups x first (island_of (form_length part form) final) around registers look count done looks (suc m) w.0 k.0 k.1 w.1 around_there
      ∙ ap (λ b. b && (not (nat_lt (count w.0) k.0.from) && (nat_lt (count w.0) k.0.to && true))) (runs_below bound w.0 (omega arith) around_there)
      ∙ nested_there k.0.from k.0.to (cycles_at final.cells k.0.cell) (count w.0) (counts w.0) (λ c e. count_so w.0 around_there c e)
      ∙ sym (ap is_there (held (suc m) k.0 k.1 w.0 w.1))

  pub runs_so : (m : ℕ) → m < length (island_gathered part form front).timers → runs m ≡ is_there (counts m)
  runs_so m there = runs_below (suc m) m (omega arith) there

  wanted_so : (list : List Sample) → wanted list ≡ are_wanted counts taken_sample list
  wanted_so [] = refl
  wanted_so (s ∷ rest) = ap (λ b. (if s.wanted then taken_sample s.point else not (taken_sample s.point)) && b) (wanted_so rest)

  -- where the samples are those of another list, as far as there are points
  wanted_same : (other : ℕ → Bool) → ((m : ℕ) → m < length (island_gathered part form front).points → taken_sample m ≡ other m) → (list : List Sample) → ((s : Sample) → In list s → s.point < length (island_gathered part form front).points)
      → wanted list ≡ are_wanted counts other list
  wanted_same other same [] there = refl
  wanted_same other same (s ∷ rest) there =
      ap₂ (λ a b. (if s.wanted then a else not a) && b) (same s.point (there s (inl refl))) (wanted_same other same rest (λ z i. there z (inr i)))

  -- A SAMPLE is its port where its static if begins, and else what is kept
  module _ (kept : ℕ → Bool) (kept_so : (m : ℕ) → m < length (island_gathered part form front).points → registers (x.register + m) ≡ Some (truth_bit (kept m))) where
    abbrev pub port_bit : PortRef → Bool
    port_bit p = is_true (unwrap_or (value around registers look (OfPort p)) (zero_of 1))

    abbrev pub begins_now : PlainPoint → Bool
    begins_now p = runs p.timer && ((count p.timer == p.at) && wanted p.samples)

    point_low : (m : ℕ) (p : PlainPoint) → slice_get (island_gathered part form front).points m ≡ Some p → (s : Sample) → In p.samples s → s.point < length (island_gathered part form front).points
    point_low m p e s i = let low : s.point < m = (lists.points m p e).1 s i in let m_low : m < length final.points = there_below final.points m p e in omega arith

    -- its static if begins, or not
    pub begins_says : (m : ℕ) (p : PlainPoint) → slice_get (island_gathered part form front).points m ≡ Some p
        → Says around registers look (wired.begins groups x first (island_of (form_length part form) (island_gathered part form front)) p) (begins_now p)
    begins_says m p e = says_begins groups x first (island_of (form_length part form) final) around registers look count done looks p (lists.points m p e).0 (point_low m p e)

    -- what it takes
    pub takes_port : (m : ℕ) (p : PlainPoint) → slice_get (island_gathered part form front).points m ≡ Some p
        → (if begins_now p then value around registers look (OfPort p.port) else Some (truth_bit (kept m))) ≡ Some (truth_bit (taken_sample m))
    takes_port m p e =
        let low : m < length final.points = there_below final.points m p e in
        let wire = first + length final.timers + m in
        let r = looks.reads wire (omega arith) (omega arith) in
        let b = looks.bits wire (omega arith) (omega arith) in
        sym (
        r.1 ∙ sample_wire groups x first (island_of (form_length part form) final) around registers look looks.high looks.groups_low r.0 m p e
        ∙ takes_known around registers look (drive (ToWire 0) (wired.begins groups x first (island_of (form_length part form) final) p) (OfPort p.port)) (begins_now p) (registers (x.register + m)) (begins_says m p e)
        ∙ ap (λ o. if begins_now p then value around registers look (OfPort p.port) else o) (kept_so m low))
        ∙ b.1 ∙ ap (λ c. Some (truth_bit c)) (sym (ap (λ o. is_true (unwrap_or o (zero_of 1))) b.1 ∙ true_bit b.0))

    sampled : (m : ℕ) (p : PlainPoint) → slice_get (island_gathered part form front).points m ≡ Some p → taken_sample m ≡ taken (port_bit p.port) (kept m) (live_in counts taken_sample (begin_at p.timer p.at p.samples) 1)
    sampled m p e =
        let timer_low : p.timer < length final.timers = (lists.points m p e).0 in
        sym (ap (λ o. is_true (unwrap_or o (zero_of 1))) (takes_port m p e) ∙ true_bit (taken_sample m))
        ∙ by (begins_now p)
        ∙ ap (λ b. if b then port_bit p.port else kept m) (ap₂ (λ a w. a && ((count p.timer == p.at) && w)) (runs_so p.timer timer_low) (wanted_so p.samples))
        ∙ taken_there p.at (count p.timer) (are_wanted counts taken_sample p.samples) (port_bit p.port) (kept m) (counts p.timer) (λ c f. count_so p.timer timer_low c f)
      where
        by : (b : Bool) → is_true (unwrap_or (if b then value around registers look (OfPort p.port) else Some (truth_bit (kept m))) (zero_of 1)) ≡ (if b then port_bit p.port else kept m)
        by true = refl
        by false = true_bit (kept m)

    itself : Extends (island_gathered part form front) (island_gathered part form front)
    itself = record { timers = λ n timer f. f; cells = λ c cell f. f; points = λ n p f. f }

    whole : live_in counts taken_sample (begin_at 0 0 []) (form_length part form) ≡ Some t
    whole = let same : t - 0 ≡ t = omega arith in ap (range_in 0 (form_length part form)) first_is ∙ at_in 0 (form_length part form) t (omega arith) (omega arith) ∙ ap Some same

    pub points_are : length (island_gathered part form front).points ≡ form_ifs form
    points_are = form_points part form (begin_at 0 0 []) (only_timer part form front) ∙ omega arith

    -- so the samples are those that the machine takes
    pub samples_so : FormIfs (λ n. 0 < n) part form → (m : ℕ) → m < form_ifs form → taken_sample m ≡ form_now part port_bit kept form 0 (Some t) m
    samples_so ifs m low =
        form_sampled part counts taken_sample final port_bit kept held sampled form (begin_at 0 0 []) (only_timer part form front) itself ifs (Some t) (sym whole) 0 m refl (omega arith) (omega arith)

  -- WHICH ENABLES ARE ACTIVE, by the same samples
  module _ (other : ℕ → Bool) (same : (m : ℕ) → m < length (island_gathered part form front).points → taken_sample m ≡ other m) where
    abbrev pub offset_at : PlainOccurrence → Option ℕ
    offset_at = entries.offset_now part counts other (island_gathered part form front) held

    pub active_so : (m : ℕ) (u : PlainOccurrence) → slice_get (island_gathered part form front).occurrences m ≡ Some u → is_active m ≡ is_there (offset_at u)
    active_so m u e =
        let l = lists.occurrences m u e in
        active_is groups x first (island_of (form_length part form) final) around registers look count done looks m u e l.0 l.1
        ∙ ap₂ (λ a w. a && (not (nat_lt (count u.timer) u.from) && (nat_lt (count u.timer) u.to && w))) (runs_so u.timer l.0) (wanted_same other same u.samples l.1)
        ∙ active_there u.from u.to (count u.timer) (are_wanted counts other u.samples) (counts u.timer) (λ c f. count_so u.timer l.0 c f)

    whole_other : live_in counts other (begin_at 0 0 []) (form_length part form) ≡ Some t
    whole_other = let same : t - 0 ≡ t = omega arith in ap (range_in 0 (form_length part form)) first_is ∙ at_in 0 (form_length part form) t (omega arith) (omega arith) ∙ ap Some same

    pub entries_so : entries.active_among part counts other (island_gathered part form front) held (island_gathered part form front).occurrences ≡ form_by part other entry_at no_entry form 0 t
    entries_so =
        entries.form_entries part counts other final held form (begin_at 0 0 []) (only_timer part form front) (record { timers = λ n timer f. f; cells = λ c cell f. f; points = λ n p f. f })
        ∙ ap (λ o. entries.by_live {A = Entry} o (form_by part other entry_at no_entry form 0)) whole_other
