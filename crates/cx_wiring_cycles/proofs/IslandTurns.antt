-- ONE CYCLE OF AN ISLAND where control stands at it: what goes, and its numbers after the edge.
use Rattle.std.proofs.Common.{◌≡◌, ℕ, zero, suc, ◌+◌, ◌-◌, ◌^◌, ◌<◌, ◌≤◌, ◌==◌, ◌&&◌, not, Bool, true, false, if◌then◌else◌, List, [], ◌∷◌, ◌++◌, length, Option, Some, None, unwrap_or, slice_get, refl, sym, ap, ◌∙◌, subst, arith}
use Rattle.std.proofs.lemmas.Bool.{eq-eqb, ne_eqb, lt-ltb, and_left}
use Rattle.cx_bits.specs.BitVector.{BitVector, zero_of}
use Rattle.cx_prim.specs.CellStates.{CellState, Timer}
use Rattle.cx_prim.specs.PipeRows.{timer_idle, timer_go}
use Rattle.cx_meaning.specs.Designs.{PlainCell, PlainComponent, PlainForm}
use Rattle.cx_meaning.specs.Islands.{or_zero, form_length}
use Rattle.cx_meaning.specs.Active.{Entry}
use Rattle.cx_laws.specs.Positions.{FormIfs}
use Rattle.cx_laws.specs.Samples.{Samples, form_ifs, active_by}
use Rattle.cx_control.specs.Sampling.{form_now}
use Rattle.cx_control.specs.Leaves.{Cycle, LastTurn}
use Rattle.cx_control.specs.Controls.{bit, island_other}
use Rattle.cx_net.specs.Nets.{OfPort, ToRegister, ToWire, ToHole}
use Rattle.cx_net.specs.NetMeaning.{Node, NetAround, is_true, truth_bit}
use Rattle.cx_static.specs.declared.islands.IslandTimer.{IslandTimer}
use Rattle.cx_static.specs.Islands.{PlainOccurrence, PlainIsland}
use Rattle.cx_static.specs.Lowering.{Gathered, begin_at, island_gathered, island_of}
use Rattle.cx_wiring.specs.Parts.{equals}
use Rattle.cx_wiring.specs.Stands.{Stand, at}
use Rattle.cx_wiring.specs.IslandDrivers as wired
use Rattle.cx_wiring.specs.IslandDrivers.{island_drivers}
use Rattle.cx_wiring.specs.Takings.{value, Says, takes}
use Rattle.cx_wiring.specs.TimerCounts.{cycles_at, counts_in}
use Rattle.cx_wiring.proofs.TakingLemmas.{says_both, says_equals}
use Rattle.cx_wiring.proofs.ListedLaws.{AreListed, TimerFits, island_listed, only_timer}
use Rattle.cx_wiring_cycles.specs.Shown.{wide, told}
use Rattle.cx_wiring_cycles.specs.IslandNumbers.{count_in, done_bit, cell_of_timer, timer_counts, are_in_step, island_number}
use Rattle.cx_wiring_cycles.proofs.EntryLaws as entries
use Rattle.cx_wiring_cycles.proofs.EntryLaws.{form_points}
use Rattle.cx_wiring_cycles.proofs.TimerHolds.{all_counts}
use Rattle.cx_wiring_cycles.proofs.CycleBits.{is_there}
use Rattle.cx_wiring_cycles.proofs.IslandValues.{IslandLooks, live, sample, all_wanted, count_is, live_first, live_within, says_begins, active_is}
use Rattle.cx_wiring_cycles.proofs.IslandCycle as cycle
use Rattle.cx_wiring_cycles.proofs.IslandHoles.{among, holes_so}
use Rattle.cx_wiring_cycles.proofs.IslandOwns.{goings}
use Rattle.cx_wiring_cycles.proofs.OffsetWalk.{offset_told}
use Rattle.cx_wiring_cycles.proofs.IslandWires.{live_from, nested_small, wires_so}
use Rattle.cx_wiring_cycles.proofs.IslandSteps as steps_laws
use Rattle.cx_wiring_cycles.proofs.IslandKeeps.{register_is}
use Rattle.cx_wiring_cycles.proofs.IslandIdles.{count_rests, done_rests}
use Rattle.cx_text.proofs.ListLaws.{there_below, there_at}

-- a count that is one of a cycle is in step
counted_so : (b : Bool) (c len t : ℕ) → (if b then c else suc len) ≡ t → t < len → (b ≡ true) × (c ≡ t)
counted_so true c len t e less = (refl, e)
counted_so false c len t e less = absurd (omega arith)

off_so : (b : Bool) → ◌≡◌ {A = ℕ} (if b then 1 else 0) 0 → b ≡ false
off_so true e = absurd (omega arith)
off_so false e = refl

on_so : (b : Bool) → ◌≡◌ {A = ℕ} (if b then 1 else 0) 1 → b ≡ true
on_so true e = refl
on_so false e = absurd (omega arith)

none_among : (list : List PlainOccurrence) → among (λ u. None) list ≡ []
none_among [] = refl
none_among (u ∷ rest) = none_among rest

module _ (part : PlainComponent) (form : PlainForm) (front cells : List PlainCell) (groups : ℕ) (y : Stand) (first : ℕ) (around : NetAround) (registers : ℕ → Option BitVector) (look : Node → Option BitVector) (now next : ℕ → CellState) (kept later : ℕ → ℕ)
    (looks : IslandLooks groups y first (island_of (form_length part form) (island_gathered part form front)) around registers look (timer_counts cells now kept (island_gathered part form front).timers) (done_bit (now (cell_of_timer (island_gathered part form front).timers 0))))
    (cycles_are : (n : ℕ) (timer : IslandTimer) → slice_get (island_gathered part form front).timers n ≡ Some timer → cycles_at cells timer.cell ≡ cycles_at (island_gathered part form front).cells timer.cell)
    (some : (n : ℕ) (timer : IslandTimer) → slice_get (island_gathered part form front).timers n ≡ Some timer → 0 < cycles_at cells timer.cell)
    (is_timer : (n : ℕ) (timer : IslandTimer) → slice_get (island_gathered part form front).timers n ≡ Some timer → now timer.cell ≡ Timer (count_in (now timer.cell)) (done_bit (now timer.cell)))
    (steps : (n : ℕ) (timer : IslandTimer) → slice_get (island_gathered part form front).timers n ≡ Some timer
    → next timer.cell
    ≡ (if live groups y first (island_of (form_length part form) (island_gathered part form front)) around registers look (timer_counts cells now kept (island_gathered part form front).timers) (done_bit (now (cell_of_timer (island_gathered part form front).timers 0))) looks n
    then timer_go (cycles_at cells timer.cell) (now timer.cell) else timer_idle (now timer.cell)))
    (samples : (m : ℕ) (old new : BitVector) → m < length (island_gathered part form front).points → old.value ≡ kept (y.register + m)
    → takes around registers look (ToRegister (y.register + m)) (Some old) (island_drivers groups y first (island_of (form_length part form) (island_gathered part form front))) ≡ Some new → later (y.register + m) ≡ new.value)
    (regs : (m : ℕ) → m < length (island_gathered part form front).points → registers (y.register + m) ≡ Some (record { width = 1; value = kept (y.register + m) }))
    (here : Says around registers look (at y) true) where
  abbrev final : Gathered
  final = island_gathered part form front

  abbrev island : PlainIsland
  island = island_of (form_length part form) (island_gathered part form front)

  abbrev lists : AreListed part (island_gathered part form front)
  lists = island_listed part form front

  abbrev count : ℕ → ℕ
  count = timer_counts cells now kept (island_gathered part form front).timers

  abbrev done : Bool
  done = done_bit (now (cell_of_timer (island_gathered part form front).timers 0))

  abbrev runs : ℕ → Bool
  runs = live groups y first (island_of (form_length part form) (island_gathered part form front)) around registers look (timer_counts cells now kept (island_gathered part form front).timers) (done_bit (now (cell_of_timer (island_gathered part form front).timers 0))) looks

  abbrev S : ℕ → Bool
  S = sample groups y first (island_of (form_length part form) (island_gathered part form front)) around registers look (timer_counts cells now kept (island_gathered part form front).timers) (done_bit (now (cell_of_timer (island_gathered part form front).timers 0))) looks

  -- its numbers before and after the edge
  abbrev Now : ℕ → ℕ
  Now = island_number cells now kept (Some (island_of (form_length part form) (island_gathered part form front))) y.register

  abbrev Later : ℕ → ℕ
  Later = island_number cells next later (Some (island_of (form_length part form) (island_gathered part form front))) y.register

  points_are : length (island_gathered part form front).points ≡ form_ifs form
  points_are = form_points part form (begin_at 0 0 []) (only_timer part form front) ∙ omega arith

  last_says : (t : ℕ) → count 0 ≡ t → Says around registers look (wired.in_last_cycle groups y first (island_of (form_length part form) (island_gathered part form front))) (t == form_length part form - 1)
  last_says t e =
      says_both around registers look (at y) (equals (wired.count groups y first island 0) (form_length part form - 1)) true (count 0 == form_length part form - 1) here
      (says_equals around registers look (wired.count groups y first island 0) (wide (count 0)) (form_length part form - 1) (count_is groups y first island around registers look count done looks 0 lists.some))
      ∙ ap (λ c. Some (truth_bit (c == form_length part form - 1))) e

  shown_sample : (m : ℕ) (other : ℕ → ℕ) → m < form_ifs form → ((j : ℕ) → j < 2 + form_ifs form → Now j ≡ other j) → kept (y.register + m) ≡ other (suc (suc m))
  shown_sample m other low shows =
      let points : length final.points ≡ form_ifs form = points_are in
      sym (ap (λ b. if b then kept (y.register + m) else 0) (lt-ltb m (length final.points) (omega arith))) ∙ shows (suc (suc m)) (omega arith)

  -- A CYCLE
  module _ (ifs : FormIfs (λ n. 0 < n) part form) (t : ℕ) (sampled : Samples) (less : t < form_length part form) (shows : (m : ℕ) → m < 2 + form_ifs form → Now m ≡ island_other (Cycle t sampled) m) (machine : Samples)
      (saw : (m : ℕ) → m < form_ifs form → form_now part (λ p. is_true (unwrap_or (value around registers look (OfPort p)) (zero_of 1))) sampled form 0 (Some t) m ≡ machine m) where
    counted : (are_in_step cells now kept (island_gathered part form front).timers ≡ true) × (count 0 ≡ t)
    counted = counted_so (are_in_step cells now kept final.timers) (count 0) (form_length part form) t (shows 0 (omega arith)) less

    pub undone : done ≡ false
    undone = off_so done (shows 1 (omega arith))

    in_step : (m : ℕ) → m < length (island_gathered part form front).timers → count m ≡ or_zero (counts_in (cycles_at cells) (Some t) (island_gathered part form front).timers m)
    in_step m there =
        all_counts count (counts_in (cycles_at cells) (Some (count 0)) final.timers) (length final.timers) counted.0 m there ∙ ap (λ c. or_zero (counts_in (cycles_at cells) (Some c) final.timers m)) counted.1

    kept_is : (m : ℕ) → m < length (island_gathered part form front).points → kept (y.register + m) ≡ bit (sampled m)
    kept_is m there = let points : length final.points ≡ form_ifs form = points_are in shown_sample m (island_other (Cycle t sampled)) (omega arith) shows

    kept_so : (m : ℕ) → m < length (island_gathered part form front).points → registers (y.register + m) ≡ Some (truth_bit (sampled m))
    kept_so m there = regs m there ∙ ap (λ n. Some (record { width = 1; value = n })) (kept_is m there)

    runs_so : (m : ℕ) → m < length (island_gathered part form front).timers → runs m ≡ is_there (counts_in (cycles_at cells) (Some t) (island_gathered part form front).timers m)
    runs_so = cycle.runs_so part form front groups y first around registers look count done looks t less (cycles_at cells) cycles_are here undone in_step

    sample_is : (m : ℕ) → m < form_ifs form → S m ≡ machine m
    sample_is m low = cycle.samples_so part form front groups y first around registers look count done looks t less (cycles_at cells) cycles_are here undone in_step sampled kept_so ifs m low ∙ saw m low

    same : (m : ℕ) → m < length (island_gathered part form front).points → S m ≡ machine m
    same m there = let points : length final.points ≡ form_ifs form = points_are in sample_is m (omega arith)

    -- WHAT GOES: the groups that are active by the samples of the machine
    abbrev offset : PlainOccurrence → Option ℕ
    offset = cycle.offset_at part form front groups y first around registers look count done looks t less (cycles_at cells) cycles_are here undone in_step machine same

    among_is : (list : List PlainOccurrence)
        → among offset list
        ≡ entries.active_among part (counts_in (cycles_at cells) (Some t) (island_gathered part form front).timers) machine (island_gathered part form front)
        (cycle.held part form front groups y first around registers look count done looks t less (cycles_at cells) cycles_are here undone in_step) list
    among_is [] = refl
    among_is (u ∷ rest) = ap (λ (l : List Entry). entries.by_live {A = Entry} (offset u) (λ j. record { group = u.group; offset = j } ∷ []) ++ l) (among_is rest)

    pub goes_so : (g : ℕ) (o : Option BitVector) → takes around registers look (ToHole (groups + g)) o (island_drivers groups y first (island_of (form_length part form) (island_gathered part form front))) ≡ told g o (goings (active_by part machine t form))
    goes_so g o =
        holes_so groups y first island around registers look count done looks offset
        (cycle.active_so part form front groups y first around registers look count done looks t less (cycles_at cells) cycles_are here undone in_step machine same) g o
        ∙ ap (λ l. told g o (goings l)) (among_is final.occurrences
        ∙ cycle.entries_so part form front groups y first around registers look count done looks t less (cycles_at cells) cycles_are here undone in_step machine same)

    -- AND THEIR OFFSETS
    counts_few : t < 2 ^ 32 → ((n : ℕ) (timer : IslandTimer) → slice_get (island_gathered part form front).timers n ≡ Some timer → cycles_at cells timer.cell < 2 ^ 32) → (m : ℕ) → m < length (island_gathered part form front).timers → (c : ℕ)
        → counts_in (cycles_at cells) (Some t) (island_gathered part form front).timers m ≡ Some c → c < 2 ^ 32
    counts_few low few zero there c e =
        let same : t ≡ c = of_some t c (sym (cycle.first_is part form front groups y first around registers look count done looks t less (cycles_at cells) cycles_are here undone in_step) ∙ e) in subst (λ n. n < 2 ^ 32) same low
      where
        of_some : (a b : ℕ) → ◌≡◌ {A = Option ℕ} (Some a) (Some b) → a ≡ b
        of_some a b f = cc
    counts_few low few (suc m) there c e =
        let k = there_at final.timers (suc m) there in
        let w = lists.within (suc m) k.0 k.1 (omega arith) in
        let p = cycles_are (suc m) k.0 k.1 in
        let below : c < cycles_at final.cells k.0.cell = nested_small k.0.from k.0.to (cycles_at final.cells k.0.cell) (counts_in (cycles_at cells) (Some t) final.timers w.0) c (subst (λ n. 0 < n) p (some (suc m) k.0 k.1))
        (sym (cycle.held part form front groups y first around registers look count done looks t less (cycles_at cells) cycles_are here undone in_step (suc m) k.0 k.1 w.0 w.1) ∙ e) in
        let small : cycles_at final.cells k.0.cell < 2 ^ 32 = subst (λ n. n < 2 ^ 32) p (few (suc m) k.0 k.1) in omega (arith, below, small)

    pub offsets_so : groups ≤ first → t < 2 ^ 32 → ((n : ℕ) (timer : IslandTimer) → slice_get (island_gathered part form front).timers n ≡ Some timer → cycles_at cells timer.cell < 2 ^ 32) → (g : ℕ) → g < groups → (o : Option BitVector)
        → takes around registers look (ToWire g) o (island_drivers groups y first (island_of (form_length part form) (island_gathered part form front))) ≡ offset_told g o (active_by part machine t form)
    offsets_so above low few g inside o =
        wires_so groups y first island around registers look count done looks above offset
        (cycle.active_so part form front groups y first around registers look count done looks t less (cycles_at cells) cycles_are here undone in_step machine same)
        (λ m u e j f.
        let l = lists.occurrences m u e in
        let k = live_from (counts_in (cycles_at cells) (Some t) final.timers) machine (begin_at u.timer u.from u.samples) (u.to - u.from) j f in
        let is : count u.timer ≡ k.0 = in_step u.timer l.0 ∙ ap or_zero k.1 in (
          l.0,
          is ∙ k.2,
          subst (λ n. n < 2 ^ 32) (sym is) (counts_few low few u.timer l.0 k.0 k.1),
        )) g inside o
        ∙ ap (offset_told g o) (among_is final.occurrences
        ∙ cycle.entries_so part form front groups y first around registers look count done looks t less (cycles_at cells) cycles_are here undone in_step machine same)

    -- THE SAMPLES after the edge
    later_sample : (m : ℕ) → m < form_ifs form → later (y.register + m) ≡ bit (if t == form_length part form - 1 then false else machine m)
    later_sample m low =
        let points : length final.points ≡ form_ifs form = points_are in
        let there : m < length final.points = omega arith in
        let p = there_at final.points m there in
        samples m (truth_bit (sampled m)) (truth_bit (if t == form_length part form - 1 then false else S m)) there (sym (kept_is m there))
        (register_is groups y first island around registers look m p.0 (Some (truth_bit (sampled m))) (t == form_length part form - 1)
        (cycle.begins_now part form front groups y first around registers look count done looks t less (cycles_at cells) cycles_are here undone in_step sampled kept_so p.0) (S m) p.1 (last_says t counted.1)
        (cycle.begins_says part form front groups y first around registers look count done looks t less (cycles_at cells) cycles_are here undone in_step sampled kept_so m p.0 p.1)
        (cycle.takes_port part form front groups y first around registers look count done looks t less (cycles_at cells) cycles_are here undone in_step sampled kept_so m p.0 p.1))
        ∙ ap (λ b. bit (if t == form_length part form - 1 then false else b)) (sample_is m low)

    -- ITS NUMBERS where it goes on
    pub numbers_go : suc t < form_length part form → (m : ℕ) → m < 2 + form_ifs form → Later m ≡ island_other (Cycle (suc t) machine) m
    numbers_go more zero low = steps_laws.count_goes part form front cells now next kept later t less cycles_are some is_timer in_step runs runs_so steps more
    numbers_go more (suc zero) low =
        steps_laws.done_next part form front cells now next kept later t less cycles_are some is_timer in_step runs runs_so steps
        ∙ ap (λ b. if b then 1 else 0) (ne_eqb (t + 1) (form_length part form) (λ e. omega arith))
    numbers_go more (suc (suc m)) low =
        let points : length final.points ≡ form_ifs form = points_are in
        ap (λ b. if b then later (y.register + m) else 0) (lt-ltb m (length final.points) (omega arith)) ∙ later_sample m (omega arith)
        ∙ ap (λ b. bit (if b then false else machine m)) (ne_eqb t (form_length part form - 1) (λ e. omega arith))

    -- and where it ends
    pub numbers_end : suc t ≡ form_length part form → (m : ℕ) → m < 2 + form_ifs form → Later m ≡ island_other LastTurn m
    numbers_end last zero low = steps_laws.count_ends part form front cells now next kept later t less cycles_are some is_timer in_step runs runs_so steps last
    numbers_end last (suc zero) low =
        steps_laws.done_next part form front cells now next kept later t less cycles_are some is_timer in_step runs runs_so steps
        ∙ ap (λ b. if b then 1 else 0) (eq-eqb (t + 1) (form_length part form) (omega arith))
    numbers_end last (suc (suc m)) low =
        let points : length final.points ≡ form_ifs form = points_are in
        ap (λ b. if b then later (y.register + m) else 0) (lt-ltb m (length final.points) (omega arith)) ∙ later_sample m (omega arith)
        ∙ ap (λ b. bit (if b then false else machine m)) (eq-eqb t (form_length part form - 1) (omega arith))

  -- THE LAST TURN: nothing runs, so all comes to rest
  module _ (shows : (m : ℕ) → m < 2 + form_ifs form → Now m ≡ island_other LastTurn m) where
    pub its_done : done ≡ true
    its_done = on_so done (shows 1 (omega arith))

    none_below : (bound m : ℕ) → m < bound → m < length (island_gathered part form front).timers → runs m ≡ false
    none_below zero m low there = absurd (omega arith)
    none_below (suc bound) zero low there =
        let k = there_at final.timers 0 there in
        live_first groups y first island around registers look count done looks k.0 true k.1 (lists.first k.0 k.1) here ∙ ap not its_done
    none_below (suc bound) (suc m) low there =
        let k = there_at final.timers (suc m) there in
        let w = lists.within (suc m) k.0 k.1 (omega arith) in
        let before : w.0 < suc m = TimerFits.before w.2 in
        let around_there : w.0 < length final.timers = omega arith in
        live_within groups y first island around registers look count done looks (suc m) w.0 k.0 k.1 w.1 around_there ∙ and_left (runs w.0) _ (none_below bound w.0 (omega arith) around_there)

    none_runs : (m : ℕ) → m < length (island_gathered part form front).timers → runs m ≡ false
    none_runs m there = none_below (suc m) m (omega arith) there

    rests : (n : ℕ) (timer : IslandTimer) → slice_get (island_gathered part form front).timers n ≡ Some timer → next timer.cell ≡ Timer 0 false
    rests n timer e =
        steps n timer e ∙ ap (λ b. if b then timer_go (cycles_at cells timer.cell) (now timer.cell) else timer_idle (now timer.cell)) (none_runs n (there_below final.timers n timer e)) ∙ ap timer_idle (is_timer n timer e)

    pub none_goes : (g : ℕ) (o : Option BitVector) → takes around registers look (ToHole (groups + g)) o (island_drivers groups y first (island_of (form_length part form) (island_gathered part form front))) ≡ o
    none_goes g o =
        holes_so groups y first island around registers look count done looks (λ u. None)
        (λ m u e. let l = lists.occurrences m u e in active_is groups y first island around registers look count done looks m u e l.0 l.1 ∙ and_left (runs u.timer) _ (none_runs u.timer l.0)) g o
        ∙ ap (λ l. told g o (goings l)) (none_among final.occurrences)

    pub none_offsets : groups ≤ first → (g : ℕ) → g < groups → (o : Option BitVector) → takes around registers look (ToWire g) o (island_drivers groups y first (island_of (form_length part form) (island_gathered part form front))) ≡ o
    none_offsets above g inside o =
        wires_so groups y first island around registers look count done looks above (λ u. None)
        (λ m u e. let l = lists.occurrences m u e in active_is groups y first island around registers look count done looks m u e l.0 l.1 ∙ and_left (runs u.timer) _ (none_runs u.timer l.0)) (λ m u e j f. absurd cc) g inside o
        ∙ ap (offset_told g o) (none_among final.occurrences)

    kept_zero : (m : ℕ) → m < length (island_gathered part form front).points → kept (y.register + m) ≡ 0
    kept_zero m there = let points : length final.points ≡ form_ifs form = points_are in shown_sample m (island_other LastTurn) (omega arith) shows

    later_zero : (m : ℕ) → m < length (island_gathered part form front).points → later (y.register + m) ≡ 0
    later_zero m there =
        let p = there_at final.points m there in
        let l = lists.points m p.0 p.1 in
        let begun = runs p.0.timer && ((count p.0.timer == p.0.at) && all_wanted groups y first island around registers look count done looks p.0.samples) in
        let none : begun ≡ false = and_left (runs p.0.timer) _ (none_runs p.0.timer l.0) in
        samples m (truth_bit false) (truth_bit (if count 0 == form_length part form - 1 then false else false)) there (sym (kept_zero m there))
        (register_is groups y first island around registers look m p.0 (Some (truth_bit false)) (count 0 == form_length part form - 1) begun false p.1 (last_says (count 0) refl)
        (says_begins groups y first island around registers look count done looks p.0 l.0 (λ s i. let low : s.point < m = l.1 s i in omega arith))
        (ap (λ b. if b then value around registers look (OfPort p.0.port) else Some (truth_bit false)) none))
        ∙ by (count 0 == form_length part form - 1)
      where
        by : (b : Bool) → bit (if b then false else false) ≡ 0
        by true = refl
        by false = refl

    pub numbers_rest : (m : ℕ) → m < 2 + form_ifs form → Later m ≡ 0
    numbers_rest zero low = count_rests cells next later island lists.some rests
    numbers_rest (suc zero) low = done_rests cells next later island lists.some rests
    numbers_rest (suc (suc m)) low =
        let points : length final.points ≡ form_ifs form = points_are in
        let there : m < length final.points = omega arith in
        ap (λ b. if b then later (y.register + m) else 0) (lt-ltb m (length final.points) there) ∙ later_zero m there
