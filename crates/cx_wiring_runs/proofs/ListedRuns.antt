-- THE LISTS OF AN ISLAND RUN AS THE ISLAND, where no static if in it is empty.
use Rattle.std.proofs.Common.{◌≡◌, ℕ, zero, suc, ◌+◌, ◌-◌, ◌<◌, Bool, List, [], Option, Some, slice_get, refl, sym, ap, ◌∙◌, subst, arith}
use Rattle.std.proofs.Math.Path.{fun_ext}
use Rattle.cx_meaning.specs.declared.ports.PortRef.{PortRef}
use Rattle.cx_meaning.specs.Designs.{PlainCell, PlainComponent, PlainForm, Placed, no_place}
use Rattle.cx_meaning.specs.Instances.{Instance, part_of, State, idle}
use Rattle.cx_meaning.specs.Active.{Entry, nothing, entries}
use Rattle.cx_meaning.specs.Sights.{Look, Held, seen}
use Rattle.cx_meaning.specs.Cycles.{Fault, cycle}
use Rattle.cx_meaning.specs.Answers.{Answer, Turn, turn_then}
use Rattle.cx_meaning.specs.Islands.{Occurrence, form_length, form_flat, History, no_history, active_in, looked_at, and_now, first_unclear, unless_unclear, island_turn, island_from, island}
use Rattle.cx_laws.specs.Positions.{HasNoEmptyIf, entry_at, no_entry, no_port, port_at}
use Rattle.cx_laws.specs.Samples.{Samples, says, form_by, form_ifs, active_by, begun_by, AreKept}
use Rattle.cx_control.specs.Sampling as hardware
use Rattle.cx_control.proofs.SamplingLaws.{first_sampled, next_sampled, statement_alike}
use Rattle.cx_static.specs.declared.islands.IslandTimer.{IslandTimer}
use Rattle.cx_static.specs.Islands.{PlainIsland}
use Rattle.cx_static.specs.Lowering.{Gathered, begin_at, island_gathered, island_of}
use Rattle.cx_wiring.specs.TimerCounts.{nested, cycles_at, counts_in}
use Rattle.cx_wiring.proofs.ListedLaws.{AreListed, only_timer, island_listed}
use Rattle.cx_wiring_cycles.proofs.IslandOffsets.{range_in, at_in, live_in}
use Rattle.cx_wiring_cycles.proofs.EntryLaws as entry_laws
use Rattle.cx_wiring_cycles.proofs.EntryLaws.{by_live, Extends}
use Rattle.cx_wiring_cycles.proofs.WireSamples.{form_sampled}
use Rattle.cx_wiring_cycles.proofs.TimerHolds.{counts_hold, counts_first}
use Rattle.cx_wiring_cycles.proofs.IslandCycle.{outer_before}
use Rattle.cx_wiring_runs.specs.Listed.{sampled_from, begun_among, active_among, samples_now, listed_turn, listed_from, listed_island}
use Rattle.cx_wiring_runs.proofs.ListedBegun as begun_laws
use Rattle.cx_wiring_runs.proofs.ListedSamples.{point_takes, active_so, begun_so}
use Rattle.cx_text.proofs.ListLaws.{there_at}

-- the cells of timers are those that were gathered
abbrev pub SameCycles : PlainComponent → PlainForm → List PlainCell → List PlainCell → Type 0
SameCycles part form front cells = (n : ℕ) (timer : IslandTimer) → slice_get (island_gathered part form front).timers n ≡ Some timer → cycles_at cells timer.cell ≡ cycles_at (island_gathered part form front).cells timer.cell

-- IN ONE CYCLE
module _ (part : PlainComponent) (form : PlainForm) (front cells : List PlainCell) (same : SameCycles part form front cells) (t : ℕ) (less : t < form_length part form) where
  abbrev final : Gathered
  final = island_gathered part form front

  abbrev pub counts : ℕ → Option ℕ
  counts = counts_in (cycles_at cells) (Some t) (island_gathered part form front).timers

  lists : AreListed part (island_gathered part form front)
  lists = island_listed part form front

  held : (n : ℕ) (timer : IslandTimer) → slice_get (island_gathered part form front).timers n ≡ Some timer → (outer : ℕ) → timer.outer ≡ Some outer
      → counts n ≡ nested timer.from timer.to (cycles_at (island_gathered part form front).cells timer.cell) (counts outer)
  held n timer e outer f =
      counts_hold (cycles_at cells) (Some t) final.timers (outer_before part form front) n timer e outer f ∙ ap (λ p. nested timer.from timer.to p (counts outer)) (same n timer e)

  first_is : counts 0 ≡ Some t
  first_is =
      let k = there_at final.timers 0 lists.some in
      counts_first (cycles_at cells) (Some t) final.timers (outer_before part form front) k.0 k.1 (lists.first k.0 k.1)

  itself : Extends (island_gathered part form front) (island_gathered part form front)
  itself = record { timers = λ n timer f. f; cells = λ c cell f. f; points = λ n p f. f }

  whole : (kept : Samples) → live_in counts kept (begin_at 0 0 []) (form_length part form) ≡ Some t
  whole kept = let none : t - 0 ≡ t = omega arith in ap (range_in 0 (form_length part form)) first_is ∙ at_in 0 (form_length part form) t (omega arith) (omega arith) ∙ ap Some none

  pub samples_so : HasNoEmptyIf part form → (now : PortRef → Bool) (kept : Samples) (m : ℕ) → m < form_ifs form
      → sampled_from counts now 0 (island_gathered part form front).points kept m ≡ hardware.samples_now part now t form kept m
  samples_so fine now kept m low =
      let all = sampled_from counts now 0 final.points kept in
      form_sampled part counts all final now kept held (λ n p e. point_takes counts now final.points kept n p e (lists.points n p e).1) form (begin_at 0 0 []) (only_timer part form front) itself fine (Some t) (sym (whole all)) 0 m refl (omega arith) (omega arith)

  pub active_is : (kept : Samples) → active_among counts kept (island_gathered part form front).occurrences ≡ active_by part kept t form
  active_is kept =
      active_so counts kept final.occurrences (entry_laws.active_among part counts kept final held) refl (λ o rest. refl)
      ∙ entry_laws.form_entries part counts kept final held form (begin_at 0 0 []) (only_timer part form front) itself
      ∙ ap (λ o. by_live {A = Entry} o (form_by part kept entry_at no_entry form 0)) (whole kept)

  pub begun_is : HasNoEmptyIf part form → (kept : Samples) → begun_among counts kept (island_gathered part form front).points ≡ begun_by part kept t form
  begun_is fine kept =
      begun_so counts kept final.points (begun_laws.ports_among part counts kept final held) refl (λ p rest. refl)
      ∙ begun_laws.form_begun part counts kept final held form (begin_at 0 0 []) (only_timer part form front) itself fine
      ∙ ap (λ o. by_live {A = PortRef} o (form_by part kept no_port port_at form 0)) (whole kept)

-- ALL CYCLES, of an instance whose samples give what is active and what begins
module _ (i : Instance) (around : Held) (form : PlainForm) (front cells : List PlainCell) (same : SameCycles (part_of i) form front cells) (fine : HasNoEmptyIf (part_of i) form)
    (by_active : (h : History) (t : ℕ) (kept : Samples) → AreKept (part_of i) h t form kept → t < form_length (part_of i) form → active_by (part_of i) kept t form ≡ active_in h t (form_flat (part_of i) form 0 []))
    (by_begun : (h : History) (t : ℕ) (kept : Samples) → AreKept (part_of i) h t form kept → t < form_length (part_of i) form → begun_by (part_of i) kept t form ≡ looked_at h t (form_flat (part_of i) form 0 [])) where
  abbrev part : PlainComponent
  part = part_of i

  abbrev flat : List Occurrence
  flat = form_flat (part_of i) form 0 []

  abbrev island_lists : PlainIsland
  island_lists = island_of (form_length (part_of i) form) (island_gathered (part_of i) form front)

  abbrev see : State → Look
  see s = seen i around nothing s

  -- the samples of a cycle are kept in it
  abbrev Before : ℕ → History → Samples → Type 0
  Before t h kept = (u : ℕ) → t ≡ suc u → AreKept (part_of i) h u form kept

  abbrev taken : ℕ → State → Samples → Samples
  taken t s kept = samples_now i around cells island_lists t s kept

  are_kept : (t : ℕ) (h : History) (kept : Samples) (s : State) → t < form_length (part_of i) form → Before t h kept → AreKept (part_of i) (and_now h t (see s)) t form (taken t s kept)
  are_kept t h kept s less before =
      statement_alike (part_of i) (and_now h t (see s)) t (hardware.samples_now (part_of i) (says (see s)) t form kept) (taken t s kept) (Placed form no_place) 0 t
      (λ m low high. sym (samples_so (part_of i) form front cells same t less fine (says (see s)) kept m (omega arith))) (by t before less)
    where
      by : (u : ℕ) → Before u h kept → u < form_length (part_of i) form → AreKept (part_of i) (and_now h u (see s)) u form (hardware.samples_now (part_of i) (says (see s)) u form kept)
      by zero b l = first_sampled (part_of i) form h (see s) kept l
      by (suc u) b l = next_sampled (part_of i) form h u (see s) kept l (b u refl)

  turn_is : (t : ℕ) (h : History) (kept : Samples) (s : State) → t < form_length (part_of i) form → AreKept (part_of i) h t form kept → listed_turn i around cells island_lists t kept s ≡ island_turn i around flat t h s
  turn_is t h kept s less k =
      let ports = begun_is part form front cells same t less fine kept ∙ by_begun h t kept k less in
      let groups = active_is part form front cells same t less kept ∙ by_active h t kept k less in
      ap (λ ps. unless_unclear (first_unclear (see s) ps) (cycle i around (entries (active_among (counts part form front cells same t less) kept (island_gathered (part_of i) form front).occurrences)) s)) ports
      ∙ ap (λ es. unless_unclear (first_unclear (see s) (looked_at h t flat)) (cycle i around (entries es) s)) groups

  same_then : (s : State) (turn other : Turn State Fault) (go more : State → Answer State Fault) → turn ≡ other → ((after : State) → go after ≡ more after) → turn_then (idle i) s turn go ≡ turn_then (idle i) s other more
  same_then s turn other go more e f = ap (λ x. turn_then (idle i) s x go) e ∙ ap (turn_then (idle i) s other) (fun_ext f)

  cycles_are : (left t : ℕ) (h : History) (kept : Samples) → t + left ≡ form_length (part_of i) form → Before t h kept → (s : State) (n : ℕ) → listed_from i around cells island_lists left t kept s n ≡ island_from i around flat left t h s n
  cycles_are zero t h kept e before s n = refl
  cycles_are (suc left) t h kept e before s zero = refl
  cycles_are (suc left) t h kept e before s (suc n) =
      let now = are_kept t h kept s (omega arith) before in
      same_then s _ _ _ _
      (turn_is t (and_now h t (see s)) (taken t s kept) s (omega arith) now)
      (λ after. cycles_are left (suc t) (and_now h t (see s)) (taken t s kept) (omega arith) (λ u same_time. next u same_time now) after n)
    where
      next : (u : ℕ) → suc t ≡ suc u → AreKept (part_of i) (and_now h t (see s)) t form (taken t s kept) → AreKept (part_of i) (and_now h t (see s)) u form (taken t s kept)
      next u e2 k = let f : t ≡ u = omega arith in subst (λ v. AreKept (part_of i) (and_now h t (see s)) v form (taken t s kept)) f k

  pub lists_run : (kept : Samples) (s : State) (n : ℕ) → listed_island i around cells island_lists kept s n ≡ island i around form s n
  lists_run kept s n = cycles_are (form_length (part_of i) form) 0 no_history kept (omega arith) (λ u e. absurd cc) s n
