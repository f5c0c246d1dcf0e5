-- Which offsets an island gives in one cycle: of each group that is active, counted from the first count of its range.
use Rattle.std.proofs.Common.{◌≡◌, ℕ, zero, suc, ◌+◌, ◌-◌, ◌*◌, ◌%◌, ◌^◌, ◌<◌, ◌≤◌, ◌==◌, ◌&&◌, nat_le, nat_lt, Bool, true, false, if◌then◌else◌, List, [], ◌∷◌, ◌++◌, length, Option, Some, None, slice_get, refl, sym, ap, ◌∙◌, subst, arith}
use Rattle.std.proofs.lemmas.Bool.{ne_eqb}
use Rattle.std.proofs.Math.Nat.{mod-eq_of_lt}
use Rattle.std.proofs.lemmas.Nat.{mod_below, mod-mul-add}
use Rattle.cx_bits.specs.BitVector.{BitVector}
use Rattle.cx_bits.specs.Operators.{sum_of}
use Rattle.cx_laws.specs.Positions.{entry_at}
use Rattle.cx_net.specs.Nets.{OfWire, ToWire}
use Rattle.cx_net.specs.NetMeaning.{Node, NetAround, truth_bit, same_target, both_known}
use Rattle.cx_static.specs.declared.islands.IslandTimer.{IslandTimer}
use Rattle.cx_static.specs.Lowering.{Begin}
use Rattle.cx_control.specs.Sampling.{where_so}
use Rattle.cx_wiring.specs.TimerCounts.{nested}
use Rattle.cx_wiring.specs.Parts.{both, drive, connect}
use Rattle.cx_static.specs.Islands.{PlainPoint, PlainOccurrence, PlainIsland}
use Rattle.cx_wiring.specs.Stands.{Stand, at, ends}
use Rattle.cx_wiring.specs.IslandDrivers as wired
use Rattle.cx_wiring.specs.IslandDrivers.{timer_drivers, point_drivers, occurrence_drivers, island_drivers}
use Rattle.cx_wiring.specs.Bounds.{AllDrive}
use Rattle.cx_wiring.specs.Takings.{value, Says, takes, takes_of}
use Rattle.cx_wiring.proofs.TakingLemmas.{takes_append, takes_known, passes, others_pass}
use Rattle.cx_wiring_cycles.proofs.IslandOffsets.{range_in, Lies, lies, before, in_it, behind, at_before, at_in, at_behind, are_wanted, live_in}
use Rattle.cx_wiring_cycles.specs.Shown.{wide}
use Rattle.cx_wiring_cycles.proofs.EntryLaws.{by_live}
use Rattle.cx_wiring_cycles.proofs.CycleBits.{is_there}
use Rattle.cx_wiring_cycles.proofs.IslandHoles.{among}
use Rattle.cx_wiring_cycles.proofs.OffsetWalk.{offset_told, offset_both}
use Rattle.cx_wiring_cycles.proofs.IslandValues.{IslandLooks, active, says_active, count_is}
use Rattle.cx_text.proofs.ListLaws.{there_below}

-- a count less the first of its range, modulo a number above it
offset_sum : (m c from o : ℕ) → 0 < m → c ≡ from + o → c < m → (c + (m - from) % m) % m ≡ o
offset_sum m c zero o some e less =
    let whole : m - 0 ≡ 1 * m + 0 = omega arith in
    let alone : c + 0 ≡ o = omega (arith, e) in
    ap (λ n. (c + n) % m) (ap (λ n. n % m) whole ∙ mod-mul-add 1 m 0 some) ∙ ap (λ n. n % m) alone ∙ mod-eq_of_lt (let below : o < m = omega (arith, e, less) in below)
offset_sum m c (suc from) o some e less =
    let small : m - suc from < m = omega arith in
    let round : c + (m - suc from) ≡ 1 * m + o = omega (arith, e, less) in
    ap (λ n. (c + n) % m) (mod-eq_of_lt small) ∙ ap (λ n. n % m) round ∙ mod-mul-add 1 m o (omega (arith, e, less))

-- an offset is counted from the first count of the range
range_from : (from n o : ℕ) (c : Option ℕ) → range_in from n c ≡ Some o → (k : ℕ) × (c ≡ Some k) × (k ≡ from + o)
range_from from n o None e = absurd cc
range_from from n o (Some c) e = by (lies from n c)
  where
    none : ◌≡◌ {A = Option ℕ} None (Some o) → (k : ℕ) × (Some c ≡ Some k) × (k ≡ from + o)
    none f = absurd cc

    by : Lies from n c → (k : ℕ) × (Some c ≡ Some k) × (k ≡ from + o)
    by (before l) = none (sym (at_before from n c l) ∙ e)
    by (behind l f) = none (sym (at_behind from n c l f) ∙ e)
    by (in_it l f) = let same : c - from ≡ o = is_same (c - from) (sym (at_in from n c l f) ∙ e) in (c, refl, omega (arith, l, same))
      where
        is_same : (a : ℕ) → ◌≡◌ {A = Option ℕ} (Some a) (Some o) → a ≡ o
        is_same a g = cc

pub live_from : (counts : ℕ → Option ℕ) (kept : ℕ → Bool) (b : Begin) (n o : ℕ) → live_in counts kept b n ≡ Some o → (k : ℕ) × (counts b.timer ≡ Some k) × (k ≡ b.at + o)
live_from counts kept b n o e = by (are_wanted counts kept b.samples) e
  where
    by : (w : Bool) → where_so w (range_in b.at n (counts b.timer)) ≡ Some o → (k : ℕ) × (counts b.timer ≡ Some k) × (k ≡ b.at + o)
    by true f = range_from b.at n o (counts b.timer) f
    by false f = absurd cc

-- a timer within counts less than its cycles
pub nested_small : (from to p : ℕ) (o : Option ℕ) (c : ℕ) → 0 < p → nested from to p o ≡ Some c → c < p
nested_small from to p None c some e = absurd cc
nested_small from to p (Some k) c some e = by (nat_le from k && nat_lt k to) e
  where
    by : (b : Bool) → (if b then Some ((k - from) % p) else None) ≡ Some c → c < p
    by true f = let same : (k - from) % p ≡ c = cc in subst (λ n. n < p) same (mod_below (k - from) p some)
    by false f = absurd cc

module _ (groups : ℕ) (x : Stand) (first : ℕ) (island : PlainIsland) (around : NetAround) (registers : ℕ → Option BitVector) (look : Node → Option BitVector) (count : ℕ → ℕ) (done : Bool)
    (looks : IslandLooks groups x first island around registers look count done) (above : groups ≤ first) where
  -- the offset of an occurrence
  value_from : (u : PlainOccurrence) (o : ℕ) → u.timer < length island.timers → count u.timer ≡ u.from + o → count u.timer < 2 ^ 32
      → value around registers look (wired.offset_from groups x first island u) ≡ Some (wide o)
  value_from u o there e less =
      ap (λ z. both_known sum_of z (Some (wide ((2 ^ 32 - u.from) % 2 ^ 32)))) (count_is groups x first island around registers look count done looks u.timer there)
      ∙ ap (λ n. Some (wide n)) (offset_sum (2 ^ 32) (count u.timer) u.from o (omega arith) e less)

  offset_of : (g wire : ℕ) (u : PlainOccurrence) (offset : Option ℕ) (later : Option BitVector) → Says around registers look (OfWire wire) (is_there offset)
      → ((o : ℕ) → offset ≡ Some o → value around registers look (wired.offset_from groups x first island u) ≡ Some (wide o))
      → takes_of around registers look (u.group == g) (drive (ToWire u.group) (OfWire wire) (wired.offset_from groups x first island u)) later ≡ offset_told g later (by_live offset (entry_at u.group))
  offset_of g wire u None later h val = passes around registers look (u.group == g) (drive (ToWire u.group) (OfWire wire) (wired.offset_from groups x first island u)) later h
  offset_of g wire u (Some j) later h val = by (u.group == g)
    where
      by : (b : Bool) → takes_of around registers look b (drive (ToWire u.group) (OfWire wire) (wired.offset_from groups x first island u)) later ≡ (if b then Some (wide j) else later)
      by true = takes_known around registers look (drive (ToWire u.group) (OfWire wire) (wired.offset_from groups x first island u)) true later h ∙ val j refl
      by false = refl

  -- a wire that is no group's
  skip_wire : (g n : ℕ) (d : _) (later : Option BitVector) → (n ≡ g → ⊥) → takes_of around registers look (same_target (ToWire n) (ToWire g)) d later ≡ later
  skip_wire g n d later apart = ap (λ b. takes_of around registers look b d later) (ne_eqb n g apart)

  module _ (offset : PlainOccurrence → Option ℕ) (so : (m : ℕ) (u : PlainOccurrence) → slice_get island.occurrences m ≡ Some u → active groups x first island around registers look count done looks m ≡ is_there (offset u))
      (counted : (m : ℕ) (u : PlainOccurrence) → slice_get island.occurrences m ≡ Some u → (o : ℕ) → offset u ≡ Some o → (u.timer < length island.timers) × (count u.timer ≡ u.from + o) × (count u.timer < 2 ^ 32)) where
    wires_from : (n : ℕ) (rest : List PlainOccurrence) → ((j m : ℕ) (u : PlainOccurrence) → m ≡ n + j → slice_get rest j ≡ Some u → slice_get island.occurrences m ≡ Some u) → (g : ℕ) → g < groups → (o : Option BitVector)
        → takes around registers look (ToWire g) o (occurrence_drivers groups x first island n rest) ≡ offset_told g o (among offset rest)
    wires_from n [] there g low o = refl
    wires_from n (u ∷ rest) there g low o =
        let here = there 0 n u (omega arith) refl in
        let below : n < length island.occurrences = there_below island.occurrences n u here in
        let wire = first + length island.timers + length island.points + n in
        let later = takes around registers look (ToWire g) o (occurrence_drivers groups x first island (suc n) rest) in
        skip_wire g wire (connect wire (wired.is_active groups x first island u)) (takes_of around registers look (u.group == g) (drive (ToWire u.group) (OfWire wire) (wired.offset_from groups x first island u)) later) (λ e. omega arith)
        ∙ offset_of g wire u (offset u) later (says_active groups x first island around registers look count done looks n below ∙ ap (λ b. Some (truth_bit b)) (so n u here))
        (λ j e. let c = counted n u here j e in value_from u j c.0 c.1 c.2)
        ∙ ap (λ z. offset_told g z (by_live (offset u) (entry_at u.group))) (wires_from (suc n) rest (λ j m v e f. there (suc j) m v (omega arith) f) g low o)
        ∙ sym (offset_both g o (by_live (offset u) (entry_at u.group)) (among offset rest))

    timers_no_wire : (g n : ℕ) → g < groups → (rest : List IslandTimer) → AllDrive (λ u. same_target u (ToWire g) ≡ false) (timer_drivers groups x first island n rest)
    timers_no_wire g n low [] = tt
    timers_no_wire g n low (timer ∷ rest) = (ne_eqb (first + n) g (λ e. omega arith), (refl, timers_no_wire g (suc n) low rest))

    points_no_wire : (g n : ℕ) → g < groups → (rest : List PlainPoint) → AllDrive (λ u. same_target u (ToWire g) ≡ false) (point_drivers groups x first island n rest)
    points_no_wire g n low [] = tt
    points_no_wire g n low (p ∷ rest) =
        let apart = ne_eqb (first + length island.timers + n) g (λ e. omega arith) in (apart, (apart, (refl, (refl, points_no_wire g (suc n) low rest))))

    -- THE OFFSETS of an island
    pub wires_so : (g : ℕ) → g < groups → (o : Option BitVector) → takes around registers look (ToWire g) o (island_drivers groups x first island) ≡ offset_told g o (among offset island.occurrences)
    wires_so g low o =
        let ts = timer_drivers groups x first island 0 island.timers in
        let ps = point_drivers groups x first island 0 island.points in
        let os = occurrence_drivers groups x first island 0 island.occurrences in
        let high = looks.high in
        skip_wire g (suc x.wire) (ends x (both (at x) (wired.island_done groups x first island))) (takes around registers look (ToWire g) o (ts ++ (ps ++ os))) (λ e. omega (arith, high, e))
        ∙ takes_append around registers look (ToWire g) o ts (ps ++ os)
        ∙ others_pass around registers look (ToWire g) (takes around registers look (ToWire g) o (ps ++ os)) ts (timers_no_wire g 0 low island.timers)
        ∙ takes_append around registers look (ToWire g) o ps os
        ∙ others_pass around registers look (ToWire g) (takes around registers look (ToWire g) o os) ps (points_no_wire g 0 low island.points)
        ∙ wires_from 0 island.occurrences (λ j m u e f. let same : j ≡ m = omega arith in subst (λ i. slice_get island.occurrences i ≡ Some u) same f) g low o
