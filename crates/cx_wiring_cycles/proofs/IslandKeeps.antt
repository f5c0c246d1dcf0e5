-- What the registers of an island's samples take: 0 in its last cycle, the port where its static if begins, and else what they have.
use Rattle.std.proofs.Common.{◌≡◌, ℕ, zero, suc, ◌+◌, ◌<◌, Bool, true, false, if◌then◌else◌, List, [], ◌∷◌, ◌++◌, Option, Some, slice_get, refl, ap, ◌∙◌, arith}
use Rattle.std.proofs.lemmas.Bool.{eq-eqb, ne_eqb}
use Rattle.cx_bits.specs.BitVector.{BitVector}
use Rattle.cx_net.specs.Nets.{OfPort, ToRegister, PlainNetDriver}
use Rattle.cx_net.specs.NetMeaning.{Node, NetAround, truth_bit, same_target}
use Rattle.cx_static.specs.declared.islands.IslandTimer.{IslandTimer}
use Rattle.cx_static.specs.Islands.{PlainPoint, PlainOccurrence, PlainIsland}
use Rattle.cx_wiring.specs.Parts.{literal, drive}
use Rattle.cx_wiring.specs.Stands.{Stand}
use Rattle.cx_wiring.specs.IslandDrivers as wired
use Rattle.cx_wiring.specs.IslandDrivers.{timer_drivers, point_drivers, occurrence_drivers, island_drivers}
use Rattle.cx_wiring.specs.Bounds.{AllDrive}
use Rattle.cx_wiring.specs.Takings.{value, Says, takes, takes_of}
use Rattle.cx_wiring.proofs.TakingLemmas.{takes_append, takes_known, others_pass}

module _ (groups : ℕ) (x : Stand) (first : ℕ) (island : PlainIsland) (around : NetAround) (registers : ℕ → Option BitVector) (look : Node → Option BitVector) where
  timers_no_register : (w n : ℕ) (rest : List IslandTimer) → AllDrive (λ u. same_target u (ToRegister w) ≡ false) (timer_drivers groups x first island n rest)
  timers_no_register w n [] = tt
  timers_no_register w n (timer ∷ rest) = (refl, (refl, timers_no_register w (suc n) rest))

  occurrences_no_register : (w n : ℕ) (rest : List PlainOccurrence) → AllDrive (λ u. same_target u (ToRegister w) ≡ false) (occurrence_drivers groups x first island n rest)
  occurrences_no_register w n [] = tt
  occurrences_no_register w n (u ∷ rest) = (refl, (refl, (refl, occurrences_no_register w (suc n) rest)))

  points_miss_register : (w n : ℕ) (rest : List PlainPoint) → w < x.register + n → AllDrive (λ u. same_target u (ToRegister w) ≡ false) (point_drivers groups x first island n rest)
  points_miss_register w n [] l = tt
  points_miss_register w n (p ∷ rest) l =
      (refl, (refl, (ne_eqb (x.register + n) w (λ e. omega arith), (ne_eqb (x.register + n) w (λ e. omega arith), points_miss_register w (suc n) rest (omega arith)))))

  -- what a register takes, of its own drivers
  abbrev pub forgets : PlainNetDriver
  forgets = drive (ToRegister 0) (wired.in_last_cycle groups x first island) (literal 1 0)

  abbrev pub keeps : PlainPoint → PlainNetDriver
  keeps p = drive (ToRegister 0) (wired.begins groups x first island p) (OfPort p.port)

  register_takes : (n i m : ℕ) (rest : List PlainPoint) (p : PlainPoint) (o : Option BitVector) → m ≡ n + i → slice_get rest i ≡ Some p
      → takes around registers look (ToRegister (x.register + m)) o (point_drivers groups x first island n rest) ≡ takes_of around registers look true forgets (takes_of around registers look true (keeps p) o)
  register_takes n i m [] p o same e = absurd cc
  register_takes n zero m (q ∷ rest) p o same e =
      let reg : x.register + n ≡ x.register + m = omega arith in
      let later = takes around registers look (ToRegister (x.register + m)) o (point_drivers groups x first island (suc n) rest) in
      ap (λ s. takes_of around registers look s forgets (takes_of around registers look s (keeps q) later)) (eq-eqb (x.register + n) (x.register + m) reg)
      ∙ ap (λ z. takes_of around registers look true forgets (takes_of around registers look true (keeps q) z))
      (others_pass around registers look (ToRegister (x.register + m)) o (point_drivers groups x first island (suc n) rest) (points_miss_register (x.register + m) (suc n) rest (omega arith)))
      ∙ ap (λ (z : PlainPoint). takes_of around registers look true forgets (takes_of around registers look true (keeps z) o)) (same_point q p e)
    where
      same_point : (a b : PlainPoint) → ◌≡◌ {A = Option PlainPoint} (Some a) (Some b) → a ≡ b
      same_point a b f = cc
  register_takes n (suc i) m (q ∷ rest) p o same e =
      let later = takes around registers look (ToRegister (x.register + m)) o (point_drivers groups x first island (suc n) rest) in
      ap (λ s. takes_of around registers look s forgets (takes_of around registers look s (keeps q) later)) (ne_eqb (x.register + n) (x.register + m) (λ f. omega arith))
      ∙ register_takes (suc n) i m rest p o (omega arith) e

  pub register_so : (m : ℕ) (p : PlainPoint) (o : Option BitVector) → slice_get island.points m ≡ Some p
      → takes around registers look (ToRegister (x.register + m)) o (island_drivers groups x first island) ≡ takes_of around registers look true forgets (takes_of around registers look true (keeps p) o)
  register_so m p o e =
      let target = ToRegister (x.register + m) in
      let ts = timer_drivers groups x first island 0 island.timers in
      let ps = point_drivers groups x first island 0 island.points in
      let os = occurrence_drivers groups x first island 0 island.occurrences in
      takes_append around registers look target o ts (ps ++ os)
      ∙ others_pass around registers look target (takes around registers look target o (ps ++ os)) ts (timers_no_register (x.register + m) 0 island.timers)
      ∙ takes_append around registers look target o ps os
      ∙ ap (λ z. takes around registers look target z ps) (others_pass around registers look target o os (occurrences_no_register (x.register + m) 0 island.occurrences))
      ∙ register_takes 0 m m island.points p o (omega arith) e

  -- where it is known whether this is the last cycle, and what is taken
  pub register_is : (m : ℕ) (p : PlainPoint) (o : Option BitVector) (last begun sample : Bool) → slice_get island.points m ≡ Some p → Says around registers look (wired.in_last_cycle groups x first island) last
      → Says around registers look (wired.begins groups x first island p) begun → (if begun then value around registers look (OfPort p.port) else o) ≡ Some (truth_bit sample)
      → takes around registers look (ToRegister (x.register + m)) o (island_drivers groups x first island) ≡ Some (truth_bit (if last then false else sample))
  register_is m p o last begun sample e l b taken =
      register_so m p o e ∙ takes_known around registers look forgets last (takes_of around registers look true (keeps p) o) l
      ∙ ap (λ z. if last then Some (truth_bit false) else z) (takes_known around registers look (keeps p) begun o b ∙ taken) ∙ by last
    where
      by : (c : Bool) → (if c then Some (truth_bit false) else Some (truth_bit sample)) ≡ Some (truth_bit (if c then false else sample))
      by true = refl
      by false = refl

  -- a region before them takes nothing
  pub region_so : (w : ℕ) → w < x.register → (o : Option BitVector) → takes around registers look (ToRegister w) o (island_drivers groups x first island) ≡ o
  region_so w less o =
      let ts = timer_drivers groups x first island 0 island.timers in
      let ps = point_drivers groups x first island 0 island.points in
      let os = occurrence_drivers groups x first island 0 island.occurrences in
      takes_append around registers look (ToRegister w) o ts (ps ++ os)
      ∙ others_pass around registers look (ToRegister w) (takes around registers look (ToRegister w) o (ps ++ os)) ts (timers_no_register w 0 island.timers)
      ∙ takes_append around registers look (ToRegister w) o ps os
      ∙ others_pass around registers look (ToRegister w) (takes around registers look (ToRegister w) o os) ps (points_miss_register w 0 island.points (omega arith))
      ∙ others_pass around registers look (ToRegister w) o os (occurrences_no_register w 0 island.occurrences)
