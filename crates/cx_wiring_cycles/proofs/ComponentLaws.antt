-- The control of a component in one cycle of its net: where the drivers other than rests give wires, registers, goes and the done what
-- they have, the place of the component is led on as the machine's step says, and a group goes where the machine says that it runs.
use Rattle.std.proofs.Common.{◌≡◌, ℕ, suc, ◌+◌, ◌<◌, ◌≤◌, ◌⊎◌, inl, inr, ◌==◌, Bool, true, false, if◌then◌else◌, List, ◌++◌, length, Option, Some, slice_get, refl, sym, ap, ◌∙◌, arith}
use Rattle.cx_text.specs.declared.places.Place.{Place}
use Rattle.cx_bits.specs.BitVector.{BitVector}
use Rattle.cx_meaning.specs.declared.ports.PortRef.{PortRef}
use Rattle.cx_meaning.specs.Designs.{PlainComponent, Timed, PlainStatement, Placed}
use Rattle.cx_lockstep.specs.Worlds.{Control, At, Done, is_done}
use Rattle.cx_control.specs.Codings.{Coding, bank_code}
use Rattle.cx_net.specs.Nets.{OfRegister, OfGo, PlainNetTarget, ToPort, ToRegister, ToWire, ToHole, ToDone, PlainNetDriver}
use Rattle.cx_net.specs.NetMeaning.{Node, AHole, TheDone, NetAround, truth_bit, same_target}
use Rattle.cx_static.specs.Islands.{PlainLowered}
use Rattle.cx_static.specs.Lowering.{lowered, lowered_component, unlowered}
use Rattle.cx_wiring.specs.Parts.{equals}
use Rattle.cx_wiring.specs.Counts.{positions_of, sample_registers}
use Rattle.cx_wiring.specs.Stands.{Stand, end_of}
use Rattle.cx_wiring.specs.Control.{whole_stand, finishing, form_drivers, drivers_of}
use Rattle.cx_wiring.specs.Assignments.{driven_assigns, assigns_drivers}
use Rattle.cx_wiring.specs.Wiring.{groups, first_of_control, first_of_assigns, plain_drivers, component_registers}
use Rattle.cx_wiring.specs.Bounds.{AllDrive, IslandsName, StatementNames, AssignsName}
use Rattle.cx_wiring.specs.Takings.{Says, takes, AllConnect, AreRegisters}
use Rattle.cx_wiring.proofs.AssignTargets.{assigns_drive}
use Rattle.cx_wiring.proofs.ControlTargets.{drivers_drive}
use Rattle.cx_wiring.proofs.TakingLemmas.{no_port_register, no_port_done, takes_append, others_pass, says_equals, idle_passes}
use Rattle.cx_wiring_cycles.specs.IslandTakes.{StatementIslands, TakesIsland, IslandNexts}
use Rattle.cx_wiring_cycles.specs.Standing.{IsStopped, IsIn, Away, StatementBits}
use Rattle.cx_wiring_cycles.specs.Shown.{wide, Going, told}
use Rattle.cx_wiring_cycles.specs.Turning.{Turns, Moves}
use Rattle.cx_wiring_cycles.specs.Wired.{IsWired}
use Rattle.cx_wiring_cycles.proofs.AwayLaws.{away}
use Rattle.std.proofs.lemmas.Bool.{ne_eqb}
use Rattle.cx_wiring_cycles.proofs.FormTurns.{region_known}
use Rattle.cx_wiring_cycles.proofs.ConnectLaws.{Reads, read_before, statement_connects}
use Rattle.cx_wiring_cycles.proofs.KnowLaws.{Known, known}
use Rattle.cx_net.proofs.NetsLemmas.{no_port_hole}

module _ (part : PlainComponent) (named : IslandsName (groups (lowered_component part)) (lowered_component part).islands) (around : NetAround) (registers : ℕ → Option BitVector) (look : Node → Option BitVector) (kept next : ℕ → ℕ) (hole : ℕ → Bool) (port : PortRef → Bool) where
  abbrev whole : PlainLowered
  whole = lowered_component part

  abbrev G : ℕ
  G = groups (lowered_component part)

  -- the control of the component in its net
  abbrev control : PlainStatement
  control = lowered part part.control (unlowered part)

  abbrev x : Stand
  x = whole_stand (first_of_control (lowered_component part))

  abbrev D : List PlainNetDriver
  D = drivers_of (groups (lowered_component part)) (lowered_component part).islands (whole_stand (first_of_control (lowered_component part))) (lowered part part.control (unlowered part))

  abbrev AD : List PlainNetDriver
  AD = assigns_drivers (groups (lowered_component part)) (first_of_assigns (lowered_component part)) (driven_assigns (lowered_component part))

  -- ONE CYCLE: what there is has what its drivers give it
  pub record PlainCycle (acting : Bool) : Type 0 where
    pub acts : around.go ≡ Some (truth_bit acting)
    pub wires : (n : ℕ) → n < first_of_assigns (lowered_component part) → Reads (groups (lowered_component part)) (lowered_component part).islands named around registers look n (plain_drivers (lowered_component part))
    pub registers_are : AreRegisters around registers look kept 0 (component_registers (lowered_component part))
    pub nexts : (m : ℕ) (old new : BitVector) → m < length (component_registers (lowered_component part)) → old.value ≡ kept m → takes around registers look (ToRegister m) (Some old) (plain_drivers (lowered_component part)) ≡ Some new
        → next m ≡ new.value
    pub islands : StatementIslands (TakesIsland (groups (lowered_component part)) (lowered_component part).islands around registers look) (lowered_component part).islands
        (whole_stand (first_of_control (lowered_component part))) (lowered part part.control (unlowered part))
    pub goes : (g : ℕ) → g < groups (lowered_component part) → look (AHole (groups (lowered_component part) + g)) ≡ takes around registers look (ToHole (groups (lowered_component part) + g)) (Some (truth_bit false)) (plain_drivers (lowered_component part))
    pub done : look TheDone ≡ takes around registers look ToDone (Some (truth_bit false)) (plain_drivers (lowered_component part))
    pub bits : StatementBits around registers look hole port (lowered part part.control (unlowered part))

  module _ (names : StatementNames (groups (lowered_component part)) (lowered part part.control (unlowered part))) (assigned : AssignsName (groups (lowered_component part)) (driven_assigns (lowered_component part)))
      (acting : Bool) (cycle : PlainCycle acting) where
    abbrev F : List PlainNetDriver
    F = finishing (first_of_control (lowered_component part)) (lowered part part.control (unlowered part))

    abbrev E : PlainStatement → Stand → List PlainNetDriver
    E s y = drivers_of (groups (lowered_component part)) (lowered_component part).islands y s

    abbrev T : PlainNetTarget → Option BitVector → List PlainNetDriver → Option BitVector
    T = takes around registers look

    region_in : IsIn around registers look OfGo 0 acting (kept 0)
    region_in = record { acts_so = cycle.acts; width = 32; at_position = cycle.registers_are.0 }

    low : first_of_control (lowered_component part) ≤ first_of_control (lowered_component part)
    low = omega arith

    connects : AllConnect around registers look (first_of_control (lowered_component part)) (E (lowered part part.control (unlowered part)) (whole_stand (first_of_control (lowered_component part))))
    connects = statement_connects (groups (lowered_component part)) (lowered_component part).islands named around registers look (lowered part part.control (unlowered part)) (whole_stand (first_of_control (lowered_component part))) names low
        (λ n l h. read_before (groups (lowered_component part)) (lowered_component part).islands named around registers look n D F
        (read_before (groups (lowered_component part)) (lowered_component part).islands named around registers look n (D ++ F) AD (cycle.wires n h)))

    assigns_pass : (t : PlainNetTarget) → ((p : PortRef) → same_target (ToPort p) t ≡ false) → ((n : ℕ) → same_target (ToWire n) t ≡ false) → ((g : ℕ) → g < groups (lowered_component part) → same_target (ToHole g) t ≡ false)
        → AllDrive (λ u. same_target u t ≡ false) AD
    assigns_pass t no_port no_wire no_hole =
        assigns_drive (λ u. same_target u t ≡ false) no_port (groups (lowered_component part)) no_hole (driven_assigns (lowered_component part)) (first_of_assigns (lowered_component part)) assigned (record { among = λ n l h. no_wire n })

    -- of the component's drivers those of control alone drive registers, goes and the done
    by_control : (t : PlainNetTarget) (o : Option BitVector) → AllDrive (λ u. same_target u t ≡ false) AD → T t o (plain_drivers (lowered_component part)) ≡ T t (T t o F) D
    by_control t o pass =
        takes_append around registers look t o (D ++ F) AD ∙ ap (λ z. takes around registers look t z (D ++ F)) (others_pass around registers look t o AD pass) ∙ takes_append around registers look t o D F

    of_register : (m : ℕ) (o : Option BitVector) → T (ToRegister m) o (plain_drivers (lowered_component part)) ≡ T (ToRegister m) (T (ToRegister m) o F) D
    of_register m o = by_control (ToRegister m) o (assigns_pass (ToRegister m) (no_port_register m) (λ n. refl) (λ g less. refl))

    later_register : (m : ℕ) (o : Option BitVector) → 1 ≤ m → T (ToRegister m) o (plain_drivers (lowered_component part)) ≡ T (ToRegister m) o D
    later_register m o later = of_register m o ∙ ap (λ z. takes around registers look (ToRegister m) z D)
        (others_pass around registers look (ToRegister m) o F (ne_eqb 0 m (λ e. omega arith), (ne_eqb 0 m (λ e. omega arith), (refl, tt))))

    pub goes_are : (g : ℕ) → g < groups (lowered_component part) → look (AHole (groups (lowered_component part) + g)) ≡ T (ToHole (groups (lowered_component part) + g)) (Some (truth_bit false)) D
    goes_are g there = cycle.goes g there ∙ by_control (ToHole (groups (lowered_component part) + g)) (Some (truth_bit false)) (assigns_pass (ToHole (groups (lowered_component part) + g)) (no_port_hole (groups (lowered_component part) + g)) (λ n. refl)
        (λ h less. ne_eqb h (groups (lowered_component part) + g) (λ e. omega arith)))

    -- the done says that the place is the end
    pub done_is : look TheDone ≡ Some (truth_bit (kept 0 == positions_of (lowered part part.control (unlowered part))))
    done_is =
        cycle.done ∙ by_control ToDone (Some (truth_bit false)) (assigns_pass ToDone no_port_done (λ n. refl) (λ g less. refl))
        ∙ others_pass around registers look ToDone _ D
        (drivers_drive (λ u. same_target u ToDone ≡ false) no_port_done (groups (lowered_component part)) (lowered_component part).islands (λ n less. refl) (λ g less. refl) named (lowered part part.control (unlowered part))
        (whole_stand (first_of_control (lowered_component part))) names (record { wire_in = λ n l h. refl; register_in = λ n l h. refl }) refl)
        ∙ says_equals around registers look (OfRegister 0) (wide (kept 0)) (positions_of (lowered part part.control (unlowered part))) cycle.registers_are.0

    -- the place after the edge
    place_takes : (e : Bool) → Says around registers look (end_of (first_of_control (lowered_component part))) e → T (ToRegister 0) (Some (wide (kept 0))) (plain_drivers (lowered_component part))
        ≡ T (ToRegister 0) (if e then Some (wide (positions_of (lowered part part.control (unlowered part)))) else if kept 0 == positions_of (lowered part part.control (unlowered part)) then Some (wide 0) else Some (wide (kept 0))) D
    place_takes e h = of_register 0 (Some (wide (kept 0))) ∙ ap (λ z. takes around registers look (ToRegister 0) z D)
        (region_known around registers look 0 (positions_of (lowered part part.control (unlowered part))) (end_of (first_of_control (lowered_component part))) e _ h
        ∙ ap (λ z. if e then Some (wide (positions_of (lowered part part.control (unlowered part)))) else z)
        (region_known around registers look 0 0 (equals (OfRegister 0) (positions_of (lowered part part.control (unlowered part)))) (kept 0 == positions_of (lowered part part.control (unlowered part))) (Some (wide (kept 0)))
        (says_equals around registers look (OfRegister 0) (wide (kept 0)) (positions_of (lowered part part.control (unlowered part))) cycle.registers_are.0)))

    -- what islands owe: that nothing of theirs acts where control is not there, and that their end is known
    module _ (timed_away : (k : ℕ) (y : Stand) (acts : Bool) (r : ℕ) → IsIn around registers look y.acts y.region acts r → IsStopped acts r y.position 1 → first_of_control (lowered_component part) ≤ y.wire
        → AllConnect around registers look (first_of_control (lowered_component part)) (form_drivers (groups (lowered_component part)) (lowered_component part).islands y (Timed k))
        → AreRegisters around registers look kept y.register (sample_registers (slice_get (lowered_component part).islands k))
        → IslandNexts (groups (lowered_component part)) (lowered_component part).islands around registers look kept next k y → Away around registers look y (form_drivers (groups (lowered_component part)) (lowered_component part).islands y (Timed k)))
        (timed_known : (k : ℕ) (place : Place) (y : Stand) (acts : Bool) (r : ℕ) → IsIn around registers look y.acts y.region acts r → first_of_control (lowered_component part) ≤ y.wire → y.region < y.register
        → AllConnect around registers look (first_of_control (lowered_component part)) (form_drivers (groups (lowered_component part)) (lowered_component part).islands y (Timed k))
        → AreRegisters around registers look kept y.register (sample_registers (slice_get (lowered_component part).islands k))
        → IslandNexts (groups (lowered_component part)) (lowered_component part).islands around registers look kept next k y
        → Known (groups (lowered_component part)) (lowered_component part).islands named around registers look (first_of_control (lowered_component part)) kept next hole port y (Placed (Timed k) place)) where
      knows : Known (groups (lowered_component part)) (lowered_component part).islands named around registers look (first_of_control (lowered_component part)) kept next hole port
          (whole_stand (first_of_control (lowered_component part))) (lowered part part.control (unlowered part))
      knows = known (groups (lowered_component part)) (lowered_component part).islands named around registers look (first_of_control (lowered_component part)) kept next hole port timed_known (lowered part part.control (unlowered part))
          (whole_stand (first_of_control (lowered_component part))) acting (kept 0) names (omega arith) region_in low connects cycle.registers_are.1 cycle.bits
          cycle.islands (λ m old new l h is e. cycle.nexts m old new (omega arith) is (later_register m (Some old) l ∙ e))

      pub wired : IsWired (groups (lowered_component part)) (lowered_component part).islands around registers look (first_of_control (lowered_component part)) kept next hole port
          (whole_stand (first_of_control (lowered_component part))) (lowered part part.control (unlowered part))
      wired = record { low = low; connects = connects; registers_are = cycle.registers_are.1; bits = cycle.bits; nexts = knows.nexts }

      -- WITHOUT GO, or at the end, the place is led from the end to the front and stays else, and no group goes
      module _ (stopped : (acting ≡ false) ⊎ (kept 0 ≡ positions_of (lowered part part.control (unlowered part)))) where
        is_stopped : IsStopped acting (kept 0) 0 (positions_of (lowered part part.control (unlowered part)))
        is_stopped = by_case stopped
          where
            by_case : (acting ≡ false) ⊎ (kept 0 ≡ positions_of (lowered part part.control (unlowered part))) → IsStopped acting (kept 0) 0 (positions_of (lowered part part.control (unlowered part)))
            by_case (inl e) = inl e
            by_case (inr e) = inr (inr (omega arith))

        pub is_away : Away around registers look (whole_stand (first_of_control (lowered_component part))) D
        is_away = away (groups (lowered_component part)) (lowered_component part).islands around registers look (first_of_control (lowered_component part)) kept hole port next timed_away (lowered part part.control (unlowered part))
            (whole_stand (first_of_control (lowered_component part))) acting (kept 0) region_in is_stopped low connects cycle.registers_are.1 cycle.bits knows.nexts

        pub place_rests : next 0 ≡ (if kept 0 == positions_of (lowered part part.control (unlowered part)) then 0 else kept 0)
        place_rests = cycle.nexts 0 (wide (kept 0)) (wide _) (omega arith) refl (place_takes false is_away.ends ∙ idle_passes around registers look (ToRegister 0) tt _ D is_away.idle ∙ out (kept 0 == positions_of (lowered part part.control (unlowered part))))
          where
            out : (b : Bool) → ◌≡◌ {A = Option BitVector} (if b then Some (wide 0) else Some (wide (kept 0))) (Some (wide (if b then 0 else kept 0)))
            out true = refl
            out false = refl

        pub registers_rest : (m : ℕ) → 1 ≤ m → m < length (component_registers (lowered_component part)) → next m ≡ kept m
        registers_rest m later there = cycle.nexts m (wide (kept m)) (wide (kept m)) there refl (later_register m (Some (wide (kept m))) later ∙ idle_passes around registers look (ToRegister m) tt (Some (wide (kept m))) D is_away.idle)

        pub no_go : (g : ℕ) → g < groups (lowered_component part) → look (AHole (groups (lowered_component part) + g)) ≡ Some (truth_bit false)
        no_go g there = goes_are g there ∙ idle_passes around registers look (ToHole (groups (lowered_component part) + g)) tt (Some (truth_bit false)) D is_away.idle

      -- WITH GO, the numbers of the place come to those of the machine's step, and the groups go that the machine says
      module _ {P : Type 0} (coding : Coding P) (p : P) (k : Control P) (after_numbers : ℕ → ℕ) (running : List Going) (size : coding.size ≡ positions_of (lowered part part.control (unlowered part))) (so : kept 0 ≡ coding.number p) (less : coding.number p < coding.size)
          (t : Turns (groups (lowered_component part)) around registers look coding (first_of_control (lowered_component part)) 0 0 (kept 0) D after_numbers running k) where
        not_end : (kept 0 == positions_of (lowered part part.control (unlowered part))) ≡ false
        not_end = ne_eqb (kept 0) (positions_of (lowered part part.control (unlowered part))) (λ e. apart e so size)
          where
            apart : kept 0 ≡ positions_of (lowered part part.control (unlowered part)) → kept 0 ≡ coding.number p → coding.size ≡ positions_of (lowered part part.control (unlowered part)) → ⊥
            apart e f g = omega arith

        pub place_moves : next 0 ≡ bank_code coding k 0
        place_moves = by_step k t.ends t.moves
          where
            by_step : (k : Control P) → Says around registers look (end_of (first_of_control (lowered_component part))) (is_done k) → Moves (groups (lowered_component part)) around registers look coding 0 0 (kept 0) D k → next 0 ≡ bank_code coding k 0
            by_step (At q) ends moves =
                let none : 0 + coding.number q ≡ coding.number q = omega arith in
                cycle.nexts 0 (wide (kept 0)) (wide (coding.number q)) (omega arith) refl (place_takes false ends ∙ ap (λ b. takes around registers look (ToRegister 0) (if b then Some (wide 0) else Some (wide (kept 0))) D) not_end ∙ moves ∙ ap (λ n. Some (wide n)) none)
            by_step Done ends moves = cycle.nexts 0 (wide (kept 0)) (wide coding.size) (omega arith) refl (place_takes true ends ∙ moves (Some (wide (positions_of (lowered part part.control (unlowered part))))) ∙ ap (λ n. Some (wide n)) (sym size))

        pub numbers_move : (n : ℕ) → n < coding.extra → after_numbers n ≡ bank_code coding k (suc n)
        numbers_move = t.others

        pub groups_go : (g : ℕ) → g < groups (lowered_component part) → look (AHole (groups (lowered_component part) + g)) ≡ told g (Some (truth_bit false)) running
        groups_go g there = goes_are g there ∙ t.goes_so g (Some (truth_bit false))
