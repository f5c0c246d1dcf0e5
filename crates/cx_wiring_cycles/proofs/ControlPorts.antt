-- Of the ports of cells control drives the go of timers alone: what holds of these, and of all that is no port, holds of all that it
-- drives.
use Rattle.std.proofs.Common.{◌≡◌, ℕ, zero, suc, ◌+◌, List, [], ◌∷◌, length, Option, Some, None, slice_get, refl}
use Rattle.cx_meaning.specs.declared.ports.PortRef.TheVariants as ports
use Rattle.cx_meaning.specs.Designs.{PlainForm, Empty, Enable, Seq, Par, If, While, Repeat, StaticSeq, StaticPar, StaticIf, StaticRepeat, Timed, PlainStatement, Placed, PlainStatements, no_statements, a_statement}
use Rattle.cx_net.specs.Nets.{PlainNetTarget, ToPort, ToRegister, ToWire, ToHole, ToDone}
use Rattle.cx_static.specs.declared.islands.IslandTimer.{IslandTimer}
use Rattle.cx_static.specs.Islands.{PlainPoint, PlainOccurrence, PlainIsland}
use Rattle.cx_wiring.specs.Counts.{wires_of, registers_of}
use Rattle.cx_wiring.specs.Stands.{Stand, inside, past_test, behind}
use Rattle.cx_wiring.specs.IslandDrivers.{first_of_island, timer_drivers, point_drivers, occurrence_drivers}
use Rattle.cx_wiring.specs.Control.{comb_goes, timed_drivers, arm_stand, counted_inside, whole_stand, form_drivers, drivers_of, parts_drivers, arms_drivers, control_drivers}
use Rattle.cx_wiring.specs.Bounds.{AllDrive}
use Rattle.cx_wiring.proofs.RoomLemmas.{drive_both}

module _ (P : PlainNetTarget → Type 0) where
  -- of the go of each timer of an island
  abbrev pub OfTimers : List IslandTimer → Type 0
  OfTimers [] = Unit {0}
  OfTimers (timer ∷ rest) = P (ToPort (ports.Cell timer.cell 0)) × OfTimers rest

  module _ (wire : (n : ℕ) → P (ToWire n)) (register : (n : ℕ) → P (ToRegister n)) (hole : (n : ℕ) → P (ToHole n)) (done : P ToDone) (groups : ℕ) (islands : List PlainIsland)
      (timers : (k : ℕ) (island : PlainIsland) → slice_get islands k ≡ Some island → OfTimers island.timers) where
    timers_free : (x : Stand) (first : ℕ) (island : PlainIsland) (t : ℕ) (rest : List IslandTimer) → OfTimers rest → AllDrive P (timer_drivers groups x first island t rest)
    timers_free x first island t [] h = tt
    timers_free x first island t (timer ∷ rest) h = (wire _, (h.0, timers_free x first island (suc t) rest h.1))

    points_free : (x : Stand) (first : ℕ) (island : PlainIsland) (n : ℕ) (rest : List PlainPoint) → AllDrive P (point_drivers groups x first island n rest)
    points_free x first island n [] = tt
    points_free x first island n (p ∷ rest) = (wire _, (wire _, (register _, (register _, points_free x first island (suc n) rest))))

    occurrences_free : (x : Stand) (first : ℕ) (island : PlainIsland) (n : ℕ) (rest : List PlainOccurrence) → AllDrive P (occurrence_drivers groups x first island n rest)
    occurrences_free x first island n [] = tt
    occurrences_free x first island n (o ∷ rest) = (wire _, (hole _, (wire _, occurrences_free x first island (suc n) rest)))

    timed_free : (x : Stand) (k : ℕ) (o : Option PlainIsland) → slice_get islands k ≡ o → AllDrive P (timed_drivers groups islands x k o)
    timed_free x k None is = tt
    timed_free x k (Some island) is = (
      wire _,
      drive_both P (timer_drivers groups x (first_of_island groups islands k) island 0 island.timers) _ (timers_free x (first_of_island groups islands k) island 0 island.timers (timers k island is))
          (drive_both P (point_drivers groups x (first_of_island groups islands k) island 0 island.points) _ (points_free x (first_of_island groups islands k) island 0 island.points)
          (occurrences_free x (first_of_island groups islands k) island 0 island.occurrences)),
    )

    comb_free : (x : Stand) (comb : Option ℕ) → AllDrive P (comb_goes groups islands x comb)
    comb_free x None = tt
    comb_free x (Some g) = (hole _, tt)

    mutual
      form_free : (form : PlainForm) (x : Stand) → AllDrive P (form_drivers groups islands x form)
      form_free Empty x = (wire _, (wire _, tt))
      form_free (Enable g) x = (wire _, (wire _, (hole _, tt)))
      form_free (Seq no_statements) x = (wire _, (wire _, tt))
      form_free (Seq (a_statement s ss)) x = drive_both P (drivers_of groups islands (inside x) s) _ (drivers_free s (inside x)) (parts_free x (inside x).wire (behind islands s (inside x)) ss)
      form_free (Par arms) x = (wire _, drive_both P (arms_drivers groups islands x (suc (suc x.wire)) x.register arms) _ (arms_free x (suc (suc x.wire)) x.register arms) (wire _, tt))
      form_free (If test comb a b) x = (
        wire _,
        drive_both P (comb_goes groups islands x comb) _ (comb_free x comb) (
          register _,
          drive_both P (drivers_of groups islands (past_test x) a) _ (drivers_free a (past_test x))
              (register _, drive_both P (drivers_of groups islands (behind islands a (past_test x)) b) _ (drivers_free b (behind islands a (past_test x))) (wire _, tt)),
        ),
      )
      form_free (While test comb a) x = (
        wire _,
        drive_both P (comb_goes groups islands x comb) _ (comb_free x comb)
            (wire _, (register _, drive_both P (drivers_of groups islands (past_test x) a) _ (drivers_free a (past_test x)) (register _, tt))),
      )
      form_free (Repeat zero a) x = (wire _, (wire _, tt))
      form_free (Repeat (suc n) a) x = drive_both P (drivers_of groups islands (counted_inside x) a) _ (drivers_free a (counted_inside x)) (wire _, (register _, (register _, (register _, tt))))
      form_free (StaticSeq written parts) x = (wire _, (wire _, tt))
      form_free (StaticPar written arms) x = (wire _, (wire _, tt))
      form_free (StaticIf written test a b) x = (wire _, (wire _, tt))
      form_free (StaticRepeat written count a) x = (wire _, (wire _, tt))
      form_free (Timed k) x = (wire _, timed_free x k (slice_get islands k) refl)

      pub drivers_free : (s : PlainStatement) (x : Stand) → AllDrive P (drivers_of groups islands x s)
      drivers_free (Placed form place) x = form_free form x

      parts_free : (seq : Stand) (before : ℕ) (x : Stand) (ss : PlainStatements) → AllDrive P (parts_drivers groups islands seq before x ss)
      parts_free seq before x no_statements = (wire _, tt)
      parts_free seq before x (a_statement s ss) = (register _, drive_both P (drivers_of groups islands x s) _ (drivers_free s x) (parts_free seq x.wire (behind islands s x) ss))

      arms_free : (par : Stand) (at first : ℕ) (ss : PlainStatements) → AllDrive P (arms_drivers groups islands par at first ss)
      arms_free par at first no_statements = tt
      arms_free par at first (a_statement s ss) = (
        register _,
        drive_both P (drivers_of groups islands (arm_stand par at first) s) _ (drivers_free s (arm_stand par at first))
            (register _, arms_free par (at + wires_of s) (suc first + length (registers_of islands s)) ss),
      )

    -- ALL CONTROL of a component
    pub control_free : (at : ℕ) (s : PlainStatement) → AllDrive P (control_drivers groups islands at s)
    control_free at s = drive_both P (drivers_of groups islands (whole_stand at) s) _ (drivers_free s (whole_stand at)) (register _, (register _, (done, tt)))
