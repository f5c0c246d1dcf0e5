-- What the drivers of control drive: ports, the wires before those of control, the statement's own wires and registers, the register
-- of its region, the goes of the groups that it names.
use Rattle.std.proofs.Common.{◌≡◌, ℕ, zero, suc, ◌+◌, ◌<◌, ◌≤◌, List, [], ◌∷◌, length, take, slice_get, Option, Some, None, arith}
use Rattle.std.proofs.lemmas.List.{length-replicate}
use Rattle.cx_meaning.specs.declared.ports.PortRef.{PortRef}
use Rattle.cx_meaning.specs.Designs.{PlainForm, Empty, Enable, Seq, Par, If, While, Repeat, StaticSeq, StaticPar, StaticIf, StaticRepeat, Timed, PlainStatement, Placed, PlainStatements, no_statements, a_statement}
use Rattle.cx_net.specs.Nets.{PlainNetTarget, ToPort, ToRegister, ToWire, ToHole, ToDone}
use Rattle.cx_static.specs.Islands.{PlainIsland}
use Rattle.cx_wiring.specs.Counts.{sample_registers, form_wires, wires_of, wires_in, form_registers, registers_of, registers_in, arms_registers}
use Rattle.cx_wiring.specs.Stands.{Stand, inside, past_test, behind}
use Rattle.cx_wiring.specs.IslandDrivers.{island_wires}
use Rattle.cx_wiring.specs.Control.{comb_goes, timed_drivers, arm_stand, counted_inside, whole_stand, form_drivers, drivers_of, parts_drivers, arms_drivers, control_drivers}
use Rattle.cx_wiring.specs.Bounds.{AllDrive, IslandNames, IslandsName, CombNames, FormNames, StatementNames, PartsName}
use Rattle.cx_wiring.proofs.RoomLemmas.{drive_both, Room, at_in, end_in, inside_room, first_room, later_room, own_in, behind_own}
use Rattle.cx_wiring.proofs.IslandTargets.{wires_at, island_within, island_drives}

pub names_at : (groups : ℕ) (islands : List PlainIsland) (k : ℕ) → IslandsName groups islands → IslandNames groups (slice_get islands k)
names_at groups [] zero names = tt
names_at groups [] (suc k) names = tt
names_at groups (island ∷ rest) zero names = names.0
names_at groups (island ∷ rest) (suc k) names = names_at groups rest k names.1

module _ (P : PlainNetTarget → Type 0) (port : (p : PortRef) → P (ToPort p)) (groups : ℕ) (islands : List PlainIsland)
    (before : (n : ℕ) → n < groups + island_wires islands → P (ToWire n)) (go : (g : ℕ) → g < groups → P (ToHole (groups + g))) (named : IslandsName groups islands) where
  pub comb_drives : (x : Stand) (comb : Option ℕ) → CombNames groups comb → AllDrive P (comb_goes groups islands x comb)
  comb_drives x None names = tt
  comb_drives x (Some g) names = (go g names, tt)

  timed_drives : (x : Stand) (k : ℕ) (o : Option PlainIsland) → island_wires (take k islands) + wires_at o ≤ island_wires islands → IslandNames groups o → P (ToWire (suc x.wire))
      → ((n : ℕ) → x.register ≤ n → n < x.register + length (sample_registers o) → P (ToRegister n)) → AllDrive P (timed_drivers groups islands x k o)
  timed_drives x k None within names end kept = tt
  timed_drives x k (Some island) within names end kept =
      let samples : length (sample_registers (Some island)) ≡ length island.points = length-replicate (length island.points) 1 in
      island_drives P port groups x (groups + island_wires (take k islands)) island
      (λ n low high. let h : n < groups + island_wires islands = omega arith in before n h)
      end
      (λ n low high. let h : n < x.register + length (sample_registers (Some island)) = omega arith in kept n low h)
      (λ g is. let h : g < groups + island_wires islands = omega arith in before g h)
      go names

  mutual
    form_drives : (form : PlainForm) (x : Stand) → FormNames groups form → Room P x.wire x.register (suc (suc (form_wires form))) (length (form_registers islands form)) → P (ToRegister x.region)
        → AllDrive P (form_drivers groups islands x form)
    form_drives Empty x names room region = (at_in P room, (end_in P room, tt))
    form_drives (Enable g) x names room region = (at_in P room, (end_in P room, (go g names, tt)))
    form_drives (Seq no_statements) x names room region = (at_in P room, (end_in P room, tt))
    form_drives (Seq (a_statement s ss)) x names room region =
        let rs = registers_of islands s in
        let qs = registers_in islands ss in
        let inner = inside_room P room in
        drive_both P _ _ (drivers_drive s (inside x) names.0 (first_room P (wires_of s) (wires_in ss) rs qs inner) region)
        (parts_drive x (inside x).wire (behind islands s (inside x)) ss names.1 (end_in P room) (later_room P (wires_of s) (wires_in ss) rs qs inner) region)
    form_drives (Par arms) x names room region =
        (at_in P room, drive_both P _ _ (arms_drive x (suc (suc x.wire)) x.register arms names (inside_room P room)) (end_in P room, tt))
    form_drives (If test comb a y) x names room region =
        let rs = registers_of islands a in
        let qs = registers_of islands y in
        let inner = inside_room P room in (
          at_in P room,
          drive_both P _ _ (comb_drives x comb names.0) (
            region,
            drive_both P _ _ (drivers_drive a (past_test x) names.1.0 (first_room P (wires_of a) (wires_of y) rs qs inner) region)
                (region, drive_both P _ _ (drivers_drive y (behind islands a (past_test x)) names.1.1 (later_room P (wires_of a) (wires_of y) rs qs inner) region) (end_in P room, tt)),
          ),
        )
    form_drives (While test comb a) x names room region = (
      at_in P room,
      drive_both P _ _ (comb_drives x comb names.0)
          (end_in P room, (region, drive_both P _ _ (drivers_drive a (past_test x) names.1 (inside_room P room) region) (region, tt))),
    )
    form_drives (Repeat zero a) x names room region = (at_in P room, (end_in P room, tt))
    form_drives (Repeat (suc n) a) x names room region =
        drive_both P _ _ (drivers_drive a (counted_inside x) names (behind_own P (inside_room P room)) region)
        (end_in P room, (region, (own_in P room, (own_in P room, tt))))
    form_drives (StaticSeq written parts) x names room region = (at_in P room, (end_in P room, tt))
    form_drives (StaticPar written arms) x names room region = (at_in P room, (end_in P room, tt))
    form_drives (StaticIf written test a y) x names room region = (at_in P room, (end_in P room, tt))
    form_drives (StaticRepeat written count a) x names room region = (at_in P room, (end_in P room, tt))
    form_drives (Timed k) x names room region =
        (at_in P room, timed_drives x k (slice_get islands k) (island_within islands k) (names_at groups islands k named) (end_in P room) room.register_in)

    pub drivers_drive : (s : PlainStatement) (x : Stand) → StatementNames groups s → Room P x.wire x.register (wires_of s) (length (registers_of islands s)) → P (ToRegister x.region)
        → AllDrive P (drivers_of groups islands x s)
    drivers_drive (Placed form place) x names room region = form_drives form x names room region

    pub parts_drive : (seq : Stand) (before : ℕ) (x : Stand) (ss : PlainStatements) → PartsName groups ss → P (ToWire (suc seq.wire))
        → Room P x.wire x.register (wires_in ss) (length (registers_in islands ss)) → P (ToRegister x.region) → AllDrive P (parts_drivers groups islands seq before x ss)
    parts_drive seq before x no_statements names end room region = (end, tt)
    parts_drive seq before x (a_statement s ss) names end room region =
        let rs = registers_of islands s in
        let qs = registers_in islands ss in (
          region,
          drive_both P _ _ (drivers_drive s x names.0 (first_room P (wires_of s) (wires_in ss) rs qs room) region)
              (parts_drive seq x.wire (behind islands s x) ss names.1 end (later_room P (wires_of s) (wires_in ss) rs qs room) region),
        )

    pub arms_drive : (par : Stand) (wire register : ℕ) (ss : PlainStatements) → PartsName groups ss → Room P wire register (wires_in ss) (length (arms_registers islands ss))
        → AllDrive P (arms_drivers groups islands par wire register ss)
    arms_drive par wire register no_statements names room = tt
    arms_drive par wire register (a_statement s ss) names room =
        let rs = registers_of islands s in
        let qs = arms_registers islands ss in
        let own = own_in P room in
        let rest = behind_own P room in (
          own,
          drive_both P _ _ (drivers_drive s (arm_stand par wire register) names.0 (first_room P (wires_of s) (wires_in ss) rs qs rest) own)
              (own, arms_drive par (wire + wires_of s) (suc register + length rs) ss names.1 (later_room P (wires_of s) (wires_in ss) rs qs rest)),
        )

  -- THE CONTROL of a component: its region's register comes before those of the statement
  pub control_drives : P ToDone → (wire : ℕ) (s : PlainStatement) → StatementNames groups s → Room P wire 0 (wires_of s) (suc (length (registers_of islands s)))
      → AllDrive P (control_drivers groups islands wire s)
  control_drives done wire s names room =
      let region = own_in P room in
      drive_both P _ _ (drivers_drive s (whole_stand wire) names (behind_own P room) region) (region, (region, (done, tt)))
