-- The drivers of control fit: wires of statements are bits, registers of regions and rounds have 32 bits, and no position or round is a
-- greater number than there are of 32 bits.
use Rattle.std.proofs.Common.{◌≡◌, ℕ, zero, suc, ◌+◌, ◌<◌, ◌≤◌, List, [], ◌∷◌, ◌++◌, length, map, take, Option, Some, None, slice_get, refl, arith, length-append}
use Rattle.std.specs.Prelude.{◌^◌}
use Rattle.cx_meaning.specs.Designs.{PlainCell, PlainForm, Empty, Enable, Seq, Par, If, While, Repeat, StaticSeq, StaticPar, StaticIf, StaticRepeat, Timed, PlainStatement, Placed, PlainStatements, no_statements, a_statement}
use Rattle.cx_rules.specs.Items.{Dynamic, visit, visit_parts, visit_all}
use Rattle.cx_net.specs.Nets.{PlainNetExpr, OfRegister, OfHole, AllOf, exprs_of, ToRegister, ToWire, PlainNetComponent, PlainNet}
use Rattle.cx_net.specs.NetFits.{HasWidth}
use Rattle.cx_static.specs.Islands.{PlainIsland}
use Rattle.cx_wiring.specs.Parts.{word, both, either, equals, drive}
use Rattle.cx_wiring.specs.Counts.{positions_of, sample_registers, form_wires, wires_of, wires_in, form_registers, registers_of, registers_in, arms_registers}
use Rattle.cx_wiring.specs.Stands.{Stand, at, end_of, stands, ends, inside, past_test, behind}
use Rattle.cx_wiring.specs.IslandDrivers.{island_wires, first_of_island}
use Rattle.cx_wiring.specs.Control.{one_turn, found_one, found_zero, arm_stand, in_last_round, in_earlier_round, counted_inside, counting, whole_stand, finishing, comb_goes, timed_drivers, arms_over, form_drivers, drivers_of, parts_drivers, arms_drivers, control_drivers}
use Rattle.cx_wiring.specs.Wiring.{cell_in}
use Rattle.cx_wiring.specs.Bounds.{CombNames, FormNames, StatementNames, PartsName}
use Rattle.cx_wiring.specs.Fitting.{HasFrom, IslandFits, FormFits, StatementFits, PartsFit, Drives}
use Rattle.cx_wiring.proofs.RoomLemmas.{Wires, first_wire, later_wires, first_wires, rest_wires}
use Rattle.cx_wiring.proofs.CountLaws.{positions_of_few}
use Rattle.cx_wiring.proofs.IslandTargets.{wires_at, island_within}
use Rattle.cx_wiring.proofs.FitLemmas.{are_at, from_first, from_later, from_left, from_right, from_replicate, word_width, bits_of}
use Rattle.cx_wiring.proofs.FitGuards.{IsBit, AllDrive, one_fits, connects}
use Rattle.cx_wiring.proofs.FitIslands.{hole_width, island_fits}
use Rattle.cx_text.specs.Members.{Each}
use Rattle.cx_text.proofs.MemberLaws.{each_append}

module _ (net : PlainNet) (part : PlainNetComponent) where
  abbrev Bits : ℕ → ℕ → Type 0
  Bits wire count = Wires (IsBit net part) wire count

  -- so many wires and these registers of its own, in a region with so many statements from its position on
  record Stood (x : Stand) (wires : ℕ) (registers : List ℕ) (count : ℕ) : Type 0 where
    own : Bits x.wire wires
    kept : HasFrom part.registers x.register registers
    region : slice_get part.registers x.region ≡ Some 32
    acts : HasWidth net part x.acts 1
    few : x.position + count < 2 ^ 32

  at_bit : {w n : ℕ} → Bits w (suc (suc n)) → IsBit net part (ToWire w)
  at_bit {w} {n} own = first_wire (IsBit net part) {w = w} {n = suc n} own

  end_bit : {w n : ℕ} → Bits w (suc (suc n)) → IsBit net part (ToWire (suc w))
  end_bit {w} {n} own = first_wire (IsBit net part) {w = suc w} {n = n} (later_wires (IsBit net part) {w = w} {n = suc n} own)

  within_bits : {w n : ℕ} → Bits w (suc (suc n)) → Bits (suc (suc w)) n
  within_bits {w} {n} own = later_wires (IsBit net part) {w = suc w} {n = n} (later_wires (IsBit net part) {w = w} {n = suc n} own)

  -- the end wire of a statement
  end_own : (s : PlainStatement) (w : ℕ) → Bits w (wires_of s) → IsBit net part (ToWire (suc w))
  end_own (Placed form place) w own = end_bit {w = w} {n = form_wires form} own

  is_at : (register n : ℕ) → slice_get part.registers register ≡ Some 32 → n < 2 ^ 32 → HasWidth net part (equals (OfRegister register) n) 1
  is_at register n wide few = (refl, (32, wide, word_width n few))

  sets : (register n : ℕ) (guard : PlainNetExpr) → slice_get part.registers register ≡ Some 32 → HasWidth net part guard 1 → n < 2 ^ 32 → Drives net part (drive (ToRegister register) guard (word n))
  sets register n guard wide fits few = record { proper = tt; guard = fits; width = 32; target = wide; source = word_width n few }

  stands_fits : (x : Stand) {n : ℕ} (rs : List ℕ) (count : ℕ) → Stood x (suc (suc n)) rs count → Drives net part (stands x)
  stands_fits x {n} rs count room =
      let least : x.position + count < 2 ^ 32 = room.few in
      let few : x.position < 2 ^ 32 = omega arith in
      connects net part x.wire (both x.acts (equals (OfRegister x.region) x.position)) (at_bit {w = x.wire} {n = n} room.own) (refl, (room.acts, (is_at x.region x.position room.region few, tt)))

  ends_fits : (x : Stand) {n : ℕ} (when : PlainNetExpr) → Bits x.wire (suc (suc n)) → HasWidth net part when 1 → Drives net part (ends x when)
  ends_fits x {n} when own fits = connects net part (suc x.wire) when (end_bit {w = x.wire} {n = n} own) fits

  turn_fits : (x : Stand) {n : ℕ} (rs : List ℕ) (count : ℕ) → Stood x (suc (suc n)) rs count → AllDrive net part (one_turn x)
  turn_fits x {n} rs count room = (stands_fits x {n = n} rs count room, (ends_fits x {n = n} (at x) room.own (at_bit {w = x.wire} {n = n} room.own), tt))

  module _ (groups : ℕ) (islands : List PlainIsland) (numbers : List ℕ) (cells : List PlainCell) (same : part.cells ≡ map (cell_in numbers) cells) (offset : (g : ℕ) → g < groups → slice_get part.wires g ≡ Some 32)
      (goes_there : (g : ℕ) → g < groups → groups + g < part.holes) (island_bits : (n : ℕ) → groups ≤ n → n < groups + island_wires islands → IsBit net part (ToWire n))
      (islands_fit : Each (IslandFits net part groups cells) islands) where
    comb_fits : (x : Stand) (comb : Option ℕ) → CombNames groups comb → IsBit net part (ToWire x.wire) → AllDrive net part (comb_goes groups islands x comb)
    comb_fits x None named standing = tt
    comb_fits x (Some g) named standing = (record { proper = tt; guard = standing; width = 1; target = hole_width net part (groups + g) (goes_there g named); source = one_fits net part }, tt)

    timed_fits : (x : Stand) (k : ℕ) (o : Option PlainIsland) → slice_get islands k ≡ o → island_wires (take k islands) + wires_at o ≤ island_wires islands → IsBit net part (ToWire x.wire)
        → IsBit net part (ToWire (suc x.wire)) → HasFrom part.registers x.register (sample_registers o) → AllDrive net part (timed_drivers groups islands x k o)
    timed_fits x k None is within standing ending kept = tt
    timed_fits x k (Some island) is within standing ending kept =
        island_fits net part numbers cells same groups offset goes_there x (first_of_island groups islands k) island (are_at (IslandFits net part groups cells) islands islands_fit k island is) standing ending
        (λ n low high. let from : groups ≤ n = omega arith in let to : n < groups + island_wires islands = omega arith in island_bits n from to)
        (λ n less. from_replicate part.registers x.register (length island.points) 1 n kept less)

    mutual
      form_fits : (form : PlainForm) (x : Stand) → FormNames groups form → FormFits net part form → Stood x (suc (suc (form_wires form))) (form_registers islands form) (suc (length (visit_parts Dynamic form)))
          → AllDrive net part (form_drivers groups islands x form)
      form_fits Empty x named fits room = turn_fits x {n = 0} [] 1 room
      form_fits (Enable g) x named fits room =
          let hole : g < part.holes = (let h : groups + g < part.holes = goes_there g named in omega arith) in
          let standing = at_bit {w = x.wire} {n = 0} room.own in (
            stands_fits x {n = 0} [] 1 room,
            (
              ends_fits x {n = 0} (both (at x) (OfHole g)) room.own (refl, (standing, ((hole, refl), tt))),
              (record { proper = tt; guard = standing; width = 1; target = hole_width net part (groups + g) (goes_there g named); source = end_bit {w = x.wire} {n = 0} room.own }, tt),
            ),
          )
      form_fits (Seq no_statements) x named fits room = turn_fits x {n = 0} [] 1 room
      form_fits (Seq (a_statement s ss)) x named fits room =
          let rs = registers_of islands s in
          let qs = registers_in islands ss in
          let few : x.position + suc (length (visit Dynamic s ++ visit_all Dynamic ss)) < 2 ^ 32 = room.few in
          let here : x.position + length (visit Dynamic s) < 2 ^ 32 = omega (arith, length-append (visit Dynamic s) (visit_all Dynamic ss)) in
          let less : positions_of s ≤ length (visit Dynamic s) = positions_of_few s in
          let later : x.position + positions_of s + length (visit_all Dynamic ss) < 2 ^ 32 = omega (arith, length-append (visit Dynamic s) (visit_all Dynamic ss)) in
          let inner = within_bits {w = x.wire} {n = wires_of s + wires_in ss} room.own in
          let first = first_wires (IsBit net part) (wires_of s) (wires_in ss) inner in
          each_append (Drives net part) (drivers_of groups islands (inside x) s) (parts_drivers groups islands x (inside x).wire (behind islands s (inside x)) ss)
          (drivers_fit s (inside x) named.0 fits.0 (record { own = first; kept = from_left part.registers x.register rs qs room.kept; region = room.region; acts = room.acts; few = here }))
          (parts_fit x (inside x).wire (behind islands s (inside x)) ss named.1 fits.1 (end_bit {w = x.wire} {n = wires_of s + wires_in ss} room.own) (end_own s (suc (suc x.wire)) first)
          (record { own = rest_wires (IsBit net part) (wires_of s) (wires_in ss) inner; kept = from_right part.registers x.register rs qs room.kept; region = room.region; acts = room.acts; few = later }))
      form_fits (Par arms) x named fits room =
          let least : x.position + suc (length (visit_all Dynamic arms)) < 2 ^ 32 = room.few in
          let few : length (visit_all Dynamic arms) < 2 ^ 32 = omega arith in
          let inner = within_bits {w = x.wire} {n = wires_in arms} room.own in
          let standing = at_bit {w = x.wire} {n = wires_in arms} room.own in (
            stands_fits x {n = wires_in arms} (arms_registers islands arms) (suc (length (visit_all Dynamic arms))) room,
            each_append (Drives net part) (arms_drivers groups islands x (suc (suc x.wire)) x.register arms) (ends x (AllOf (exprs_of (at x ∷ arms_over groups islands (suc (suc x.wire)) x.register arms))) ∷ [])
                (arms_fit x (suc (suc x.wire)) x.register arms named fits standing (end_bit {w = x.wire} {n = wires_in arms} room.own) inner room.kept few) (
                  ends_fits x {n = wires_in arms} (AllOf (exprs_of (at x ∷ arms_over groups islands (suc (suc x.wire)) x.register arms))) room.own
                      (refl, bits_of net part (at x ∷ arms_over groups islands (suc (suc x.wire)) x.register arms) (standing, over_fits (suc (suc x.wire)) x.register arms inner room.kept few)),
                  tt,
                ),
          )
      form_fits (If test comb a b) x named fits room =
          let rs = registers_of islands a in
          let qs = registers_of islands b in
          let least : x.position + suc (length (visit Dynamic a ++ visit Dynamic b)) < 2 ^ 32 = room.few in
          let less : positions_of a ≤ length (visit Dynamic a) = positions_of_few a in
          let here : x.position + 1 + length (visit Dynamic a) < 2 ^ 32 = omega (arith, length-append (visit Dynamic a) (visit Dynamic b)) in
          let later : x.position + 1 + positions_of a + length (visit Dynamic b) < 2 ^ 32 = omega (arith, length-append (visit Dynamic a) (visit Dynamic b)) in
          let second_there : x.position + 1 + positions_of a < 2 ^ 32 = omega arith in
          let first_there : x.position + 1 < 2 ^ 32 = omega arith in
          let inner = within_bits {w = x.wire} {n = wires_of a + wires_of b} room.own in
          let standing = at_bit {w = x.wire} {n = wires_of a + wires_of b} room.own in
          let first_own = first_wires (IsBit net part) (wires_of a) (wires_of b) inner in
          let second_own = rest_wires (IsBit net part) (wires_of a) (wires_of b) inner in
          let first = past_test x in
          let second = behind islands a (past_test x) in (
            stands_fits x {n = wires_of a + wires_of b} (rs ++ qs) (suc (length (visit Dynamic a ++ visit Dynamic b))) room,
            each_append (Drives net part) (comb_goes groups islands x comb) _ (comb_fits x comb named.0 standing) (
              sets x.region first.position (found_one x test.port) room.region (refl, (standing, (fits.0, tt))) first_there,
              each_append (Drives net part) (drivers_of groups islands first a) _ (drivers_fit a first named.1.0 fits.1 (record { own = first_own; kept = from_left part.registers x.register rs qs room.kept; region = room.region; acts = room.acts; few = here })) (
                sets x.region second.position (found_zero x test.port) room.region (refl, (standing, (fits.0, tt))) second_there,
                each_append (Drives net part) (drivers_of groups islands second b) _
                    (drivers_fit b second named.1.1 fits.2 (record { own = second_own; kept = from_right part.registers x.register rs qs room.kept; region = room.region; acts = room.acts; few = later })) (
                      ends_fits x {n = wires_of a + wires_of b} (either (end_of first.wire) (end_of second.wire)) room.own
                          (refl, (end_own a (suc (suc x.wire)) first_own, (end_own b (suc (suc x.wire) + wires_of a) second_own, tt))),
                      tt,
                    ),
              ),
            ),
          )
      form_fits (While test comb a) x named fits room =
          let least : x.position + suc (length (visit Dynamic a)) < 2 ^ 32 = room.few in
          let here : x.position + 1 + length (visit Dynamic a) < 2 ^ 32 = omega arith in
          let there : x.position + 1 < 2 ^ 32 = omega arith in
          let back : x.position < 2 ^ 32 = omega arith in
          let inner = within_bits {w = x.wire} {n = wires_of a} room.own in
          let standing = at_bit {w = x.wire} {n = wires_of a} room.own in
          let body = past_test x in (
            stands_fits x {n = wires_of a} (registers_of islands a) (suc (length (visit Dynamic a))) room,
            each_append (Drives net part) (comb_goes groups islands x comb) _ (comb_fits x comb named.0 standing) (
              ends_fits x {n = wires_of a} (found_zero x test.port) room.own (refl, (standing, (fits.0, tt))),
              (
                sets x.region body.position (found_one x test.port) room.region (refl, (standing, (fits.0, tt))) there,
                each_append (Drives net part) (drivers_of groups islands body a) _ (drivers_fit a body named.1 fits.1 (record { own = inner; kept = room.kept; region = room.region; acts = room.acts; few = here }))
                    (sets x.region x.position (end_of body.wire) room.region (end_own a (suc (suc x.wire)) inner) back, tt),
              ),
            ),
          )
      form_fits (Repeat zero a) x named fits room = turn_fits x {n = 0} [] (suc (length (visit Dynamic a))) room
      form_fits (Repeat (suc n) a) x named fits room =
          let least : x.position + suc (length (visit Dynamic a)) < 2 ^ 32 = room.few in
          let here : x.position + length (visit Dynamic a) < 2 ^ 32 = omega arith in
          let back : x.position < 2 ^ 32 = omega arith in
          let count : suc n < 2 ^ 32 = fits.0 in
          let round : n < 2 ^ 32 = omega arith in
          let inner = within_bits {w = x.wire} {n = wires_of a} room.own in
          let over : IsBit net part (ToWire (suc (suc (suc x.wire)))) = end_own a (suc (suc x.wire)) inner in
          let register : slice_get part.registers x.register ≡ Some 32 = from_first part.registers x.register 32 (registers_of islands a) room.kept in
          each_append (Drives net part) (drivers_of groups islands (counted_inside x) a) (counting x n)
          (drivers_fit a (counted_inside x) named fits.1 (record { own = inner; kept = from_later part.registers x.register 32 (registers_of islands a) room.kept; region = room.region; acts = room.acts; few = here })) (
            ends_fits x {n = wires_of a} (both (end_of (suc (suc x.wire))) (in_last_round x n)) room.own (refl, (over, (is_at x.register n register round, tt))),
            (
              sets x.region x.position (both (end_of (suc (suc x.wire))) (in_earlier_round x n)) room.region (refl, (over, ((refl, (32, register, word_width n round)), tt))) back,
              (
                sets x.register 0 (end_of x.wire) register (end_bit {w = x.wire} {n = wires_of a} room.own) (omega arith),
                (record { proper = tt; guard = over; width = 32; target = register; source = (register, word_width 1 (omega arith)) }, tt),
              ),
            ),
          )
      form_fits (StaticSeq written parts) x named fits room = turn_fits x {n = 0} [] (suc (length (visit_parts Dynamic (StaticSeq written parts)))) room
      form_fits (StaticPar written arms) x named fits room = turn_fits x {n = 0} [] (suc (length (visit_parts Dynamic (StaticPar written arms)))) room
      form_fits (StaticIf written test a b) x named fits room = turn_fits x {n = 0} [] (suc (length (visit_parts Dynamic (StaticIf written test a b)))) room
      form_fits (StaticRepeat written count a) x named fits room = turn_fits x {n = 0} [] (suc (length (visit_parts Dynamic (StaticRepeat written count a)))) room
      form_fits (Timed k) x named fits room = (
        stands_fits x {n = 0} (sample_registers (slice_get islands k)) 1 room,
        timed_fits x k (slice_get islands k) refl (island_within islands k) (at_bit {w = x.wire} {n = 0} room.own) (end_bit {w = x.wire} {n = 0} room.own) room.kept,
      )

      drivers_fit : (s : PlainStatement) (x : Stand) → StatementNames groups s → StatementFits net part s → Stood x (wires_of s) (registers_of islands s) (length (visit Dynamic s)) → AllDrive net part (drivers_of groups islands x s)
      drivers_fit (Placed form place) x named fits room = form_fits form x named fits room

      parts_fit : (seq : Stand) (before : ℕ) (x : Stand) (ss : PlainStatements) → PartsName groups ss → PartsFit net part ss → IsBit net part (ToWire (suc seq.wire)) → IsBit net part (ToWire (suc before))
          → Stood x (wires_in ss) (registers_in islands ss) (length (visit_all Dynamic ss)) → AllDrive net part (parts_drivers groups islands seq before x ss)
      parts_fit seq before x no_statements named fits ending over room = (connects net part (suc seq.wire) (end_of before) ending over, tt)
      parts_fit seq before x (a_statement s ss) named fits ending over room =
          let rs = registers_of islands s in
          let qs = registers_in islands ss in
          let few : x.position + length (visit Dynamic s ++ visit_all Dynamic ss) < 2 ^ 32 = room.few in
          let here : x.position + length (visit Dynamic s) < 2 ^ 32 = omega (arith, length-append (visit Dynamic s) (visit_all Dynamic ss)) in
          let there : x.position < 2 ^ 32 = omega arith in
          let less : positions_of s ≤ length (visit Dynamic s) = positions_of_few s in
          let later : x.position + positions_of s + length (visit_all Dynamic ss) < 2 ^ 32 = omega (arith, length-append (visit Dynamic s) (visit_all Dynamic ss)) in
          let first = first_wires (IsBit net part) (wires_of s) (wires_in ss) room.own in (
            sets x.region x.position (end_of before) room.region over there,
            each_append (Drives net part) (drivers_of groups islands x s) (parts_drivers groups islands seq x.wire (behind islands s x) ss)
                (drivers_fit s x named.0 fits.0 (record { own = first; kept = from_left part.registers x.register rs qs room.kept; region = room.region; acts = room.acts; few = here }))
                (parts_fit seq x.wire (behind islands s x) ss named.1 fits.1 ending (end_own s x.wire first)
                (record { own = rest_wires (IsBit net part) (wires_of s) (wires_in ss) room.own; kept = from_right part.registers x.register rs qs room.kept; region = room.region; acts = room.acts; few = later })),
          )

      arms_fit : (par : Stand) (wire register : ℕ) (ss : PlainStatements) → PartsName groups ss → PartsFit net part ss → IsBit net part (ToWire par.wire) → IsBit net part (ToWire (suc par.wire)) → Bits wire (wires_in ss)
          → HasFrom part.registers register (arms_registers islands ss) → length (visit_all Dynamic ss) < 2 ^ 32 → AllDrive net part (arms_drivers groups islands par wire register ss)
      arms_fit par wire register no_statements named fits standing ending own kept few = tt
      arms_fit par wire register (a_statement s ss) named fits standing ending own kept few =
          let rs = registers_of islands s in
          let qs = arms_registers islands ss in
          let here : length (visit Dynamic s) < 2 ^ 32 = omega (arith, length-append (visit Dynamic s) (visit_all Dynamic ss)) in
          let from_0 : 0 + length (visit Dynamic s) < 2 ^ 32 = omega arith in
          let less : positions_of s ≤ length (visit Dynamic s) = positions_of_few s in
          let end_there : positions_of s < 2 ^ 32 = omega arith in
          let later : length (visit_all Dynamic ss) < 2 ^ 32 = omega (arith, length-append (visit Dynamic s) (visit_all Dynamic ss)) in
          let first = first_wires (IsBit net part) (wires_of s) (wires_in ss) own in
          let region = from_first part.registers register 32 (rs ++ qs) kept in
          let rest = from_later part.registers register 32 (rs ++ qs) kept in (
            sets register 0 (end_of par.wire) region ending (omega arith),
            each_append (Drives net part) (drivers_of groups islands (arm_stand par wire register) s) _
                (drivers_fit s (arm_stand par wire register) named.0 fits.0 (record { own = first; kept = from_left part.registers (suc register) rs qs rest; region = region; acts = standing; few = from_0 })) (
                  sets register (positions_of s) (end_of wire) region (end_own s wire first) end_there,
                  arms_fit par (wire + wires_of s) (suc register + length rs) ss named.1 fits.1 standing ending (rest_wires (IsBit net part) (wires_of s) (wires_in ss) own)
                      (from_right part.registers (suc register) rs qs rest) later,
                ),
          )

      over_fits : (wire register : ℕ) (ss : PlainStatements) → Bits wire (wires_in ss) → HasFrom part.registers register (arms_registers islands ss) → length (visit_all Dynamic ss) < 2 ^ 32
          → Each (λ e. HasWidth net part e 1) (arms_over groups islands wire register ss)
      over_fits wire register no_statements own kept few = tt
      over_fits wire register (a_statement s ss) own kept few =
          let rs = registers_of islands s in
          let qs = arms_registers islands ss in
          let less : positions_of s ≤ length (visit Dynamic s) = positions_of_few s in
          let end_there : positions_of s < 2 ^ 32 = omega (arith, length-append (visit Dynamic s) (visit_all Dynamic ss)) in
          let later : length (visit_all Dynamic ss) < 2 ^ 32 = omega (arith, length-append (visit Dynamic s) (visit_all Dynamic ss)) in
          let region = from_first part.registers register 32 (rs ++ qs) kept in (
            (refl, (is_at register (positions_of s) region end_there, (end_own s wire (first_wires (IsBit net part) (wires_of s) (wires_in ss) own), tt))),
            over_fits (wire + wires_of s) (suc register + length rs) ss (rest_wires (IsBit net part) (wires_of s) (wires_in ss) own)
                (from_right part.registers (suc register) rs qs (from_later part.registers register 32 (rs ++ qs) kept)) later,
          )

    -- THE CONTROL of a component: its region's register comes before those of the statement
    pub control_fits : (wire : ℕ) (s : PlainStatement) → StatementNames groups s → StatementFits net part s → Bits wire (wires_of s) → HasFrom part.registers 0 (32 ∷ registers_of islands s) → length (visit Dynamic s) < 2 ^ 32
        → AllDrive net part (control_drivers groups islands wire s)
    control_fits wire s named fits own kept few =
        let region = from_first part.registers 0 32 (registers_of islands s) kept in
        let less : positions_of s ≤ length (visit Dynamic s) = positions_of_few s in
        let there : positions_of s < 2 ^ 32 = omega arith in
        let from_0 : 0 + length (visit Dynamic s) < 2 ^ 32 = omega arith in
        each_append (Drives net part) (drivers_of groups islands (whole_stand wire) s) (finishing wire s)
        (drivers_fit s (whole_stand wire) named fits (record { own = own; kept = from_later part.registers 0 32 (registers_of islands s) kept; region = region; acts = refl; few = from_0 })) (
          sets 0 (positions_of s) (end_of wire) region (end_own s wire own) there,
          (
            sets 0 0 (equals (OfRegister 0) (positions_of s)) region (is_at 0 (positions_of s) region there) (omega arith),
            (record { proper = tt; guard = one_fits net part; width = 1; target = refl; source = is_at 0 (positions_of s) region there }, tt),
          ),
        )
