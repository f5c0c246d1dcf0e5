-- All drivers of control are fed where the holes of groups and the ports of tests have values, and the wires of control have values.
use Rattle.std.proofs.Common.{ℕ, zero, suc, ◌+◌, ◌<◌, ◌≤◌, true, List, ◌∷◌, ◌++◌, length, Option, Some, None, refl, arith}
use Rattle.cx_bits.specs.BitVector.{BitVector}
use Rattle.cx_bits.specs.Operators.{and_of, sum_of}
use Rattle.cx_meaning.specs.Designs.{PlainForm, Empty, Enable, Seq, Par, If, While, Repeat, StaticSeq, StaticPar, StaticIf, StaticRepeat, Timed, PlainStatement, Placed, PlainStatements, no_statements, a_statement}
use Rattle.cx_net.specs.Nets.{PlainNetExpr, OfPort, OfRegister, OfHole, Inverse, AllOf, Sum, exprs_of, PlainNetTarget, ToHole, ToRegister, PlainNetDriver}
use Rattle.cx_net.specs.NetMeaning.{Node, NetAround, truth_bit, all_expr}
use Rattle.cx_static.specs.Islands.{PlainIsland}
use Rattle.cx_wiring.specs.Parts.{word, one, both, equals, drive}
use Rattle.cx_wiring.specs.Counts.{positions_of, wires_of, form_registers, registers_of, registers_in, arms_registers}
use Rattle.cx_wiring.specs.Stands.{Stand, at, end_of, goes, inside, past_test, behind}
use Rattle.cx_wiring.specs.Control.{one_turn, found_one, found_zero, arm_stand, counted_inside, counting, in_last_round, in_earlier_round, comb_goes, arms_over, form_drivers, drivers_of, parts_drivers, arms_drivers}
use Rattle.cx_wiring.specs.Bounds.{FormNames, StatementNames, PartsName}
use Rattle.cx_wiring.specs.Takings.{value, AllConnect, AreRegisters}
use Rattle.cx_wiring.specs.NetBits.{FormTests, StatementTests, PartsTests}
use Rattle.cx_wiring.proofs.TakingLemmas.{connect_both, registers_both, says_differs}
use Rattle.cx_meaning.specs.declared.ports.PortRef.{PortRef}
use Rattle.cx_wiring_cycles.specs.IslandTakes.{FormIslands, StatementIslands, PartsIslands, ArmsIslands}
use Rattle.cx_wiring_runs.proofs.KnownLemmas.{Known, known_as, known_both, KnownExpr, Fed, known_two, known_either, known_equals, known_inverse, AllOfThem, all_append}
use Rattle.cx_wiring_runs.proofs.GuardsKnown.{fed_connect}

module _ (groups : ℕ) (islands : List PlainIsland) (around : NetAround) (registers : ℕ → Option BitVector) (look : Node → Option BitVector) (bound : ℕ) (kept : ℕ → ℕ)
    (holes : (g : ℕ) → g < groups → KnownExpr around registers look (OfHole g)) (Isle : ℕ → Stand → Type 0) where
  abbrev K : PlainNetExpr → Type 0
  K = KnownExpr around registers look

  abbrev AllFed : List PlainNetDriver → Type 0
  AllFed ds = AllOfThem (Fed around registers look) ds

  -- a driver whose guard and source have values
  fed_drive : (t : PlainNetTarget) (e f : PlainNetExpr) → K e → K f → Fed around registers look (drive t e f)
  fed_drive t e f k l = record { guard = k; source = λ on. l }

  word_known : (n : ℕ) → K (word n)
  word_known n = (_, refl)

  one_known : K one
  one_known = (_, refl)

  -- the region of a statement
  pub record Stood (acts : PlainNetExpr) (region : ℕ) : Type 0 where
    pub acts_known : KnownExpr around registers look acts
    pub register_known : KnownExpr around registers look (OfRegister region)

  -- the drivers of a statement are fed, and its end has a value
  pub record Whole (x : Stand) (ds : List PlainNetDriver) : Type 0 where
    pub ends : KnownExpr around registers look (end_of x.wire)
    pub fed : AllOfThem (Fed around registers look) ds

  both_fed : (xs ys : List PlainNetDriver) → AllFed xs → AllFed ys → AllFed (xs ++ ys)
  both_fed xs ys h k = all_append (Fed around registers look) xs ys h k

  stands_known : (x : Stand) → Stood x.acts x.region → K (both x.acts (equals (OfRegister x.region) x.position))
  stands_known x s = known_two around registers look x.acts (equals (OfRegister x.region) x.position) (Stood.acts_known s) (known_equals around registers look (OfRegister x.region) x.position (Stood.register_known s))

  abbrev pub Timers : Type 0
  Timers = (k : ℕ) (x : Stand) → Isle k x → Stood x.acts x.region → bound ≤ x.wire → AllConnect around registers look bound (form_drivers groups islands x (Timed k)) → AreRegisters around registers look kept x.register (form_registers islands (Timed k))
      → Whole x (form_drivers groups islands x (Timed k))

  module _ (timed : Timers) where
    abbrev Tests : PortRef → Type 0
    Tests p = KnownExpr around registers look (OfPort p)

    turn_whole : (x : Stand) → Stood x.acts x.region → bound ≤ x.wire → AllConnect around registers look bound (one_turn x) → Whole x (one_turn x)
    turn_whole x s low c =
        let a = stands_known x s in
        let here : K (at x) = known_as _ _ (c.0 low) a in
        record { ends = known_as _ _ (c.1.0 (omega arith)) here; fed = (fed_connect around registers look x.wire _ a, (fed_connect around registers look (suc x.wire) _ here, tt)) }

    comb_fed : (x : Stand) (comb : Option ℕ) → K (at x) → AllFed (comb_goes groups islands x comb)
    comb_fed x None k = tt
    comb_fed x (Some g) k = (fed_drive (ToHole (groups + g)) (at x) one k one_known, tt)

    goes_fed : (x : Stand) (e : PlainNetExpr) (p : ℕ) → K e → Fed around registers look (goes x e p)
    goes_fed x e p k = fed_drive (ToRegister x.region) e (word p) k (word_known p)

    -- the arms of a par
    record ArmsWhole (par : Stand) (wire register : ℕ) (arms : PlainStatements) : Type 0 where
      over : Known (all_expr around registers look (exprs_of (arms_over groups islands wire register arms)))
      fed : K (end_of par.wire) → AllFed (arms_drivers groups islands par wire register arms)

    record PartsWhole (seq : Stand) (ds : List PlainNetDriver) : Type 0 where
      ends : K (end_of seq.wire)
      fed : AllFed ds

    mutual
      form_whole : (form : PlainForm) (x : Stand) → Stood x.acts x.region → bound ≤ x.wire → AllConnect around registers look bound (form_drivers groups islands x form)
          → AreRegisters around registers look kept x.register (form_registers islands form) → FormNames groups form → FormTests Tests form → FormIslands Isle islands x form → Whole x (form_drivers groups islands x form)
      form_whole Empty x s low c k names tests isles = turn_whole x s low c
      form_whole (Enable g) x s low c k names tests isles =
          let a = stands_known x s in
          let here : K (at x) = known_as _ _ (c.0 low) a in
          let over : K (both (at x) (OfHole g)) = known_two around registers look (at x) (OfHole g) here (holes g names) in
          record {
            ends = known_as _ _ (c.1.0 (omega arith)) over;
            fed = (fed_connect around registers look x.wire _ a, (fed_connect around registers look (suc x.wire) _ over, (fed_drive (ToHole (groups + g)) (at x) (Inverse (end_of x.wire)) here (known_inverse around registers look (end_of x.wire) (known_as _ _ (c.1.0 (omega arith)) over)), tt)));
          }
      form_whole (Seq no_statements) x s low c k names tests isles = turn_whole x s low c
      form_whole (Seq (a_statement t ts)) x s low c k names tests isles =
          let cs = connect_both around registers look bound (drivers_of groups islands (inside x) t) (parts_drivers groups islands x (inside x).wire (behind islands t (inside x)) ts) c in
          let ks = registers_both around registers look kept x.register (registers_of islands t) (registers_in islands ts) k in
          let first = statement_whole t (inside x) s (omega arith) cs.0 ks.0 names.0 tests.0 isles.0 in
          let later = parts_whole x (inside x).wire (behind islands t (inside x)) ts s (omega arith) low (Whole.ends first) cs.1 ks.1 names.1 tests.1 isles.1 in
          record { ends = PartsWhole.ends later; fed = both_fed (drivers_of groups islands (inside x) t) _ (Whole.fed first) (PartsWhole.fed later) }
      form_whole (Par arms) x s low c k names tests isles =
          let a = stands_known x s in
          let here : K (at x) = known_as _ _ (c.0 low) a in
          let cs = connect_both around registers look bound (arms_drivers groups islands x (suc (suc x.wire)) x.register arms) _ c.1 in
          let all = arms_whole x (suc (suc x.wire)) x.register arms here (omega arith) cs.0 k names tests isles in
          let over : K (AllOf (exprs_of (at x ∷ arms_over groups islands (suc (suc x.wire)) x.register arms))) = known_both and_of (value around registers look (at x)) _ here (ArmsWhole.over all) in
          let end : K (end_of x.wire) = known_as _ _ (cs.1.0 (omega arith)) over in
          record { ends = end; fed = (fed_connect around registers look x.wire _ a, both_fed (arms_drivers groups islands x (suc (suc x.wire)) x.register arms) _ (ArmsWhole.fed all end) (fed_connect around registers look (suc x.wire) _ over, tt)) }
      form_whole (If test comb a b) x s low c k names tests isles =
          let st = stands_known x s in
          let here : K (at x) = known_as _ _ (c.0 low) st in
          let ks = registers_both around registers look kept x.register (registers_of islands a) (registers_of islands b) k in
          let c_comb = connect_both around registers look bound (comb_goes groups islands x comb) _ c.1 in
          let c_a = connect_both around registers look bound (drivers_of groups islands (past_test x) a) _ c_comb.1.1 in
          let c_b = connect_both around registers look bound (drivers_of groups islands (behind islands a (past_test x)) b) _ c_a.1.1 in
          let f = statement_whole a (past_test x) s (omega arith) c_a.0 ks.0 names.1.0 tests.1.0 isles.0 in
          let g = statement_whole b (behind islands a (past_test x)) s (omega arith) c_b.0 ks.1 names.1.1 tests.1.1 isles.1 in
          let found : K (found_one x test.port) = known_two around registers look (at x) (OfPort test.port) here tests.0 in
          let failed : K (found_zero x test.port) = known_two around registers look (at x) (Inverse (OfPort test.port)) here (known_inverse around registers look (OfPort test.port) tests.0) in
          let over = known_either around registers look (end_of (past_test x).wire) (end_of (behind islands a (past_test x)).wire) (Whole.ends f) (Whole.ends g) in
          record {
            ends = known_as _ _ (c_b.1.0 (omega arith)) over;
            fed = (
              fed_connect around registers look x.wire _ st,
              both_fed (comb_goes groups islands x comb) _ (comb_fed x comb here) (
                goes_fed x (found_one x test.port) (past_test x).position found,
                both_fed (drivers_of groups islands (past_test x) a) _ (Whole.fed f)
                    (goes_fed x (found_zero x test.port) (behind islands a (past_test x)).position failed, both_fed (drivers_of groups islands (behind islands a (past_test x)) b) _ (Whole.fed g) (fed_connect around registers look (suc x.wire) _ over, tt)),
              ),
            );
          }
      form_whole (While test comb a) x s low c k names tests isles =
          let st = stands_known x s in
          let here : K (at x) = known_as _ _ (c.0 low) st in
          let c_comb = connect_both around registers look bound (comb_goes groups islands x comb) _ c.1 in
          let c_a = connect_both around registers look bound (drivers_of groups islands (past_test x) a) _ c_comb.1.1.1 in
          let f = statement_whole a (past_test x) s (omega arith) c_a.0 k names.1 tests.1 isles in
          let found : K (found_one x test.port) = known_two around registers look (at x) (OfPort test.port) here tests.0 in
          let failed : K (found_zero x test.port) = known_two around registers look (at x) (Inverse (OfPort test.port)) here (known_inverse around registers look (OfPort test.port) tests.0) in
          record {
            ends = known_as _ _ (c_comb.1.0 (omega arith)) failed;
            fed = (
              fed_connect around registers look x.wire _ st,
              both_fed (comb_goes groups islands x comb) _ (comb_fed x comb here) (
                fed_connect around registers look (suc x.wire) _ failed,
                (goes_fed x (found_one x test.port) (past_test x).position found, both_fed (drivers_of groups islands (past_test x) a) _ (Whole.fed f) (goes_fed x (end_of (past_test x).wire) x.position (Whole.ends f), tt)),
              ),
            );
          }
      form_whole (Repeat zero a) x s low c k names tests isles = turn_whole x s low c
      form_whole (Repeat (suc n) a) x s low c k names tests isles =
          let cs = connect_both around registers look bound (drivers_of groups islands (counted_inside x) a) (counting x n) c in
          let f = statement_whole a (counted_inside x) s (omega arith) cs.0 k.1 names tests isles in
          let counter : K (OfRegister x.register) = (_, k.0) in
          let last : K (in_last_round x n) = known_equals around registers look (OfRegister x.register) n counter in
          let earlier : K (in_earlier_round x n) = (_, says_differs around registers look (OfRegister x.register) (record { width = 32; value = kept x.register }) n k.0) in
          let over = known_two around registers look (end_of (suc (suc x.wire))) (in_last_round x n) (Whole.ends f) last in
          let end : K (end_of x.wire) = known_as _ _ (cs.1.0 (omega arith)) over in
          record {
            ends = end;
            fed = both_fed (drivers_of groups islands (counted_inside x) a) (counting x n) (Whole.fed f) (
              fed_connect around registers look (suc x.wire) _ over,
              (
                goes_fed x (both (end_of (suc (suc x.wire))) (in_earlier_round x n)) x.position (known_two around registers look (end_of (suc (suc x.wire))) (in_earlier_round x n) (Whole.ends f) earlier),
                (
                  fed_drive (ToRegister x.register) (end_of x.wire) (word 0) end (word_known 0),
                  (fed_drive (ToRegister x.register) (end_of (suc (suc x.wire))) (Sum (OfRegister x.register) (word 1)) (Whole.ends f) (known_both sum_of _ _ counter (word_known 1)), tt),
                ),
              ),
            );
          }
      form_whole (StaticSeq written parts) x s low c k names tests isles = turn_whole x s low c
      form_whole (StaticPar written arms) x s low c k names tests isles = turn_whole x s low c
      form_whole (StaticIf written test a b) x s low c k names tests isles = turn_whole x s low c
      form_whole (StaticRepeat written count a) x s low c k names tests isles = turn_whole x s low c
      form_whole (Timed n) x s low c k names tests isles = timed n x isles s low c k

      pub statement_whole : (t : PlainStatement) (x : Stand) → Stood x.acts x.region → bound ≤ x.wire → AllConnect around registers look bound (drivers_of groups islands x t)
          → AreRegisters around registers look kept x.register (registers_of islands t) → StatementNames groups t → StatementTests Tests t → StatementIslands Isle islands x t → Whole x (drivers_of groups islands x t)
      statement_whole (Placed form place) x s low c k names tests isles = form_whole form x s low c k names tests isles

      parts_whole : (seq : Stand) (before : ℕ) (x : Stand) (ts : PlainStatements) → Stood x.acts x.region → bound ≤ x.wire → bound ≤ seq.wire → K (end_of before) → AllConnect around registers look bound (parts_drivers groups islands seq before x ts)
          → AreRegisters around registers look kept x.register (registers_in islands ts) → PartsName groups ts → PartsTests Tests ts → PartsIslands Isle islands x ts → PartsWhole seq (parts_drivers groups islands seq before x ts)
      parts_whole seq before x no_statements s low base before_known c k names tests isles =
          record { ends = known_as _ _ (c.0 (omega arith)) before_known; fed = (fed_connect around registers look (suc seq.wire) _ before_known, tt) }
      parts_whole seq before x (a_statement t ts) s low base before_known c k names tests isles =
          let cs = connect_both around registers look bound (drivers_of groups islands x t) (parts_drivers groups islands seq x.wire (behind islands t x) ts) c.1 in
          let ks = registers_both around registers look kept x.register (registers_of islands t) (registers_in islands ts) k in
          let first = statement_whole t x s low cs.0 ks.0 names.0 tests.0 isles.0 in
          let later = parts_whole seq x.wire (behind islands t x) ts s (omega arith) base (Whole.ends first) cs.1 ks.1 names.1 tests.1 isles.1 in
          record { ends = PartsWhole.ends later; fed = (goes_fed x (end_of before) x.position before_known, both_fed (drivers_of groups islands x t) _ (Whole.fed first) (PartsWhole.fed later)) }

      arms_whole : (par : Stand) (wire register : ℕ) (arms : PlainStatements) → K (at par) → bound ≤ wire → AllConnect around registers look bound (arms_drivers groups islands par wire register arms)
          → AreRegisters around registers look kept register (arms_registers islands arms) → PartsName groups arms → PartsTests Tests arms → ArmsIslands Isle islands par wire register arms → ArmsWhole par wire register arms
      arms_whole par wire register no_statements here low c k names tests isles = record { over = (truth_bit true, refl); fed = λ e. tt }
      arms_whole par wire register (a_statement t ts) here low c k names tests isles =
          let cs = connect_both around registers look bound (drivers_of groups islands (arm_stand par wire register) t) _ c.1 in
          let ks = registers_both around registers look kept (suc register) (registers_of islands t) (arms_registers islands ts) k.1 in
          let region : K (OfRegister register) = (_, k.0) in
          let first = statement_whole t (arm_stand par wire register) (record { acts_known = here; register_known = region }) low cs.0 ks.0 names.0 tests.0 isles.0 in
          let later = arms_whole par (wire + wires_of t) (suc register + length (registers_of islands t)) ts here (omega arith) cs.1.1 ks.1 names.1 tests.1 isles.1 in
          let over = known_either around registers look (equals (OfRegister register) (positions_of t)) (end_of wire) (known_equals around registers look (OfRegister register) (positions_of t) region) (Whole.ends first) in
          record {
            over = known_both and_of _ _ over (ArmsWhole.over later);
            fed = λ e. (
              fed_drive (ToRegister register) (end_of par.wire) (word 0) e (word_known 0),
              both_fed (drivers_of groups islands (arm_stand par wire register) t) _ (Whole.fed first) (fed_drive (ToRegister register) (end_of wire) (word (positions_of t)) (Whole.ends first) (word_known (positions_of t)), ArmsWhole.fed later e),
            );
          }
