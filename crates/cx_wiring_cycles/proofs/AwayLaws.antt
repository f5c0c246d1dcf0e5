-- Where control is not at a statement, or the statement's region does not act, nothing that the statement drives acts, whatever
-- the registers hold.
use Rattle.std.proofs.Common.{◌≡◌, ℕ, zero, suc, ◌+◌, ◌≤◌, inl, inr, ◌==◌, Bool, true, false, ◌&&◌, List, length, Option, Some, None, slice_get, refl, ap, ◌∙◌, arith}
use Rattle.std.proofs.lemmas.Bool.{ne_eqb}
use Rattle.cx_bits.specs.BitVector.{BitVector}
use Rattle.cx_meaning.specs.declared.ports.PortRef.{PortRef}
use Rattle.cx_meaning.specs.Designs.{PlainForm, Empty, Enable, Seq, Par, If, While, Repeat, StaticSeq, StaticPar, StaticIf, StaticRepeat, Timed, PlainStatement, Placed, PlainStatements, no_statements, a_statement}
use Rattle.cx_net.specs.Nets.{OfPort, OfRegister, OfHole, Inverse, exprs_of, ToWire}
use Rattle.cx_net.specs.NetMeaning.{Node, NetAround, truth_bit, all_expr}
use Rattle.cx_static.specs.Islands.{PlainIsland}
use Rattle.cx_wiring.specs.Parts.{both, either, equals}
use Rattle.cx_wiring.specs.Counts.{positions_of, positions_in, wires_of, sample_registers, form_registers, registers_of, registers_in, arms_registers}
use Rattle.cx_wiring.specs.Stands.{Stand, at, end_of, inside, past_test, behind}
use Rattle.cx_wiring.specs.Control.{one_turn, found_one, found_zero, arm_stand, in_last_round, in_earlier_round, counted_inside, counting, comb_goes, arms_over, form_drivers, drivers_of, parts_drivers, arms_drivers}
use Rattle.cx_wiring.specs.Takings.{Says, Connects, AllConnect, AllIdle, AreRegisters}
use Rattle.cx_wiring.proofs.TakingLemmas.{says_both, says_either, says_not, says_all, says_equals, says_differs, connect_both, idle_both, registers_both}
use Rattle.cx_wiring_cycles.specs.Standing.{IsStopped, IsIn, Away, FormBits, StatementBits, PartsBits}
use Rattle.cx_wiring_cycles.specs.IslandTakes.{IslandNexts}
use Rattle.cx_wiring_cycles.specs.Shown.{FormNexts, StatementNexts, PartsNext, ArmsNext}
use Rattle.cx_text.proofs.BoolLaws.{and_false}

pub not_here : (acting : Bool) (r p n : ℕ) → 1 ≤ n → IsStopped acting r p n → (acting && (r == p)) ≡ false
not_here acting r p n some (inl e) = ap (λ b. b && (r == p)) e
not_here acting r p n some (inr (inl l)) = ap (λ b. acting && b) (ne_eqb r p (λ e. omega arith)) ∙ and_false acting
not_here acting r p n some (inr (inr l)) = ap (λ b. acting && b) (ne_eqb r p (λ e. omega arith)) ∙ and_false acting

pub stopped_first : (acting : Bool) (r p n m : ℕ) → IsStopped acting r p (n + m) → IsStopped acting r p n
stopped_first acting r p n m (inl e) = inl e
stopped_first acting r p n m (inr (inl l)) = inr (inl l)
stopped_first acting r p n m (inr (inr l)) = inr (inr (omega arith))

pub stopped_later : (acting : Bool) (r p n m : ℕ) → IsStopped acting r p (n + m) → IsStopped acting r (p + n) m
stopped_later acting r p n m (inl e) = inl e
stopped_later acting r p n m (inr (inl l)) = inr (inl (omega arith))
stopped_later acting r p n m (inr (inr l)) = inr (inr (omega arith))

pub stopped_behind : (acting : Bool) (r p n : ℕ) → IsStopped acting r p (suc n) → IsStopped acting r (p + 1) n
stopped_behind acting r p n (inl e) = inl e
stopped_behind acting r p n (inr (inl l)) = inr (inl (omega arith))
stopped_behind acting r p n (inr (inr l)) = inr (inr (omega arith))

module _ (groups : ℕ) (islands : List PlainIsland) (around : NetAround) (registers : ℕ → Option BitVector) (look : Node → Option BitVector) (bound : ℕ) (kept : ℕ → ℕ) (hole : ℕ → Bool) (port : PortRef → Bool) where
  pub here : (x : Stand) (acting : Bool) (r : ℕ) → IsIn around registers look x.acts x.region acting r → bound ≤ x.wire
      → Connects around registers look bound (ToWire x.wire) (both x.acts (equals (OfRegister x.region) x.position)) → Says around registers look (at x) (acting && (r == x.position))
  here x acting r i low c =
      c low ∙ says_both around registers look x.acts (equals (OfRegister x.region) x.position) acting (r == x.position) i.acts_so
      (says_equals around registers look (OfRegister x.region) (record { width = i.width; value = r }) x.position i.at_position)

  pub at_false : (x : Stand) (acting : Bool) (r n : ℕ) → IsIn around registers look x.acts x.region acting r → 1 ≤ n → IsStopped acting r x.position n → bound ≤ x.wire
      → Connects around registers look bound (ToWire x.wire) (both x.acts (equals (OfRegister x.region) x.position)) → Says around registers look (at x) false
  at_false x acting r n i some o low c = here x acting r i low c ∙ ap (λ b. Some (truth_bit b)) (not_here acting r x.position n some o)

  turn_away : (x : Stand) (acting : Bool) (r : ℕ) → IsIn around registers look x.acts x.region acting r → IsStopped acting r x.position 1 → bound ≤ x.wire
      → AllConnect around registers look bound (one_turn x) → Away around registers look x (one_turn x)
  turn_away x acting r i o low c =
      let off : Says around registers look (at x) false = at_false x acting r 1 i (omega arith) o low c.0 in
      let high : bound ≤ suc x.wire = omega arith in
      record { ends = c.1.0 high ∙ off; idle = (tt, (tt, tt)) }

  pub comb_idle : (x : Stand) (comb : Option ℕ) → Says around registers look (at x) false → AllIdle around registers look (comb_goes groups islands x comb)
  comb_idle x None off = tt
  comb_idle x (Some g) off = (off, tt)

  -- arms of a par at which control does not stand
  pub record ArmsAway (par : Stand) (wire register : ℕ) (arms : PlainStatements) : Type 0 where
    pub over : Bool
    pub knows : all_expr around registers look (exprs_of (arms_over groups islands wire register arms)) ≡ Some (truth_bit over)
    pub idle : Says around registers look (end_of par.wire) false → AllIdle around registers look (arms_drivers groups islands par wire register arms)

  module _ (next : ℕ → ℕ)
      (timed : (k : ℕ) (x : Stand) (acting : Bool) (r : ℕ) → IsIn around registers look x.acts x.region acting r → IsStopped acting r x.position 1 → bound ≤ x.wire
      → AllConnect around registers look bound (form_drivers groups islands x (Timed k)) → AreRegisters around registers look kept x.register (sample_registers (slice_get islands k))
      → IslandNexts groups islands around registers look kept next k x → Away around registers look x (form_drivers groups islands x (Timed k))) where
    mutual
      away_form : (form : PlainForm) (x : Stand) (acting : Bool) (r : ℕ) → IsIn around registers look x.acts x.region acting r → IsStopped acting r x.position (positions_of (Placed form (record { line = 1; column = 1 })))
          → bound ≤ x.wire → AllConnect around registers look bound (form_drivers groups islands x form) → AreRegisters around registers look kept x.register (form_registers islands form)
          → FormBits around registers look hole port form → FormNexts groups islands around registers look kept next x form → Away around registers look x (form_drivers groups islands x form)
      away_form Empty x acting r i o low c k bits nexts = turn_away x acting r i o low c
      away_form (Enable g) x acting r i o low c k bits nexts =
          let off : Says around registers look (at x) false = at_false x acting r 1 i (omega arith) o low c.0 in
          let high : bound ≤ suc x.wire = omega arith in
          record { ends = c.1.0 high ∙ says_both around registers look (at x) (OfHole g) false (hole g) off bits; idle = (tt, (tt, (off, tt))) }
      away_form (Seq no_statements) x acting r i o low c k bits nexts = turn_away x acting r i o low c
      away_form (Seq (a_statement s ss)) x acting r i o low c k bits nexts =
          let cs = connect_both around registers look bound (drivers_of groups islands (inside x) s) (parts_drivers groups islands x (inside x).wire (behind islands s (inside x)) ss) c in
          let ks = registers_both around registers look kept x.register (registers_of islands s) (registers_in islands ss) k in
          let low_in : bound ≤ suc (suc x.wire) = omega arith in
          let low_behind : bound ≤ suc (suc x.wire) + wires_of s = omega arith in
          let a = away s (inside x) acting r i (stopped_first acting r x.position (positions_of s) (positions_in ss) o) low_in cs.0 ks.0 bits.0 nexts.0 in
          let b = away_parts x (inside x).wire (behind islands s (inside x)) ss acting r i (stopped_later acting r x.position (positions_of s) (positions_in ss) o) low_behind low a.ends cs.1 ks.1 bits.1 nexts.1 in
          record { ends = b.0; idle = idle_both around registers look (drivers_of groups islands (inside x) s) (parts_drivers groups islands x (inside x).wire (behind islands s (inside x)) ss) a.idle b.1 }
      away_form (Par arms) x acting r i o low c k bits nexts =
          let cs = connect_both around registers look bound (arms_drivers groups islands x (suc (suc x.wire)) x.register arms) _ c.1 in
          let off : Says around registers look (at x) false = at_false x acting r 1 i (omega arith) o low c.0 in
          let high : bound ≤ suc x.wire = omega arith in
          let low_in : bound ≤ suc (suc x.wire) = omega arith in
          let a = arms_away x (suc (suc x.wire)) x.register arms off low_in cs.0 k bits nexts.1 in
          let over : Says around registers look (end_of x.wire) false = cs.1.0 high ∙ says_all around registers look (at x) (exprs_of (arms_over groups islands (suc (suc x.wire)) x.register arms)) false a.over off a.knows in
          record { ends = over; idle = (tt, idle_both around registers look (arms_drivers groups islands x (suc (suc x.wire)) x.register arms) _ (a.idle over) (tt, tt)) }
      away_form (If test comb a b) x acting r i o low c k bits nexts =
          let ks = registers_both around registers look kept x.register (registers_of islands a) (registers_of islands b) k in
          let o_in = stopped_behind acting r x.position (positions_of a + positions_of b) o in
          let off : Says around registers look (at x) false = at_false x acting r (suc (positions_of a + positions_of b)) i (omega arith) o low c.0 in
          let high : bound ≤ suc x.wire = omega arith in
          let low_in : bound ≤ suc (suc x.wire) = omega arith in
          let low_behind : bound ≤ suc (suc x.wire) + wires_of a = omega arith in
          let c_comb = connect_both around registers look bound (comb_goes groups islands x comb) _ c.1 in
          let c_a = connect_both around registers look bound (drivers_of groups islands (past_test x) a) _ c_comb.1.1 in
          let c_b = connect_both around registers look bound (drivers_of groups islands (behind islands a (past_test x)) b) _ c_a.1.1 in
          let f = away a (past_test x) acting r i (stopped_first acting r (x.position + 1) (positions_of a) (positions_of b) o_in) low_in c_a.0 ks.0 bits.1.0 nexts.0 in
          let g = away b (behind islands a (past_test x)) acting r i (stopped_later acting r (x.position + 1) (positions_of a) (positions_of b) o_in) low_behind c_b.0 ks.1 bits.1.1 nexts.1 in
          let found : Says around registers look (found_one x test.port) false = says_both around registers look (at x) (OfPort test.port) false (port test.port) off bits.0 in
          let failed : Says around registers look (found_zero x test.port) false = says_both around registers look (at x) (Inverse (OfPort test.port)) false _ off (says_not around registers look (OfPort test.port) (port test.port) bits.0) in
          record {
            ends = c_b.1.0 high ∙ says_either around registers look (end_of (past_test x).wire) (end_of (behind islands a (past_test x)).wire) false false f.ends g.ends;
            idle = (
              tt,
              idle_both around registers look (comb_goes groups islands x comb) _ (comb_idle x comb off) (
                found,
                idle_both around registers look (drivers_of groups islands (past_test x) a) _ f.idle
                    (failed, idle_both around registers look (drivers_of groups islands (behind islands a (past_test x)) b) _ g.idle (tt, tt)),
              ),
            );
          }
      away_form (While test comb a) x acting r i o low c k bits nexts =
          let o_in = stopped_behind acting r x.position (positions_of a) o in
          let off : Says around registers look (at x) false = at_false x acting r (suc (positions_of a)) i (omega arith) o low c.0 in
          let high : bound ≤ suc x.wire = omega arith in
          let low_in : bound ≤ suc (suc x.wire) = omega arith in
          let c_comb = connect_both around registers look bound (comb_goes groups islands x comb) _ c.1 in
          let c_a = connect_both around registers look bound (drivers_of groups islands (past_test x) a) _ c_comb.1.1.1 in
          let f = away a (past_test x) acting r i o_in low_in c_a.0 k bits.1 nexts in
          let found : Says around registers look (found_one x test.port) false = says_both around registers look (at x) (OfPort test.port) false (port test.port) off bits.0 in
          let failed : Says around registers look (found_zero x test.port) false = says_both around registers look (at x) (Inverse (OfPort test.port)) false _ off (says_not around registers look (OfPort test.port) (port test.port) bits.0) in
          record {
            ends = c_comb.1.0 high ∙ failed;
            idle = (
              tt,
              idle_both around registers look (comb_goes groups islands x comb) _ (comb_idle x comb off)
                  (tt, (found, idle_both around registers look (drivers_of groups islands (past_test x) a) _ f.idle (f.ends, tt))),
            );
          }
      away_form (Repeat zero a) x acting r i o low c k bits nexts = turn_away x acting r i o low c
      away_form (Repeat (suc n) a) x acting r i o low c k bits nexts =
          let high : bound ≤ suc x.wire = omega arith in
          let low_in : bound ≤ suc (suc x.wire) = omega arith in
          let cs = connect_both around registers look bound (drivers_of groups islands (counted_inside x) a) (counting x n) c in
          let f = away a (counted_inside x) acting r i o low_in cs.0 k.1 bits nexts.2 in
          let last : Says around registers look (in_last_round x n) (kept x.register == n) = says_equals around registers look (OfRegister x.register) (record { width = 32; value = kept x.register }) n k.0 in
          let earlier = says_differs around registers look (OfRegister x.register) (record { width = 32; value = kept x.register }) n k.0 in
          let over : Says around registers look (end_of x.wire) false = cs.1.0 high ∙ says_both around registers look (end_of (suc (suc x.wire))) (in_last_round x n) false (kept x.register == n) f.ends last in
          record {
            ends = over;
            idle = idle_both around registers look (drivers_of groups islands (counted_inside x) a) (counting x n) f.idle
                (tt, (says_both around registers look (end_of (suc (suc x.wire))) (in_earlier_round x n) false _ f.ends earlier, (over, (f.ends, tt))));
          }
      away_form (StaticSeq written parts) x acting r i o low c k bits nexts = turn_away x acting r i o low c
      away_form (StaticPar written arms) x acting r i o low c k bits nexts = turn_away x acting r i o low c
      away_form (StaticIf written test a b) x acting r i o low c k bits nexts = turn_away x acting r i o low c
      away_form (StaticRepeat written count a) x acting r i o low c k bits nexts = turn_away x acting r i o low c
      away_form (Timed n) x acting r i o low c k bits nexts = timed n x acting r i o low c k nexts

      pub away : (s : PlainStatement) (x : Stand) (acting : Bool) (r : ℕ) → IsIn around registers look x.acts x.region acting r → IsStopped acting r x.position (positions_of s)
          → bound ≤ x.wire → AllConnect around registers look bound (drivers_of groups islands x s) → AreRegisters around registers look kept x.register (registers_of islands s)
          → StatementBits around registers look hole port s → StatementNexts groups islands around registers look kept next x s → Away around registers look x (drivers_of groups islands x s)
      away (Placed form place) x acting r i o low c k bits nexts = away_form form x acting r i o low c k bits nexts

      pub away_parts : (seq : Stand) (before : ℕ) (x : Stand) (ss : PlainStatements) (acting : Bool) (r : ℕ) → IsIn around registers look x.acts x.region acting r → IsStopped acting r x.position (positions_in ss)
          → bound ≤ x.wire → bound ≤ seq.wire → Says around registers look (end_of before) false → AllConnect around registers look bound (parts_drivers groups islands seq before x ss)
          → AreRegisters around registers look kept x.register (registers_in islands ss) → PartsBits around registers look hole port ss → PartsNext groups islands around registers look kept next x ss
          → Says around registers look (end_of seq.wire) false × AllIdle around registers look (parts_drivers groups islands seq before x ss)
      away_parts seq before x no_statements acting r i o low base off c k bits nexts = let high : bound ≤ suc seq.wire = omega arith in (c.0 high ∙ off, (tt, tt))
      away_parts seq before x (a_statement s ss) acting r i o low base off c k bits nexts =
          let cs = connect_both around registers look bound (drivers_of groups islands x s) (parts_drivers groups islands seq x.wire (behind islands s x) ss) c.1 in
          let ks = registers_both around registers look kept x.register (registers_of islands s) (registers_in islands ss) k in
          let low_behind : bound ≤ x.wire + wires_of s = omega arith in
          let a = away s x acting r i (stopped_first acting r x.position (positions_of s) (positions_in ss) o) low cs.0 ks.0 bits.0 nexts.0 in
          let b = away_parts seq x.wire (behind islands s x) ss acting r i (stopped_later acting r x.position (positions_of s) (positions_in ss) o) low_behind base a.ends cs.1 ks.1 bits.1 nexts.1 in
          (b.0, (off, idle_both around registers look (drivers_of groups islands x s) (parts_drivers groups islands seq x.wire (behind islands s x) ss) a.idle b.1))

      pub arms_away : (par : Stand) (wire register : ℕ) (arms : PlainStatements) → Says around registers look (at par) false → bound ≤ wire
          → AllConnect around registers look bound (arms_drivers groups islands par wire register arms) → AreRegisters around registers look kept register (arms_registers islands arms)
          → PartsBits around registers look hole port arms → ArmsNext groups islands around registers look kept next par wire register arms → ArmsAway par wire register arms
      arms_away par wire register no_statements off low c k bits nexts = record { over = true; knows = refl; idle = λ e. tt }
      arms_away par wire register (a_statement s ss) off low c k bits nexts =
          let cs = connect_both around registers look bound (drivers_of groups islands (arm_stand par wire register) s) _ c.1 in
          let ks = registers_both around registers look kept (suc register) (registers_of islands s) (arms_registers islands ss) k.1 in
          let low_behind : bound ≤ wire + wires_of s = omega arith in
          let a = away s (arm_stand par wire register) false (kept register) (record { acts_so = off; width = 32; at_position = k.0 }) (inl refl) low cs.0 ks.0 bits.0 nexts.1.0 in
          let b = arms_away par (wire + wires_of s) (suc register + length (registers_of islands s)) ss off low_behind cs.1.1 ks.1 bits.1 nexts.1.1 in
          let over = says_either around registers look (equals (OfRegister register) (positions_of s)) (end_of wire) (kept register == positions_of s) false
          (says_equals around registers look (OfRegister register) (record { width = 32; value = kept register }) (positions_of s) k.0) a.ends in
          record {
            over = _;
            knows = says_all around registers look (either (equals (OfRegister register) (positions_of s)) (end_of wire)) (exprs_of (arms_over groups islands (wire + wires_of s) (suc register + length (registers_of islands s)) ss)) _ b.over over b.knows;
            idle = λ e. (e, idle_both around registers look (drivers_of groups islands (arm_stand par wire register) s) _ a.idle (a.ends, b.idle e));
          }
