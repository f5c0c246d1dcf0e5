-- Where the registers show a place of a statement and its region acts, the drivers of the statement make the machine's step: for every
-- form, with what islands owe as a premise.
use Rattle.std.proofs.Common.{◌≡◌, ℕ, zero, suc, ◌+◌, ◌<◌, ◌≤◌, ◌^◌, ◌==◌, inl, inr, Bool, true, false, not, ◌||◌, if◌then◌else◌, List, [], ◌∷◌, ◌++◌, length, Option, Some, None, slice_get, refl, sym, ap, ap₂, ◌∙◌, subst, arith}
use Rattle.std.proofs.lemmas.Bool.{eq-eqb}
use Rattle.cx_text.specs.declared.places.Place.{Place}
use Rattle.cx_bits.specs.BitVector.{BitVector}
use Rattle.cx_meaning.specs.declared.ports.PortRef.{PortRef}
use Rattle.cx_meaning.specs.Designs.{PlainComponent, PlainForm, Empty, Enable, Seq, Par, If, While, Repeat, StaticSeq, StaticPar, StaticIf, StaticRepeat, Timed, PlainStatement, Placed, PlainStatements, no_statements, a_statement, list_of}
use Rattle.cx_meaning.specs.Answers.{Test, Holds, Fails, Unclear}
use Rattle.cx_text.specs.Members.{In}
use Rattle.cx_meaning.specs.Islands.{group_length}
use Rattle.cx_lockstep.specs.Worlds.{Store, Control, At, Done, Machine, step, is_done}
use Rattle.cx_lockstep.specs.Machines.{First, Second, InIf, AtTest, InThen, InElse, AtHead, InBody, in_round, next_round, within, second_start, by_test, join}
use Rattle.cx_lockstep.specs.Statements.{LeafMachines, form_machine, machine_of, parts_machine, arms_machine}
use Rattle.cx_lockstep.specs.Running.{at_control}
use Rattle.cx_lockstep.specs.Lawful.{IsPart, of_seq, of_par, then_branch, else_branch, of_while, of_repeat}
use Rattle.cx_control.specs.Codings.{Coding, Bank, beside, zeros, turned, bank_code, unit_coding, seq_coding, if_coding, while_coding, repeat_coding, region_bank, bank_coding, left_control, right_control, at_fine}
use Rattle.cx_control.specs.StatementCodings.{LeafCodings, form_coding, statement_coding, parts_coding, arms_bank}
use Rattle.cx_control.specs.StatementCodingLaws.{IsRegion, AreCoded, statement_coded, parts_coded}
use Rattle.cx_net.specs.Nets.{PlainNetExpr, OfPort, OfRegister, OfHole, Inverse, AllOf, Sum, exprs_of, no_exprs, ToRegister, ToWire, ToHole, PlainNetDriver}
use Rattle.cx_net.specs.NetMeaning.{Node, AWire, NetAround, truth_bit, all_expr}
use Rattle.cx_static.specs.Islands.{PlainIsland}
use Rattle.cx_static.specs.Lowering.{Lowering, after_enable, form_after, after, parts_after, lowered, lowered_parts, lowered_enable}
use Rattle.cx_wiring.specs.Parts.{word, drive, both, either, equals}
use Rattle.cx_wiring.specs.Counts.{positions_of, positions_in, wires_of, sample_registers, registers_of, registers_in, arms_registers}
use Rattle.cx_wiring.specs.Stands.{Stand, at, end_of, inside, past_test, behind}
use Rattle.cx_wiring.specs.Control.{one_turn, found_zero, in_last_round, arm_stand, arm_over, arm_restarts, arm_finishes, counted_inside, counting, comb_goes, arms_over, form_drivers, drivers_of, parts_drivers, arms_drivers}
use Rattle.cx_wiring.specs.Takings.{value, Says, takes, Connects, AllConnect, AllIdle, AreRegisters}
use Rattle.cx_wiring.proofs.TakingLemmas.{says_both, says_either, says_not, says_all, connect_both, registers_both, takes_append, idle_passes}
use Rattle.cx_wiring_cycles.specs.Standing.{IsStopped, IsIn, Away}
use Rattle.cx_wiring_cycles.specs.Shown.{wide, Going, told, leads, counted, comb_going, number_of, parts_number, arms_number, enable_going, enable_number, going, parts_going, arms_going}
use Rattle.cx_wiring_cycles.specs.AtLeaves.{AnyTest, AnyGroup, IslandsHold, enable_holds, enable_saw, FormSaw, StatementSaw, PartsSaw, ArmsSaw}
use Rattle.cx_wiring_cycles.specs.Turning.{Turns, Enters, Moves, entered}
use Rattle.cx_wiring_cycles.specs.Wired.{IsWired, PartsWired, ArmsWired}
use Rattle.cx_wiring_cycles.specs.IslandTakes.{IslandNexts}
use Rattle.cx_wiring_cycles.proofs.AwayLaws.{here, at_false, away, away_parts}
use Rattle.cx_wiring_cycles.proofs.TurnLemmas.{beside_same, beside_first, beside_later, beside_zero, zero_first, zero_later, behind_idle, then_first, then_second}
use Rattle.cx_wiring_cycles.proofs.FormTurns.{go_known, region_known, told_append, if_drivers}
use Rattle.cx_wiring_cycles.proofs.SizeLaws as sizes
use Rattle.cx_wiring_cycles.proofs.StayLaws.{beside_pointwise, stays, parts_stay}
use Rattle.cx_wiring_cycles.proofs.TestTurns.{if_begins, if_then, if_else, while_begins, while_goes_on}
use Rattle.cx_wiring_cycles.proofs.RoundTurns.{round_goes, rounds_end, round_begins}
use Rattle.cx_wiring_cycles.proofs.ArmTurns.{step_join, join_left, join_right, join_done, left_fine, right_fine, left_says, right_says, runs_both, ArmTurns, arm_runs, arm_waits}

-- a test leads to its first or its second place
test_leads : {F C : Type 0} (t : Test F) (a b : C) → by_test t a b ≡ (if leads t then a else b)
test_leads Holds a b = refl
test_leads Fails a b = refl
test_leads (Unclear f) a b = refl

none_below : {A : Type 0} (n : ℕ) → n < 0 → A
none_below n less = absurd (omega arith)

module _ (groups : ℕ) (islands : List PlainIsland) (around : NetAround) (registers : ℕ → Option BitVector) (look : Node → Option BitVector) (bound : ℕ) (kept next : ℕ → ℕ) (hole : ℕ → Bool) (port : PortRef → Bool)
    (timed : (k : ℕ) (x : Stand) (acting : Bool) (r : ℕ) → IsIn around registers look x.acts x.region acting r → IsStopped acting r x.position 1 → bound ≤ x.wire
    → AllConnect around registers look bound (form_drivers groups islands x (Timed k)) → AreRegisters around registers look kept x.register (sample_registers (slice_get islands k))
    → IslandNexts groups islands around registers look kept next k x → Away around registers look x (form_drivers groups islands x (Timed k))) where
  abbrev D : Stand → PlainStatement → List PlainNetDriver
  D = drivers_of groups islands

  abbrev It : PlainNetExpr → Bool → Type 0
  It = Says around registers look

  abbrev Acts : Stand → ℕ → Type 0
  Acts x r = IsIn around registers look x.acts x.region true r

  abbrev W : Stand → PlainStatement → Type 0
  W = IsWired groups islands around registers look bound kept next hole port

  abbrev WP : Stand → ℕ → Stand → PlainStatements → Type 0
  WP = PartsWired groups islands around registers look bound kept next hole port

  abbrev WA : Stand → ℕ → ℕ → PlainStatements → Type 0
  WA = ArmsWired groups islands around registers look bound kept next hole port

  pub away_wired : (s : PlainStatement) (x : Stand) (acting : Bool) (r : ℕ) → IsIn around registers look x.acts x.region acting r → IsStopped acting r x.position (positions_of s) → W x s → Away around registers look x (D x s)
  away_wired s x acting r i o w = away groups islands around registers look bound kept hole port next timed s x acting r i o w.low w.connects w.registers_are w.bits w.nexts

  pub at_true : (x : Stand) (r : ℕ) → Acts x r → r ≡ x.position → bound ≤ x.wire → Connects around registers look bound (ToWire x.wire) (both x.acts (equals (OfRegister x.region) x.position)) → It (at x) true
  at_true x r i e low c = here groups islands around registers look bound kept hole port x true r i low c ∙ ap (λ b. Some (truth_bit b)) (eq-eqb r x.position e)

  pub at_behind : (x : Stand) (r : ℕ) → Acts x r → x.position + 1 ≤ r → bound ≤ x.wire → Connects around registers look bound (ToWire x.wire) (both x.acts (equals (OfRegister x.region) x.position)) → It (at x) false
  at_behind x r i l low c = at_false groups islands around registers look bound kept hole port x true r 1 i (omega arith) (inr (inr l)) low c

  turn_one : (x : Stand) (r : ℕ) (after_it : ℕ → ℕ) → Acts x r → r ≡ x.position + 0 → bound ≤ x.wire → AllConnect around registers look bound (one_turn x)
      → Turns groups around registers look unit_coding x.wire x.region x.position r (one_turn x) after_it [] Done
  turn_one x r after_it i e low c =
      let high : bound ≤ suc x.wire = omega arith in
      let place : r ≡ x.position = omega arith in
      record { ends = c.1.0 high ∙ at_true x r i place low c.0; moves = λ o. refl; others = λ n less. none_below n less; goes_so = λ g o. refl }

  -- WHAT A FORM IS WIRED AS gives it of its parts
  pub wired_seq : (x : Stand) (s : PlainStatement) (ss : PlainStatements) (place : Place) → W x (Placed (Seq (a_statement s ss)) place)
      → W (inside x) s × WP x (inside x).wire (behind islands s (inside x)) ss
  wired_seq x s ss place w =
      let c = connect_both around registers look bound (D (inside x) s) (parts_drivers groups islands x (inside x).wire (behind islands s (inside x)) ss) w.connects in
      let k = registers_both around registers look kept x.register (registers_of islands s) (registers_in islands ss) w.registers_are in
      let low : bound ≤ x.wire = w.low in
      let low_in : bound ≤ suc (suc x.wire) = omega arith in
      let low_behind : bound ≤ suc (suc x.wire) + wires_of s = omega arith in (
        record { low = low_in; connects = c.0; registers_are = k.0; bits = w.bits.0; nexts = w.nexts.0 },
        record { base = low; low = low_behind; connects = c.1; registers_are = k.1; bits = w.bits.1; nexts = w.nexts.1 },
      )

  pub wired_parts : (seq : Stand) (before : ℕ) (x : Stand) (s : PlainStatement) (ss : PlainStatements) → WP seq before x (a_statement s ss) → W x s × WP seq x.wire (behind islands s x) ss
  wired_parts seq before x s ss w =
      let c = connect_both around registers look bound (D x s) (parts_drivers groups islands seq x.wire (behind islands s x) ss) w.connects.1 in
      let k = registers_both around registers look kept x.register (registers_of islands s) (registers_in islands ss) w.registers_are in
      let low : bound ≤ x.wire = w.low in
      let low_behind : bound ≤ x.wire + wires_of s = omega arith in (
        record { low = low; connects = c.0; registers_are = k.0; bits = w.bits.0; nexts = w.nexts.0 },
        record { base = w.base; low = low_behind; connects = c.1; registers_are = k.1; bits = w.bits.1; nexts = w.nexts.1 },
      )

  pub wired_arms : (par : Stand) (wire register : ℕ) (s : PlainStatement) (ss : PlainStatements) → WA par wire register (a_statement s ss)
      → W (arm_stand par wire register) s × WA par (wire + wires_of s) (suc register + length (registers_of islands s)) ss
  wired_arms par wire register s ss w =
      let c = connect_both around registers look bound (D (arm_stand par wire register) s) _ w.connects.1 in
      let k = registers_both around registers look kept (suc register) (registers_of islands s) (arms_registers islands ss) w.registers_are.1 in
      let low : bound ≤ wire = w.low in
      let low_behind : bound ≤ wire + wires_of s = omega arith in (
        record { low = low; connects = c.0; registers_are = k.0; bits = w.bits.0; nexts = w.nexts.1.0 },
        record { low = low_behind; connects = c.1.1; registers_are = k.1; bits = w.bits.1; nexts = w.nexts.1.1 },
      )

  pub record IfWired (x : Stand) (test : PortRef) (a b : PlainStatement) : Type 0 where
    pub stands_so : Connects around registers look bound (ToWire x.wire) (both x.acts (equals (OfRegister x.region) x.position))
    pub one : W (past_test x) a
    pub other : W (behind islands a (past_test x)) b
    pub bit : It (OfPort test) (port test)
    pub ends_so : look (AWire (suc x.wire)) ≡ value around registers look (either (end_of (past_test x).wire) (end_of (behind islands a (past_test x)).wire))

  pub wired_if : (x : Stand) (test : _) (comb : Option ℕ) (a b : PlainStatement) (place : Place) → W x (Placed (If test comb a b) place) → IfWired x test.port a b
  wired_if x test comb a b place w =
      let k = registers_both around registers look kept x.register (registers_of islands a) (registers_of islands b) w.registers_are in
      let low : bound ≤ x.wire = w.low in
      let high : bound ≤ suc x.wire = omega arith in
      let low_in : bound ≤ suc (suc x.wire) = omega arith in
      let low_behind : bound ≤ suc (suc x.wire) + wires_of a = omega arith in
      let c = connect_both around registers look bound (comb_goes groups islands x comb) _ w.connects.1 in
      let d = connect_both around registers look bound (D (past_test x) a) _ c.1.1 in
      let e = connect_both around registers look bound (D (behind islands a (past_test x)) b) _ d.1.1 in
      record {
        stands_so = w.connects.0;
        one = record { low = low_in; connects = d.0; registers_are = k.0; bits = w.bits.1.0; nexts = w.nexts.0 };
        other = record { low = low_behind; connects = e.0; registers_are = k.1; bits = w.bits.1.1; nexts = w.nexts.1 };
        bit = w.bits.0;
        ends_so = e.1.0 high;
      }

  pub record WhileWired (x : Stand) (test : PortRef) (a : PlainStatement) : Type 0 where
    pub stands_so : Connects around registers look bound (ToWire x.wire) (both x.acts (equals (OfRegister x.region) x.position))
    pub body : W (past_test x) a
    pub bit : It (OfPort test) (port test)
    pub ends_so : look (AWire (suc x.wire)) ≡ value around registers look (found_zero x test)

  pub wired_while : (x : Stand) (test : _) (comb : Option ℕ) (a : PlainStatement) (place : Place) → W x (Placed (While test comb a) place) → WhileWired x test.port a
  wired_while x test comb a place w =
      let low : bound ≤ x.wire = w.low in
      let high : bound ≤ suc x.wire = omega arith in
      let low_in : bound ≤ suc (suc x.wire) = omega arith in
      let c = connect_both around registers look bound (comb_goes groups islands x comb) _ w.connects.1 in
      let d = connect_both around registers look bound (D (past_test x) a) _ c.1.1.1 in
      record {
        stands_so = w.connects.0;
        body = record { low = low_in; connects = d.0; registers_are = w.registers_are; bits = w.bits.1; nexts = w.nexts };
        bit = w.bits.0;
        ends_so = c.1.0 high;
      }

  pub record RepeatWired (x : Stand) (n : ℕ) (a : PlainStatement) : Type 0 where
    pub body : W (counted_inside x) a
    pub ends_so : look (AWire (suc x.wire)) ≡ value around registers look (both (end_of (suc (suc x.wire))) (in_last_round x n))

  pub wired_repeat : (x : Stand) (n : ℕ) (a : PlainStatement) (place : Place) → W x (Placed (Repeat (suc n) a) place) → RepeatWired x n a
  wired_repeat x n a place w =
      let low : bound ≤ x.wire = w.low in
      let high : bound ≤ suc x.wire = omega arith in
      let low_in : bound ≤ suc (suc x.wire) = omega arith in
      let c = connect_both around registers look bound (D (counted_inside x) a) (counting x n) w.connects in
      record {
        body = record { low = low_in; connects = c.0; registers_are = w.registers_are.1; bits = w.bits; nexts = w.nexts.2 };
        ends_so = c.1.0 high;
      }

  module _ {X : Type 0} {V : X → Type 0} {F : Type 0} (leaves : LeafMachines X V F) (codings : LeafCodings leaves) (part : PlainComponent) (now_island next_island : ℕ → ℕ → ℕ → ℕ)
      (island_rests : (k : ℕ) (x : Stand) → AllIdle around registers look (form_drivers groups islands x (Timed k)) → IslandNexts groups islands around registers look kept next k x → (n : ℕ) → now_island x.register k n ≡ 0 → next_island x.register k n ≡ 0)
      (Stands : PlainStatement → Type 0) (law : AreCoded leaves codings Stands) (enable_one : (g : ℕ) → Coding.size (LeafCodings.enable codings g) ≡ 1) (island_one : (form : PlainForm) → Coding.size (LeafCodings.island codings form) ≡ 1)
      (plain_extra : (g : ℕ) → group_length part g ≡ None → Coding.extra (LeafCodings.enable codings g) ≡ 0) where
    abbrev K : (s : PlainStatement) → Coding (Machine.Place (machine_of leaves s))
    K = statement_coding leaves codings

    abbrev Now : PlainStatement → Lowering → ℕ → ℕ → ℕ
    Now = number_of leaves codings part islands kept now_island

    abbrev Next : PlainStatement → Lowering → ℕ → ℕ → ℕ
    Next = number_of leaves codings part islands next next_island

    size_is : (s : PlainStatement) (l : Lowering) → Coding.size (statement_coding leaves codings s) ≡ positions_of (lowered part s l)
    size_is s l = sizes.size_is leaves codings part enable_one island_one s l

    parts_size : (ss : PlainStatements) (l : Lowering) → Coding.size (parts_coding leaves codings ss) ≡ positions_in (lowered_parts part ss l)
    parts_size ss l = sizes.parts_size leaves codings part enable_one island_one ss l

    -- a statement where control is not: its numbers are 0 after the edge too
    still_zero : (s : PlainStatement) (l : Lowering) (x : Stand) (count : ℕ) → Away around registers look x (D x (lowered part s l)) → W x (lowered part s l)
        → ((n : ℕ) → n < count → Now s l x.register n ≡ 0) → (n : ℕ) → n < count → Next s l x.register n ≡ 0
    still_zero s l x count a w zero_now n less =
        stays groups islands around registers look kept next leaves codings part now_island next_island island_rests s l x a.idle w.nexts n (zero_now n less)

    -- WHAT FOLLOWS in a seq, where control stands before it
    module _ (whole : PlainStatement) (stands_whole : Stands whole) where
      enters : (ss : PlainStatements) → ((t : PlainStatement) → In (list_of ss) t → IsPart t whole) → (l : Lowering) (seq : Stand) (before : ℕ) (x : Stand) (r : ℕ) (now : Bool) → Acts x r → r < x.position
          → WP seq before x (lowered_parts part ss l) → It (end_of before) now
          → ((n : ℕ) → n < Coding.extra (parts_coding leaves codings ss) → parts_number leaves codings part islands kept now_island ss l x.register n ≡ 0)
          → Enters groups around registers look (parts_coding leaves codings ss) (Machine.start (parts_machine leaves ss)) seq.wire x.region x.position (parts_drivers groups islands seq before x (lowered_parts part ss l))
          (parts_number leaves codings part islands next next_island ss l x.register) now
      enters no_statements inside_whole l seq before x r now i less w h zero_now =
          let base : bound ≤ seq.wire = w.base in
          let high : bound ≤ suc seq.wire = omega arith in
          record {
            ends = w.connects.0 high ∙ h ∙ ap (λ b. Some (truth_bit b)) (if_it now);
            moves = λ o. keeps now o;
            silent = λ g o. refl;
            rests = λ n less. none_below n less;
            at_first = λ p e. absurd p;
            zeros_at = λ p e j. absurd p;
          }
        where
          if_it : (b : Bool) → b ≡ (if b then true else false)
          if_it true = refl
          if_it false = refl

          keeps : (b : Bool) (o : Option BitVector) → o ≡ (if b then o else o)
          keeps true o = refl
          keeps false o = refl
      enters (a_statement s ss) inside_whole l seq before x r now i less w h zero_now =
          let region = statement_coded leaves codings Stands law s (law.parts_stand s whole (inside_whole s (inl refl)) stands_whole) in
          let coded = parts_coded leaves codings Stands law (a_statement s ss) whole stands_whole inside_whole in
          let v = wired_parts seq before x (lowered part s l) (lowered_parts part ss (after part s l)) w in
          let a = away_wired (lowered part s l) x true r i (inr (inl less)) v.0 in
          let later : r < x.position + positions_of (lowered part s l) = omega arith in
          let b = away_parts groups islands around registers look bound kept hole port next timed seq x.wire (behind islands (lowered part s l) x) (lowered_parts part ss (after part s l)) true r i (inr (inl later)) v.1.low v.1.base a.ends v.1.connects v.1.registers_are v.1.bits v.1.nexts in
          let starts : Machine.start (parts_machine leaves (a_statement s ss)) ≡ At (First region.front.first) =
          ap (within First (second_start (machine_of leaves s) (parts_machine leaves ss))) region.front.starts in
          record {
            ends = b.0 ∙ ap (λ c. Some (truth_bit c)) (never now (Machine.start (parts_machine leaves (a_statement s ss))) (First region.front.first) starts);
            moves = λ o. region_known around registers look x.region x.position (end_of before) now _ h
                ∙ ap (λ z. if now then Some (wide x.position) else z) (takes_append around registers look (ToRegister x.region) o (D x (lowered part s l)) _
                ∙ idle_passes around registers look (ToRegister x.region) tt _ (D x (lowered part s l)) a.idle ∙ idle_passes around registers look (ToRegister x.region) tt o _ b.1)
                ∙ enters_at now (Machine.start (parts_machine leaves (a_statement s ss))) (First region.front.first) starts o;
            silent = λ g o. takes_append around registers look (ToHole (groups + g)) o (D x (lowered part s l)) _
                ∙ idle_passes around registers look (ToHole (groups + g)) tt _ (D x (lowered part s l)) a.idle ∙ idle_passes around registers look (ToHole (groups + g)) tt o _ b.1;
            rests = λ n fewer. beside_pointwise (Coding.extra (statement_coding leaves codings s)) _ _ _ _
                (λ j. stays groups islands around registers look kept next leaves codings part now_island next_island island_rests s l x a.idle w.nexts.0 j)
                (λ j. parts_stay groups islands around registers look kept next leaves codings part now_island next_island island_rests ss (after part s l) seq x.wire (behind islands (lowered part s l) x) b.1 w.nexts.1 j)
                n (zero_now n fewer);
            at_first = coded.zero_at;
            zeros_at = coded.zeros_at;
          }
        where
          never : {P : Type 0} (b : Bool) (k : Control P) (p : P) → k ≡ At p → false ≡ (if b then is_done k else false)
          never true k p e = sym (ap is_done e)
          never false k p e = refl

          enters_at : {P : Type 0} (b : Bool) (k : Control P) (p : P) → k ≡ At p → (o : Option BitVector) → (if b then Some (wide x.position) else o) ≡ (if b then entered groups around registers look k (Some (wide x.position)) o else o)
          enters_at true k p e o = sym (ap (λ c. entered groups around registers look c (Some (wide x.position)) o) e)
          enters_at false k p e o = refl

    -- ONE CYCLE of what the machine saw
    module _ (seen : Store X V) (of_enable : (g : ℕ) → Machine.Place (LeafMachines.enable leaves g) → List Going) (of_island : (form : PlainForm) → Machine.Place (LeafMachines.island leaves form) → List Going)
        (rounds : (k : ℕ) (a : PlainStatement) (place : Place) → Stands (Placed (Repeat (suc k) a) place) → k < 2 ^ 32)
        (Low : Lowering → Type 0) (low_back : (s : PlainStatement) (l : Lowering) → Low (after part s l) → Low l) (low_parts : (ss : PlainStatements) (l : Lowering) → Low (parts_after part ss l) → Low l)
        (timed_saw : (g : ℕ) → Machine.Place (LeafMachines.enable leaves g) → Type 0) (island_saw : (form : PlainForm) → Machine.Place (LeafMachines.island leaves form) → Type 0) where
      abbrev M : (s : PlainStatement) → Machine X V
      M s = machine_of leaves s

      -- where the numbers show a place
      abbrev Shows : (s : PlainStatement) → Lowering → Stand → ℕ → Machine.Place (machine_of leaves s) → Type 0
      Shows s l x r p = (r ≡ x.position + Coding.number (statement_coding leaves codings s) p)
          × ((n : ℕ) → n < Coding.extra (statement_coding leaves codings s) → number_of leaves codings part islands kept now_island s l x.register n ≡ Coding.other (statement_coding leaves codings s) p n)

      abbrev Turned : (s : PlainStatement) → Lowering → Stand → ℕ → Machine.Place (machine_of leaves s) → Type 0
      Turned s l x r p = Turns groups around registers look (statement_coding leaves codings s) x.wire x.region x.position r (D x (lowered part s l)) (number_of leaves codings part islands next next_island s l x.register)
          (going leaves codings part islands hole of_enable of_island s p) (Machine.step (machine_of leaves s) p seen)

      abbrev Saw : (s : PlainStatement) → Machine.Place (machine_of leaves s) → Type 0
      Saw s p = StatementSaw leaves part timed_saw island_saw codings islands seen hole port s p

      -- WHAT ISLANDS OWE, in the place of the statements that they were lowered from, at each stage of the lowering that comes before its end
      module _ (islands_turn : (s : PlainStatement) → Stands s → (l : Lowering) → Low (after part s l) → (place : Place) → lowered part s l ≡ Placed (Timed (length l.islands)) place
          → (x : Stand) (r : ℕ) (p : Machine.Place (machine_of leaves s)) → Coding.IsFine (statement_coding leaves codings s) p → Acts x r → Shows s l x r p → W x (lowered part s l) → IslandsHold leaves part timed_saw island_saw s p → Turned s l x r p) where
        -- the enable of a group that is no island
        enable_turns : (g : ℕ) (place : Place) → Stands (Placed (Enable g) place) → group_length part g ≡ None → (l : Lowering) (x : Stand) (r : ℕ) (p : Machine.Place (LeafMachines.enable leaves g)) → Acts x r
            → r ≡ x.position + Coding.number (LeafCodings.enable codings g) p → W x (Placed (Enable g) place) → hole g ≡ is_done (Machine.step (LeafMachines.enable leaves g) p seen)
            → Turns groups around registers look (LeafCodings.enable codings g) x.wire x.region x.position r (D x (Placed (Enable g) place)) (λ n. 0)
            (record { group = g; goes = not (hole g) } ∷ []) (Machine.step (LeafMachines.enable leaves g) p seen)
        enable_turns g place u plain l x r p i so w saw =
            let low : bound ≤ x.wire = w.low in
            let high : bound ≤ suc x.wire = omega arith in
            let on : It (at x) true = at_true x r i (here_so p so) low w.connects.0 in
            record {
              ends = w.connects.1.0 high ∙ says_both around registers look (at x) (OfHole g) true (hole g) on w.bits ∙ ap (λ b. Some (truth_bit b)) saw;
              moves = moved (Machine.step (LeafMachines.enable leaves g) p seen);
              others = λ n less. none_below n (subst (λ m. n < m) (plain_extra g plain) less);
              goes_so = λ h o. go_known around registers look groups g h (at x) (Inverse (end_of x.wire)) (not (hole g)) o on
                  (says_not around registers look (end_of x.wire) (hole g) (w.connects.1.0 high ∙ says_both around registers look (at x) (OfHole g) true (hole g) on w.bits));
            }
          where
            first_place : (q : Machine.Place (LeafMachines.enable leaves g)) → Coding.number (LeafCodings.enable codings g) q ≡ 0
            first_place q =
                let less : Coding.number (LeafCodings.enable codings g) q < Coding.size (LeafCodings.enable codings g) = (statement_coded leaves codings Stands law (Placed (Enable g) place) u).coded.below q in
                let one : Coding.size (LeafCodings.enable codings g) ≡ 1 = enable_one g in omega arith

            here_so : (q : Machine.Place (LeafMachines.enable leaves g)) → r ≡ x.position + Coding.number (LeafCodings.enable codings g) q → r ≡ x.position
            here_so q e = let z : Coding.number (LeafCodings.enable codings g) q ≡ 0 = first_place q in omega arith

            moved : (k : Control (Machine.Place (LeafMachines.enable leaves g))) → Moves groups around registers look (LeafCodings.enable codings g) x.region x.position r (D x (Placed (Enable g) place)) k
            moved (At q) = let z : Coding.number (LeafCodings.enable codings g) q ≡ 0 = first_place q in let z2 : Coding.number (LeafCodings.enable codings g) p ≡ 0 = first_place p in
                let e : r ≡ x.position + Coding.number (LeafCodings.enable codings g) q = omega arith in ap (λ n. Some (wide n)) e
            moved Done = λ o. refl

        enable_kind : (g : ℕ) (o : Option ℕ) → group_length part g ≡ o → (place : Place) → Stands (Placed (Enable g) place) → (l : Lowering) → Low (after_enable part g o l) → (x : Stand) (r : ℕ) (p : Machine.Place (LeafMachines.enable leaves g))
            → Coding.IsFine (LeafCodings.enable codings g) p → Acts x r → Shows (Placed (Enable g) place) l x r p → W x (Placed (lowered_enable part g o l) place) → enable_saw leaves part timed_saw island_saw codings islands seen hole port g o p
            → Turns groups around registers look (LeafCodings.enable codings g) x.wire x.region x.position r (D x (Placed (lowered_enable part g o l) place)) (enable_number leaves codings part islands next next_island o l x.register)
            (enable_going leaves codings part islands hole of_enable of_island g o p) (Machine.step (LeafMachines.enable leaves g) p seen)
        enable_kind g None is place u l stage x r p fine i shows w saw = enable_turns g place u is l x r p i shows.0 w saw
        enable_kind g (Some cycles) is place u l stage x r p fine i shows w saw =
            subst (λ o. W x (Placed (lowered_enable part g o l) place) → Turns groups around registers look (LeafCodings.enable codings g) x.wire x.region x.position r (D x (Placed (lowered_enable part g o l) place))
            (enable_number leaves codings part islands next next_island o l x.register) (enable_going leaves codings part islands hole of_enable of_island g o p) (Machine.step (LeafMachines.enable leaves g) p seen)) is
            (λ v. islands_turn (Placed (Enable g) place) u l (subst (λ o. Low (after_enable part g o l)) (sym is) stage) place (ap (λ o. Placed (lowered_enable part g o l) place) is) x r p fine i shows v
            (subst (λ o. enable_holds leaves part AnyTest (AnyGroup leaves) timed_saw island_saw g o p) (sym is) saw)) w

        abbrev PK : (ss : PlainStatements) → Coding (Machine.Place (parts_machine leaves ss))
        PK = parts_coding leaves codings

        -- A SEQ, or the parts of one, where control stands in the first part
        seq_first : (s : PlainStatement) (ss : PlainStatements) (whole : PlainStatement) → Stands whole → ((t : PlainStatement) → In (list_of ss) t → IsPart t whole) → Stands s → (l : Lowering) (seq y : Stand) (r : ℕ)
            (p : Machine.Place (machine_of leaves s)) → Acts y r → r ≡ y.position + Coding.number (statement_coding leaves codings s) p
            → ((n : ℕ) → n < Coding.extra (parts_coding leaves codings ss) → parts_number leaves codings part islands kept now_island ss (after part s l) (y.register + length (registers_of islands (lowered part s l))) n ≡ 0)
            → WP seq y.wire (behind islands (lowered part s l) y) (lowered_parts part ss (after part s l)) → Turned s l y r p
            → Turns groups around registers look (seq_coding (statement_coding leaves codings s) (parts_coding leaves codings ss)) seq.wire y.region y.position r
            (D y (lowered part s l) ++ parts_drivers groups islands seq y.wire (behind islands (lowered part s l) y) (lowered_parts part ss (after part s l)))
            (beside (Coding.extra (statement_coding leaves codings s)) (number_of leaves codings part islands next next_island s l y.register)
            (parts_number leaves codings part islands next next_island ss (after part s l) (y.register + length (registers_of islands (lowered part s l)))))
            (going leaves codings part islands hole of_enable of_island s p) (within First (second_start (machine_of leaves s) (parts_machine leaves ss)) (Machine.step (machine_of leaves s) p seen))
        seq_first s ss whole u inside_whole us l seq y r p i so zero_now w t =
            let below : Coding.number (statement_coding leaves codings s) p < Coding.size (statement_coding leaves codings s) = (statement_coded leaves codings Stands law s us).coded.below p in
            let size : Coding.size (statement_coding leaves codings s) ≡ positions_of (lowered part s l) = size_is s l in
            let less : r < y.position + positions_of (lowered part s l) = omega arith in
            then_first groups around registers look (statement_coding leaves codings s) (parts_coding leaves codings ss) (D y (lowered part s l)) _ y.wire seq.wire y.region y.position r _ _ _
            (Machine.start (parts_machine leaves ss)) (Machine.step (machine_of leaves s) p seen) t
            (subst (λ m. Enters groups around registers look (parts_coding leaves codings ss) (Machine.start (parts_machine leaves ss)) seq.wire y.region (y.position + m)
            (parts_drivers groups islands seq y.wire (behind islands (lowered part s l) y) (lowered_parts part ss (after part s l)))
            (parts_number leaves codings part islands next next_island ss (after part s l) (y.register + length (registers_of islands (lowered part s l)))) (is_done (Machine.step (machine_of leaves s) p seen))) (sym size)
            (enters whole u ss inside_whole (after part s l) seq y.wire (behind islands (lowered part s l) y) r (is_done (Machine.step (machine_of leaves s) p seen)) i less w t.ends zero_now))

        -- and where it stands behind the first part
        seq_second : (s : PlainStatement) (ss : PlainStatements) (l : Lowering) (seq y : Stand) (r : ℕ) (p : Machine.Place (parts_machine leaves ss))
            → Away around registers look y (D y (lowered part s l)) → ((n : ℕ) → n < Coding.extra (statement_coding leaves codings s) → number_of leaves codings part islands next next_island s l y.register n ≡ 0)
            → Turns groups around registers look (parts_coding leaves codings ss) seq.wire y.region (y.position + positions_of (lowered part s l)) r
            (parts_drivers groups islands seq y.wire (behind islands (lowered part s l) y) (lowered_parts part ss (after part s l)))
            (parts_number leaves codings part islands next next_island ss (after part s l) (y.register + length (registers_of islands (lowered part s l))))
            (parts_going leaves codings part islands hole of_enable of_island ss p) (Machine.step (parts_machine leaves ss) p seen)
            → Turns groups around registers look (seq_coding (statement_coding leaves codings s) (parts_coding leaves codings ss)) seq.wire y.region y.position r
            (D y (lowered part s l) ++ parts_drivers groups islands seq y.wire (behind islands (lowered part s l) y) (lowered_parts part ss (after part s l)))
            (beside (Coding.extra (statement_coding leaves codings s)) (number_of leaves codings part islands next next_island s l y.register)
            (parts_number leaves codings part islands next next_island ss (after part s l) (y.register + length (registers_of islands (lowered part s l)))))
            (parts_going leaves codings part islands hole of_enable of_island ss p) (within Second Done (Machine.step (parts_machine leaves ss) p seen))
        seq_second s ss l seq y r p a rests t =
            then_second groups around registers look (statement_coding leaves codings s) (parts_coding leaves codings ss) (D y (lowered part s l)) _ y.wire seq.wire y.region y.position r _ _ _
            (Machine.step (parts_machine leaves ss) p seen) a.idle rests
            (subst (λ m. Turns groups around registers look (parts_coding leaves codings ss) seq.wire y.region (y.position + m) r
            (parts_drivers groups islands seq y.wire (behind islands (lowered part s l) y) (lowered_parts part ss (after part s l)))
            (parts_number leaves codings part islands next next_island ss (after part s l) (y.register + length (registers_of islands (lowered part s l))))
            (parts_going leaves codings part islands hole of_enable of_island ss p) (Machine.step (parts_machine leaves ss) p seen)) (sym (size_is s l)) t)

        -- ARMS in one cycle; k is where they stand
        pub record ArmsTurn (arms : PlainStatements) (l : Lowering) (par : Stand) (wire register : ℕ) (k : Control (Machine.Place (arms_machine leaves arms))) (to : Control (Machine.Place (arms_machine leaves arms))) : Type 0 where
          pub over : all_expr around registers look (exprs_of (arms_over groups islands wire register (lowered_parts part arms l))) ≡ Some (truth_bit (is_done to))
          pub goes_so : (g : ℕ) (o : Option BitVector) → takes around registers look (ToHole (groups + g)) o (arms_drivers groups islands par wire register (lowered_parts part arms l))
              ≡ told g o (at_control (arms_going leaves codings part islands hole of_enable of_island arms) k)
          pub nexts : (e : Bool) → It (end_of par.wire) e → (e ≡ true → is_done to ≡ true) → (n : ℕ) → n < Bank.count (arms_bank leaves codings arms)
              → arms_number leaves codings part islands next next_island arms l register n ≡ (if e then 0 else Bank.code (arms_bank leaves codings arms) to n)

        arm_of : (s : PlainStatement) → Stands s → (l : Lowering) (par : Stand) (wire register : ℕ) (k : Control (Machine.Place (machine_of leaves s))) → at_fine (Coding.IsFine (statement_coding leaves codings s)) k → It (at par) true
            → ((n : ℕ) → n < suc (Coding.extra (statement_coding leaves codings s)) → counted (kept register) (number_of leaves codings part islands kept now_island s l (suc register)) n ≡ bank_code (statement_coding leaves codings s) k n)
            → W (arm_stand par wire register) (lowered part s l) → registers register ≡ Some (wide (kept register))
            → takes around registers look (ToRegister register) (Some (wide (kept register))) (arm_restarts par register ∷ (D (arm_stand par wire register) (lowered part s l) ++ arm_finishes wire register (lowered part s l) ∷ [])) ≡ Some (wide (next register))
            → at_fine (StatementSaw leaves part timed_saw island_saw codings islands seen hole port s) k
            → ((p : Machine.Place (machine_of leaves s)) → Coding.IsFine (statement_coding leaves codings s) p → Shows s l (arm_stand par wire register) (kept register) p → Saw s p → Turned s l (arm_stand par wire register) (kept register) p)
            → ArmTurns groups around registers look (statement_coding leaves codings s) par wire register (lowered part s l) (D (arm_stand par wire register) (lowered part s l))
            (counted (next register) (number_of leaves codings part islands next next_island s l (suc register))) (at_control (going leaves codings part islands hole of_enable of_island s) k) (step (machine_of leaves s) k seen)
        arm_of s us l par wire register (At p) fine on nums w is taken saw ih =
            let so : kept register ≡ Coding.number (statement_coding leaves codings s) p = nums 0 (omega arith) in
            let zero_so : kept register ≡ 0 + Coding.number (statement_coding leaves codings s) p = omega arith in
            arm_runs groups around registers look (statement_coding leaves codings s) par wire register (lowered part s l) (D (arm_stand par wire register) (lowered part s l)) (kept register) (next register)
            (number_of leaves codings part islands next next_island s l (suc register)) _ (size_is s l) is taken p so ((statement_coded leaves codings Stands law s us).coded.below p)
            (Machine.step (machine_of leaves s) p seen) (ih p fine (zero_so, λ j less. nums (suc j) (omega arith)) saw)
        arm_of s us l par wire register Done fine on nums w is taken saw ih =
            let so : kept register ≡ Coding.size (statement_coding leaves codings s) = nums 0 (omega arith) in
            let size : Coding.size (statement_coding leaves codings s) ≡ positions_of (lowered part s l) = size_is s l in
            let past : 0 + positions_of (lowered part s l) ≤ kept register = omega arith in
            let a = away_wired (lowered part s l) (arm_stand par wire register) true (kept register) (record { acts_so = on; width = 32; at_position = is }) (inr (inr past)) w in
            arm_waits groups around registers look (statement_coding leaves codings s) par wire register (lowered part s l) (D (arm_stand par wire register) (lowered part s l)) (kept register) (next register)
            (number_of leaves codings part islands next next_island s l (suc register)) [] (size_is s l) is taken so a.ends a.idle
            (still_zero s l (arm_stand par wire register) (Coding.extra (statement_coding leaves codings s)) a w (λ j less. nums (suc j) (omega arith)))

        -- A PAR in one cycle, over its arms
        par_turns : (arms : PlainStatements) (l : Lowering) (x : Stand) (r : ℕ) (k : Control (Machine.Place (arms_machine leaves arms))) (to : Control (Machine.Place (arms_machine leaves arms))) → r ≡ x.position + 0 → It (at x) true
            → look (AWire (suc x.wire)) ≡ value around registers look (AllOf (exprs_of (at x ∷ arms_over groups islands (suc (suc x.wire)) x.register (lowered_parts part arms l))))
            → ((o : Option BitVector) → takes around registers look (ToRegister x.region) o (arms_drivers groups islands x (suc (suc x.wire)) x.register (lowered_parts part arms l)) ≡ o)
            → ArmsTurn arms l x (suc (suc x.wire)) x.register k to
            → Turns groups around registers look (bank_coding (arms_bank leaves codings arms)) x.wire x.region x.position r (form_drivers groups islands x (Par (lowered_parts part arms l)))
            (arms_number leaves codings part islands next next_island arms l x.register) (at_control (arms_going leaves codings part islands hole of_enable of_island arms) k) to
        par_turns arms l x r k to so on ends_so apart t = record {
          ends = over;
          moves = moved to;
          others = numbers to over t;
          goes_so = λ g o. takes_append around registers look (ToHole (groups + g)) o (arms_drivers groups islands x (suc (suc x.wire)) x.register (lowered_parts part arms l)) _ ∙ t.goes_so g o;
        }
          where
            over : It (end_of x.wire) (is_done to)
            over = ends_so ∙ says_all around registers look (at x) (exprs_of (arms_over groups islands (suc (suc x.wire)) x.register (lowered_parts part arms l))) true (is_done to) on t.over

            moved : (to : Control (Machine.Place (arms_machine leaves arms))) → Moves groups around registers look (bank_coding (arms_bank leaves codings arms)) x.region x.position r (form_drivers groups islands x (Par (lowered_parts part arms l))) to
            moved (At q) = takes_append around registers look (ToRegister x.region) (Some (wide r)) (arms_drivers groups islands x (suc (suc x.wire)) x.register (lowered_parts part arms l)) _ ∙ apart (Some (wide r)) ∙ ap (λ n. Some (wide n)) so
            moved Done = λ o. takes_append around registers look (ToRegister x.region) o (arms_drivers groups islands x (suc (suc x.wire)) x.register (lowered_parts part arms l)) _ ∙ apart o

            untrue : {A : Type 0} → false ≡ true → A
            untrue e = absurd cc

            numbers : (to : Control (Machine.Place (arms_machine leaves arms))) → It (end_of x.wire) (is_done to) → ArmsTurn arms l x (suc (suc x.wire)) x.register k to
                → (n : ℕ) → n < Bank.count (arms_bank leaves codings arms) → arms_number leaves codings part islands next next_island arms l x.register n ≡ bank_code (bank_coding (arms_bank leaves codings arms)) to (suc n)
            numbers (At q) h t n less = t.nexts false h (λ e. untrue e) n less
            numbers Done h t n less = t.nexts true h (λ e. refl) n less

        arms_both : (s : PlainStatement) (ss : PlainStatements) (l : Lowering) (par : Stand) (wire register : ℕ) (k : Control (Machine.Place (arms_machine leaves (a_statement s ss)))) (a : Control (Machine.Place (machine_of leaves s))) (b : Control (Machine.Place (arms_machine leaves ss)))
            → ArmTurns groups around registers look (statement_coding leaves codings s) par wire register (lowered part s l) (D (arm_stand par wire register) (lowered part s l))
            (counted (next register) (number_of leaves codings part islands next next_island s l (suc register))) (at_control (going leaves codings part islands hole of_enable of_island s) (left_control k)) a
            → ArmsTurn ss (after part s l) par (wire + wires_of (lowered part s l)) (suc register + length (registers_of islands (lowered part s l))) (right_control k) b
            → ArmsTurn (a_statement s ss) l par wire register k (join a b)
        arms_both s ss l par wire register k a b one rest = record {
          over = says_all around registers look (arm_over wire register (lowered part s l)) (exprs_of (arms_over groups islands (wire + wires_of (lowered part s l)) (suc register + length (registers_of islands (lowered part s l))) (lowered_parts part ss (after part s l)))) (is_done a) (is_done b) one.over rest.over ∙ ap (λ c. Some (truth_bit c)) (sym (join_done a b));
          goes_so = λ g o. takes_append around registers look (ToHole (groups + g)) o (D (arm_stand par wire register) (lowered part s l)) _
              ∙ ap (λ z. takes around registers look (ToHole (groups + g)) z (D (arm_stand par wire register) (lowered part s l))) (rest.goes_so g o) ∙ one.goes_so g _
              ∙ sym (told_append g o (at_control (going leaves codings part islands hole of_enable of_island s) (left_control k)) (at_control (arms_going leaves codings part islands hole of_enable of_island ss) (right_control k)))
              ∙ ap (told g o) (runs_both (going leaves codings part islands hole of_enable of_island s) (arms_going leaves codings part islands hole of_enable of_island ss) k);
          nexts = numbers;
        }
          where
            both_done : (a : Control (Machine.Place (machine_of leaves s))) (b : Control (Machine.Place (arms_machine leaves ss))) → is_done (join a b) ≡ true → (is_done a ≡ true) × (is_done b ≡ true)
            both_done (At p) (At q) e = absurd cc
            both_done (At p) Done e = absurd cc
            both_done Done (At q) e = absurd cc
            both_done Done Done e = (refl, refl)

            numbers : (e : Bool) → It (end_of par.wire) e → (e ≡ true → is_done (join a b) ≡ true) → (n : ℕ) → n < Bank.count (arms_bank leaves codings (a_statement s ss))
                → arms_number leaves codings part islands next next_island (a_statement s ss) l register n ≡ (if e then 0 else Bank.code (arms_bank leaves codings (a_statement s ss)) (join a b) n)
            numbers true h all n less = let d = both_done a b (all refl) in
                beside_same (suc (Coding.extra (statement_coding leaves codings s))) (Bank.count (arms_bank leaves codings ss)) _ _ zeros zeros (one.nexts true h (λ e. d.0)) (rest.nexts true h (λ e. d.1)) n less ∙ beside_zero (suc (Coding.extra (statement_coding leaves codings s))) n
            numbers false h all n less =
                beside_same (suc (Coding.extra (statement_coding leaves codings s))) (Bank.count (arms_bank leaves codings ss)) _ _ (bank_code (statement_coding leaves codings s) a) (Bank.code (arms_bank leaves codings ss) b)
                (one.nexts false h (λ e. untrue e)) (rest.nexts false h (λ e. untrue e)) n less
                ∙ ap₂ (λ c d. beside (suc (Coding.extra (statement_coding leaves codings s))) (bank_code (statement_coding leaves codings s) c) (Bank.code (arms_bank leaves codings ss) d) n) (sym (join_left a b)) (sym (join_right a b))
              where
                untrue : {A : Type 0} → false ≡ true → A
                untrue e = absurd cc

        or_false : (b : Bool) → (b || false) ≡ b
        or_false true = refl
        or_false false = refl

        -- the second branch stands behind the positions of the first
        if_sized : (test : PortRef) (comb : Option ℕ) (a b : PlainStatement) (l : Lowering) (x : Stand) (r : ℕ) (goes : List Going) (k : Control (InIf (Machine.Place (machine_of leaves a)) (Machine.Place (machine_of leaves b))))
            → Turns groups around registers look (if_coding (statement_coding leaves codings a) (statement_coding leaves codings b)) x.wire x.region x.position r
            (if_drivers around registers look groups islands x test comb (x.position + 1) (x.position + 1 + Coding.size (statement_coding leaves codings a)) (D (past_test x) (lowered part a l))
            (D (behind islands (lowered part a l) (past_test x)) (lowered part b (after part a l))) (either (end_of (past_test x).wire) (end_of (behind islands (lowered part a l) (past_test x)).wire)))
            (beside (Coding.extra (statement_coding leaves codings a)) (number_of leaves codings part islands next next_island a l x.register)
            (number_of leaves codings part islands next next_island b (after part a l) (x.register + length (registers_of islands (lowered part a l))))) goes k
            → Turns groups around registers look (if_coding (statement_coding leaves codings a) (statement_coding leaves codings b)) x.wire x.region x.position r
            (if_drivers around registers look groups islands x test comb (x.position + 1) (x.position + 1 + positions_of (lowered part a l)) (D (past_test x) (lowered part a l))
            (D (behind islands (lowered part a l) (past_test x)) (lowered part b (after part a l))) (either (end_of (past_test x).wire) (end_of (behind islands (lowered part a l) (past_test x)).wire)))
            (beside (Coding.extra (statement_coding leaves codings a)) (number_of leaves codings part islands next next_island a l x.register)
            (number_of leaves codings part islands next next_island b (after part a l) (x.register + length (registers_of islands (lowered part a l))))) goes k
        if_sized test comb a b l x r goes k t =
            subst (λ m. Turns groups around registers look (if_coding (statement_coding leaves codings a) (statement_coding leaves codings b)) x.wire x.region x.position r
            (if_drivers around registers look groups islands x test comb (x.position + 1) (x.position + 1 + m) (D (past_test x) (lowered part a l))
            (D (behind islands (lowered part a l) (past_test x)) (lowered part b (after part a l))) (either (end_of (past_test x).wire) (end_of (behind islands (lowered part a l) (past_test x)).wire)))
            (beside (Coding.extra (statement_coding leaves codings a)) (number_of leaves codings part islands next next_island a l x.register)
            (number_of leaves codings part islands next next_island b (after part a l) (x.register + length (registers_of islands (lowered part a l))))) goes k) (size_is a l) t

        if_step_is : {P Q : Type 0} (b : Bool) (t : Test F) → b ≡ leads t → (start : Control P) (begin : Control Q) (f : P) (g : Q) → start ≡ At f → begin ≡ At g
            → (if b then At (InThen f) else At (InElse g)) ≡ by_test t (within InThen Done start) (within InElse Done begin)
        if_step_is {P = P} {Q = Q} b t e start begin f g s_is b_is =
            sym (test_leads t (within InThen Done start) (within InElse Done begin) ∙ ap (λ c. if c then within InThen Done start else within InElse Done begin) (sym e)
            ∙ ap₂ (λ c d. if b then within InThen Done c else within InElse Done d) s_is b_is)

        while_step : {P : Type 0} (b : Bool) (t : Test F) → b ≡ leads t → (start : Control P) (f : P) → start ≡ At f → (if b then At (InBody f) else Done) ≡ by_test t (within InBody (At AtHead) start) Done
        while_step b t e start f s_is =
            sym (test_leads t (within InBody (At AtHead) start) Done ∙ ap (λ c. if c then within InBody (At AtHead) start else Done) (sym e)
            ∙ ap (λ c. if b then within InBody (At AtHead) c else Done) s_is)

        -- a repeat, by the rounds that are left and by what its body comes to
        round_turns : (a : PlainStatement) → IsRegion (machine_of leaves a) (statement_coding leaves codings a) → (l : Lowering) (x : Stand) (k r left : ℕ) → k < 2 ^ 32 → left < suc k
            → look (AWire (suc x.wire)) ≡ value around registers look (both (end_of (suc (suc x.wire))) (in_last_round x k)) → (x.register == x.region) ≡ false → registers x.register ≡ Some (wide (kept x.register))
            → takes around registers look (ToRegister x.register) (Some (wide (kept x.register)))
            (drive (ToRegister x.register) (end_of x.wire) (word 0) ∷ drive (ToRegister x.register) (end_of (suc (suc x.wire))) (Sum (OfRegister x.register) (word 1)) ∷ []) ≡ Some (wide (next x.register))
            → kept x.register ≡ turned (statement_coding leaves codings a) (suc k) left → (goes : List Going) (to : Control (Machine.Place (machine_of leaves a)))
            → Turns groups around registers look (statement_coding leaves codings a) (suc (suc x.wire)) x.region x.position r (D (counted_inside x) (lowered part a l)) (number_of leaves codings part islands next next_island a l (suc x.register)) goes to
            → Turns groups around registers look (repeat_coding (statement_coding leaves codings a) (suc k)) x.wire x.region x.position r (D (counted_inside x) (lowered part a l) ++ counting x k)
            (counted (next x.register) (number_of leaves codings part islands next next_island a l (suc x.register))) goes (within (in_round left) (next_round (machine_of leaves a) left) to)
        round_turns a ua l x k r left few less ends_so apart is taken so goes (At q) t =
            round_goes groups around registers look (statement_coding leaves codings a) x k r (D (counted_inside x) (lowered part a l)) _ (kept x.register) (next x.register) goes few apart is ends_so taken left q so t
        round_turns a ua l x k r zero few less ends_so apart is taken so goes Done t =
            rounds_end groups around registers look (statement_coding leaves codings a) x k r (D (counted_inside x) (lowered part a l)) _ (kept x.register) (next x.register) goes few apart is ends_so taken so t
        round_turns a ua l x k r (suc left) few less ends_so apart is taken so goes Done t =
            subst (λ c. Turns groups around registers look (repeat_coding (statement_coding leaves codings a) (suc k)) x.wire x.region x.position r (D (counted_inside x) (lowered part a l) ++ counting x k)
            (counted (next x.register) (number_of leaves codings part islands next next_island a l (suc x.register))) goes (within (in_round left) (next_round (machine_of leaves a) left) c)) (sym ua.front.starts)
            (round_begins groups around registers look (statement_coding leaves codings a) x k r (D (counted_inside x) (lowered part a l)) _ (kept x.register) (next x.register) goes few apart is ends_so taken left ua.front.first less so
            (ua.coded.zero_at ua.front.first ua.front.starts) (ua.coded.zeros_at ua.front.first ua.front.starts) t)

        -- THE LAW: a step of the machine in a cycle of the net, for every form
        mutual
          form_turns : (form : PlainForm) (place : Place) → Stands (Placed form place) → (l : Lowering) → Low (form_after part form l) → (x : Stand) (r : ℕ) (p : Machine.Place (form_machine leaves form)) → Coding.IsFine (form_coding leaves codings form) p → Acts x r
              → Shows (Placed form place) l x r p → W x (lowered part (Placed form place) l) → FormSaw leaves part timed_saw island_saw codings islands seen hole port form p → Turned (Placed form place) l x r p
          form_turns Empty place u l stage x r p fine i shows w saw = turn_one x r _ i shows.0 w.low w.connects
          form_turns (Enable g) place u l stage x r p fine i shows w saw = enable_kind g (group_length part g) refl place u l stage x r p fine i shows w saw
          form_turns (Seq no_statements) place u l stage x r p fine i shows w saw = turn_one x r _ i shows.0 w.low w.connects
          form_turns (Seq (a_statement s ss)) place u l stage x r (First p) fine i shows w saw =
              let v = wired_seq x (lowered part s l) (lowered_parts part ss (after part s l)) place w in
              let us = law.parts_stand s (Placed (Seq (a_statement s ss)) place) (of_seq (inl refl)) u in
              seq_first s ss (Placed (Seq (a_statement s ss)) place) u (λ t e. of_seq (inr e)) us l x (inside x) r p i shows.0
              (beside_later (Coding.extra (statement_coding leaves codings s)) (Coding.extra (parts_coding leaves codings ss)) (number_of leaves codings part islands kept now_island s l x.register) (parts_number leaves codings part islands kept now_island ss (after part s l) (x.register + length (registers_of islands (lowered part s l)))) (Coding.other (statement_coding leaves codings s) p) zeros shows.1) v.1
              (turns s us l (low_parts ss (after part s l) stage) (inside x) r p fine i (shows.0, beside_first (Coding.extra (statement_coding leaves codings s)) (Coding.extra (parts_coding leaves codings ss)) (number_of leaves codings part islands kept now_island s l x.register) (parts_number leaves codings part islands kept now_island ss (after part s l) (x.register + length (registers_of islands (lowered part s l)))) (Coding.other (statement_coding leaves codings s) p) zeros shows.1) v.0 saw)
          form_turns (Seq (a_statement s ss)) place u l stage x r (Second p) fine i shows w saw =
              let v = wired_seq x (lowered part s l) (lowered_parts part ss (after part s l)) place w in
              let size : Coding.size (statement_coding leaves codings s) ≡ positions_of (lowered part s l) = size_is s l in
              let so : r ≡ x.position + (Coding.size (statement_coding leaves codings s) + Coding.number (parts_coding leaves codings ss) p) = shows.0 in
              let past : x.position + positions_of (lowered part s l) ≤ r = omega arith in
              let so_behind : r ≡ (x.position + positions_of (lowered part s l)) + Coding.number (parts_coding leaves codings ss) p = omega arith in
              let a = away_wired (lowered part s l) (inside x) true r i (inr (inr past)) v.0 in
              seq_second s ss l x (inside x) r p a
              (still_zero s l (inside x) (Coding.extra (statement_coding leaves codings s)) a v.0 (beside_first (Coding.extra (statement_coding leaves codings s)) (Coding.extra (parts_coding leaves codings ss)) (number_of leaves codings part islands kept now_island s l x.register) (parts_number leaves codings part islands kept now_island ss (after part s l) (x.register + length (registers_of islands (lowered part s l)))) zeros (Coding.other (parts_coding leaves codings ss) p) shows.1))
              (parts_turn ss (Placed (Seq (a_statement s ss)) place) u (λ t e. of_seq (inr e)) (after part s l) stage x (inside x).wire (behind islands (lowered part s l) (inside x)) r p fine i
              (so_behind, beside_later (Coding.extra (statement_coding leaves codings s)) (Coding.extra (parts_coding leaves codings ss)) (number_of leaves codings part islands kept now_island s l x.register) (parts_number leaves codings part islands kept now_island ss (after part s l) (x.register + length (registers_of islands (lowered part s l)))) zeros (Coding.other (parts_coding leaves codings ss) p) shows.1) v.1 a.ends saw)
          form_turns (Par no_statements) place u l stage x r p fine i shows w saw =
              let low : bound ≤ x.wire = w.low in
              let high : bound ≤ suc x.wire = omega arith in
              let so : r ≡ x.position + 0 = shows.0 in
              let here_so : r ≡ x.position = omega arith in
              let on : It (at x) true = at_true x r i here_so low w.connects.0 in
              record { ends = w.connects.1.0 high ∙ says_all around registers look (at x) no_exprs true true on refl; moves = λ o. refl; others = λ n less. none_below n less; goes_so = λ g o. refl }
          form_turns (Par (a_statement s ss)) place u l stage x r p fine i shows w saw =
              let c = connect_both around registers look bound (arms_drivers groups islands x (suc (suc x.wire)) x.register (lowered_parts part (a_statement s ss) l)) _ w.connects.1 in
              let low : bound ≤ x.wire = w.low in
              let high : bound ≤ suc x.wire = omega arith in
              let low_in : bound ≤ suc (suc x.wire) = omega arith in
              let so : r ≡ x.position + 0 = shows.0 in
              let here_so : r ≡ x.position = omega arith in
              let on : It (at x) true = at_true x r i here_so low w.connects.0 in
              par_turns (a_statement s ss) l x r (At p) (Machine.step (arms_machine leaves (a_statement s ss)) p seen) so on (c.1.0 high) w.nexts.0
              (arms_turn (a_statement s ss) (Placed (Par (a_statement s ss)) place) u (λ t e. of_par e) l stage x (suc (suc x.wire)) x.register (At p) fine on shows.1
              (record { low = low_in; connects = c.0; registers_are = w.registers_are; bits = w.bits; nexts = w.nexts.1 }) saw)
          form_turns (If test comb a b) place u l stage x r AtTest fine i shows w saw =
              let v = wired_if x test comb (lowered part a l) (lowered part b (after part a l)) place w in
              let ua = statement_coded leaves codings Stands law a (law.parts_stand a (Placed (If test comb a b) place) then_branch u) in
              let ub = statement_coded leaves codings Stands law b (law.parts_stand b (Placed (If test comb a b) place) else_branch u) in
              let so : r ≡ x.position + 0 = shows.0 in
              let here_so : r ≡ x.position = omega arith in
              let less : r < x.position + 1 = omega arith in
              let less_too : r < x.position + 1 + positions_of (lowered part a l) = omega arith in
              let on : It (at x) true = at_true x r i here_so w.low v.stands_so in
              let aw = away_wired (lowered part a l) (past_test x) true r i (inr (inl less)) v.one in
              let bw = away_wired (lowered part b (after part a l)) (behind islands (lowered part a l) (past_test x)) true r i (inr (inl less_too)) v.other in
              let rest_a = still_zero a l (past_test x) (Coding.extra (statement_coding leaves codings a)) aw v.one (zero_first (Coding.extra (statement_coding leaves codings a)) (Coding.extra (statement_coding leaves codings b)) (number_of leaves codings part islands kept now_island a l x.register) (number_of leaves codings part islands kept now_island b (after part a l) (x.register + length (registers_of islands (lowered part a l)))) shows.1) in
              let rest_b = still_zero b (after part a l) (behind islands (lowered part a l) (past_test x)) (Coding.extra (statement_coding leaves codings b)) bw v.other
              (zero_later (Coding.extra (statement_coding leaves codings a)) (Coding.extra (statement_coding leaves codings b)) (number_of leaves codings part islands kept now_island a l x.register) (number_of leaves codings part islands kept now_island b (after part a l) (x.register + length (registers_of islands (lowered part a l)))) shows.1) in
              let ends = v.ends_so ∙ says_either around registers look (end_of (past_test x).wire) (end_of (behind islands (lowered part a l) (past_test x)).wire) false false aw.ends bw.ends in
              subst (Turns groups around registers look (if_coding (statement_coding leaves codings a) (statement_coding leaves codings b)) x.wire x.region x.position r (D x (lowered part (Placed (If test comb a b) place) l)) _ _)
              (if_step_is (port test.port) (LeafMachines.test leaves test.port comb seen) saw (Machine.start (machine_of leaves a)) (Machine.start (machine_of leaves b)) ua.front.first ub.front.first ua.front.starts ub.front.starts)
              (if_sized test.port comb a b l x r (comb_going comb) _
              (if_begins groups islands around registers look (statement_coding leaves codings a) (statement_coding leaves codings b) x test.port comb r (D (past_test x) (lowered part a l))
              (D (behind islands (lowered part a l) (past_test x)) (lowered part b (after part a l))) _ _ _ (port test.port) v.bit ua.front.first ub.front.first
              (ua.coded.zero_at ua.front.first ua.front.starts) (ua.coded.zeros_at ua.front.first ua.front.starts) (ub.coded.zero_at ub.front.first ub.front.starts) (ub.coded.zeros_at ub.front.first ub.front.starts)
              rest_a rest_b on ends aw.idle bw.idle (port test.port) refl))
          form_turns (If test comb a b) place u l stage x r (InThen p) fine i shows w saw =
              let v = wired_if x test comb (lowered part a l) (lowered part b (after part a l)) place w in
              let us = law.parts_stand a (Placed (If test comb a b) place) then_branch u in
              let so : r ≡ x.position + suc (Coding.number (statement_coding leaves codings a) p) = shows.0 in
              let past : x.position + 1 ≤ r = omega arith in
              let so_in : r ≡ x.position + 1 + Coding.number (statement_coding leaves codings a) p = omega arith in
              let below : Coding.number (statement_coding leaves codings a) p < Coding.size (statement_coding leaves codings a) = (statement_coded leaves codings Stands law a us).coded.below p in
              let size : Coding.size (statement_coding leaves codings a) ≡ positions_of (lowered part a l) = size_is a l in
              let less : r < x.position + 1 + positions_of (lowered part a l) = omega arith in
              let off : It (at x) false = at_behind x r i past w.low v.stands_so in
              let bw = away_wired (lowered part b (after part a l)) (behind islands (lowered part a l) (past_test x)) true r i (inr (inl less)) v.other in
              let rest_b = still_zero b (after part a l) (behind islands (lowered part a l) (past_test x)) (Coding.extra (statement_coding leaves codings b)) bw v.other
              (beside_later (Coding.extra (statement_coding leaves codings a)) (Coding.extra (statement_coding leaves codings b)) (number_of leaves codings part islands kept now_island a l x.register) (number_of leaves codings part islands kept now_island b (after part a l) (x.register + length (registers_of islands (lowered part a l)))) (Coding.other (statement_coding leaves codings a) p) zeros shows.1) in
              let t = turns a us l (low_back b (after part a l) stage) (past_test x) r p fine i (so_in, beside_first (Coding.extra (statement_coding leaves codings a)) (Coding.extra (statement_coding leaves codings b)) (number_of leaves codings part islands kept now_island a l x.register) (number_of leaves codings part islands kept now_island b (after part a l) (x.register + length (registers_of islands (lowered part a l)))) (Coding.other (statement_coding leaves codings a) p) zeros shows.1) v.one saw in
              let ends = v.ends_so ∙ says_either around registers look (end_of (past_test x).wire) (end_of (behind islands (lowered part a l) (past_test x)).wire) (is_done (Machine.step (machine_of leaves a) p seen)) false t.ends bw.ends in
              if_sized test.port comb a b l x r _ _
              (if_then groups islands around registers look (statement_coding leaves codings a) (statement_coding leaves codings b) x test.port comb r (D (past_test x) (lowered part a l))
              (D (behind islands (lowered part a l) (past_test x)) (lowered part b (after part a l))) _ _ _ (port test.port) v.bit off _ (past_test x).wire (Machine.step (machine_of leaves a) p seen) bw.idle rest_b
              (ends ∙ ap (λ c. Some (truth_bit c)) (or_false (is_done (Machine.step (machine_of leaves a) p seen)))) t)
          form_turns (If test comb a b) place u l stage x r (InElse p) fine i shows w saw =
              let v = wired_if x test comb (lowered part a l) (lowered part b (after part a l)) place w in
              let us = law.parts_stand b (Placed (If test comb a b) place) else_branch u in
              let so : r ≡ x.position + suc (Coding.size (statement_coding leaves codings a) + Coding.number (statement_coding leaves codings b) p) = shows.0 in
              let size : Coding.size (statement_coding leaves codings a) ≡ positions_of (lowered part a l) = size_is a l in
              let past : x.position + 1 ≤ r = omega arith in
              let past_a : x.position + 1 + positions_of (lowered part a l) ≤ r = omega arith in
              let so_in : r ≡ x.position + 1 + positions_of (lowered part a l) + Coding.number (statement_coding leaves codings b) p = omega arith in
              let off : It (at x) false = at_behind x r i past w.low v.stands_so in
              let aw = away_wired (lowered part a l) (past_test x) true r i (inr (inr past_a)) v.one in
              let rest_a = still_zero a l (past_test x) (Coding.extra (statement_coding leaves codings a)) aw v.one (beside_first (Coding.extra (statement_coding leaves codings a)) (Coding.extra (statement_coding leaves codings b)) (number_of leaves codings part islands kept now_island a l x.register) (number_of leaves codings part islands kept now_island b (after part a l) (x.register + length (registers_of islands (lowered part a l)))) zeros (Coding.other (statement_coding leaves codings b) p) shows.1) in
              let t = turns b us (after part a l) stage (behind islands (lowered part a l) (past_test x)) r p fine i
              (so_in, beside_later (Coding.extra (statement_coding leaves codings a)) (Coding.extra (statement_coding leaves codings b)) (number_of leaves codings part islands kept now_island a l x.register) (number_of leaves codings part islands kept now_island b (after part a l) (x.register + length (registers_of islands (lowered part a l)))) zeros (Coding.other (statement_coding leaves codings b) p) shows.1) v.other saw in
              let ends = v.ends_so ∙ says_either around registers look (end_of (past_test x).wire) (end_of (behind islands (lowered part a l) (past_test x)).wire) false (is_done (Machine.step (machine_of leaves b) p seen)) aw.ends t.ends in
              if_sized test.port comb a b l x r _ _
              (if_else groups islands around registers look (statement_coding leaves codings a) (statement_coding leaves codings b) x test.port comb r (D (past_test x) (lowered part a l))
              (D (behind islands (lowered part a l) (past_test x)) (lowered part b (after part a l))) _ _ _ (port test.port) v.bit off _ (behind islands (lowered part a l) (past_test x)).wire (Machine.step (machine_of leaves b) p seen) aw.idle rest_a ends
              (subst (λ m. Turns groups around registers look (statement_coding leaves codings b) (behind islands (lowered part a l) (past_test x)).wire x.region (x.position + 1 + m) r
              (D (behind islands (lowered part a l) (past_test x)) (lowered part b (after part a l))) (number_of leaves codings part islands next next_island b (after part a l) (x.register + length (registers_of islands (lowered part a l)))) (going leaves codings part islands hole of_enable of_island b p) (Machine.step (machine_of leaves b) p seen)) (sym size) t))
          form_turns (While test comb a) place u l stage x r AtHead fine i shows w saw =
              let v = wired_while x test comb (lowered part a l) place w in
              let ua = statement_coded leaves codings Stands law a (law.parts_stand a (Placed (While test comb a) place) of_while u) in
              let so : r ≡ x.position + 0 = shows.0 in
              let here_so : r ≡ x.position = omega arith in
              let less : r < x.position + 1 = omega arith in
              let on : It (at x) true = at_true x r i here_so w.low v.stands_so in
              let aw = away_wired (lowered part a l) (past_test x) true r i (inr (inl less)) v.body in
              let rest = still_zero a l (past_test x) (Coding.extra (statement_coding leaves codings a)) aw v.body shows.1 in
              let ends = v.ends_so ∙ says_both around registers look (at x) (Inverse (OfPort test.port)) true (not (port test.port)) on (says_not around registers look (OfPort test.port) (port test.port) v.bit) in
              subst (Turns groups around registers look (while_coding (statement_coding leaves codings a)) x.wire x.region x.position r (D x (lowered part (Placed (While test comb a) place) l)) _ _)
              (while_step (port test.port) (LeafMachines.test leaves test.port comb seen) saw (Machine.start (machine_of leaves a)) ua.front.first ua.front.starts)
              (while_begins groups islands around registers look (statement_coding leaves codings a) x test.port comb r (past_test x).wire (D (past_test x) (lowered part a l)) _ (port test.port) v.bit ua.front.first
              (ua.coded.zero_at ua.front.first ua.front.starts) (ua.coded.zeros_at ua.front.first ua.front.starts) rest on ends aw.ends aw.idle (port test.port) refl)
          form_turns (While test comb a) place u l stage x r (InBody p) fine i shows w saw =
              let v = wired_while x test comb (lowered part a l) place w in
              let so : r ≡ x.position + suc (Coding.number (statement_coding leaves codings a) p) = shows.0 in
              let past : x.position + 1 ≤ r = omega arith in
              let so_in : r ≡ x.position + 1 + Coding.number (statement_coding leaves codings a) p = omega arith in
              let off : It (at x) false = at_behind x r i past w.low v.stands_so in
              let t = turns a (law.parts_stand a (Placed (While test comb a) place) of_while u) l stage (past_test x) r p fine i (so_in, shows.1) v.body saw in
              let ends = v.ends_so ∙ says_both around registers look (at x) (Inverse (OfPort test.port)) false (not (port test.port)) off (says_not around registers look (OfPort test.port) (port test.port) v.bit) in
              while_goes_on groups islands around registers look (statement_coding leaves codings a) x test.port comb r (past_test x).wire (D (past_test x) (lowered part a l)) _ (port test.port) v.bit
              (Machine.step (machine_of leaves a) p seen) _ off ends t
          form_turns (Repeat zero a) place u l stage x r p fine i shows w saw = turn_one x r _ i shows.0 w.low w.connects
          form_turns (Repeat (suc k) a) place u l stage x r p fine i shows w saw =
              let v = wired_repeat x k (lowered part a l) place w in
              let us = law.parts_stand a (Placed (Repeat (suc k) a) place) of_repeat u in
              let ua = statement_coded leaves codings Stands law a us in
              round_turns a ua l x k r p.left (rounds k a place u) fine.less v.ends_so w.nexts.0 w.registers_are.0 w.nexts.1 (shows.1 0 (omega arith)) _ (Machine.step (machine_of leaves a) p.place seen)
              (turns a us l stage (counted_inside x) r p.place fine.body i (shows.0, λ j less. shows.1 (suc j) (omega arith)) v.body saw)
          form_turns (StaticSeq written parts) place u l stage x r p fine i shows w saw = islands_turn (Placed (StaticSeq written parts) place) u l stage place refl x r p fine i shows w saw
          form_turns (StaticPar written arms) place u l stage x r p fine i shows w saw = islands_turn (Placed (StaticPar written arms) place) u l stage place refl x r p fine i shows w saw
          form_turns (StaticIf written test a b) place u l stage x r p fine i shows w saw = islands_turn (Placed (StaticIf written test a b) place) u l stage place refl x r p fine i shows w saw
          form_turns (StaticRepeat written count a) place u l stage x r p fine i shows w saw = islands_turn (Placed (StaticRepeat written count a) place) u l stage place refl x r p fine i shows w saw
          form_turns (Timed k) place u l stage x r p fine i shows w saw = absurd (law.is_untimed k place u)

          pub turns : (s : PlainStatement) → Stands s → (l : Lowering) → Low (after part s l) → (x : Stand) (r : ℕ) (p : Machine.Place (machine_of leaves s)) → Coding.IsFine (statement_coding leaves codings s) p → Acts x r
              → Shows s l x r p → W x (lowered part s l) → StatementSaw leaves part timed_saw island_saw codings islands seen hole port s p → Turned s l x r p
          turns (Placed form place) u l stage x r p fine i shows w saw = form_turns form place u l stage x r p fine i shows w saw

          parts_turn : (ss : PlainStatements) (whole : PlainStatement) → Stands whole → ((t : PlainStatement) → In (list_of ss) t → IsPart t whole) → (l : Lowering) → Low (parts_after part ss l) → (seq : Stand) (before : ℕ) (x : Stand) (r : ℕ) (p : Machine.Place (parts_machine leaves ss))
              → Coding.IsFine (parts_coding leaves codings ss) p → Acts x r
              → (r ≡ x.position + Coding.number (parts_coding leaves codings ss) p) × ((n : ℕ) → n < Coding.extra (parts_coding leaves codings ss) → parts_number leaves codings part islands kept now_island ss l x.register n ≡ Coding.other (parts_coding leaves codings ss) p n)
              → WP seq before x (lowered_parts part ss l) → It (end_of before) false → PartsSaw leaves part timed_saw island_saw codings islands seen hole port ss p
              → Turns groups around registers look (parts_coding leaves codings ss) seq.wire x.region x.position r (parts_drivers groups islands seq before x (lowered_parts part ss l))
              (parts_number leaves codings part islands next next_island ss l x.register) (parts_going leaves codings part islands hole of_enable of_island ss p) (Machine.step (parts_machine leaves ss) p seen)
          parts_turn no_statements whole u inside_whole l stage seq before x r p fine i shows w off saw = absurd p
          parts_turn (a_statement s ss) whole u inside_whole l stage seq before x r (First p) fine i shows w off saw =
              let v = wired_parts seq before x (lowered part s l) (lowered_parts part ss (after part s l)) w in
              let us = law.parts_stand s whole (inside_whole s (inl refl)) u in
              behind_idle groups around registers look _ seq.wire x.region x.position r _ _ _ _ _ off
              (seq_first s ss whole u (λ t e. inside_whole t (inr e)) us l seq x r p i shows.0
              (beside_later (Coding.extra (statement_coding leaves codings s)) (Coding.extra (parts_coding leaves codings ss)) (number_of leaves codings part islands kept now_island s l x.register) (parts_number leaves codings part islands kept now_island ss (after part s l) (x.register + length (registers_of islands (lowered part s l)))) (Coding.other (statement_coding leaves codings s) p) zeros shows.1) v.1
              (turns s us l (low_parts ss (after part s l) stage) x r p fine i (shows.0, beside_first (Coding.extra (statement_coding leaves codings s)) (Coding.extra (parts_coding leaves codings ss)) (number_of leaves codings part islands kept now_island s l x.register) (parts_number leaves codings part islands kept now_island ss (after part s l) (x.register + length (registers_of islands (lowered part s l)))) (Coding.other (statement_coding leaves codings s) p) zeros shows.1) v.0 saw))
          parts_turn (a_statement s ss) whole u inside_whole l stage seq before x r (Second p) fine i shows w off saw =
              let v = wired_parts seq before x (lowered part s l) (lowered_parts part ss (after part s l)) w in
              let size : Coding.size (statement_coding leaves codings s) ≡ positions_of (lowered part s l) = size_is s l in
              let so : r ≡ x.position + (Coding.size (statement_coding leaves codings s) + Coding.number (parts_coding leaves codings ss) p) = shows.0 in
              let past : x.position + positions_of (lowered part s l) ≤ r = omega arith in
              let so_behind : r ≡ (x.position + positions_of (lowered part s l)) + Coding.number (parts_coding leaves codings ss) p = omega arith in
              let a = away_wired (lowered part s l) x true r i (inr (inr past)) v.0 in
              behind_idle groups around registers look _ seq.wire x.region x.position r _ _ _ _ _ off
              (seq_second s ss l seq x r p a
              (still_zero s l x (Coding.extra (statement_coding leaves codings s)) a v.0 (beside_first (Coding.extra (statement_coding leaves codings s)) (Coding.extra (parts_coding leaves codings ss)) (number_of leaves codings part islands kept now_island s l x.register) (parts_number leaves codings part islands kept now_island ss (after part s l) (x.register + length (registers_of islands (lowered part s l)))) zeros (Coding.other (parts_coding leaves codings ss) p) shows.1))
              (parts_turn ss whole u (λ t e. inside_whole t (inr e)) (after part s l) stage seq x.wire (behind islands (lowered part s l) x) r p fine i
              (so_behind, beside_later (Coding.extra (statement_coding leaves codings s)) (Coding.extra (parts_coding leaves codings ss)) (number_of leaves codings part islands kept now_island s l x.register) (parts_number leaves codings part islands kept now_island ss (after part s l) (x.register + length (registers_of islands (lowered part s l)))) zeros (Coding.other (parts_coding leaves codings ss) p) shows.1) v.1 a.ends saw))

          arms_turn : (arms : PlainStatements) (whole : PlainStatement) → Stands whole → ((t : PlainStatement) → In (list_of arms) t → IsPart t whole) → (l : Lowering) → Low (parts_after part arms l) → (par : Stand) (wire register : ℕ) (k : Control (Machine.Place (arms_machine leaves arms)))
              → at_fine (Bank.IsFine (arms_bank leaves codings arms)) k → It (at par) true
              → ((n : ℕ) → n < Bank.count (arms_bank leaves codings arms) → arms_number leaves codings part islands kept now_island arms l register n ≡ Bank.code (arms_bank leaves codings arms) k n)
              → WA par wire register (lowered_parts part arms l) → at_fine (ArmsSaw leaves part timed_saw island_saw codings islands seen hole port arms) k → ArmsTurn arms l par wire register k (step (arms_machine leaves arms) k seen)
          arms_turn no_statements whole u inside_whole l stage par wire register (At p) fine on nums w saw = absurd p
          arms_turn no_statements whole u inside_whole l stage par wire register Done fine on nums w saw = record { over = refl; goes_so = λ g o. refl; nexts = λ e h all n less. none_below n less }
          arms_turn (a_statement s ss) whole u inside_whole l stage par wire register k fine on nums w saw =
              let v = wired_arms par wire register (lowered part s l) (lowered_parts part ss (after part s l)) w in
              let us = law.parts_stand s whole (inside_whole s (inl refl)) u in
              let ea = suc (Coding.extra (statement_coding leaves codings s)) in
              let eb = Bank.count (arms_bank leaves codings ss) in
              subst (λ to. ArmsTurn (a_statement s ss) l par wire register k to) (step_join (machine_of leaves s) (arms_machine leaves ss) k seen)
              (arms_both s ss l par wire register k (step (machine_of leaves s) (left_control k) seen) (step (arms_machine leaves ss) (right_control k) seen)
              (arm_of s us l par wire register (left_control k) (left_fine (region_bank (statement_coding leaves codings s)) (arms_bank leaves codings ss) k fine) on
              (beside_first (suc (Coding.extra (statement_coding leaves codings s))) (Bank.count (arms_bank leaves codings ss)) (counted (kept register) (number_of leaves codings part islands kept now_island s l (suc register))) (arms_number leaves codings part islands kept now_island ss (after part s l) (suc register + length (registers_of islands (lowered part s l)))) (bank_code (statement_coding leaves codings s) (left_control k)) (Bank.code (arms_bank leaves codings ss) (right_control k)) nums) v.0 w.registers_are.0 w.nexts.0
              (left_says (StatementSaw leaves part timed_saw island_saw codings islands seen hole port s) (ArmsSaw leaves part timed_saw island_saw codings islands seen hole port ss) k saw)
              (λ p f shows_it saw_it. turns s us l (low_parts ss (after part s l) stage) (arm_stand par wire register) (kept register) p f (record { acts_so = on; width = 32; at_position = w.registers_are.0 }) shows_it v.0 saw_it))
              (arms_turn ss whole u (λ t e. inside_whole t (inr e)) (after part s l) stage par (wire + wires_of (lowered part s l)) (suc register + length (registers_of islands (lowered part s l))) (right_control k)
              (right_fine (region_bank (statement_coding leaves codings s)) (arms_bank leaves codings ss) k fine) on
              (beside_later (suc (Coding.extra (statement_coding leaves codings s))) (Bank.count (arms_bank leaves codings ss)) (counted (kept register) (number_of leaves codings part islands kept now_island s l (suc register))) (arms_number leaves codings part islands kept now_island ss (after part s l) (suc register + length (registers_of islands (lowered part s l)))) (bank_code (statement_coding leaves codings s) (left_control k)) (Bank.code (arms_bank leaves codings ss) (right_control k)) nums) v.1
              (right_says (StatementSaw leaves part timed_saw island_saw codings islands seen hole port s) (ArmsSaw leaves part timed_saw island_saw codings islands seen hole port ss) k saw)))
