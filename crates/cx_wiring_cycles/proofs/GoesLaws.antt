-- Where the registers show a place of a statement and its region acts, the goes are those of the place: that a hole or a test is what the
-- machine saw is not asked, so the goes can be used to show it.
use Rattle.std.proofs.Common.{◌≡◌, ℕ, zero, suc, ◌+◌, ◌<◌, ◌≤◌, inl, inr, Bool, true, false, not, List, length, Option, Some, None, slice_get, refl, sym, ap, ◌∙◌, subst, arith}
use Rattle.cx_text.specs.declared.places.Place.{Place}
use Rattle.cx_bits.specs.BitVector.{BitVector}
use Rattle.cx_meaning.specs.declared.ports.PortRef.{PortRef}
use Rattle.cx_meaning.specs.Designs.{PlainComponent, PlainForm, Empty, Enable, Seq, Par, If, While, Repeat, StaticSeq, StaticPar, StaticIf, StaticRepeat, Timed, PlainStatement, Placed, PlainStatements, no_statements, a_statement, list_of}
use Rattle.cx_text.specs.Members.{In}
use Rattle.cx_meaning.specs.Islands.{group_length}
use Rattle.cx_lockstep.specs.Worlds.{Control, At, Done, Machine}
use Rattle.cx_lockstep.specs.Machines.{First, Second, AtTest, InThen, InElse, AtHead, InBody}
use Rattle.cx_lockstep.specs.Statements.{LeafMachines, form_machine, machine_of, parts_machine, arms_machine}
use Rattle.cx_lockstep.specs.Running.{at_control}
use Rattle.cx_lockstep.specs.Lawful.{IsPart, of_seq, of_par, then_branch, else_branch, of_while, of_repeat}
use Rattle.cx_control.specs.Codings.{Coding, Bank, bank_code, zeros, region_bank, left_control, right_control, at_fine}
use Rattle.cx_control.specs.StatementCodings.{LeafCodings, form_coding, statement_coding, parts_coding, arms_bank}
use Rattle.cx_control.specs.StatementCodingLaws.{AreCoded, statement_coded}
use Rattle.cx_net.specs.Nets.{PlainNetExpr, OfHole, Inverse, ToHole, PlainNetDriver}
use Rattle.cx_net.specs.NetMeaning.{Node, NetAround}
use Rattle.cx_static.specs.Islands.{PlainIsland}
use Rattle.cx_static.specs.Lowering.{Lowering, after_enable, form_after, after, parts_after, lowered, lowered_parts, lowered_enable}
use Rattle.cx_wiring.specs.Counts.{positions_of, wires_of, sample_registers, registers_of}
use Rattle.cx_wiring.specs.Stands.{Stand, at, end_of, inside, past_test, behind}
use Rattle.cx_wiring.specs.Control.{arm_stand, counted_inside, comb_goes, form_drivers, drivers_of, parts_drivers, arms_drivers}
use Rattle.cx_wiring.specs.Takings.{Says, takes, AllConnect, AreRegisters}
use Rattle.cx_wiring.proofs.TakingLemmas.{says_both, says_not, connect_both, takes_append, idle_passes}
use Rattle.cx_wiring_cycles.specs.Standing.{IsStopped, IsIn, Away}
use Rattle.cx_wiring_cycles.specs.Shown.{wide, Going, told, counted, number_of, parts_number, arms_number, enable_going, going, parts_going, arms_going}
use Rattle.cx_wiring_cycles.specs.IslandTakes.{IslandNexts}
use Rattle.cx_wiring_cycles.specs.AtLeaves.{AnyTest, AnyGroup, IslandsHold, enable_holds, StatementHolds, PartsHold, ArmsHold}
use Rattle.cx_wiring_cycles.specs.Wired.{IsWired, PartsWired, ArmsWired}
use Rattle.cx_wiring_cycles.proofs.AwayLaws.{comb_idle}
use Rattle.cx_wiring_cycles.proofs.TurnLemmas.{beside_first, beside_later}
use Rattle.cx_wiring_cycles.proofs.FormTurns.{go_known, told_append, comb_hole, if_hole, while_hole, repeat_hole}
use Rattle.cx_wiring_cycles.proofs.SizeLaws as sizes
use Rattle.cx_wiring_cycles.proofs.ArmTurns.{left_fine, right_fine, left_says, right_says, runs_both}
use Rattle.cx_wiring_cycles.proofs.StandsLaws as stands

module _ (groups : ℕ) (islands : List PlainIsland) (around : NetAround) (registers : ℕ → Option BitVector) (look : Node → Option BitVector) (bound : ℕ) (kept next : ℕ → ℕ) (hole : ℕ → Bool) (port : PortRef → Bool)
    (timed : (k : ℕ) (x : Stand) (acting : Bool) (r : ℕ) → IsIn around registers look x.acts x.region acting r → IsStopped acting r x.position 1 → bound ≤ x.wire
    → AllConnect around registers look bound (form_drivers groups islands x (Timed k)) → AreRegisters around registers look kept x.register (sample_registers (slice_get islands k))
    → IslandNexts groups islands around registers look kept next k x → Away around registers look x (form_drivers groups islands x (Timed k))) where
  abbrev D : Stand → PlainStatement → List PlainNetDriver
  D = drivers_of groups islands

  abbrev It : PlainNetExpr → Bool → Type 0
  It = Says around registers look

  abbrev Acts : Stand → ℕ → Type 0
  Acts x r = IsIn around registers look x.acts x.region true r

  abbrev W : Stand → PlainStatement → Type 0
  W = IsWired groups islands around registers look bound kept next hole port

  abbrev WP : Stand → ℕ → Stand → PlainStatements → Type 0
  WP = PartsWired groups islands around registers look bound kept next hole port

  abbrev WA : Stand → ℕ → ℕ → PlainStatements → Type 0
  WA = ArmsWired groups islands around registers look bound kept next hole port

  abbrev T : ℕ → Option BitVector → List PlainNetDriver → Option BitVector
  T g = takes around registers look (ToHole (groups + g))

  away_wired : (s : PlainStatement) (x : Stand) (acting : Bool) (r : ℕ) → IsIn around registers look x.acts x.region acting r → IsStopped acting r x.position (positions_of s) → W x s → Away around registers look x (D x s)
  away_wired = stands.away_wired groups islands around registers look bound kept next hole port timed

  -- where control is not, nothing goes
  silent : (s : PlainStatement) (x : Stand) (acting : Bool) (r g : ℕ) (o : Option BitVector) → IsIn around registers look x.acts x.region acting r → IsStopped acting r x.position (positions_of s) → W x s
      → takes around registers look (ToHole (groups + g)) o (drivers_of groups islands x s) ≡ o
  silent s x acting r g o i off w = idle_passes around registers look (ToHole (groups + g)) tt o (D x s) (away_wired s x acting r i off w).idle

  parts_silent : (ss : PlainStatements) (seq : Stand) (before : ℕ) (x : Stand) (r g : ℕ) (o : Option BitVector) → Acts x r → r < x.position → WP seq before x ss
      → takes around registers look (ToHole (groups + g)) o (parts_drivers groups islands seq before x ss) ≡ o
  parts_silent no_statements seq before x r g o i less w = refl
  parts_silent (a_statement s ss) seq before x r g o i less w =
      let v = stands.wired_parts groups islands around registers look bound kept next hole port timed seq before x s ss w in
      let later : r < x.position + positions_of s = omega arith in
      takes_append around registers look (ToHole (groups + g)) o (D x s) _
      ∙ ap (λ z. takes around registers look (ToHole (groups + g)) z (D x s)) (parts_silent ss seq x.wire (behind islands s x) r g o i later v.1)
      ∙ silent s x true r g o i (inr (inl less)) v.0

  comb_off : (x : Stand) (comb : Option ℕ) (g : ℕ) (o : Option BitVector) → It (at x) false → takes around registers look (ToHole (groups + g)) o (comb_goes groups islands x comb) ≡ o
  comb_off x comb g o off = idle_passes around registers look (ToHole (groups + g)) tt o (comb_goes groups islands x comb) (comb_idle groups islands around registers look bound kept hole port x comb off)

  module _ {X : Type 0} {V : X → Type 0} {F : Type 0} (leaves : LeafMachines X V F) (codings : LeafCodings leaves) (part : PlainComponent) (now_island : ℕ → ℕ → ℕ → ℕ)
      (Stands : PlainStatement → Type 0) (law : AreCoded leaves codings Stands) (enable_one : (g : ℕ) → Coding.size (LeafCodings.enable codings g) ≡ 1) (island_one : (form : PlainForm) → Coding.size (LeafCodings.island codings form) ≡ 1)
      (of_enable : (g : ℕ) → Machine.Place (LeafMachines.enable leaves g) → List Going) (of_island : (form : PlainForm) → Machine.Place (LeafMachines.island leaves form) → List Going) where
    size_is : (s : PlainStatement) (l : Lowering) → Coding.size (statement_coding leaves codings s) ≡ positions_of (lowered part s l)
    size_is s l = sizes.size_is leaves codings part enable_one island_one s l

    abbrev Now : PlainStatement → Lowering → ℕ → ℕ → ℕ
    Now = number_of leaves codings part islands kept now_island

    abbrev NowParts : PlainStatements → Lowering → ℕ → ℕ → ℕ
    NowParts = parts_number leaves codings part islands kept now_island

    -- where the numbers show a place
    abbrev Shows : (s : PlainStatement) → Lowering → Stand → ℕ → Machine.Place (machine_of leaves s) → Type 0
    Shows s l x r p = (r ≡ x.position + Coding.number (statement_coding leaves codings s) p)
        × ((n : ℕ) → n < Coding.extra (statement_coding leaves codings s) → number_of leaves codings part islands kept now_island s l x.register n ≡ Coding.other (statement_coding leaves codings s) p n)

    abbrev G : (s : PlainStatement) → Machine.Place (machine_of leaves s) → List Going
    G = going leaves codings part islands hole of_enable of_island

    -- the goes of a statement are those of its place
    abbrev pub Goes : (s : PlainStatement) → Lowering → Stand → Machine.Place (machine_of leaves s) → Type 0
    Goes s l x p = (g : ℕ) (o : Option BitVector) → takes around registers look (ToHole (groups + g)) o (drivers_of groups islands x (lowered part s l)) ≡ told g o (going leaves codings part islands hole of_enable of_island s p)

    -- of an island as it is said
    module _ (timed_saw : (g : ℕ) → Machine.Place (LeafMachines.enable leaves g) → Type 0) (island_saw : (form : PlainForm) → Machine.Place (LeafMachines.island leaves form) → Type 0)
        (Low : Lowering → Type 0) (low_back : (s : PlainStatement) (l : Lowering) → Low (after part s l) → Low l) (low_parts : (ss : PlainStatements) (l : Lowering) → Low (parts_after part ss l) → Low l)
        (islands_go : (s : PlainStatement) → Stands s → (l : Lowering) → Low (after part s l) → (place : Place) → lowered part s l ≡ Placed (Timed (length l.islands)) place
        → (x : Stand) (r : ℕ) (p : Machine.Place (machine_of leaves s)) → Coding.IsFine (statement_coding leaves codings s) p → Acts x r → Shows s l x r p → W x (lowered part s l) → IslandsHold leaves part timed_saw island_saw s p → Goes s l x p) where
      enable_goes : (g : ℕ) (o : Option ℕ) → group_length part g ≡ o → (place : Place) → Stands (Placed (Enable g) place) → (l : Lowering) → Low (after_enable part g o l) → (x : Stand) (r : ℕ) (p : Machine.Place (LeafMachines.enable leaves g))
          → Coding.IsFine (LeafCodings.enable codings g) p → Acts x r → Shows (Placed (Enable g) place) l x r p → W x (Placed (lowered_enable part g o l) place) → enable_holds leaves part AnyTest (AnyGroup leaves) timed_saw island_saw g o p → (h : ℕ) (later : Option BitVector)
          → takes around registers look (ToHole (groups + h)) later (drivers_of groups islands x (Placed (lowered_enable part g o l) place)) ≡ told h later (enable_going leaves codings part islands hole of_enable of_island g o p)
      enable_goes g None is place u l stage x r p fine i shows w has h later =
          let low : bound ≤ x.wire = w.low in
          let high : bound ≤ suc x.wire = omega arith in
          let on = stands.at_true groups islands around registers look bound kept next hole port timed x r i here_so w.low w.connects.0 in
          go_known around registers look groups g h (at x) (Inverse (end_of x.wire)) (not (hole g)) later on
          (says_not around registers look (end_of x.wire) (hole g) (w.connects.1.0 high ∙ says_both around registers look (at x) (OfHole g) true (hole g) on w.bits))
        where
          here_so : r ≡ x.position
          here_so =
              let less : Coding.number (LeafCodings.enable codings g) p < Coding.size (LeafCodings.enable codings g) = (statement_coded leaves codings Stands law (Placed (Enable g) place) u).coded.below p in
              let one : Coding.size (LeafCodings.enable codings g) ≡ 1 = enable_one g in
              let so : r ≡ x.position + Coding.number (LeafCodings.enable codings g) p = shows.0 in omega arith
      enable_goes g (Some cycles) is place u l stage x r p fine i shows w has h later =
          subst (λ o. W x (Placed (lowered_enable part g o l) place) → (h : ℕ) (later : Option BitVector) → takes around registers look (ToHole (groups + h)) later (drivers_of groups islands x (Placed (lowered_enable part g o l) place))
          ≡ told h later (enable_going leaves codings part islands hole of_enable of_island g o p)) is
          (λ v. islands_go (Placed (Enable g) place) u l (subst (λ o. Low (after_enable part g o l)) (sym is) stage) place (ap (λ o. Placed (lowered_enable part g o l) place) is) x r p fine i shows v (subst (λ o. enable_holds leaves part AnyTest (AnyGroup leaves) timed_saw island_saw g o p) (sym is) has)) w h later

      -- one arm, where it stands or has ended
      arm_goes : (s : PlainStatement) → Stands s → (l : Lowering) (par : Stand) (wire register : ℕ) (k : Control (Machine.Place (machine_of leaves s))) → at_fine (Coding.IsFine (statement_coding leaves codings s)) k → It (at par) true
          → ((n : ℕ) → n < suc (Coding.extra (statement_coding leaves codings s)) → counted (kept register) (number_of leaves codings part islands kept now_island s l (suc register)) n ≡ bank_code (statement_coding leaves codings s) k n)
          → W (arm_stand par wire register) (lowered part s l) → registers register ≡ Some (wide (kept register)) → at_fine (IslandsHold leaves part timed_saw island_saw s) k
          → ((p : Machine.Place (machine_of leaves s)) → Coding.IsFine (statement_coding leaves codings s) p → Shows s l (arm_stand par wire register) (kept register) p → IslandsHold leaves part timed_saw island_saw s p → Goes s l (arm_stand par wire register) p) → (g : ℕ) (o : Option BitVector)
          → takes around registers look (ToHole (groups + g)) o (drivers_of groups islands (arm_stand par wire register) (lowered part s l)) ≡ told g o (at_control (going leaves codings part islands hole of_enable of_island s) k)
      arm_goes s us l par wire register (At p) fine on nums w is has ih g o =
          let so : kept register ≡ Coding.number (statement_coding leaves codings s) p = nums 0 (omega arith) in
          let zero_so : kept register ≡ 0 + Coding.number (statement_coding leaves codings s) p = omega arith in
          ih p fine (zero_so, λ j less. nums (suc j) (omega arith)) has g o
      arm_goes s us l par wire register Done fine on nums w is has ih g o =
          let so : kept register ≡ Coding.size (statement_coding leaves codings s) = nums 0 (omega arith) in
          let size : Coding.size (statement_coding leaves codings s) ≡ positions_of (lowered part s l) = size_is s l in
          let past : 0 + positions_of (lowered part s l) ≤ kept register = omega arith in
          silent (lowered part s l) (arm_stand par wire register) true (kept register) g o (record { acts_so = on; width = 32; at_position = is }) (inr (inr past)) w

      mutual
        form_goes : (form : PlainForm) (place : Place) → Stands (Placed form place) → (l : Lowering) → Low (form_after part form l) → (x : Stand) (r : ℕ) (p : Machine.Place (form_machine leaves form)) → Coding.IsFine (form_coding leaves codings form) p → Acts x r
            → Shows (Placed form place) l x r p → W x (lowered part (Placed form place) l) → IslandsHold leaves part timed_saw island_saw (Placed form place) p → Goes (Placed form place) l x p
        form_goes Empty place u l stage x r p fine i shows w has g o = refl
        form_goes (Enable h) place u l stage x r p fine i shows w has g o = enable_goes h (group_length part h) refl place u l stage x r p fine i shows w has g o
        form_goes (Seq no_statements) place u l stage x r p fine i shows w has g o = refl
        form_goes (Seq (a_statement s ss)) place u l stage x r (First p) fine i shows w has g o =
            let v = stands.wired_seq groups islands around registers look bound kept next hole port timed x (lowered part s l) (lowered_parts part ss (after part s l)) place w in
            let us = law.parts_stand s (Placed (Seq (a_statement s ss)) place) (of_seq (inl refl)) u in
            let below : Coding.number (statement_coding leaves codings s) p < Coding.size (statement_coding leaves codings s) = (statement_coded leaves codings Stands law s us).coded.below p in
            let size : Coding.size (statement_coding leaves codings s) ≡ positions_of (lowered part s l) = size_is s l in
            let so : r ≡ x.position + Coding.number (statement_coding leaves codings s) p = shows.0 in
            let less : r < x.position + positions_of (lowered part s l) = omega arith in
            takes_append around registers look (ToHole (groups + g)) o (D (inside x) (lowered part s l)) _
            ∙ ap (λ z. takes around registers look (ToHole (groups + g)) z (D (inside x) (lowered part s l))) (parts_silent (lowered_parts part ss (after part s l)) x (inside x).wire (behind islands (lowered part s l) (inside x)) r g o i less v.1)
            ∙ statement_goes s us l (low_parts ss (after part s l) stage) (inside x) r p fine i
            (so, beside_first (Coding.extra (statement_coding leaves codings s)) (Coding.extra (parts_coding leaves codings ss)) (Now s l x.register) (NowParts ss (after part s l) (x.register + length (registers_of islands (lowered part s l)))) (Coding.other (statement_coding leaves codings s) p) zeros shows.1) v.0 has g o
        form_goes (Seq (a_statement s ss)) place u l stage x r (Second p) fine i shows w has g o =
            let v = stands.wired_seq groups islands around registers look bound kept next hole port timed x (lowered part s l) (lowered_parts part ss (after part s l)) place w in
            let size : Coding.size (statement_coding leaves codings s) ≡ positions_of (lowered part s l) = size_is s l in
            let so : r ≡ x.position + (Coding.size (statement_coding leaves codings s) + Coding.number (parts_coding leaves codings ss) p) = shows.0 in
            let past : x.position + positions_of (lowered part s l) ≤ r = omega arith in
            let so_behind : r ≡ (x.position + positions_of (lowered part s l)) + Coding.number (parts_coding leaves codings ss) p = omega arith in
            takes_append around registers look (ToHole (groups + g)) o (D (inside x) (lowered part s l)) _
            ∙ silent (lowered part s l) (inside x) true r g _ i (inr (inr past)) v.0
            ∙ parts_go ss (Placed (Seq (a_statement s ss)) place) u (λ t e. of_seq (inr e)) (after part s l) stage x (inside x).wire (behind islands (lowered part s l) (inside x)) r p fine i
            (so_behind, beside_later (Coding.extra (statement_coding leaves codings s)) (Coding.extra (parts_coding leaves codings ss)) (Now s l x.register) (NowParts ss (after part s l) (x.register + length (registers_of islands (lowered part s l)))) zeros (Coding.other (parts_coding leaves codings ss) p) shows.1) v.1 has g o
        form_goes (Par no_statements) place u l stage x r p fine i shows w has g o = refl
        form_goes (Par (a_statement s ss)) place u l stage x r p fine i shows w has g o =
            let c = connect_both around registers look bound (arms_drivers groups islands x (suc (suc x.wire)) x.register (lowered_parts part (a_statement s ss) l)) _ w.connects.1 in
            let low : bound ≤ x.wire = w.low in
            let low_in : bound ≤ suc (suc x.wire) = omega arith in
            let so : r ≡ x.position + 0 = shows.0 in
            let here_so : r ≡ x.position = omega arith in
            let on : It (at x) true = stands.at_true groups islands around registers look bound kept next hole port timed x r i here_so low w.connects.0 in
            takes_append around registers look (ToHole (groups + g)) o (arms_drivers groups islands x (suc (suc x.wire)) x.register (lowered_parts part (a_statement s ss) l)) _
            ∙ arms_go (a_statement s ss) (Placed (Par (a_statement s ss)) place) u (λ t e. of_par e) l stage x (suc (suc x.wire)) x.register (At p) fine on shows.1
            (record { low = low_in; connects = c.0; registers_are = w.registers_are; bits = w.bits; nexts = w.nexts.1 }) has g o
        form_goes (If test comb a b) place u l stage x r AtTest fine i shows w has g o =
            let v = stands.wired_if groups islands around registers look bound kept next hole port timed x test comb (lowered part a l) (lowered part b (after part a l)) place w in
            let so : r ≡ x.position + 0 = shows.0 in
            let here_so : r ≡ x.position = omega arith in
            let less : r < x.position + 1 = omega arith in
            let less_too : r < x.position + 1 + positions_of (lowered part a l) = omega arith in
            let on : It (at x) true = stands.at_true groups islands around registers look bound kept next hole port timed x r i here_so w.low v.stands_so in
            if_hole around registers look groups islands x test.port comb _ _ (D (past_test x) (lowered part a l)) (D (behind islands (lowered part a l) (past_test x)) (lowered part b (after part a l))) _ (groups + g) o
            ∙ ap (λ z. takes around registers look (ToHole (groups + g)) (takes around registers look (ToHole (groups + g)) z (D (past_test x) (lowered part a l))) (comb_goes groups islands x comb))
            (silent (lowered part b (after part a l)) (behind islands (lowered part a l) (past_test x)) true r g o i (inr (inl less_too)) v.other)
            ∙ ap (λ z. takes around registers look (ToHole (groups + g)) z (comb_goes groups islands x comb)) (silent (lowered part a l) (past_test x) true r g o i (inr (inl less)) v.one)
            ∙ comb_hole around registers look groups islands x comb g o on
        form_goes (If test comb a b) place u l stage x r (InThen p) fine i shows w has g o =
            let v = stands.wired_if groups islands around registers look bound kept next hole port timed x test comb (lowered part a l) (lowered part b (after part a l)) place w in
            let us = law.parts_stand a (Placed (If test comb a b) place) then_branch u in
            let so : r ≡ x.position + suc (Coding.number (statement_coding leaves codings a) p) = shows.0 in
            let past : x.position + 1 ≤ r = omega arith in
            let so_in : r ≡ x.position + 1 + Coding.number (statement_coding leaves codings a) p = omega arith in
            let below : Coding.number (statement_coding leaves codings a) p < Coding.size (statement_coding leaves codings a) = (statement_coded leaves codings Stands law a us).coded.below p in
            let size : Coding.size (statement_coding leaves codings a) ≡ positions_of (lowered part a l) = size_is a l in
            let less : r < x.position + 1 + positions_of (lowered part a l) = omega arith in
            let off : It (at x) false = stands.at_behind groups islands around registers look bound kept next hole port timed x r i past w.low v.stands_so in
            if_hole around registers look groups islands x test.port comb _ _ (D (past_test x) (lowered part a l)) (D (behind islands (lowered part a l) (past_test x)) (lowered part b (after part a l))) _ (groups + g) o
            ∙ comb_off x comb g _ off
            ∙ ap (λ z. takes around registers look (ToHole (groups + g)) z (D (past_test x) (lowered part a l))) (silent (lowered part b (after part a l)) (behind islands (lowered part a l) (past_test x)) true r g o i (inr (inl less)) v.other)
            ∙ statement_goes a us l (low_back b (after part a l) stage) (past_test x) r p fine i
            (so_in, beside_first (Coding.extra (statement_coding leaves codings a)) (Coding.extra (statement_coding leaves codings b)) (Now a l x.register) (Now b (after part a l) (x.register + length (registers_of islands (lowered part a l)))) (Coding.other (statement_coding leaves codings a) p) zeros shows.1) v.one has g o
        form_goes (If test comb a b) place u l stage x r (InElse p) fine i shows w has g o =
            let v = stands.wired_if groups islands around registers look bound kept next hole port timed x test comb (lowered part a l) (lowered part b (after part a l)) place w in
            let us = law.parts_stand b (Placed (If test comb a b) place) else_branch u in
            let so : r ≡ x.position + suc (Coding.size (statement_coding leaves codings a) + Coding.number (statement_coding leaves codings b) p) = shows.0 in
            let size : Coding.size (statement_coding leaves codings a) ≡ positions_of (lowered part a l) = size_is a l in
            let past : x.position + 1 ≤ r = omega arith in
            let past_a : x.position + 1 + positions_of (lowered part a l) ≤ r = omega arith in
            let so_in : r ≡ x.position + 1 + positions_of (lowered part a l) + Coding.number (statement_coding leaves codings b) p = omega arith in
            let off : It (at x) false = stands.at_behind groups islands around registers look bound kept next hole port timed x r i past w.low v.stands_so in
            if_hole around registers look groups islands x test.port comb _ _ (D (past_test x) (lowered part a l)) (D (behind islands (lowered part a l) (past_test x)) (lowered part b (after part a l))) _ (groups + g) o
            ∙ comb_off x comb g _ off
            ∙ silent (lowered part a l) (past_test x) true r g _ i (inr (inr past_a)) v.one
            ∙ statement_goes b us (after part a l) stage (behind islands (lowered part a l) (past_test x)) r p fine i
            (so_in, beside_later (Coding.extra (statement_coding leaves codings a)) (Coding.extra (statement_coding leaves codings b)) (Now a l x.register) (Now b (after part a l) (x.register + length (registers_of islands (lowered part a l)))) zeros (Coding.other (statement_coding leaves codings b) p) shows.1) v.other has g o
        form_goes (While test comb a) place u l stage x r AtHead fine i shows w has g o =
            let v = stands.wired_while groups islands around registers look bound kept next hole port timed x test comb (lowered part a l) place w in
            let so : r ≡ x.position + 0 = shows.0 in
            let here_so : r ≡ x.position = omega arith in
            let less : r < x.position + 1 = omega arith in
            let on : It (at x) true = stands.at_true groups islands around registers look bound kept next hole port timed x r i here_so w.low v.stands_so in
            while_hole around registers look groups islands x test.port comb _ (past_test x).wire (D (past_test x) (lowered part a l)) (groups + g) o
            ∙ ap (λ z. takes around registers look (ToHole (groups + g)) z (comb_goes groups islands x comb)) (silent (lowered part a l) (past_test x) true r g o i (inr (inl less)) v.body)
            ∙ comb_hole around registers look groups islands x comb g o on
        form_goes (While test comb a) place u l stage x r (InBody p) fine i shows w has g o =
            let v = stands.wired_while groups islands around registers look bound kept next hole port timed x test comb (lowered part a l) place w in
            let so : r ≡ x.position + suc (Coding.number (statement_coding leaves codings a) p) = shows.0 in
            let past : x.position + 1 ≤ r = omega arith in
            let so_in : r ≡ x.position + 1 + Coding.number (statement_coding leaves codings a) p = omega arith in
            let off : It (at x) false = stands.at_behind groups islands around registers look bound kept next hole port timed x r i past w.low v.stands_so in
            while_hole around registers look groups islands x test.port comb _ (past_test x).wire (D (past_test x) (lowered part a l)) (groups + g) o
            ∙ comb_off x comb g _ off
            ∙ statement_goes a (law.parts_stand a (Placed (While test comb a) place) of_while u) l stage (past_test x) r p fine i (so_in, shows.1) v.body has g o
        form_goes (Repeat zero a) place u l stage x r p fine i shows w has g o = refl
        form_goes (Repeat (suc k) a) place u l stage x r p fine i shows w has g o =
            let v = stands.wired_repeat groups islands around registers look bound kept next hole port timed x k (lowered part a l) place w in
            repeat_hole around registers look x k (D (counted_inside x) (lowered part a l)) (groups + g) o
            ∙ statement_goes a (law.parts_stand a (Placed (Repeat (suc k) a) place) of_repeat u) l stage (counted_inside x) r p.place fine.body i (shows.0, λ j less. shows.1 (suc j) (omega arith)) v.body has g o
        form_goes (StaticSeq written parts) place u l stage x r p fine i shows w has g o = islands_go (Placed (StaticSeq written parts) place) u l stage place refl x r p fine i shows w has g o
        form_goes (StaticPar written arms) place u l stage x r p fine i shows w has g o = islands_go (Placed (StaticPar written arms) place) u l stage place refl x r p fine i shows w has g o
        form_goes (StaticIf written test a b) place u l stage x r p fine i shows w has g o = islands_go (Placed (StaticIf written test a b) place) u l stage place refl x r p fine i shows w has g o
        form_goes (StaticRepeat written count a) place u l stage x r p fine i shows w has g o = islands_go (Placed (StaticRepeat written count a) place) u l stage place refl x r p fine i shows w has g o
        form_goes (Timed k) place u l stage x r p fine i shows w has g o = absurd (law.is_untimed k place u)

        -- THE GOES of a statement
        pub statement_goes : (s : PlainStatement) → Stands s → (l : Lowering) → Low (after part s l) → (x : Stand) (r : ℕ) (p : Machine.Place (machine_of leaves s)) → Coding.IsFine (statement_coding leaves codings s) p → Acts x r → Shows s l x r p → W x (lowered part s l) → IslandsHold leaves part timed_saw island_saw s p → Goes s l x p
        statement_goes (Placed form place) u l stage x r p fine i shows w has = form_goes form place u l stage x r p fine i shows w has

        parts_go : (ss : PlainStatements) (whole : PlainStatement) → Stands whole → ((t : PlainStatement) → In (list_of ss) t → IsPart t whole) → (l : Lowering) → Low (parts_after part ss l) → (seq : Stand) (before : ℕ) (x : Stand) (r : ℕ) (p : Machine.Place (parts_machine leaves ss))
            → Coding.IsFine (parts_coding leaves codings ss) p → Acts x r
            → (r ≡ x.position + Coding.number (parts_coding leaves codings ss) p) × ((n : ℕ) → n < Coding.extra (parts_coding leaves codings ss) → parts_number leaves codings part islands kept now_island ss l x.register n ≡ Coding.other (parts_coding leaves codings ss) p n)
            → WP seq before x (lowered_parts part ss l) → PartsHold leaves part AnyTest (AnyGroup leaves) timed_saw island_saw ss p → (g : ℕ) (o : Option BitVector)
            → takes around registers look (ToHole (groups + g)) o (parts_drivers groups islands seq before x (lowered_parts part ss l)) ≡ told g o (parts_going leaves codings part islands hole of_enable of_island ss p)
        parts_go no_statements whole u inside_whole l stage seq before x r p fine i shows w has g o = absurd p
        parts_go (a_statement s ss) whole u inside_whole l stage seq before x r (First p) fine i shows w has g o =
            let v = stands.wired_parts groups islands around registers look bound kept next hole port timed seq before x (lowered part s l) (lowered_parts part ss (after part s l)) w in
            let us = law.parts_stand s whole (inside_whole s (inl refl)) u in
            let below : Coding.number (statement_coding leaves codings s) p < Coding.size (statement_coding leaves codings s) = (statement_coded leaves codings Stands law s us).coded.below p in
            let size : Coding.size (statement_coding leaves codings s) ≡ positions_of (lowered part s l) = size_is s l in
            let so : r ≡ x.position + Coding.number (statement_coding leaves codings s) p = shows.0 in
            let less : r < x.position + positions_of (lowered part s l) = omega arith in
            takes_append around registers look (ToHole (groups + g)) o (D x (lowered part s l)) _
            ∙ ap (λ z. takes around registers look (ToHole (groups + g)) z (D x (lowered part s l))) (parts_silent (lowered_parts part ss (after part s l)) seq x.wire (behind islands (lowered part s l) x) r g o i less v.1)
            ∙ statement_goes s us l (low_parts ss (after part s l) stage) x r p fine i
            (so, beside_first (Coding.extra (statement_coding leaves codings s)) (Coding.extra (parts_coding leaves codings ss)) (Now s l x.register) (NowParts ss (after part s l) (x.register + length (registers_of islands (lowered part s l)))) (Coding.other (statement_coding leaves codings s) p) zeros shows.1) v.0 has g o
        parts_go (a_statement s ss) whole u inside_whole l stage seq before x r (Second p) fine i shows w has g o =
            let v = stands.wired_parts groups islands around registers look bound kept next hole port timed seq before x (lowered part s l) (lowered_parts part ss (after part s l)) w in
            let size : Coding.size (statement_coding leaves codings s) ≡ positions_of (lowered part s l) = size_is s l in
            let so : r ≡ x.position + (Coding.size (statement_coding leaves codings s) + Coding.number (parts_coding leaves codings ss) p) = shows.0 in
            let past : x.position + positions_of (lowered part s l) ≤ r = omega arith in
            let so_behind : r ≡ (x.position + positions_of (lowered part s l)) + Coding.number (parts_coding leaves codings ss) p = omega arith in
            takes_append around registers look (ToHole (groups + g)) o (D x (lowered part s l)) _
            ∙ silent (lowered part s l) x true r g _ i (inr (inr past)) v.0
            ∙ parts_go ss whole u (λ t e. inside_whole t (inr e)) (after part s l) stage seq x.wire (behind islands (lowered part s l) x) r p fine i
            (so_behind, beside_later (Coding.extra (statement_coding leaves codings s)) (Coding.extra (parts_coding leaves codings ss)) (Now s l x.register) (NowParts ss (after part s l) (x.register + length (registers_of islands (lowered part s l)))) zeros (Coding.other (parts_coding leaves codings ss) p) shows.1) v.1 has g o

        arms_go : (arms : PlainStatements) (whole : PlainStatement) → Stands whole → ((t : PlainStatement) → In (list_of arms) t → IsPart t whole) → (l : Lowering) → Low (parts_after part arms l) → (par : Stand) (wire register : ℕ) (k : Control (Machine.Place (arms_machine leaves arms)))
            → at_fine (Bank.IsFine (arms_bank leaves codings arms)) k → It (at par) true
            → ((n : ℕ) → n < Bank.count (arms_bank leaves codings arms) → arms_number leaves codings part islands kept now_island arms l register n ≡ Bank.code (arms_bank leaves codings arms) k n)
            → WA par wire register (lowered_parts part arms l) → at_fine (ArmsHold leaves part AnyTest (AnyGroup leaves) timed_saw island_saw arms) k → (g : ℕ) (o : Option BitVector)
            → takes around registers look (ToHole (groups + g)) o (arms_drivers groups islands par wire register (lowered_parts part arms l)) ≡ told g o (at_control (arms_going leaves codings part islands hole of_enable of_island arms) k)
        arms_go no_statements whole u inside_whole l stage par wire register (At p) fine on nums w has g o = absurd p
        arms_go no_statements whole u inside_whole l stage par wire register Done fine on nums w has g o = refl
        arms_go (a_statement s ss) whole u inside_whole l stage par wire register k fine on nums w has g o =
            let v = stands.wired_arms groups islands around registers look bound kept next hole port timed par wire register (lowered part s l) (lowered_parts part ss (after part s l)) w in
            let us = law.parts_stand s whole (inside_whole s (inl refl)) u in
            takes_append around registers look (ToHole (groups + g)) o (D (arm_stand par wire register) (lowered part s l)) _
            ∙ ap (λ z. takes around registers look (ToHole (groups + g)) z (D (arm_stand par wire register) (lowered part s l)))
            (arms_go ss whole u (λ t e. inside_whole t (inr e)) (after part s l) stage par (wire + wires_of (lowered part s l)) (suc register + length (registers_of islands (lowered part s l))) (right_control k)
            (right_fine (region_bank (statement_coding leaves codings s)) (arms_bank leaves codings ss) k fine) on
            (beside_later (suc (Coding.extra (statement_coding leaves codings s))) (Bank.count (arms_bank leaves codings ss)) (counted (kept register) (Now s l (suc register))) (arms_number leaves codings part islands kept now_island ss (after part s l) (suc register + length (registers_of islands (lowered part s l)))) (bank_code (statement_coding leaves codings s) (left_control k)) (Bank.code (arms_bank leaves codings ss) (right_control k)) nums) v.1 (right_says (StatementHolds leaves part AnyTest (AnyGroup leaves) timed_saw island_saw s) (ArmsHold leaves part AnyTest (AnyGroup leaves) timed_saw island_saw ss) k has) g o)
            ∙ arm_goes s us l par wire register (left_control k) (left_fine (region_bank (statement_coding leaves codings s)) (arms_bank leaves codings ss) k fine) on
            (beside_first (suc (Coding.extra (statement_coding leaves codings s))) (Bank.count (arms_bank leaves codings ss)) (counted (kept register) (Now s l (suc register))) (arms_number leaves codings part islands kept now_island ss (after part s l) (suc register + length (registers_of islands (lowered part s l)))) (bank_code (statement_coding leaves codings s) (left_control k)) (Bank.code (arms_bank leaves codings ss) (right_control k)) nums)
            v.0 w.registers_are.0 (left_says (StatementHolds leaves part AnyTest (AnyGroup leaves) timed_saw island_saw s) (ArmsHold leaves part AnyTest (AnyGroup leaves) timed_saw island_saw ss) k has) (λ p f shows_it has_it. statement_goes s us l (low_parts ss (after part s l) stage) (arm_stand par wire register) (kept register) p f (record { acts_so = on; width = 32; at_position = w.registers_are.0 }) shows_it v.0 has_it) g _
            ∙ sym (told_append g o (at_control (going leaves codings part islands hole of_enable of_island s) (left_control k)) (at_control (arms_going leaves codings part islands hole of_enable of_island ss) (right_control k)))
            ∙ ap (told g o) (runs_both (going leaves codings part islands hole of_enable of_island s) (arms_going leaves codings part islands hole of_enable of_island ss) k)
