-- Where the registers show a place of a statement and its region acts, the wire of a group's offset takes what the islands say that run at the
-- place: with what one island says as a premise.
use Rattle.std.proofs.Common.{◌≡◌, ℕ, zero, suc, ◌+◌, ◌<◌, ◌≤◌, ◌==◌, inl, inr, Bool, true, if◌then◌else◌, List, [], ◌∷◌, ◌++◌, length, Option, Some, None, slice_get, flat_map, refl, sym, ap, ◌∙◌, subst, arith}
use Rattle.cx_text.specs.declared.places.Place.{Place}
use Rattle.cx_bits.specs.BitVector.{BitVector}
use Rattle.cx_meaning.specs.declared.ports.PortRef.{PortRef}
use Rattle.cx_meaning.specs.Designs.{PlainComponent, PlainForm, Empty, Enable, Seq, Par, If, While, Repeat, StaticSeq, StaticPar, StaticIf, StaticRepeat, Timed, PlainStatement, Placed, PlainStatements, no_statements, a_statement, list_of}
use Rattle.cx_meaning.specs.Active.{Entry}
use Rattle.cx_text.specs.Members.{In}
use Rattle.cx_meaning.specs.Islands.{group_length}
use Rattle.cx_lockstep.specs.Worlds.{Control, At, Done, Machine}
use Rattle.cx_lockstep.specs.Machines.{First, Second, AtTest, InThen, InElse, AtHead, InBody}
use Rattle.cx_lockstep.specs.Statements.{LeafMachines, form_machine, machine_of, parts_machine, arms_machine}
use Rattle.cx_lockstep.specs.Running.{Running, AGroup, AnIsland, at_control, running, parts_run, arms_run}
use Rattle.cx_lockstep.specs.Lawful.{IsPart, of_seq, of_par, then_branch, else_branch, of_while, of_repeat}
use Rattle.cx_control.specs.Codings.{Coding, Bank, bank_code, zeros, region_bank, left_control, right_control, at_fine}
use Rattle.cx_control.specs.StatementCodings.{LeafCodings, form_coding, statement_coding, parts_coding, arms_bank}
use Rattle.cx_control.specs.StatementCodingLaws.{AreCoded, statement_coded}
use Rattle.cx_net.specs.Nets.{PlainNetExpr, ToWire, PlainNetDriver}
use Rattle.cx_net.specs.NetMeaning.{Node, NetAround}
use Rattle.cx_static.specs.Islands.{PlainIsland}
use Rattle.cx_static.specs.Lowering.{Lowering, after_enable, form_after, after, parts_after, lowered, lowered_parts, lowered_enable}
use Rattle.cx_wiring.specs.Counts.{positions_of, wires_of, sample_registers, registers_of}
use Rattle.cx_wiring.specs.Stands.{Stand, at, inside, past_test, behind}
use Rattle.cx_wiring.specs.Control.{arm_stand, counted_inside, form_drivers, drivers_of, arms_drivers}
use Rattle.cx_wiring.specs.Takings.{Says, takes, AllConnect, AreRegisters}
use Rattle.cx_wiring.proofs.TakingLemmas.{connect_both, takes_append}
use Rattle.cx_wiring_cycles.specs.Standing.{IsStopped, IsIn, Away}
use Rattle.cx_wiring_cycles.specs.Shown.{wide, counted, number_of, parts_number, arms_number}
use Rattle.cx_wiring_cycles.specs.IslandTakes.{IslandNexts}
use Rattle.cx_wiring_cycles.specs.Wired.{IsWired, PartsWired, ArmsWired}
use Rattle.cx_wiring_cycles.proofs.TurnLemmas.{beside_first, beside_later}
use Rattle.cx_wiring_cycles.proofs.OffsetWires.{isles_of, parts_isles, arms_isles, statement_quiet}
use Rattle.cx_wiring_cycles.proofs.SizeLaws as sizes
use Rattle.cx_wiring_cycles.specs.AtLeaves.{AnyTest, AnyGroup, IslandsHold, enable_holds, StatementHolds, PartsHold, ArmsHold}
use Rattle.cx_wiring_cycles.proofs.ArmTurns.{left_fine, right_fine, left_says, right_says, runs_both}
use Rattle.cx_wiring_cycles.proofs.StandsLaws as stands

-- what the first entry of a group says of its offset
abbrev pub offset_told : ℕ → Option BitVector → List Entry → Option BitVector
offset_told g later [] = later
offset_told g later (e ∷ es) = if e.group == g then Some (wide e.offset) else offset_told g later es

pub offset_both : (g : ℕ) (later : Option BitVector) (xs ys : List Entry) → offset_told g later (xs ++ ys) ≡ offset_told g (offset_told g later ys) xs
offset_both g later [] ys = refl
offset_both g later (x ∷ xs) ys = ap (λ o. if x.group == g then Some (wide x.offset) else o) (offset_both g later xs ys)

flat_both : {A : Type 0} (f : A → List Entry) (xs ys : List A) → flat_map f (xs ++ ys) ≡ flat_map f xs ++ flat_map f ys
flat_both f [] ys = refl
flat_both f (x ∷ xs) ys = ap (λ l. f x ++ l) (flat_both f xs ys) ∙ sym (assoc (f x) (flat_map f xs) (flat_map f ys))
  where
    assoc : (us vs ws : List Entry) → (us ++ vs) ++ ws ≡ us ++ (vs ++ ws)
    assoc [] vs ws = refl
    assoc (u ∷ us) vs ws = ap (λ l. u ∷ l) (assoc us vs ws)

-- WHAT A LEAF THAT RUNS SAYS
module _ {X : Type 0} {V : X → Type 0} {F : Type 0} (leaves : LeafMachines X V F) (part : PlainComponent) (of_enable : (h : ℕ) → Machine.Place (LeafMachines.enable leaves h) → List Entry)
    (of_island : (form : PlainForm) → Machine.Place (LeafMachines.island leaves form) → List Entry) where
  abbrev pub timed_entries : (h : ℕ) → Option ℕ → Machine.Place (LeafMachines.enable leaves h) → List Entry
  timed_entries h None q = []
  timed_entries h (Some cycles) q = of_enable h q

  abbrev pub entries_of : Running leaves → List Entry
  entries_of (AGroup h place q) = timed_entries h (group_length part h) q
  entries_of (AnIsland form place q) = of_island form q

module _ (groups : ℕ) (islands : List PlainIsland) (around : NetAround) (registers : ℕ → Option BitVector) (look : Node → Option BitVector) (bound : ℕ) (kept next : ℕ → ℕ) (hole : ℕ → Bool) (port : PortRef → Bool)
    (timed : (k : ℕ) (x : Stand) (acting : Bool) (r : ℕ) → IsIn around registers look x.acts x.region acting r → IsStopped acting r x.position 1 → bound ≤ x.wire
    → AllConnect around registers look bound (form_drivers groups islands x (Timed k)) → AreRegisters around registers look kept x.register (sample_registers (slice_get islands k))
    → IslandNexts groups islands around registers look kept next k x → Away around registers look x (form_drivers groups islands x (Timed k)))
    (g : ℕ) (below : g < groups) (above : groups ≤ bound) where
  abbrev D : Stand → PlainStatement → List PlainNetDriver
  D = drivers_of groups islands

  abbrev It : PlainNetExpr → Bool → Type 0
  It = Says around registers look

  abbrev Acts : Stand → ℕ → Type 0
  Acts x r = IsIn around registers look x.acts x.region true r

  abbrev W : Stand → PlainStatement → Type 0
  W = IsWired groups islands around registers look bound kept next hole port

  abbrev WP : Stand → ℕ → Stand → PlainStatements → Type 0
  WP = PartsWired groups islands around registers look bound kept next hole port

  abbrev WA : Stand → ℕ → ℕ → PlainStatements → Type 0
  WA = ArmsWired groups islands around registers look bound kept next hole port

  abbrev I : Stand → PlainStatement → List PlainNetDriver
  I = isles_of groups islands

  abbrev T : Option BitVector → List PlainNetDriver → Option BitVector
  T o ds = takes around registers look (ToWire g) o ds

  away_wired : (s : PlainStatement) (x : Stand) (acting : Bool) (r : ℕ) → IsIn around registers look x.acts x.region acting r → IsStopped acting r x.position (positions_of s) → W x s → Away around registers look x (D x s)
  away_wired = stands.away_wired groups islands around registers look bound kept next hole port timed

  -- where control is not, nothing is said
  silent : (s : PlainStatement) (x : Stand) (acting : Bool) (r : ℕ) (o : Option BitVector) → IsIn around registers look x.acts x.region acting r → IsStopped acting r x.position (positions_of s) → W x s
      → takes around registers look (ToWire g) o (isles_of groups islands x s) ≡ o
  silent s x acting r o i off w = statement_quiet groups islands around registers look bound g below above s x w.low (away_wired s x acting r i off w).idle o

  parts_silent : (ss : PlainStatements) (seq : Stand) (before : ℕ) (x : Stand) (r : ℕ) (o : Option BitVector) → Acts x r → r < x.position → WP seq before x ss → takes around registers look (ToWire g) o (parts_isles groups islands x ss) ≡ o
  parts_silent no_statements seq before x r o i less w = refl
  parts_silent (a_statement s ss) seq before x r o i less w =
      let v = stands.wired_parts groups islands around registers look bound kept next hole port timed seq before x s ss w in
      let later : r < x.position + positions_of s = omega arith in
      takes_append around registers look (ToWire g) o (I x s) _
      ∙ ap (λ z. T z (I x s)) (parts_silent ss seq x.wire (behind islands s x) r o i later v.1)
      ∙ silent s x true r o i (inr (inl less)) v.0

  module _ {X : Type 0} {V : X → Type 0} {F : Type 0} (leaves : LeafMachines X V F) (codings : LeafCodings leaves) (part : PlainComponent) (now_island : ℕ → ℕ → ℕ → ℕ)
      (Stands : PlainStatement → Type 0) (law : AreCoded leaves codings Stands) (enable_one : (g : ℕ) → Coding.size (LeafCodings.enable codings g) ≡ 1) (island_one : (form : PlainForm) → Coding.size (LeafCodings.island codings form) ≡ 1)
      (of_enable : (h : ℕ) → Machine.Place (LeafMachines.enable leaves h) → List Entry) (of_island : (form : PlainForm) → Machine.Place (LeafMachines.island leaves form) → List Entry) where
    abbrev E : Running leaves → List Entry
    E = entries_of leaves part of_enable of_island

    size_is : (s : PlainStatement) (l : Lowering) → Coding.size (statement_coding leaves codings s) ≡ positions_of (lowered part s l)
    size_is s l = sizes.size_is leaves codings part enable_one island_one s l

    abbrev Now : PlainStatement → Lowering → ℕ → ℕ → ℕ
    Now = number_of leaves codings part islands kept now_island

    abbrev NowParts : PlainStatements → Lowering → ℕ → ℕ → ℕ
    NowParts = parts_number leaves codings part islands kept now_island

    -- where the numbers show a place
    abbrev Shows : (s : PlainStatement) → Lowering → Stand → ℕ → Machine.Place (machine_of leaves s) → Type 0
    Shows s l x r p = (r ≡ x.position + Coding.number (statement_coding leaves codings s) p)
        × ((n : ℕ) → n < Coding.extra (statement_coding leaves codings s) → number_of leaves codings part islands kept now_island s l x.register n ≡ Coding.other (statement_coding leaves codings s) p n)

    -- the wire takes what is said at its place
    abbrev pub Offsets : (s : PlainStatement) → Lowering → Stand → Machine.Place (machine_of leaves s) → Type 0
    Offsets s l x p = (o : Option BitVector) → takes around registers look (ToWire g) o (isles_of groups islands x (lowered part s l)) ≡ offset_told g o (flat_map E (running leaves s p))

    -- of an island as it is said
    module _ (timed_saw : (h : ℕ) → Machine.Place (LeafMachines.enable leaves h) → Type 0) (island_saw : (form : PlainForm) → Machine.Place (LeafMachines.island leaves form) → Type 0)
        (Low : Lowering → Type 0) (low_back : (s : PlainStatement) (l : Lowering) → Low (after part s l) → Low l) (low_parts : (ss : PlainStatements) (l : Lowering) → Low (parts_after part ss l) → Low l)
        (islands_say : (s : PlainStatement) → Stands s → (l : Lowering) → Low (after part s l) → (place : Place) → lowered part s l ≡ Placed (Timed (length l.islands)) place
        → (x : Stand) (r : ℕ) (p : Machine.Place (machine_of leaves s)) → Coding.IsFine (statement_coding leaves codings s) p → Acts x r → Shows s l x r p → W x (lowered part s l) → IslandsHold leaves part timed_saw island_saw s p → Offsets s l x p) where
      enable_says : (h : ℕ) (o : Option ℕ) → group_length part h ≡ o → (place : Place) → Stands (Placed (Enable h) place) → (l : Lowering) → Low (after_enable part h o l) → (x : Stand) (r : ℕ) (p : Machine.Place (LeafMachines.enable leaves h))
          → Coding.IsFine (LeafCodings.enable codings h) p → Acts x r → Shows (Placed (Enable h) place) l x r p → W x (Placed (lowered_enable part h o l) place) → enable_holds leaves part AnyTest (AnyGroup leaves) timed_saw island_saw h o p → (later : Option BitVector)
          → takes around registers look (ToWire g) later (isles_of groups islands x (Placed (lowered_enable part h o l) place)) ≡ offset_told g later (timed_entries leaves part of_enable of_island h o p ++ [])
      enable_says h None is place u l stage x r p fine i shows w has later = refl
      enable_says h (Some cycles) is place u l stage x r p fine i shows w has later =
          subst (λ o. W x (Placed (lowered_enable part h o l) place) → (later : Option BitVector) → takes around registers look (ToWire g) later (isles_of groups islands x (Placed (lowered_enable part h o l) place))
          ≡ offset_told g later (timed_entries leaves part of_enable of_island h o p ++ [])) is
          (λ v. islands_say (Placed (Enable h) place) u l (subst (λ o. Low (after_enable part h o l)) (sym is) stage) place (ap (λ o. Placed (lowered_enable part h o l) place) is) x r p fine i shows v
          (subst (λ o. enable_holds leaves part AnyTest (AnyGroup leaves) timed_saw island_saw h o p) (sym is) has)) w later

      -- one arm, where it stands or has ended
      arm_says : (s : PlainStatement) → Stands s → (l : Lowering) (par : Stand) (wire register : ℕ) (k : Control (Machine.Place (machine_of leaves s))) → at_fine (Coding.IsFine (statement_coding leaves codings s)) k → It (at par) true
          → ((n : ℕ) → n < suc (Coding.extra (statement_coding leaves codings s)) → counted (kept register) (number_of leaves codings part islands kept now_island s l (suc register)) n ≡ bank_code (statement_coding leaves codings s) k n)
          → W (arm_stand par wire register) (lowered part s l) → registers register ≡ Some (wide (kept register)) → at_fine (IslandsHold leaves part timed_saw island_saw s) k
          → ((p : Machine.Place (machine_of leaves s)) → Coding.IsFine (statement_coding leaves codings s) p → Shows s l (arm_stand par wire register) (kept register) p → IslandsHold leaves part timed_saw island_saw s p → Offsets s l (arm_stand par wire register) p) → (o : Option BitVector)
          → takes around registers look (ToWire g) o (isles_of groups islands (arm_stand par wire register) (lowered part s l)) ≡ offset_told g o (flat_map E (at_control (running leaves s) k))
      arm_says s us l par wire register (At p) fine on nums w is has ih o =
          let so : kept register ≡ Coding.number (statement_coding leaves codings s) p = nums 0 (omega arith) in
          let zero_so : kept register ≡ 0 + Coding.number (statement_coding leaves codings s) p = omega arith in
          ih p fine (zero_so, λ j less. nums (suc j) (omega arith)) has o
      arm_says s us l par wire register Done fine on nums w is has ih o =
          let so : kept register ≡ Coding.size (statement_coding leaves codings s) = nums 0 (omega arith) in
          let size : Coding.size (statement_coding leaves codings s) ≡ positions_of (lowered part s l) = size_is s l in
          let past : 0 + positions_of (lowered part s l) ≤ kept register = omega arith in
          silent (lowered part s l) (arm_stand par wire register) true (kept register) o (record { acts_so = on; width = 32; at_position = is }) (inr (inr past)) w

      mutual
        form_says : (form : PlainForm) (place : Place) → Stands (Placed form place) → (l : Lowering) → Low (form_after part form l) → (x : Stand) (r : ℕ) (p : Machine.Place (form_machine leaves form)) → Coding.IsFine (form_coding leaves codings form) p → Acts x r
            → Shows (Placed form place) l x r p → W x (lowered part (Placed form place) l) → IslandsHold leaves part timed_saw island_saw (Placed form place) p → Offsets (Placed form place) l x p
        form_says Empty place u l stage x r p fine i shows w has o = refl
        form_says (Enable h) place u l stage x r p fine i shows w has o = enable_says h (group_length part h) refl place u l stage x r p fine i shows w has o
        form_says (Seq no_statements) place u l stage x r p fine i shows w has o = refl
        form_says (Seq (a_statement s ss)) place u l stage x r (First p) fine i shows w has o =
            let v = stands.wired_seq groups islands around registers look bound kept next hole port timed x (lowered part s l) (lowered_parts part ss (after part s l)) place w in
            let us = law.parts_stand s (Placed (Seq (a_statement s ss)) place) (of_seq (inl refl)) u in
            let under : Coding.number (statement_coding leaves codings s) p < Coding.size (statement_coding leaves codings s) = (statement_coded leaves codings Stands law s us).coded.below p in
            let size : Coding.size (statement_coding leaves codings s) ≡ positions_of (lowered part s l) = size_is s l in
            let so : r ≡ x.position + Coding.number (statement_coding leaves codings s) p = shows.0 in
            let less : r < x.position + positions_of (lowered part s l) = omega arith in
            takes_append around registers look (ToWire g) o (I (inside x) (lowered part s l)) _
            ∙ ap (λ z. T z (I (inside x) (lowered part s l))) (parts_silent (lowered_parts part ss (after part s l)) x (inside x).wire (behind islands (lowered part s l) (inside x)) r o i less v.1)
            ∙ statement_says s us l (low_parts ss (after part s l) stage) (inside x) r p fine i
            (so, beside_first (Coding.extra (statement_coding leaves codings s)) (Coding.extra (parts_coding leaves codings ss)) (Now s l x.register) (NowParts ss (after part s l) (x.register + length (registers_of islands (lowered part s l)))) (Coding.other (statement_coding leaves codings s) p) zeros shows.1) v.0 has o
        form_says (Seq (a_statement s ss)) place u l stage x r (Second p) fine i shows w has o =
            let v = stands.wired_seq groups islands around registers look bound kept next hole port timed x (lowered part s l) (lowered_parts part ss (after part s l)) place w in
            let size : Coding.size (statement_coding leaves codings s) ≡ positions_of (lowered part s l) = size_is s l in
            let so : r ≡ x.position + (Coding.size (statement_coding leaves codings s) + Coding.number (parts_coding leaves codings ss) p) = shows.0 in
            let past : x.position + positions_of (lowered part s l) ≤ r = omega arith in
            let so_behind : r ≡ (x.position + positions_of (lowered part s l)) + Coding.number (parts_coding leaves codings ss) p = omega arith in
            takes_append around registers look (ToWire g) o (I (inside x) (lowered part s l)) _
            ∙ silent (lowered part s l) (inside x) true r _ i (inr (inr past)) v.0
            ∙ parts_say ss (Placed (Seq (a_statement s ss)) place) u (λ t e. of_seq (inr e)) (after part s l) stage x (inside x).wire (behind islands (lowered part s l) (inside x)) r p fine i
            (so_behind, beside_later (Coding.extra (statement_coding leaves codings s)) (Coding.extra (parts_coding leaves codings ss)) (Now s l x.register) (NowParts ss (after part s l) (x.register + length (registers_of islands (lowered part s l)))) zeros (Coding.other (parts_coding leaves codings ss) p) shows.1) v.1 has o
        form_says (Par no_statements) place u l stage x r p fine i shows w has o = refl
        form_says (Par (a_statement s ss)) place u l stage x r p fine i shows w has o =
            let c = connect_both around registers look bound (arms_drivers groups islands x (suc (suc x.wire)) x.register (lowered_parts part (a_statement s ss) l)) _ w.connects.1 in
            let low : bound ≤ x.wire = w.low in
            let low_in : bound ≤ suc (suc x.wire) = omega arith in
            let so : r ≡ x.position + 0 = shows.0 in
            let here_so : r ≡ x.position = omega arith in
            let on : It (at x) true = stands.at_true groups islands around registers look bound kept next hole port timed x r i here_so low w.connects.0 in
            arms_say (a_statement s ss) (Placed (Par (a_statement s ss)) place) u (λ t e. of_par e) l stage x (suc (suc x.wire)) x.register (At p) fine on shows.1
            (record { low = low_in; connects = c.0; registers_are = w.registers_are; bits = w.bits; nexts = w.nexts.1 }) has o
        form_says (If test comb a b) place u l stage x r AtTest fine i shows w has o =
            let v = stands.wired_if groups islands around registers look bound kept next hole port timed x test comb (lowered part a l) (lowered part b (after part a l)) place w in
            let so : r ≡ x.position + 0 = shows.0 in
            let less : r < x.position + 1 = omega arith in
            let less_too : r < x.position + 1 + positions_of (lowered part a l) = omega arith in
            takes_append around registers look (ToWire g) o (I (past_test x) (lowered part a l)) _
            ∙ ap (λ z. T z (I (past_test x) (lowered part a l))) (silent (lowered part b (after part a l)) (behind islands (lowered part a l) (past_test x)) true r o i (inr (inl less_too)) v.other)
            ∙ silent (lowered part a l) (past_test x) true r o i (inr (inl less)) v.one
        form_says (If test comb a b) place u l stage x r (InThen p) fine i shows w has o =
            let v = stands.wired_if groups islands around registers look bound kept next hole port timed x test comb (lowered part a l) (lowered part b (after part a l)) place w in
            let us = law.parts_stand a (Placed (If test comb a b) place) then_branch u in
            let so : r ≡ x.position + suc (Coding.number (statement_coding leaves codings a) p) = shows.0 in
            let so_in : r ≡ x.position + 1 + Coding.number (statement_coding leaves codings a) p = omega arith in
            let under : Coding.number (statement_coding leaves codings a) p < Coding.size (statement_coding leaves codings a) = (statement_coded leaves codings Stands law a us).coded.below p in
            let size : Coding.size (statement_coding leaves codings a) ≡ positions_of (lowered part a l) = size_is a l in
            let less : r < x.position + 1 + positions_of (lowered part a l) = omega arith in
            takes_append around registers look (ToWire g) o (I (past_test x) (lowered part a l)) _
            ∙ ap (λ z. T z (I (past_test x) (lowered part a l))) (silent (lowered part b (after part a l)) (behind islands (lowered part a l) (past_test x)) true r o i (inr (inl less)) v.other)
            ∙ statement_says a us l (low_back b (after part a l) stage) (past_test x) r p fine i
            (so_in, beside_first (Coding.extra (statement_coding leaves codings a)) (Coding.extra (statement_coding leaves codings b)) (Now a l x.register) (Now b (after part a l) (x.register + length (registers_of islands (lowered part a l)))) (Coding.other (statement_coding leaves codings a) p) zeros shows.1) v.one has o
        form_says (If test comb a b) place u l stage x r (InElse p) fine i shows w has o =
            let v = stands.wired_if groups islands around registers look bound kept next hole port timed x test comb (lowered part a l) (lowered part b (after part a l)) place w in
            let us = law.parts_stand b (Placed (If test comb a b) place) else_branch u in
            let so : r ≡ x.position + suc (Coding.size (statement_coding leaves codings a) + Coding.number (statement_coding leaves codings b) p) = shows.0 in
            let size : Coding.size (statement_coding leaves codings a) ≡ positions_of (lowered part a l) = size_is a l in
            let past_a : x.position + 1 + positions_of (lowered part a l) ≤ r = omega arith in
            let so_in : r ≡ x.position + 1 + positions_of (lowered part a l) + Coding.number (statement_coding leaves codings b) p = omega arith in
            takes_append around registers look (ToWire g) o (I (past_test x) (lowered part a l)) _
            ∙ silent (lowered part a l) (past_test x) true r _ i (inr (inr past_a)) v.one
            ∙ statement_says b us (after part a l) stage (behind islands (lowered part a l) (past_test x)) r p fine i
            (so_in, beside_later (Coding.extra (statement_coding leaves codings a)) (Coding.extra (statement_coding leaves codings b)) (Now a l x.register) (Now b (after part a l) (x.register + length (registers_of islands (lowered part a l)))) zeros (Coding.other (statement_coding leaves codings b) p) shows.1) v.other has o
        form_says (While test comb a) place u l stage x r AtHead fine i shows w has o =
            let v = stands.wired_while groups islands around registers look bound kept next hole port timed x test comb (lowered part a l) place w in
            let so : r ≡ x.position + 0 = shows.0 in
            let less : r < x.position + 1 = omega arith in
            silent (lowered part a l) (past_test x) true r o i (inr (inl less)) v.body
        form_says (While test comb a) place u l stage x r (InBody p) fine i shows w has o =
            let v = stands.wired_while groups islands around registers look bound kept next hole port timed x test comb (lowered part a l) place w in
            let so : r ≡ x.position + suc (Coding.number (statement_coding leaves codings a) p) = shows.0 in
            let so_in : r ≡ x.position + 1 + Coding.number (statement_coding leaves codings a) p = omega arith in
            statement_says a (law.parts_stand a (Placed (While test comb a) place) of_while u) l stage (past_test x) r p fine i (so_in, shows.1) v.body has o
        form_says (Repeat zero a) place u l stage x r p fine i shows w has o = refl
        form_says (Repeat (suc k) a) place u l stage x r p fine i shows w has o =
            let v = stands.wired_repeat groups islands around registers look bound kept next hole port timed x k (lowered part a l) place w in
            statement_says a (law.parts_stand a (Placed (Repeat (suc k) a) place) of_repeat u) l stage (counted_inside x) r p.place fine.body i (shows.0, λ j less. shows.1 (suc j) (omega arith)) v.body has o
        form_says (StaticSeq written parts) place u l stage x r p fine i shows w has o = islands_say (Placed (StaticSeq written parts) place) u l stage place refl x r p fine i shows w has o
        form_says (StaticPar written arms) place u l stage x r p fine i shows w has o = islands_say (Placed (StaticPar written arms) place) u l stage place refl x r p fine i shows w has o
        form_says (StaticIf written test a b) place u l stage x r p fine i shows w has o = islands_say (Placed (StaticIf written test a b) place) u l stage place refl x r p fine i shows w has o
        form_says (StaticRepeat written count a) place u l stage x r p fine i shows w has o = islands_say (Placed (StaticRepeat written count a) place) u l stage place refl x r p fine i shows w has o
        form_says (Timed k) place u l stage x r p fine i shows w has o = absurd (law.is_untimed k place u)

        -- OF A STATEMENT
        pub statement_says : (s : PlainStatement) → Stands s → (l : Lowering) → Low (after part s l) → (x : Stand) (r : ℕ) (p : Machine.Place (machine_of leaves s)) → Coding.IsFine (statement_coding leaves codings s) p → Acts x r → Shows s l x r p → W x (lowered part s l)
            → IslandsHold leaves part timed_saw island_saw s p → Offsets s l x p
        statement_says (Placed form place) u l stage x r p fine i shows w has = form_says form place u l stage x r p fine i shows w has

        parts_say : (ss : PlainStatements) (whole : PlainStatement) → Stands whole → ((t : PlainStatement) → In (list_of ss) t → IsPart t whole) → (l : Lowering) → Low (parts_after part ss l) → (seq : Stand) (before : ℕ) (x : Stand) (r : ℕ) (p : Machine.Place (parts_machine leaves ss))
            → Coding.IsFine (parts_coding leaves codings ss) p → Acts x r
            → (r ≡ x.position + Coding.number (parts_coding leaves codings ss) p) × ((n : ℕ) → n < Coding.extra (parts_coding leaves codings ss) → parts_number leaves codings part islands kept now_island ss l x.register n ≡ Coding.other (parts_coding leaves codings ss) p n)
            → WP seq before x (lowered_parts part ss l) → PartsHold leaves part AnyTest (AnyGroup leaves) timed_saw island_saw ss p → (o : Option BitVector) → takes around registers look (ToWire g) o (parts_isles groups islands x (lowered_parts part ss l)) ≡ offset_told g o (flat_map E (parts_run leaves ss p))
        parts_say no_statements whole u inside_whole l stage seq before x r p fine i shows w has o = absurd p
        parts_say (a_statement s ss) whole u inside_whole l stage seq before x r (First p) fine i shows w has o =
            let v = stands.wired_parts groups islands around registers look bound kept next hole port timed seq before x (lowered part s l) (lowered_parts part ss (after part s l)) w in
            let us = law.parts_stand s whole (inside_whole s (inl refl)) u in
            let under : Coding.number (statement_coding leaves codings s) p < Coding.size (statement_coding leaves codings s) = (statement_coded leaves codings Stands law s us).coded.below p in
            let size : Coding.size (statement_coding leaves codings s) ≡ positions_of (lowered part s l) = size_is s l in
            let so : r ≡ x.position + Coding.number (statement_coding leaves codings s) p = shows.0 in
            let less : r < x.position + positions_of (lowered part s l) = omega arith in
            takes_append around registers look (ToWire g) o (I x (lowered part s l)) _
            ∙ ap (λ z. T z (I x (lowered part s l))) (parts_silent (lowered_parts part ss (after part s l)) seq x.wire (behind islands (lowered part s l) x) r o i less v.1)
            ∙ statement_says s us l (low_parts ss (after part s l) stage) x r p fine i
            (so, beside_first (Coding.extra (statement_coding leaves codings s)) (Coding.extra (parts_coding leaves codings ss)) (Now s l x.register) (NowParts ss (after part s l) (x.register + length (registers_of islands (lowered part s l)))) (Coding.other (statement_coding leaves codings s) p) zeros shows.1) v.0 has o
        parts_say (a_statement s ss) whole u inside_whole l stage seq before x r (Second p) fine i shows w has o =
            let v = stands.wired_parts groups islands around registers look bound kept next hole port timed seq before x (lowered part s l) (lowered_parts part ss (after part s l)) w in
            let size : Coding.size (statement_coding leaves codings s) ≡ positions_of (lowered part s l) = size_is s l in
            let so : r ≡ x.position + (Coding.size (statement_coding leaves codings s) + Coding.number (parts_coding leaves codings ss) p) = shows.0 in
            let past : x.position + positions_of (lowered part s l) ≤ r = omega arith in
            let so_behind : r ≡ (x.position + positions_of (lowered part s l)) + Coding.number (parts_coding leaves codings ss) p = omega arith in
            takes_append around registers look (ToWire g) o (I x (lowered part s l)) _
            ∙ silent (lowered part s l) x true r _ i (inr (inr past)) v.0
            ∙ parts_say ss whole u (λ t e. inside_whole t (inr e)) (after part s l) stage seq x.wire (behind islands (lowered part s l) x) r p fine i
            (so_behind, beside_later (Coding.extra (statement_coding leaves codings s)) (Coding.extra (parts_coding leaves codings ss)) (Now s l x.register) (NowParts ss (after part s l) (x.register + length (registers_of islands (lowered part s l)))) zeros (Coding.other (parts_coding leaves codings ss) p) shows.1) v.1 has o

        arms_say : (arms : PlainStatements) (whole : PlainStatement) → Stands whole → ((t : PlainStatement) → In (list_of arms) t → IsPart t whole) → (l : Lowering) → Low (parts_after part arms l) → (par : Stand) (wire register : ℕ) (k : Control (Machine.Place (arms_machine leaves arms)))
            → at_fine (Bank.IsFine (arms_bank leaves codings arms)) k → It (at par) true
            → ((n : ℕ) → n < Bank.count (arms_bank leaves codings arms) → arms_number leaves codings part islands kept now_island arms l register n ≡ Bank.code (arms_bank leaves codings arms) k n)
            → WA par wire register (lowered_parts part arms l) → at_fine (ArmsHold leaves part AnyTest (AnyGroup leaves) timed_saw island_saw arms) k → (o : Option BitVector)
            → takes around registers look (ToWire g) o (arms_isles groups islands par wire register (lowered_parts part arms l)) ≡ offset_told g o (flat_map E (at_control (arms_run leaves arms) k))
        arms_say no_statements whole u inside_whole l stage par wire register (At p) fine on nums w has o = absurd p
        arms_say no_statements whole u inside_whole l stage par wire register Done fine on nums w has o = refl
        arms_say (a_statement s ss) whole u inside_whole l stage par wire register k fine on nums w has o =
            let v = stands.wired_arms groups islands around registers look bound kept next hole port timed par wire register (lowered part s l) (lowered_parts part ss (after part s l)) w in
            let us = law.parts_stand s whole (inside_whole s (inl refl)) u in
            takes_append around registers look (ToWire g) o (I (arm_stand par wire register) (lowered part s l)) _
            ∙ ap (λ z. T z (I (arm_stand par wire register) (lowered part s l)))
            (arms_say ss whole u (λ t e. inside_whole t (inr e)) (after part s l) stage par (wire + wires_of (lowered part s l)) (suc register + length (registers_of islands (lowered part s l))) (right_control k)
            (right_fine (region_bank (statement_coding leaves codings s)) (arms_bank leaves codings ss) k fine) on
            (beside_later (suc (Coding.extra (statement_coding leaves codings s))) (Bank.count (arms_bank leaves codings ss)) (counted (kept register) (Now s l (suc register))) (arms_number leaves codings part islands kept now_island ss (after part s l) (suc register + length (registers_of islands (lowered part s l)))) (bank_code (statement_coding leaves codings s) (left_control k)) (Bank.code (arms_bank leaves codings ss) (right_control k)) nums) v.1 (right_says (StatementHolds leaves part AnyTest (AnyGroup leaves) timed_saw island_saw s) (ArmsHold leaves part AnyTest (AnyGroup leaves) timed_saw island_saw ss) k has) o)
            ∙ arm_says s us l par wire register (left_control k) (left_fine (region_bank (statement_coding leaves codings s)) (arms_bank leaves codings ss) k fine) on
            (beside_first (suc (Coding.extra (statement_coding leaves codings s))) (Bank.count (arms_bank leaves codings ss)) (counted (kept register) (Now s l (suc register))) (arms_number leaves codings part islands kept now_island ss (after part s l) (suc register + length (registers_of islands (lowered part s l)))) (bank_code (statement_coding leaves codings s) (left_control k)) (Bank.code (arms_bank leaves codings ss) (right_control k)) nums)
            v.0 w.registers_are.0 (left_says (StatementHolds leaves part AnyTest (AnyGroup leaves) timed_saw island_saw s) (ArmsHold leaves part AnyTest (AnyGroup leaves) timed_saw island_saw ss) k has) (λ p f shows_it has_it. statement_says s us l (low_parts ss (after part s l) stage) (arm_stand par wire register) (kept register) p f (record { acts_so = on; width = 32; at_position = w.registers_are.0 }) shows_it v.0 has_it) _
            ∙ sym (offset_both g o (flat_map E (at_control (running leaves s) (left_control k))) (flat_map E (at_control (arms_run leaves ss) (right_control k))))
            ∙ ap (offset_told g o)
            (sym (flat_both E (at_control (running leaves s) (left_control k)) (at_control (arms_run leaves ss) (right_control k))) ∙ ap (flat_map E) (runs_both (running leaves s) (arms_run leaves ss) k))
