-- What holds at the leaves that run holds where control stands.
use Rattle.std.proofs.Common.{ℕ, zero, suc, inl, Bool, List, Option, Some, None, refl}
use Rattle.cx_text.proofs.MemberLaws.{in_left, in_right}
use Rattle.cx_meaning.specs.declared.ports.PortRef.{PortRef}
use Rattle.cx_meaning.specs.Designs.{PlainComponent, PlainForm, Empty, Enable, Seq, Par, If, While, Repeat, StaticSeq, StaticPar, StaticIf, StaticRepeat, Timed, PlainStatement, Placed, PlainStatements, no_statements, a_statement}
use Rattle.cx_text.specs.Members.{In}
use Rattle.cx_meaning.specs.Islands.{group_length}
use Rattle.cx_lockstep.specs.Worlds.{Store, Control, At, Done, Machine}
use Rattle.cx_lockstep.specs.Machines.{First, Second, left_of, right_of, AtTest, InThen, InElse, AtHead, InBody}
use Rattle.cx_lockstep.specs.Statements.{LeafMachines, form_machine, machine_of, parts_machine, arms_machine}
use Rattle.cx_lockstep.specs.Running.{Running, AGroup, AnIsland, at_control, form_runs, running, parts_run, arms_run}
use Rattle.cx_control.specs.Codings.{at_fine}
use Rattle.cx_control.specs.StatementCodings.{LeafCodings}
use Rattle.cx_static.specs.Islands.{PlainIsland}
use Rattle.cx_wiring_cycles.specs.Shown.{FormAgrees, StatementAgrees, PartsAgree, ArmsAgree, enable_agrees}
use Rattle.cx_wiring_cycles.specs.AtLeaves.{AnyTest, AnyGroup, enable_holds, FormHolds, PartsHold, ArmsHold, IslandsHold, enable_saw, FormSaw, StatementSaw, PartsSaw, ArmsSaw}

at_both : {P : Type 0} (f g h : P → Type 0) → ((p : P) → f p → g p → h p) → (k : Control P) → at_fine f k → at_fine g k → at_fine h k
at_both f g h e (At p) a b = e p a b
at_both f g h e Done a b = tt

module _ {X : Type 0} {V : X → Type 0} {F : Type 0} (leaves : LeafMachines X V F) (part : PlainComponent) (timed_saw : (g : ℕ) → Machine.Place (LeafMachines.enable leaves g) → Type 0) (island_saw : (form : PlainForm) → Machine.Place (LeafMachines.island leaves form) → Type 0) where
  -- WHAT THE MACHINE SAW, with what it saw of islands
  module _ (codings : LeafCodings leaves) (islands : List PlainIsland) (seen : Store X V) (hole : ℕ → Bool) (port : PortRef → Bool) where
    enable_both : (g : ℕ) (o : Option ℕ) (p : Machine.Place (LeafMachines.enable leaves g)) → enable_agrees leaves codings part islands seen hole port g o p → enable_holds leaves part AnyTest (AnyGroup leaves) timed_saw island_saw g o p
        → enable_saw leaves part timed_saw island_saw codings islands seen hole port g o p
    enable_both g None p a b = a
    enable_both g (Some cycles) p a b = b

    mutual
      form_both : (form : PlainForm) (p : Machine.Place (form_machine leaves form)) → FormAgrees leaves codings part islands seen hole port form p → FormHolds leaves part AnyTest (AnyGroup leaves) timed_saw island_saw form p
          → FormSaw leaves part timed_saw island_saw codings islands seen hole port form p
      form_both Empty p a b = tt
      form_both (Enable g) p a b = enable_both g (group_length part g) p a b
      form_both (Seq no_statements) p a b = tt
      form_both (Seq (a_statement s ss)) (First p) a b = saw_both s p a b
      form_both (Seq (a_statement s ss)) (Second p) a b = parts_both ss p a b
      form_both (Par no_statements) p a b = tt
      form_both (Par (a_statement s ss)) p a b = (
        at_both (StatementAgrees leaves codings part islands seen hole port s) (IslandsHold leaves part timed_saw island_saw s) (StatementSaw leaves part timed_saw island_saw codings islands seen hole port s) (λ q c d. saw_both s q c d) (left_of p) a.0 b.0,
        at_both (ArmsAgree leaves codings part islands seen hole port ss) (ArmsHold leaves part AnyTest (AnyGroup leaves) timed_saw island_saw ss) (ArmsSaw leaves part timed_saw island_saw codings islands seen hole port ss) (λ q c d. arms_both ss q c d) (right_of p) a.1 b.1,
      )
      form_both (If test comb s r) AtTest a b = a
      form_both (If test comb s r) (InThen p) a b = saw_both s p a b
      form_both (If test comb s r) (InElse p) a b = saw_both r p a b
      form_both (While test comb s) AtHead a b = a
      form_both (While test comb s) (InBody p) a b = saw_both s p a b
      form_both (Repeat zero s) p a b = tt
      form_both (Repeat (suc k) s) p a b = saw_both s p.place a b
      form_both (StaticSeq written parts) p a b = b
      form_both (StaticPar written arms) p a b = b
      form_both (StaticIf written test s r) p a b = b
      form_both (StaticRepeat written count s) p a b = b
      form_both (Timed k) p a b = tt

      pub saw_both : (s : PlainStatement) (p : Machine.Place (machine_of leaves s)) → StatementAgrees leaves codings part islands seen hole port s p → IslandsHold leaves part timed_saw island_saw s p
          → StatementSaw leaves part timed_saw island_saw codings islands seen hole port s p
      saw_both (Placed form place) p a b = form_both form p a b

      parts_both : (ss : PlainStatements) (p : Machine.Place (parts_machine leaves ss)) → PartsAgree leaves codings part islands seen hole port ss p → PartsHold leaves part AnyTest (AnyGroup leaves) timed_saw island_saw ss p
          → PartsSaw leaves part timed_saw island_saw codings islands seen hole port ss p
      parts_both no_statements p a b = tt
      parts_both (a_statement s ss) (First p) a b = saw_both s p a b
      parts_both (a_statement s ss) (Second p) a b = parts_both ss p a b

      arms_both : (ss : PlainStatements) (p : Machine.Place (arms_machine leaves ss)) → ArmsAgree leaves codings part islands seen hole port ss p → ArmsHold leaves part AnyTest (AnyGroup leaves) timed_saw island_saw ss p
          → ArmsSaw leaves part timed_saw island_saw codings islands seen hole port ss p
      arms_both no_statements p a b = tt
      arms_both (a_statement s ss) p a b = (
        at_both (StatementAgrees leaves codings part islands seen hole port s) (IslandsHold leaves part timed_saw island_saw s) (StatementSaw leaves part timed_saw island_saw codings islands seen hole port s) (λ q c d. saw_both s q c d) (left_of p) a.0 b.0,
        at_both (ArmsAgree leaves codings part islands seen hole port ss) (ArmsHold leaves part AnyTest (AnyGroup leaves) timed_saw island_saw ss) (ArmsSaw leaves part timed_saw island_saw codings islands seen hole port ss) (λ q c d. arms_both ss q c d) (right_of p) a.1 b.1,
      )

  -- OF EACH LEAF that runs
  abbrev pub LeafHas : Running leaves → Type 0
  LeafHas (AGroup g place stand) = enable_holds leaves part AnyTest (AnyGroup leaves) timed_saw island_saw g (group_length part g) stand
  LeafHas (AnIsland form place stand) = island_saw form stand

  at_arm : {C : Type 0} (f : C → List (Running leaves)) (h : C → Type 0) → ((c : C) → ((r : Running leaves) → In (f c) r → LeafHas r) → h c) → (c : Control C) → ((r : Running leaves) → In (at_control f c) r → LeafHas r) → at_fine h c
  at_arm f h e (At c) all = e c all
  at_arm f h e Done all = tt

  mutual
    form_all : (form : PlainForm) (place : _) (p : Machine.Place (form_machine leaves form)) → ((r : Running leaves) → In (form_runs leaves form place p) r → LeafHas r) → FormHolds leaves part AnyTest (AnyGroup leaves) timed_saw island_saw form p
    form_all Empty place p all = tt
    form_all (Enable g) place p all = all (AGroup g place p) (inl refl)
    form_all (Seq no_statements) place p all = tt
    form_all (Seq (a_statement s ss)) place (First p) all = holds_all s p all
    form_all (Seq (a_statement s ss)) place (Second p) all = parts_all ss p all
    form_all (Par no_statements) place p all = tt
    form_all (Par (a_statement s ss)) place p all = (
      at_arm (running leaves s) (IslandsHold leaves part timed_saw island_saw s) (λ c k. holds_all s c k) (left_of p) (λ r i. all r (in_left (at_control (running leaves s) (left_of p)) (at_control (arms_run leaves ss) (right_of p)) r i)),
      at_arm (arms_run leaves ss) (ArmsHold leaves part AnyTest (AnyGroup leaves) timed_saw island_saw ss) (λ c k. arms_all ss c k) (right_of p) (λ r i. all r (in_right (at_control (running leaves s) (left_of p)) (at_control (arms_run leaves ss) (right_of p)) r i)),
    )
    form_all (If test comb a b) place AtTest all = tt
    form_all (If test comb a b) place (InThen p) all = holds_all a p all
    form_all (If test comb a b) place (InElse p) all = holds_all b p all
    form_all (While test comb a) place AtHead all = tt
    form_all (While test comb a) place (InBody p) all = holds_all a p all
    form_all (Repeat zero a) place p all = tt
    form_all (Repeat (suc k) a) place p all = holds_all a p.place all
    form_all (StaticSeq written parts) place p all = all (AnIsland (StaticSeq written parts) place p) (inl refl)
    form_all (StaticPar written arms) place p all = all (AnIsland (StaticPar written arms) place p) (inl refl)
    form_all (StaticIf written test a b) place p all = all (AnIsland (StaticIf written test a b) place p) (inl refl)
    form_all (StaticRepeat written count a) place p all = all (AnIsland (StaticRepeat written count a) place p) (inl refl)
    form_all (Timed k) place p all = tt

    pub holds_all : (s : PlainStatement) (p : Machine.Place (machine_of leaves s)) → ((r : Running leaves) → In (running leaves s p) r → LeafHas r) → IslandsHold leaves part timed_saw island_saw s p
    holds_all (Placed form place) p all = form_all form place p all

    parts_all : (ss : PlainStatements) (p : Machine.Place (parts_machine leaves ss)) → ((r : Running leaves) → In (parts_run leaves ss p) r → LeafHas r) → PartsHold leaves part AnyTest (AnyGroup leaves) timed_saw island_saw ss p
    parts_all no_statements p all = tt
    parts_all (a_statement s ss) (First p) all = holds_all s p all
    parts_all (a_statement s ss) (Second p) all = parts_all ss p all

    arms_all : (ss : PlainStatements) (p : Machine.Place (arms_machine leaves ss)) → ((r : Running leaves) → In (arms_run leaves ss p) r → LeafHas r) → ArmsHold leaves part AnyTest (AnyGroup leaves) timed_saw island_saw ss p
    arms_all no_statements p all = tt
    arms_all (a_statement s ss) p all = (
      at_arm (running leaves s) (IslandsHold leaves part timed_saw island_saw s) (λ c k. holds_all s c k) (left_of p) (λ r i. all r (in_left (at_control (running leaves s) (left_of p)) (at_control (arms_run leaves ss) (right_of p)) r i)),
      at_arm (arms_run leaves ss) (ArmsHold leaves part AnyTest (AnyGroup leaves) timed_saw island_saw ss) (λ c k. arms_all ss c k) (right_of p) (λ r i. all r (in_right (at_control (running leaves s) (left_of p)) (at_control (arms_run leaves ss) (right_of p)) r i)),
    )
