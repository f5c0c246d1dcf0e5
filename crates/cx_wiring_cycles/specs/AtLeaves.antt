-- What holds where control stands: at tests, at groups, at islands.
use Rattle.std.specs.Prelude.{◌≡◌, ℕ, zero, suc, Bool, List, Option, Some, None}
use Rattle.cx_meaning.specs.declared.ports.PortRef.{PortRef}
use Rattle.cx_meaning.specs.Designs.{PlainComponent, PlainForm, Empty, Enable, Seq, Par, If, While, Repeat, StaticSeq, StaticPar, StaticIf, StaticRepeat, Timed, PlainStatement, Placed, PlainStatements, no_statements, a_statement}
use Rattle.cx_meaning.specs.Islands.{group_length}
use Rattle.cx_lockstep.specs.Worlds.{Store, Machine, is_done}
use Rattle.cx_lockstep.specs.Statements.{LeafMachines, form_machine, machine_of, parts_machine, arms_machine}
use Rattle.cx_control.specs.StatementCodings.{LeafCodings}
use Rattle.cx_static.specs.Islands.{PlainIsland}
use Rattle.cx_wiring_cycles.specs.Shown.{in_seq, in_par, in_if, in_while, TestAgrees}

module _ {X : Type 0} {V : X → Type 0} {F : Type 0} (leaves : LeafMachines X V F) (part : PlainComponent)
    (at_test : PortRef → Option ℕ → Type 0)
    (at_plain at_timed : (g : ℕ) → Machine.Place (LeafMachines.enable leaves g) → Type 0)
    (at_island : (form : PlainForm) → Machine.Place (LeafMachines.island leaves form) → Type 0) where
  abbrev pub enable_holds : (g : ℕ) → Option ℕ → Machine.Place (LeafMachines.enable leaves g) → Type 0
  enable_holds g None p = at_plain g p
  enable_holds g (Some cycles) p = at_timed g p

  abbrev mutual
    pub FormHolds : (form : PlainForm) → Machine.Place (form_machine leaves form) → Type 0
    FormHolds Empty p = Unit {0}
    FormHolds (Enable g) p = enable_holds g (group_length part g) p
    FormHolds (Seq no_statements) p = Unit {0}
    FormHolds (Seq (a_statement s ss)) p = in_seq (StatementHolds s) (PartsHold ss) p
    FormHolds (Par no_statements) p = Unit {0}
    FormHolds (Par (a_statement s ss)) p = in_par (StatementHolds s) (ArmsHold ss) p
    FormHolds (If test comb a b) p = in_if (at_test test.port comb) (StatementHolds a) (StatementHolds b) p
    FormHolds (While test comb a) p = in_while (at_test test.port comb) (StatementHolds a) p
    FormHolds (Repeat zero a) p = Unit {0}
    FormHolds (Repeat (suc k) a) p = StatementHolds a p.place
    FormHolds (StaticSeq written parts) p = at_island (StaticSeq written parts) p
    FormHolds (StaticPar written arms) p = at_island (StaticPar written arms) p
    FormHolds (StaticIf written test a b) p = at_island (StaticIf written test a b) p
    FormHolds (StaticRepeat written count a) p = at_island (StaticRepeat written count a) p
    FormHolds (Timed k) p = Unit {0}

    pub StatementHolds : (s : PlainStatement) → Machine.Place (machine_of leaves s) → Type 0
    StatementHolds (Placed form place) p = FormHolds form p

    pub PartsHold : (ss : PlainStatements) → Machine.Place (parts_machine leaves ss) → Type 0
    PartsHold no_statements p = Unit {0}
    PartsHold (a_statement s ss) p = in_seq (StatementHolds s) (PartsHold ss) p

    pub ArmsHold : (ss : PlainStatements) → Machine.Place (arms_machine leaves ss) → Type 0
    ArmsHold no_statements p = Unit {0}
    ArmsHold (a_statement s ss) p = in_par (StatementHolds s) (ArmsHold ss) p

-- any test
abbrev pub AnyTest : PortRef → Option ℕ → Type 0
AnyTest test comb = Unit {0}

module _ {X : Type 0} {V : X → Type 0} {F : Type 0} (leaves : LeafMachines X V F) where
  abbrev pub AnyGroup : (g : ℕ) → Machine.Place (LeafMachines.enable leaves g) → Type 0
  AnyGroup g p = Unit {0}

  module _ (part : PlainComponent)
      (at_timed : (g : ℕ) → Machine.Place (LeafMachines.enable leaves g) → Type 0)
      (at_island : (form : PlainForm) → Machine.Place (LeafMachines.island leaves form) → Type 0) where
    -- AT ISLANDS ALONE
    abbrev pub IslandsHold : (s : PlainStatement) → Machine.Place (machine_of leaves s) → Type 0
    IslandsHold = StatementHolds leaves part AnyTest AnyGroup at_timed at_island

    -- AND WITH what the machine saw of holes and tests
    module _ (codings : LeafCodings leaves) (islands : List PlainIsland) (seen : Store X V)
        (hole : ℕ → Bool) (port : PortRef → Bool) where
      abbrev pub HoleSeen : (g : ℕ) → Machine.Place (LeafMachines.enable leaves g) → Type 0
      HoleSeen g p = hole g ≡ is_done (Machine.step (LeafMachines.enable leaves g) p seen)

      abbrev pub enable_saw : (g : ℕ) → Option ℕ → Machine.Place (LeafMachines.enable leaves g) → Type 0
      enable_saw =
          enable_holds leaves part
          (TestAgrees leaves codings part islands seen hole port) HoleSeen at_timed at_island

      abbrev pub StatementSaw : (s : PlainStatement) → Machine.Place (machine_of leaves s) → Type 0
      StatementSaw =
          StatementHolds leaves part
          (TestAgrees leaves codings part islands seen hole port) HoleSeen at_timed at_island

      abbrev pub FormSaw : (form : PlainForm) → Machine.Place (form_machine leaves form) → Type 0
      FormSaw =
          FormHolds leaves part
          (TestAgrees leaves codings part islands seen hole port) HoleSeen at_timed at_island

      abbrev pub PartsSaw : (ss : PlainStatements) → Machine.Place (parts_machine leaves ss) → Type 0
      PartsSaw =
          PartsHold leaves part
          (TestAgrees leaves codings part islands seen hole port) HoleSeen at_timed at_island

      abbrev pub ArmsSaw : (ss : PlainStatements) → Machine.Place (arms_machine leaves ss) → Type 0
      ArmsSaw = ArmsHold leaves part (TestAgrees leaves codings part islands seen hole port) HoleSeen at_timed at_island
