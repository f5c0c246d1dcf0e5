-- What is asked of the control of a tree and of its flat instance, statement by statement.
use Rattle.std.specs.Prelude.{◌≡◌, ℕ, suc, ◌<◌, false, Option, Some, None, length}
use Rattle.cx_meaning.specs.declared.ports.PortRef.{PortRef}
use Rattle.cx_meaning.specs.declared.kinds.GroupKind.{GroupKind}
use Rattle.cx_meaning.specs.declared.kinds.GroupKind.TheVariants as kinds
use Rattle.cx_prim.specs.Rows.{Row, IsLawful}
use Rattle.cx_meaning.specs.Rows.{KeepsIdle}
use Rattle.cx_meaning.specs.Designs.{PlainComponent, group_at, PlainForm, Empty, Enable, Seq, Par, If, While, Repeat, StaticSeq, StaticPar, StaticIf, StaticRepeat, Timed, PlainStatement, Placed, PlainStatements, no_statements, a_statement}
use Rattle.cx_meaning.specs.Instances.{Instance, Node, Cells, no_cells, a_primitive, an_instance, OfRow, OfInstance, part_of, cells_of, cell_at}
use Rattle.cx_meaning.specs.Active.{Owned, source_order}
use Rattle.cx_text.specs.Members.{In}
use Rattle.cx_meaning.specs.Calls.{called}
use Rattle.cx_meaning.specs.Laws.{AllRows}
use Rattle.cx_rules.specs.Ports.{is_primitive_enable}
use Rattle.cx_flattening.specs.Whole.{is_static}
use Rattle.cx_flattening.specs.Flattened.{flat_form, flat_kids, kept_at}
use Rattle.cx_flattening.specs.Embedded.{IsFlattened}
use Rattle.cx_flattening.specs.Fair.{AllFair}
use Rattle.cx_flattening.specs.Levels.{IsKnown}
use Rattle.cx_flattening.specs.Turning.{IsGroupBeside}
use Rattle.cx_flattening.specs.Lists.{IsIsland}
use Rattle.cx_flattening.specs.Calling.{IsCallBeside}
use Rattle.cx_flattening.specs.Arms.{DrivesAlike, IsApart}

-- a form that runs as an island: a static one
abbrev pub IsStaticForm : PlainComponent → PlainForm → Type 0
IsStaticForm part Empty = Unit {0}
IsStaticForm part (Enable g) = (n : ℕ) × ((group_at part g).kind ≡ kinds.Timed n)
IsStaticForm part (Seq ss) = ⊥
IsStaticForm part (Par arms) = ⊥
IsStaticForm part (If test comb a b) = ⊥
IsStaticForm part (While test comb a) = ⊥
IsStaticForm part (Repeat count a) = ⊥
IsStaticForm part (StaticSeq length ss) = Unit {0}
IsStaticForm part (StaticPar length arms) = Unit {0}
IsStaticForm part (StaticIf length test a b) = Unit {0}
IsStaticForm part (StaticRepeat length count a) = Unit {0}
IsStaticForm part (Timed k) = ⊥

module _ (i flat : Instance) where
  -- of a group that is enabled: as a call, turn by turn, or as an island
  abbrev pub CallAsks : ℕ → Option ℕ → Type 0
  CallAsks g None = IsGroupBeside i flat (Some g)
  CallAsks g (Some c) = (child : Instance) × IsCallBeside i flat g c child

  abbrev pub KindAsks : ℕ → GroupKind → Type 0
  KindAsks g kinds.Plain = CallAsks g (called i g)
  KindAsks g kinds.Comb = CallAsks g (called i g)
  KindAsks g (kinds.Timed length) = IsIsland i flat (Enable g)

  -- of the port of an if or a while, with its comb group
  pub record TestAsks (p : PortRef) (comb : Option ℕ) : Type 0 where
    pub known : IsKnown i p
    pub beside : IsGroupBeside i flat comb

  abbrev mutual
    pub FormAsks : PlainForm → Type 0
    FormAsks Empty = Unit {0}
    FormAsks (Enable g) = (g < length (part_of i).groups) × KindAsks g (group_at (part_of i) g).kind
    FormAsks (Seq ss) = AllAsk ss
    FormAsks (Par arms) = ArmsAsk arms
    FormAsks (If test comb a b) = TestAsks test.port comb × (Asks a × Asks b)
    FormAsks (While test comb a) = TestAsks test.port comb × Asks a
    FormAsks (Repeat count a) = Asks a
    FormAsks (StaticSeq length ss) = IsIsland i flat (StaticSeq length ss)
    FormAsks (StaticPar length arms) = IsIsland i flat (StaticPar length arms)
    FormAsks (StaticIf length test a b) = IsIsland i flat (StaticIf length test a b)
    FormAsks (StaticRepeat length count a) = IsIsland i flat (StaticRepeat length count a)
    FormAsks (Timed k) =
        IsIsland i flat (Timed k)
        × IsStaticForm (part_of flat) (flat_form (flat_kids (cells_of i)) (part_of i) (Timed k))

    pub Asks : PlainStatement → Type 0
    Asks (Placed form place) = FormAsks form

    pub AllAsk : PlainStatements → Type 0
    AllAsk no_statements = Unit {0}
    AllAsk (a_statement s ss) = Asks s × AllAsk ss

    -- of the arms of a par: none drives what another drives
    pub ArmsAsk : PlainStatements → Type 0
    ArmsAsk no_statements = Unit {0}
    ArmsAsk (a_statement s ss) = Asks s × (DrivesAlike i flat s × (IsApart (part_of i) s ss × ArmsAsk ss))

-- of an instance and its flat instance: the rows of this keep the laws, and nothing continuous enables there
pub record RunAsks (i flat : Instance) : Type 0 where
  pub flattened : IsFlattened i flat
  pub fair : AllFair i
  pub idle : AllRows KeepsIdle flat
  pub lawful : (c : ℕ) (row : Row) → cell_at (cells_of flat) c ≡ OfRow row → IsLawful row
  pub bare : (o : Owned) → In (source_order (part_of flat)) o → o.owner ≡ None
      → is_primitive_enable flat o.assign.target ≡ false
  pub control : Asks i flat (part_of i).control

-- WHAT IS ASKED of a tree, and of the flat instances of its dynamic children
abbrev mutual
  pub TreeAsks : Instance → Instance → Type 0
  TreeAsks (Node part cells) flat = RunAsks (Node part cells) flat × ChildrenAsk cells cells 0 flat

  pub ChildrenAsk : Cells → Cells → ℕ → Instance → Type 0
  ChildrenAsk no_cells cells c flat = Unit {0}
  ChildrenAsk (a_primitive row rest) cells c flat = ChildrenAsk rest cells (suc c) flat
  ChildrenAsk (an_instance child rest) cells c flat =
      (is_static child ≡ false → (twin : Instance) →
      cell_at (cells_of flat) (kept_at (flat_kids cells) c) ≡ OfInstance twin → TreeAsks child twin)
      × ChildrenAsk rest cells (suc c) flat
