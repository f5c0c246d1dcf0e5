-- What the parts of a lowered component keep where its net fits: the ports that they name are there and as wide as they have to be, and
-- their numbers have at most 32 bits.
use Rattle.std.specs.Prelude.{◌≡◌, ℕ, ◌+◌, ◌<◌, ◌≤◌, ◌^◌, List, [], ◌∷◌, length, Option, Some, None, slice_get, true}
use Rattle.cx_prim.specs.declared.names.PrimitiveName.TheVariants as primitives
use Rattle.cx_prim.specs.Table.{HasRow}
use Rattle.cx_meaning.specs.Designs.{PlainGuard, Always, Atom, Negation, All, Any, Compared, Within, PlainGuards, no_guards, a_guard, PlainAssign, PlainKind, OfPrimitive, OfComponent, PlainCell, PlainForm, Empty, Enable, Seq, Par, If, While, Repeat, StaticSeq, StaticPar, StaticIf, StaticRepeat, Timed, PlainStatement, Placed, PlainStatements, no_statements, a_statement}
use Rattle.cx_meaning.specs.Active.{Owned}
use Rattle.cx_net.specs.Nets.{PlainNetDriver, PlainNetComponent, PlainNet}
use Rattle.cx_net.specs.NetFits.{HasPortWidth, HasWidth, target_width, IsExternalKind}
use Rattle.cx_static.specs.declared.islands.Sample.{Sample}
use Rattle.cx_static.specs.declared.islands.IslandTimer.{IslandTimer}
use Rattle.cx_static.specs.Islands.{PlainPoint, PlainOccurrence, PlainIsland}
use Rattle.cx_wiring.specs.Assignments.{target_of}
use Rattle.cx_wiring.specs.Bounds.{IsProper}
use Rattle.cx_text.specs.Members.{Each}

-- from this entry on a list has these entries
abbrev pub HasFrom : List ℕ → ℕ → List ℕ → Type 0
HasFrom list n xs = (i w : ℕ) → slice_get xs i ≡ Some w → slice_get list (n + i) ≡ Some w

-- a cell is a timer
pub record IsTimer (cells : List PlainCell) (c : ℕ) : Type 0 where
  pub cell : PlainCell
  pub stands : slice_get cells c ≡ Some cell
  pub cycles : ℕ
  pub is : cell.kind ≡ OfPrimitive (record { name = primitives.Timer; numbers = cycles ∷ [] })
  pub some : 1 ≤ cycles
  pub few : cycles < 2 ^ 32

-- a primitive has a row, and an external cell is a memory
abbrev pub HasRowKind : PlainKind → Type 0
HasRowKind (OfPrimitive primitive) = HasRow primitive
HasRowKind (OfComponent k) = Unit {0}

pub record CellFits (cell : PlainCell) : Type 0 where
  pub row : HasRowKind cell.kind
  pub memory : cell.external ≡ true → IsExternalKind cell.kind

-- ISLANDS, of a component of so many groups: timers, points and occurrences name what is there, at numbers of 32 bits
abbrev pub OuterFits : ℕ → Option ℕ → Type 0
OuterFits timers None = Unit {0}
OuterFits timers (Some outer) = outer < timers

pub record TimerFits (cells : List PlainCell) (timers : ℕ) (t : IslandTimer) : Type 0 where
  pub cell : IsTimer cells t.cell
  pub outer : OuterFits timers t.outer
  pub from : t.from < 2 ^ 32
  pub to : t.to < 2 ^ 32

abbrev pub SampleFits : ℕ → Sample → Type 0
SampleFits points s = s.point < points

pub record OccurrenceFits (groups timers points : ℕ) (o : PlainOccurrence) : Type 0 where
  pub group : o.group < groups
  pub timer : o.timer < timers
  pub from : o.from < 2 ^ 32
  pub to : o.to < 2 ^ 32
  pub samples : Each (SampleFits points) o.samples

module _ (net : PlainNet) (part : PlainNetComponent) where
  -- A DRIVER with a guard of one bit drives what is there and may be driven, from a source of its width
  pub record Drives (d : PlainNetDriver) : Type 0 where
    pub proper : IsProper d.target
    pub guard : HasWidth net part d.guard 1
    pub width : ℕ
    pub target : target_width net part d.target ≡ Some width
    pub source : HasWidth net part d.source width

  -- GUARDS: ports that stand alone are bits, ports that are compared are equally wide
  abbrev mutual
    pub GuardFits : PlainGuard → Type 0
    GuardFits Always = Unit {0}
    GuardFits (Atom p) = HasPortWidth net part p.port 1
    GuardFits (Negation g) = GuardFits g
    GuardFits (All gs) = GuardsFit gs
    GuardFits (Any gs) = GuardsFit gs
    GuardFits (Compared c a b) = (w : ℕ) × HasPortWidth net part a.port w × HasPortWidth net part b.port w
    GuardFits (Within from to) = (from < 2 ^ 32) × (to < 2 ^ 32)

    pub GuardsFit : PlainGuards → Type 0
    GuardsFit no_guards = Unit {0}
    GuardsFit (a_guard g gs) = GuardFits g × GuardsFit gs

  pub record AssignFits (a : PlainAssign) : Type 0 where
    pub proper : IsProper (target_of a.target)
    pub guard : GuardFits a.guard
    pub width : ℕ
    pub target : target_width net part (target_of a.target) ≡ Some width
    pub source : HasPortWidth net part a.source.port width

  abbrev pub OwnerFits : ℕ → Option ℕ → Type 0
  OwnerFits groups None = Unit {0}
  OwnerFits groups (Some g) = g < groups

  pub record OwnedFits (groups : ℕ) (o : Owned) : Type 0 where
    pub owner : OwnerFits groups o.owner
    pub assign : AssignFits o.assign

  -- STATEMENTS: tests are bits, rounds are numbers of 32 bits
  abbrev mutual
    pub FormFits : PlainForm → Type 0
    FormFits Empty = Unit {0}
    FormFits (Enable g) = Unit {0}
    FormFits (Seq parts) = PartsFit parts
    FormFits (Par arms) = PartsFit arms
    FormFits (If test comb a b) = HasPortWidth net part test.port 1 × StatementFits a × StatementFits b
    FormFits (While test comb a) = HasPortWidth net part test.port 1 × StatementFits a
    FormFits (Repeat count a) = (count < 2 ^ 32) × StatementFits a
    FormFits (StaticSeq written parts) = Unit {0}
    FormFits (StaticPar written arms) = Unit {0}
    FormFits (StaticIf written test a b) = Unit {0}
    FormFits (StaticRepeat written count a) = Unit {0}
    FormFits (Timed k) = Unit {0}

    pub StatementFits : PlainStatement → Type 0
    StatementFits (Placed form place) = FormFits form

    pub PartsFit : PlainStatements → Type 0
    PartsFit no_statements = Unit {0}
    PartsFit (a_statement s ss) = StatementFits s × PartsFit ss

  pub record PointFits (timers points : ℕ) (p : PlainPoint) : Type 0 where
    pub port : HasPortWidth net part p.port 1
    pub timer : p.timer < timers
    pub at : p.at < 2 ^ 32
    pub samples : Each (SampleFits points) p.samples

  pub record IslandFits (groups : ℕ) (cells : List PlainCell) (island : PlainIsland) : Type 0 where
    pub length_few : island.length < 2 ^ 32
    pub first : 0 < length island.timers
    pub timers : Each (TimerFits cells (length island.timers)) island.timers
    pub points : Each (PointFits (length island.timers) (length island.points)) island.points
    pub occurrences : Each (OccurrenceFits groups (length island.timers) (length island.points)) island.occurrences
