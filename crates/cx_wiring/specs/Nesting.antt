-- What guards, statements and islands keep where no expression of their net nests deeply: no output is read, and no more parts stand
-- under one operator than can be paired 14 times.
use Rattle.std.specs.Prelude.{ℕ, suc, ◌+◌, ◌≤◌, length}
use Rattle.cx_meaning.specs.Designs.{PlainGuard, Always, Atom, Negation, All, Any, Compared, Within, PlainGuards, no_guards, a_guard, PlainForm, Empty, Enable, Seq, Par, If, While, Repeat, StaticSeq, StaticPar, StaticIf, StaticRepeat, Timed, PlainStatement, Placed, PlainStatements, no_statements, a_statement}
use Rattle.cx_meaning.specs.Active.{Owned}
use Rattle.cx_net.specs.NetLimits.{IsRead}
use Rattle.cx_static.specs.Islands.{PlainPoint, PlainOccurrence, PlainIsland}
use Rattle.cx_text.specs.Members.{Each}

-- the most parts under one operator: 2 to the 14
abbrev pub most : ℕ
most = 16384

abbrev pub guards_count : PlainGuards → ℕ
guards_count no_guards = 0
guards_count (a_guard g gs) = suc (guards_count gs)

abbrev mutual
  pub GuardNests : PlainGuard → Type 0
  GuardNests Always = Unit {0}
  GuardNests (Atom p) = IsRead p.port
  GuardNests (Negation g) = GuardNests g
  GuardNests (All gs) = (guards_count gs ≤ most) × GuardsNest gs
  GuardNests (Any gs) = (guards_count gs ≤ most) × GuardsNest gs
  GuardNests (Compared c a b) = IsRead a.port × IsRead b.port
  GuardNests (Within from to) = Unit {0}

  pub GuardsNest : PlainGuards → Type 0
  GuardsNest no_guards = Unit {0}
  GuardsNest (a_guard g gs) = GuardNests g × GuardsNest gs

pub record OwnedNests (o : Owned) : Type 0 where
  pub guard : GuardNests o.assign.guard
  pub source : IsRead o.assign.source.port

-- the tests of a statement
abbrev mutual
  pub FormNests : PlainForm → Type 0
  FormNests Empty = Unit {0}
  FormNests (Enable g) = Unit {0}
  FormNests (Seq parts) = PartsNest parts
  FormNests (Par arms) = PartsNest arms
  FormNests (If test comb a b) = IsRead test.port × StatementNests a × StatementNests b
  FormNests (While test comb a) = IsRead test.port × StatementNests a
  FormNests (Repeat count a) = StatementNests a
  FormNests (StaticSeq written parts) = Unit {0}
  FormNests (StaticPar written arms) = Unit {0}
  FormNests (StaticIf written test a b) = Unit {0}
  FormNests (StaticRepeat written count a) = Unit {0}
  FormNests (Timed k) = Unit {0}

  pub StatementNests : PlainStatement → Type 0
  StatementNests (Placed form place) = FormNests form

  pub PartsNest : PlainStatements → Type 0
  PartsNest no_statements = Unit {0}
  PartsNest (a_statement s ss) = StatementNests s × PartsNest ss

-- a static if reads no output, and begins where its timer has a count, of two parts, and its samples are as wanted
pub record PointNests (p : PlainPoint) : Type 0 where
  pub port : IsRead p.port
  pub few : 3 + length p.samples ≤ most

-- an occurrence is active where its timer is in a range, of three parts, and its samples are as wanted
pub record IslandNests (island : PlainIsland) : Type 0 where
  pub points : Each PointNests island.points
  pub occurrences : Each (λ (o : PlainOccurrence). 3 + length o.samples ≤ most) island.occurrences

-- PARTS OF GUARDS. Always stands for an assignment without a guard, and is no part of one
abbrev mutual
  pub IsPart : PlainGuard → Type 0
  IsPart Always = ⊥
  IsPart (Atom p) = Unit {0}
  IsPart (Negation g) = IsPart g
  IsPart (All gs) = AreParts gs
  IsPart (Any gs) = AreParts gs
  IsPart (Compared c a b) = Unit {0}
  IsPart (Within from to) = Unit {0}

  pub AreParts : PlainGuards → Type 0
  AreParts no_guards = Unit {0}
  AreParts (a_guard g gs) = IsPart g × AreParts gs

abbrev pub HasParts : PlainGuard → Type 0
HasParts Always = Unit {0}
HasParts (Atom p) = Unit {0}
HasParts (Negation g) = IsPart g
HasParts (All gs) = AreParts gs
HasParts (Any gs) = AreParts gs
HasParts (Compared c a b) = Unit {0}
HasParts (Within from to) = Unit {0}
