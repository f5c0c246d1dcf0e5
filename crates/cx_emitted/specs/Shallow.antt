-- How many static ifs stand around a statement.
use Rattle.std.specs.Prelude.{ℕ, ◌-◌, ◌<◌, ◌≤◌, length}
use Rattle.cx_meaning.specs.Designs.{PlainDesign, component_at, PlainForm, Empty, Enable, Seq, Par, If, While, Repeat, StaticSeq, StaticPar, StaticIf, StaticRepeat, Timed, PlainStatement, Placed, PlainStatements, no_statements, a_statement}

-- WITHIN so many static ifs at most stands each statement
abbrev mutual
  pub FormShallow : ℕ → PlainForm → Type 0
  FormShallow n Empty = Unit {0}
  FormShallow n (Enable g) = Unit {0}
  FormShallow n (Seq parts) = PartsShallow n parts
  FormShallow n (Par arms) = PartsShallow n arms
  FormShallow n (If test comb a b) = Shallow n a × Shallow n b
  FormShallow n (While test comb a) = Shallow n a
  FormShallow n (Repeat count a) = Shallow n a
  FormShallow n (StaticSeq written parts) = PartsShallow n parts
  FormShallow n (StaticPar written arms) = PartsShallow n arms
  FormShallow n (StaticIf written test a b) = (1 ≤ n) × (Shallow (n - 1) a × Shallow (n - 1) b)
  FormShallow n (StaticRepeat written count a) = Shallow n a
  FormShallow n (Timed k) = Unit {0}

  pub Shallow : ℕ → PlainStatement → Type 0
  Shallow n (Placed form place) = FormShallow n form

  pub PartsShallow : ℕ → PlainStatements → Type 0
  PartsShallow n no_statements = Unit {0}
  PartsShallow n (a_statement s ss) = Shallow n s × PartsShallow n ss

-- in the control of each component of a design, within 64 of them at most
abbrev pub IsShallow : PlainDesign → Type 0
IsShallow d = (k : ℕ) → k < length d.components → Shallow 64 (component_at d k).control
