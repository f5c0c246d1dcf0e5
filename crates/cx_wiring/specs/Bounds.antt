-- Which registers, wires and holes there are, that each target of a driver names one, and that groups are there.
use Rattle.std.specs.Prelude.{ℕ, ◌<◌, List, [], ◌∷◌, length, Option, Some, None}
use Rattle.cx_meaning.specs.declared.ports.PortRef.{PortRef}
use Rattle.cx_meaning.specs.declared.ports.PortRef.TheVariants as ports
use Rattle.cx_meaning.specs.Designs.{PlainForm, Empty, Enable, Seq, Par, If, While, Repeat, StaticSeq, StaticPar, StaticIf, StaticRepeat, Timed, PlainStatement, Placed, PlainStatements, no_statements, a_statement}
use Rattle.cx_meaning.specs.Active.{Owned}
use Rattle.cx_net.specs.Nets.{PlainNetTarget, ToPort, ToRegister, ToWire, ToHole, ToDone, PlainNetDriver, PlainNetComponent}
use Rattle.cx_static.specs.Islands.{PlainOccurrence, PlainIsland}

pub record Bounds : Type 0 where
  pub registers : ℕ
  pub wires : ℕ
  pub holes : ℕ

abbrev pub IsThere : Bounds → PlainNetTarget → Type 0
IsThere b (ToPort p) = Unit {0}
IsThere b (ToRegister n) = n < b.registers
IsThere b (ToWire n) = n < b.wires
IsThere b (ToHole n) = n < b.holes
IsThere b ToDone = Unit {0}

-- a target that has a rank of its own
abbrev pub IsProper : PlainNetTarget → Type 0
IsProper (ToPort (ports.Cell c p)) = Unit {0}
IsProper (ToPort (ports.Output n)) = Unit {0}
IsProper (ToPort (ports.Input n)) = ⊥
IsProper (ToPort (ports.Done g)) = ⊥
IsProper (ToPort (ports.Literal w v)) = ⊥
IsProper (ToRegister n) = Unit {0}
IsProper (ToWire n) = Unit {0}
IsProper (ToHole n) = Unit {0}
IsProper ToDone = Unit {0}

-- all drivers drive what a condition holds of
abbrev pub AllDrive : (PlainNetTarget → Type 0) → List PlainNetDriver → Type 0
AllDrive P [] = Unit {0}
AllDrive P (d ∷ ds) = P d.target × AllDrive P ds

abbrev pub AreThere : Bounds → List PlainNetDriver → Type 0
AreThere b ds = AllDrive (IsThere b) ds

-- a component of so many groups
module _ (groups : ℕ) where
  abbrev pub OccurrencesName : List PlainOccurrence → Type 0
  OccurrencesName [] = Unit {0}
  OccurrencesName (o ∷ rest) = (o.group < groups) × OccurrencesName rest

  abbrev pub IslandNames : Option PlainIsland → Type 0
  IslandNames None = Unit {0}
  IslandNames (Some island) = OccurrencesName island.occurrences

  abbrev pub IslandsName : List PlainIsland → Type 0
  IslandsName [] = Unit {0}
  IslandsName (island ∷ rest) = OccurrencesName island.occurrences × IslandsName rest

  abbrev pub CombNames : Option ℕ → Type 0
  CombNames None = Unit {0}
  CombNames (Some g) = g < groups

  -- the groups that a statement enables, and the comb groups of its tests, are there
  abbrev mutual
    pub FormNames : PlainForm → Type 0
    FormNames Empty = Unit {0}
    FormNames (Enable g) = g < groups
    FormNames (Seq parts) = PartsName parts
    FormNames (Par arms) = PartsName arms
    FormNames (If test comb a b) = CombNames comb × (StatementNames a × StatementNames b)
    FormNames (While test comb a) = CombNames comb × StatementNames a
    FormNames (Repeat count a) = StatementNames a
    FormNames (StaticSeq written parts) = Unit {0}
    FormNames (StaticPar written arms) = Unit {0}
    FormNames (StaticIf written test a b) = Unit {0}
    FormNames (StaticRepeat written count a) = Unit {0}
    FormNames (Timed k) = Unit {0}

    pub StatementNames : PlainStatement → Type 0
    StatementNames (Placed form place) = FormNames form

    pub PartsName : PlainStatements → Type 0
    PartsName no_statements = Unit {0}
    PartsName (a_statement s ss) = StatementNames s × PartsName ss

  abbrev pub TargetNames : PortRef → Type 0
  TargetNames (ports.Done g) = g < groups
  TargetNames (ports.Cell c p) = Unit {0}
  TargetNames (ports.Input n) = Unit {0}
  TargetNames (ports.Output n) = Unit {0}
  TargetNames (ports.Literal w v) = Unit {0}

  -- so are the groups whose done is driven
  abbrev pub AssignsName : List Owned → Type 0
  AssignsName [] = Unit {0}
  AssignsName (a ∷ rest) = TargetNames a.assign.target × AssignsName rest

-- those of a component of a net
abbrev pub bounds_of : PlainNetComponent → Bounds
bounds_of c = record { registers = length c.registers; wires = length c.wires; holes = c.holes }
