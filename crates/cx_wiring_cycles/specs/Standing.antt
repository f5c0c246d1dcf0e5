-- Where the registers show control, seen from a statement, and what the net's drivers of a statement do in a cycle in which
-- control is elsewhere.
use Rattle.std.specs.Prelude.{◌≡◌, ℕ, zero, suc, ◌+◌, ◌<◌, ◌≤◌, ◌⊎◌, Bool, false, List, Option, Some}
use Rattle.cx_bits.specs.BitVector.{BitVector}
use Rattle.cx_meaning.specs.declared.ports.PortRef.{PortRef}
use Rattle.cx_meaning.specs.Designs.{PlainForm, Empty, Enable, Seq, Par, If, While, Repeat, StaticSeq, StaticPar, StaticIf, StaticRepeat, Timed, PlainStatement, Placed, PlainStatements, no_statements, a_statement}
use Rattle.cx_net.specs.Nets.{PlainNetExpr, OfPort, OfHole, PlainNetDriver}
use Rattle.cx_net.specs.NetMeaning.{Node, NetAround}
use Rattle.cx_wiring.specs.Stands.{Stand, end_of}
use Rattle.cx_wiring.specs.Takings.{Says, AllIdle}

-- a region does not act, or its register is below the first of so many positions, or above them
abbrev pub IsStopped : Bool → ℕ → ℕ → ℕ → Type 0
IsStopped acts r position size = (acts ≡ false) ⊎ ((r < position) ⊎ (position + size ≤ r))

module _ (around : NetAround) (registers : ℕ → Option BitVector) (look : Node → Option BitVector) where
  -- a region acts or does not, and its register has this value
  pub record IsIn (acts : PlainNetExpr) (region : ℕ) (acting : Bool) (r : ℕ) : Type 0 where
    pub acts_so : Says around registers look acts acting
    pub width : ℕ
    pub at_position : registers region ≡ Some (record { width = width; value = r })

  -- the statement is not in its last turn, and nothing that it drives acts
  pub record Away (x : Stand) (ds : List PlainNetDriver) : Type 0 where
    pub ends : Says around registers look (end_of x.wire) false
    pub idle : AllIdle around registers look ds

  -- the holes of groups that a statement enables, and the ports of its tests, are these bits
  module _ (hole : ℕ → Bool) (port : PortRef → Bool) where
    abbrev mutual
      pub FormBits : PlainForm → Type 0
      FormBits Empty = Unit {0}
      FormBits (Enable g) = Says around registers look (OfHole g) (hole g)
      FormBits (Seq parts) = PartsBits parts
      FormBits (Par arms) = PartsBits arms
      FormBits (If test comb a b) =
          Says around registers look (OfPort test.port) (port test.port)
          × (StatementBits a × StatementBits b)
      FormBits (While test comb a) = Says around registers look (OfPort test.port) (port test.port) × StatementBits a
      FormBits (Repeat zero a) = Unit {0}
      FormBits (Repeat (suc n) a) = StatementBits a
      FormBits (StaticSeq written parts) = Unit {0}
      FormBits (StaticPar written arms) = Unit {0}
      FormBits (StaticIf written test a b) = Unit {0}
      FormBits (StaticRepeat written count a) = Unit {0}
      FormBits (Timed k) = Unit {0}

      pub StatementBits : PlainStatement → Type 0
      StatementBits (Placed form place) = FormBits form

      pub PartsBits : PlainStatements → Type 0
      PartsBits no_statements = Unit {0}
      PartsBits (a_statement s ss) = StatementBits s × PartsBits ss
