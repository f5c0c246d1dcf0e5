-- What the guards and sources of a component's assignments look at, in one cycle of a net: each port has its value, those that stand
-- alone in a guard are bits, and of each group it is known whether it goes and at which offset.
use Rattle.std.specs.Prelude.{◌≡◌, ℕ, ◌+◌, Bool, false, List, [], ◌∷◌, Option, Some, None, if◌then◌else◌}
use Rattle.cx_bits.specs.BitVector.{BitVector}
use Rattle.cx_meaning.specs.Designs.{PlainGuard, Always, Atom, Negation, All, Any, Compared, Within, PlainGuards, no_guards, a_guard}
use Rattle.cx_meaning.specs.Active.{Active, Owned}
use Rattle.cx_control.specs.Flows.{Values, is_set, guard_on}
use Rattle.cx_net.specs.Nets.{OfPort, OfWire, OfHole}
use Rattle.cx_net.specs.NetMeaning.{Node, NetAround}
use Rattle.cx_wiring.specs.Takings.{value, Says}

-- the groups that go, each at the offset that is the value of its wire
abbrev pub going_set : (ℕ → Bool) → (ℕ → BitVector) → Active
going_set goes at = record { offset = λ g. if goes g then Some (at g).value else None; done_cell = None }

-- a guard of an assignment that may act at an offset
abbrev pub acts_on : Values → Option ℕ → PlainGuard → Bool
acts_on v None guard = false
acts_on v (Some at) guard = guard_on v at guard

module _ (around : NetAround) (registers : ℕ → Option BitVector) (look : Node → Option BitVector) where
  module _ (v : Values) where
    abbrev mutual
      pub GuardPorts : PlainGuard → Type 0
      GuardPorts Always = Unit {0}
      GuardPorts (Atom p) = Says around registers look (OfPort p.port) (is_set (v p.port))
      GuardPorts (Negation g) = GuardPorts g
      GuardPorts (All gs) = PartsPorts gs
      GuardPorts (Any gs) = PartsPorts gs
      GuardPorts (Compared c a b) =
          (value around registers look (OfPort a.port) ≡ Some (v a.port))
          × (value around registers look (OfPort b.port) ≡ Some (v b.port))
      GuardPorts (Within from to) = Unit {0}

      pub PartsPorts : PlainGuards → Type 0
      PartsPorts no_guards = Unit {0}
      PartsPorts (a_guard g gs) = GuardPorts g × PartsPorts gs

  -- of so many groups
  module _ (groups : ℕ) (goes : ℕ → Bool) (at : ℕ → BitVector) where
    abbrev pub GroupSays : ℕ → Type 0
    GroupSays g =
        Says around registers look (OfHole (groups + g)) (goes g)
        × (value around registers look (OfWire g) ≡ Some (at g))

    abbrev pub OwnerSays : Option ℕ → Type 0
    OwnerSays None = Unit {0}
    OwnerSays (Some g) = GroupSays g

    module _ (v : Values) where
      pub record AssignHolds (a : Owned) : Type 0 where
        pub owner : OwnerSays a.owner
        pub guard : GuardPorts v a.assign.guard
        pub source : value around registers look (OfPort a.assign.source.port) ≡ Some (v a.assign.source.port)

      abbrev pub AssignsHold : List Owned → Type 0
      AssignsHold [] = Unit {0}
      AssignsHold (a ∷ rest) = AssignHolds a × AssignsHold rest
