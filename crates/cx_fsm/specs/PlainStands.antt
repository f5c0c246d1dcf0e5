-- Where a statement stands, and which islands a component has, as cx_wiring has them.
use Rattle.std.specs.Prelude.{◌≡◌, ℕ, ◌+◌, List, [], ◌∷◌, map}
use Rattle.cx_net.specs.Nets.{PlainNetExpr, OfWire, OfGo}
use Rattle.cx_static.specs.Islands.{PlainIsland}
use Rattle.cx_static.specs.PlainLowered.{plain_island}
use Rattle.cx_wiring.specs.IslandDrivers.{wires_of_island}
use Rattle.cx_wiring.specs.Stands as stands
use Rattle.cx_fsm.specs.declared.stands.Acts.{Acts}
use Rattle.cx_fsm.specs.declared.stands.Acts.TheVariants.{Go, Par}
use Rattle.cx_fsm.specs.declared.stands.Stand.{Stand}
use Rattle.cx_fsm.specs.declared.plans.Plan.{Plan}

-- what says that a region acts
abbrev pub acts_of : Acts → PlainNetExpr
acts_of Go = OfGo
acts_of (Par wire) = OfWire wire

abbrev pub plain_stand : Stand → stands.Stand
plain_stand s =
    record {
      wire = s.wire;
      register = s.register;
      position = s.position;
      region = s.region;
      acts = acts_of s.acts;
    }

-- so many wires, registers and positions further on
abbrev pub past : stands.Stand → ℕ → ℕ → ℕ → stands.Stand
past x wires registers positions = record {
  wire = x.wire + wires;
  register = x.register + registers;
  position = x.position + positions;
  region = x.region;
  acts = x.acts;
}

-- at the same position, with the wires and registers that are left behind another place
abbrev pub beside : stands.Stand → stands.Stand → stands.Stand
beside x other =
    record {
      wire = other.wire;
      register = other.register;
      position = x.position;
      region = x.region;
      acts = x.acts;
    }

abbrev pub islands_of : Plan → List PlainIsland
islands_of plan = map plain_island plan.islands.now

-- the first wires of islands that follow each other
abbrev pub firsts_from : ℕ → List PlainIsland → List ℕ
firsts_from wire [] = []
firsts_from wire (island ∷ rest) = wire ∷ firsts_from (wire + wires_of_island island) rest

-- the wires of the islands come behind the offsets of the groups
abbrev pub HasFirsts : Plan → Type 0
HasFirsts plan = plan.firsts.items ≡ firsts_from plan.groups (islands_of plan)
