-- Which numbered nets stand for the nets of a tree of instances.
use Rattle.std.specs.Prelude.{◌≡◌, ℕ, ◌+◌, List, Some, length, slice_get}
use Rattle.cx_vtree.specs.Plain.{PlainExpr}
use Rattle.cx_vtree.specs.InstanceTree.{Placed, nets_at, Origin, Outside, Tied, Held, Given, origin_of, arrays_at}
use Rattle.cx_vnets.specs.declared.codes.Code.{Code}
use Rattle.cx_vnets.specs.declared.nets.Nets.{Nets}
use Rattle.cx_vnets.specs.declared.nets.Driver.{Driver}
use Rattle.cx_vnets.specs.declared.nets.Driver.TheVariants as driver
use Rattle.cx_vtree.specs.NameNumbers.{position}
use Rattle.cx_vnets.specs.ModuleCodes.{IsCode}
use Rattle.cx_vnets.specs.Numbers.{nets_before, net_number, place_of}

-- the code of a number, among `table`, is an expression of the instance
abbrev pub CodeStands : List Placed → List Code → ℕ → ℕ → PlainExpr → Type 0
CodeStands tree table i c e =
    (code : Code) × (slice_get table c ≡ Some code)
    × IsCode (position (nets_at tree i)) (position (arrays_at tree i)) code e

-- what drives a net of the instance by its number gives it what its origin does
abbrev pub DriverStands : List Placed → List Code → ℕ → Origin → Driver → Type 0
DriverStands tree table i Outside driver.Held = Unit {0}
DriverStands tree table i (Held w) driver.Held = Unit {0}
DriverStands tree table i (Tied j net) (driver.Tied g) = net_number tree j net ≡ Some g
DriverStands tree table i (Given e) (driver.Given c p) = (p ≡ place_of tree i) × CodeStands tree table i c e
DriverStands tree table i o x = ⊥

-- each net of an instance has an origin, and the net of its number a driver that is this origin
pub record NetsStand (tree : List Placed) (n : Nets) : Type 0 where
  pub count : length n.drivers.items ≡ nets_before tree (length tree)
  pub each : (i k : ℕ) (name : List ℕ) → slice_get (nets_at tree i) k ≡ Some name
      → (o : Origin) × (origin_of tree i name ≡ Some o)
      × ((x : Driver) × (slice_get n.drivers.items (nets_before tree i + k) ≡ Some x) ×
      DriverStands tree n.codes.items i o x)
