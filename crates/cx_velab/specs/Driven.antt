-- When a table of drivers is right for the nets of a tree of instances.
use Rattle.std.specs.Prelude.{◌≡◌, ℕ, ◌+◌, List, Bool, true, false, Some, length, slice_get}
use Rattle.cx_vtree.specs.Plain.{PlainPort, PlainAssign, PlainConn}
use Rattle.cx_vtree.specs.InstanceTree.{Placed, nets_at, Origin, Tied, Given, origin_of}
use Rattle.cx_vnets.specs.declared.codes.Code.{Code}
use Rattle.cx_vnets.specs.declared.nets.Driver.{Driver}
use Rattle.cx_vtree.specs.NameNumbers.{position}
use Rattle.cx_vnets.specs.Numbers.{nets_before, place_of}
use Rattle.cx_vnets.specs.Flat.{CodeStands, DriverStands}
use Rattle.cx_velab.specs.Ties.{tied_ports, given_nets}

-- the net has an origin, and its number a driver that is this origin
abbrev pub IsRight : List Placed → List Code → List Driver → ℕ → ℕ → Type 0
IsRight tree codes drivers i k = (name : List ℕ) → slice_get (nets_at tree i) k ≡ Some name
    → (o : Origin) × (origin_of tree i name ≡ Some o)
    ×
    ((x : Driver) × (slice_get drivers (nets_before tree i + k) ≡ Some x) × DriverStands tree codes i o x)

-- what was right stays right
abbrev pub KeepsRight : List Placed → List Code → List Driver → List Driver → Type 0
KeepsRight tree codes old new = (i k : ℕ) → IsRight tree codes old i k → IsRight tree codes new i k

-- no instance has two nets of one name
abbrev pub NetsAreApart : List Placed → Type 0
NetsAreApart tree =
    (i k h : ℕ) (name : List ℕ) → slice_get (nets_at tree i) k ≡ Some name
    → slice_get (nets_at tree i) h ≡ Some name → k ≡ h

-- there is a driver for each net of the tree
abbrev pub IsWhole : List Placed → List Driver → Type 0
IsWhole tree drivers = length drivers ≡ nets_before tree (length tree)

-- a connection of an output is the origin of the net around, and one of an input that of the input
abbrev pub TellsOrigin : List Placed → ℕ → ℕ → List ℕ → List ℕ → Bool → Type 0
TellsOrigin tree i holder port net true = origin_of tree holder net ≡ Some (Tied i port)
TellsOrigin tree i holder port net false = origin_of tree i port ≡ Some (Tied holder net)

-- the port of number k is the net of that number, and is connected to a net of the instance around
pub record IsConnected (tree : List Placed) (i holder k : ℕ) (port : PlainPort) (c : PlainConn) : Type 0 where
  pub number : ℕ
  pub own : slice_get (nets_at tree i) k ≡ Some port.name
  pub net : position (nets_at tree holder) c.net ≡ Some number
  pub origin : TellsOrigin tree i holder port.name c.net port.output

-- the number of the net that a connection drives is right
abbrev pub IsTied : List Placed → List Code → List Driver → ℕ → ℕ → ℕ → ℕ → Bool → Type 0
IsTied tree codes drivers i holder k number true = IsRight tree codes drivers holder number
IsTied tree codes drivers i holder k number false = IsRight tree codes drivers i k

-- ports that are tied keep what is right, and are right
abbrev pub TiesAreRight : Type 0
TiesAreRight =
    (tree : List Placed) (codes : List Code) (i holder : ℕ) (ports : List PlainPort)
    (conns : List PlainConn) (drivers : List Driver)
    → NetsAreApart tree → IsWhole tree drivers
    → ((k : ℕ) (port : PlainPort) (c : PlainConn) → slice_get ports k ≡ Some port →
    slice_get conns k ≡ Some c → IsConnected tree i holder k port c)
    → KeepsRight tree codes drivers (tied_ports (position (nets_at tree holder)) (nets_before tree i)
    (nets_before tree holder) 0 ports conns drivers)
    × IsWhole tree (tied_ports (position (nets_at tree holder)) (nets_before tree i)
    (nets_before tree holder) 0 ports conns drivers)
    × ((k : ℕ) (port : PlainPort) (c : PlainConn) (n : ℕ) → slice_get ports k ≡ Some port →
    slice_get conns k ≡ Some c → position (nets_at tree holder) c.net ≡ Some n
    → IsTied tree codes (tied_ports (position (nets_at tree holder)) (nets_before tree i)
    (nets_before tree holder) 0 ports conns drivers) i holder k n port.output)

-- an assign is the origin of its net, and the code of this number is its expression
pub record IsGiven (tree : List Placed) (codes : List Code) (i code : ℕ) (a : PlainAssign) : Type 0 where
  pub number : ℕ
  pub net : position (nets_at tree i) a.name ≡ Some number
  pub origin : origin_of tree i a.name ≡ Some (Given a.value)
  pub coded : CodeStands tree codes i code a.value

-- nets that codes are given to keep what is right, and are right
abbrev pub GivensAreRight : Type 0
GivensAreRight =
    (tree : List Placed) (codes : List Code) (i first : ℕ) (assigns : List PlainAssign)
    (drivers : List Driver)
    → NetsAreApart tree → IsWhole tree drivers
    → ((j : ℕ) (a : PlainAssign) → slice_get assigns j ≡ Some a → IsGiven tree codes i (first + j) a)
    → KeepsRight tree codes drivers (given_nets (position (nets_at tree i)) (place_of tree i) first assigns drivers)
    × IsWhole tree (given_nets (position (nets_at tree i)) (place_of tree i) first assigns drivers)
    × ((j : ℕ) (a : PlainAssign) (n : ℕ) → slice_get assigns j ≡ Some a → position (nets_at tree i) a.name ≡ Some n
    → IsRight tree codes (given_nets (position (nets_at tree i)) (place_of tree i) first assigns drivers) i n)
