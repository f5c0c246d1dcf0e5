-- When all nets of a tree have the drivers that they should.
use Rattle.std.specs.Prelude.{◌≡◌, ℕ, List, [], Some, IsSome, length, slice_get}
use Rattle.cx_vtree.specs.Plain.{PlainPort, PlainAssign, PlainConn}
use Rattle.cx_vtree.specs.InstanceTree.{Placed, nets_at, Origin, Outside, Tied, Held, Given, origin_of}
use Rattle.cx_vnets.specs.declared.codes.Code.{Code}
use Rattle.cx_vnets.specs.declared.nets.Driver.{Driver}
use Rattle.cx_vnets.specs.declared.nets.Nets.{Nets}
use Rattle.cx_vtree.specs.NameNumbers.{position}
use Rattle.cx_vnets.specs.Flat.{NetsStand}
use Rattle.cx_velab.specs.Driven.{IsRight, NetsAreApart, IsWhole, IsConnected, IsTied}

-- what soundness gives of a tree: each net has an origin, and each port of an instance but `main` a connection at its own place
pub record IsTidy (tree : List Placed) : Type 0 where
  pub apart : NetsAreApart tree
  pub origins : (i k : ℕ) (name : List ℕ) → slice_get (nets_at tree i) k ≡ Some name → IsSome (origin_of tree i name)
  pub main : (p : Placed) → slice_get tree 0 ≡ Some p → p.conns ≡ []
  pub conns : (i : ℕ) (p : Placed) → slice_get tree i ≡ Some p → (i ≡ 0 → ⊥) → length p.conns ≡ length p.part.ports
  pub ports : (i k : ℕ) (p : Placed) (port : PlainPort) → slice_get tree i ≡ Some p → (i ≡ 0 → ⊥)
      → slice_get p.part.ports k ≡ Some port
      → (c : PlainConn) × (slice_get p.conns k ≡ Some c) × (c.port ≡ port.name) × IsConnected tree i p.holder k port c

-- the value of a net is stored
abbrev pub IsStored : Origin → Type 0
IsStored Outside = Unit {0}
IsStored (Tied j net) = ⊥
IsStored (Held w) = Unit {0}
IsStored (Given e) = ⊥

-- what is stored, what ports are connected to, and what is assigned has right drivers
pub record IsDriven (tree : List Placed) (codes : List Code) (drivers : List Driver) : Type 0 where
  pub whole : IsWhole tree drivers
  pub stored : (i k : ℕ) (name : List ℕ) (o : Origin) → slice_get (nets_at tree i) k ≡ Some name
      → origin_of tree i name ≡ Some o → IsStored o → IsRight tree codes drivers i k
  pub ties : (i k n : ℕ) (p : Placed) (port : PlainPort) (c : PlainConn) → slice_get tree i ≡ Some p
      → (i ≡ 0 → ⊥) → slice_get p.part.ports k ≡ Some port → slice_get p.conns k ≡ Some c
      → position (nets_at tree p.holder) c.net ≡ Some n → IsTied tree codes drivers i p.holder k n port.output
  pub givens : (i j n : ℕ) (p : Placed) (a : PlainAssign) → slice_get tree i ≡ Some p
      → slice_get p.part.assigns j ≡ Some a → position (nets_at tree i) a.name ≡ Some n
      → IsRight tree codes drivers i n

-- then all nets have
abbrev pub DrivenStand : Type 0
DrivenStand =
    (tree : List Placed) (n : Nets) → IsTidy tree → IsDriven tree n.codes.items n.drivers.items
    → NetsStand tree n
