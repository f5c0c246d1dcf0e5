-- The drivers that connections and assigns give.
use Rattle.std.specs.Prelude.{◌≡◌, ℕ, ◌+◌, ◌<◌, List, [], ◌∷◌, Bool, true, false, Some, IsSome, slice_get, slice_set, unwrap_or}
use Rattle.cx_vtree.specs.Plain.{PlainPort, PlainAssign, PlainConn}
use Rattle.cx_vnets.specs.declared.codes.NetPosition.{NetPosition}
use Rattle.cx_vnets.specs.declared.nets.Driver.{Driver}
use Rattle.cx_vnets.specs.declared.nets.Driver.TheVariants.{Tied, Given}
use Rattle.cx_vnets.specs.ModuleCodes.{Numbering}

-- the number of a name; 0 where it has none
abbrev pub number_or_0 : Numbering → List ℕ → ℕ
number_or_0 nets name = unwrap_or (nets name) 0

-- an output drives the net that it is connected to, and an input is driven by it
abbrev pub tied_by : Bool → ℕ → ℕ → List Driver → List Driver
tied_by true port net drivers = slice_set drivers net (Tied port)
tied_by false port net drivers = slice_set drivers port (Tied net)

-- the ports of an instance whose nets begin at `inner`, from port `k` on, tied to the nets around, which begin at `outer`
abbrev pub tied_ports : Numbering → ℕ → ℕ → ℕ → List PlainPort → List PlainConn → List Driver → List Driver
tied_ports nets inner outer k [] conns drivers = drivers
tied_ports nets inner outer k (p ∷ ps) [] drivers = drivers
tied_ports nets inner outer k (p ∷ ps) (c ∷ cs) drivers =
    tied_ports nets inner outer (k + 1) ps cs
    (tied_by p.output (inner + k) (outer + number_or_0 nets c.net) drivers)

-- the nets of an instance that expressions are assigned to, whose codes are numbered from `first` on
abbrev pub given_nets : Numbering → NetPosition → ℕ → List PlainAssign → List Driver → List Driver
given_nets nets place first [] drivers = drivers
given_nets nets place first (a ∷ rest) drivers =
    given_nets nets place (first + 1) rest
    (slice_set drivers (place.nets + number_or_0 nets a.name) (Given first place))

-- what is numbered from `start` on has its place among so many
abbrev pub AreWithin : Numbering → ℕ → ℕ → Type 0
AreWithin nets start count = (name : List ℕ) (k : ℕ) → nets name ≡ Some k → start + k < count

-- what ports are connected to has numbers
abbrev pub ConnsHaveNumbers : Numbering → List PlainConn → Type 0
ConnsHaveNumbers nets conns = (j : ℕ) (c : PlainConn) → slice_get conns j ≡ Some c → IsSome (nets c.net)
