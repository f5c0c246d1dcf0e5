-- The edges that parts of a component give, between nodes.
use Rattle.std.specs.Prelude.{◌≡◌, ℕ, ◌<◌, Bool, true, false, List, Option, Some, None, if◌then◌else◌}
use Rattle.cx_graphs.specs.Additions.{Link}
use Rattle.cx_prim.specs.declared.ports.Side.{Side}
use Rattle.cx_prim.specs.declared.ports.Side.TheVariants.{Enable, Plain, Output, Registered}
use Rattle.cx_prim.specs.Rows.{Row}
use Rattle.cx_meaning.specs.declared.ports.PortRef.{PortRef}
use Rattle.cx_meaning.specs.declared.ports.PortRef.TheVariants as ports
use Rattle.cx_meaning.specs.declared.ports.PlacedPort.{PlacedPort}
use Rattle.cx_meaning.specs.Rows.{side_of}
use Rattle.cx_meaning.specs.Designs.{PlainAssign}
use Rattle.cx_meaning.specs.Instances.{Instance, OfRow, cell_at, cells_of}
use Rattle.cx_text.specs.Members.{In}
use Rattle.cx_rules.specs.Ports.{is_source_only}
use Rattle.cx_rules.specs.Footprints.{AssignNames}
use Rattle.cx_design_leads.specs.Nodes.{node_of}

-- the node of a port that an assignment can drive
abbrev pub driven_node : Instance → PortRef → Option ℕ
driven_node i p = if is_source_only i p then None else node_of i p

-- from a node to a port, to one of some ports, and to what an assignment names
abbrev pub ToPort : Instance → ℕ → PortRef → Link
ToPort i from q m n = (m ≡ from) × (node_of i q ≡ Some n)

abbrev pub ToPorts : Instance → ℕ → List PlacedPort → Link
ToPorts i from list m n = (m ≡ from) × ((p : PlacedPort) × In list p × (node_of i p.port ≡ Some n))

abbrev pub ToNamed : Instance → ℕ → PlainAssign → Link
ToNamed i from a m n = (m ≡ from) × ((q : PortRef) × AssignNames a q × (node_of i q ≡ Some n))

-- of an assignment, and of a list of them
abbrev pub OfAssign : Instance → PlainAssign → Link
OfAssign i a m n = (driven_node i a.target ≡ Some m) × ((q : PortRef) × AssignNames a q × (node_of i q ≡ Some n))

abbrev pub OfAssigns : Instance → List PlainAssign → Link
OfAssigns i list m n = (a : PlainAssign) × In list a × OfAssign i a m n

-- from a node to the first ports of a cell
abbrev pub ToInputs : Instance → ℕ → ℕ → ℕ → Link
ToInputs i from c count m n = (m ≡ from) × ((q : ℕ) × (q < count) × (node_of i (ports.Cell c q) ≡ Some n))

-- of a combinational output, of the first ports of a row, of a cell, and of the first cells
abbrev pub OfPort : Instance → ℕ → Row → ℕ → Link
OfPort i c row p m n =
    (side_of row p ≡ Output) × (node_of i (ports.Cell c p) ≡ Some m)
    × ((q : ℕ) × (row.reads p q ≡ true) × (node_of i (ports.Cell c q) ≡ Some n))

abbrev pub OfPorts : Instance → ℕ → Row → ℕ → Link
OfPorts i c row count m n = (p : ℕ) × (p < count) × OfPort i c row p m n

abbrev pub OfCell : Instance → ℕ → Link
OfCell i c m n = (row : Row) × (cell_at (cells_of i) c ≡ OfRow row) × ((p : ℕ) × OfPort i c row p m n)

abbrev pub OfCells : Instance → ℕ → Link
OfCells i count m n = (c : ℕ) × (c < count) × OfCell i c m n
