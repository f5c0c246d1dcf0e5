-- What statements read and drive, what ports rest on state, and what depends on what.
use Rattle.std.specs.Prelude.{◌≡◌, ℕ, ◌⊎◌, true, List}
use Rattle.cx_text.specs.Members.{In}
use Rattle.cx_prim.specs.declared.ports.Side.{Side}
use Rattle.cx_prim.specs.declared.ports.Side.TheVariants as sides
use Rattle.cx_prim.specs.Rows.{Row}
use Rattle.cx_meaning.specs.declared.ports.PortRef.{PortRef}
use Rattle.cx_meaning.specs.declared.ports.PortRef.TheVariants as ports
use Rattle.cx_meaning.specs.declared.ports.PlacedPort.{PlacedPort}
use Rattle.cx_meaning.specs.Rows.{side_of}
use Rattle.cx_meaning.specs.Designs.{PlainAssign, PlainComponent, group_at, PlainStatement}
use Rattle.cx_meaning.specs.Instances.{Instance, At, Nothing, OfRow, OfInstance, cell_at, cells_of, part_of}
use Rattle.cx_meaning.specs.Active.{Active, Acting, drivers}
use Rattle.cx_meaning.specs.Sights.{GuardNames, IsWanted, PartPort, Go, AnInput, AnOutput, ItsDone, part_port}
use Rattle.cx_meaning.specs.Control.{groups_of, drives}
use Rattle.cx_rules.specs.Items.{tests_of}

-- an assignment names a port as its source or in its guard
abbrev pub AssignNames : PlainAssign → PortRef → Type 0
AssignNames a q = GuardNames a.guard q ⊎ (a.source.port ≡ q)

-- READS: the least set of cells that holds the cells that the statement drives, the cells named in sources and guards of
-- its groups and in its conditions, and with each cell those named by continuous assignments that drive a port of it
pub data Reads (part : PlainComponent) (s : PlainStatement) : ℕ → Type 0 where
  driven : {c : ℕ} → drives part s c ≡ true → Reads part s c
  named : {c : ℕ} (p g : ℕ) (a : PlainAssign) → In (groups_of s) g → In (group_at part g).assigns a
      → AssignNames a (ports.Cell c p) → Reads part s c
  tested : {c : ℕ} (p : ℕ) (test : PlacedPort) → In (tests_of s) test → test.port ≡ ports.Cell c p → Reads part s c
  through : {e : ℕ} (c p q : ℕ) (a : PlainAssign) → Reads part s c → In part.always a
      → a.target ≡ ports.Cell c p → AssignNames a (ports.Cell e q) → Reads part s e

-- RESTS ON STATE, the least relation that these rules give: literals, signature inputs and registered outputs do, among them
-- every output and the done of a component cell. A combinational output does if no group drives an input that it reads,
-- and every port that a continuous assignment of such an input names rests on state
pub data Rests (i : Instance) : PortRef → Type 0 where
  literal_rests : {w v : ℕ} → Rests i (ports.Literal w v)
  input_rests : {n : ℕ} → Rests i (ports.Input n)
  registered_rests : {c p : ℕ} (row : Row) → cell_at (cells_of i) c ≡ OfRow row
      → side_of row p ≡ sides.Registered → Rests i (ports.Cell c p)
  output_rests : {c p : ℕ} (n : ℕ) (child : Instance) → cell_at (cells_of i) c ≡ OfInstance child
      → part_port (part_of child) p ≡ AnOutput n → Rests i (ports.Cell c p)
  done_rests : {c p : ℕ} (child : Instance) → cell_at (cells_of i) c ≡ OfInstance child
      → part_port (part_of child) p ≡ ItsDone → Rests i (ports.Cell c p)
  combinational_rests : {c p : ℕ} (row : Row) → cell_at (cells_of i) c ≡ OfRow row → side_of row p ≡ sides.Output
      → ((m g : ℕ) (a : PlainAssign) → row.reads p m ≡ true → In (group_at (part_of i) g).assigns a →
      a.target ≡ ports.Cell c m → ⊥)
      → ((m : ℕ) (a : PlainAssign) (q : PortRef) → row.reads p m ≡ true → In (part_of i).always a →
      a.target ≡ ports.Cell c m → AssignNames a q → Rests i q)
      → Rests i (ports.Cell c p)

-- what the sources and guards of active assignments name
abbrev pub Mentions : List Acting → PortRef → Type 0
Mentions acts q = (a : Acting) × In acts a × AssignNames a.assign q

module _ (part : PlainComponent) (act : Active) where
  abbrev pub SideLeads : Row → ℕ → ℕ → Side → PortRef → Type 0
  SideLeads row c p sides.Enable q = Mentions (drivers part act (ports.Cell c p)) q
  SideLeads row c p sides.Plain q = Mentions (drivers part act (ports.Cell c p)) q
  SideLeads row c p sides.Output q = IsWanted c (row.reads p) q
  SideLeads row c p sides.Registered q = ⊥

  abbrev pub PartLeads : ℕ → ℕ → PartPort → PortRef → Type 0
  PartLeads c p Go q = Mentions (drivers part act (ports.Cell c p)) q
  PartLeads c p (AnInput n) q = Mentions (drivers part act (ports.Cell c p)) q
  PartLeads c p (AnOutput n) q = ⊥
  PartLeads c p ItsDone q = ⊥

  abbrev pub CellLeads : ℕ → ℕ → At → PortRef → Type 0
  CellLeads c p Nothing q = ⊥
  CellLeads c p (OfRow row) q = SideLeads row c p (side_of row p) q
  CellLeads c p (OfInstance child) q = PartLeads c p (part_port (part_of child) p) q

-- a port depends on another at once: by an active assignment, or as an output on an input that it reads
abbrev pub Leads : Instance → Active → PortRef → PortRef → Type 0
Leads i act (ports.Cell c p) q = CellLeads (part_of i) act c p (cell_at (cells_of i) c) q
Leads i act (ports.Input n) q = ⊥
Leads i act (ports.Output n) q = Mentions (drivers (part_of i) act (ports.Output n)) q
Leads i act (ports.Done g) q = Mentions (drivers (part_of i) act (ports.Done g)) q
Leads i act (ports.Literal w v) q = ⊥

-- DEPENDS under an active set, by a chain of one or more
pub data Depends (i : Instance) (act : Active) : PortRef → PortRef → Type 0 where
  at_once : {p q : PortRef} → Leads i act p q → Depends i act p q
  by_way_of : {p q : PortRef} (r : PortRef) → Leads i act p r → Depends i act r q → Depends i act p q
