-- On which cells the combinational outputs of a cell wait.
use Rattle.std.specs.Prelude.{ℕ, zero, suc, nat_eq, nat_lt, Bool, true, false, List, [], ◌∷◌, ◌++◌, Option, Some, None, flat_map, if◌then◌else◌}
use Rattle.cx_prim.specs.declared.ports.Side.{Side}
use Rattle.cx_prim.specs.declared.ports.Side.TheVariants as sides
use Rattle.cx_meaning.specs.declared.ports.PortRef.{PortRef}
use Rattle.cx_meaning.specs.declared.ports.PortRef.TheVariants as ports
use Rattle.cx_meaning.specs.Rows.{side_of}
use Rattle.cx_meaning.specs.Designs.{PlainAssign}
use Rattle.cx_meaning.specs.Instances.{Instance, At, Nothing, OfRow, OfInstance, cell_at, cell_count, cells_of, part_of}
use Rattle.cx_meaning.specs.Sights.{PartPort, Go, AnInput, AnOutput, ItsDone, part_port}
use Rattle.cx_rules.specs.Items.{sources_of}
use Rattle.cx_graphs.specs.Graphs.{Edges}
use Rattle.cx_design_parts.specs.Outputs.{read_count}
use Rattle.cx_shape_state.specs.declared.basis.Basis.{Basis}
use Rattle.cx_shape_state.specs.declared.basis.Basis.TheVariants as basis

-- what a port rests on: on state, on nothing, or on what the combinational outputs of a cell wait for
abbrev pub side_basis : ℕ → Side → Basis
side_basis c sides.Enable = basis.Nothing
side_basis c sides.Plain = basis.Nothing
side_basis c sides.Output = basis.Cell c
side_basis c sides.Registered = basis.State

abbrev pub part_basis : PartPort → Basis
part_basis Go = basis.Nothing
part_basis (AnInput n) = basis.Nothing
part_basis (AnOutput n) = basis.State
part_basis ItsDone = basis.State

abbrev pub cell_basis : ℕ → ℕ → At → Basis
cell_basis c p Nothing = basis.Nothing
cell_basis c p (OfRow row) = side_basis c (side_of row p)
cell_basis c p (OfInstance child) = part_basis (part_port (part_of child) p)

abbrev pub input_basis : Bool → Basis
input_basis true = basis.State
input_basis false = basis.Nothing

-- where signature inputs rest on state, or never rest
abbrev pub basis_of : Instance → Bool → PortRef → Basis
basis_of i inputs (ports.Cell c p) = cell_basis c p (cell_at (cells_of i) c)
basis_of i inputs (ports.Input n) = input_basis inputs
basis_of i inputs (ports.Output n) = basis.Nothing
basis_of i inputs (ports.Done g) = basis.Nothing
basis_of i inputs (ports.Literal w v) = basis.State

-- how many of a cell's first inputs its combinational outputs read
abbrev pub reads_at : At → ℕ
reads_at Nothing = 0
reads_at (OfRow row) = read_count row.ports
reads_at (OfInstance child) = 0

-- the cell whose combinational outputs read a port
abbrev pub reader_of : Instance → PortRef → Option ℕ
reader_of i (ports.Cell c m) = if nat_lt m (reads_at (cell_at (cells_of i) c)) then Some c else None
reader_of i (ports.Input n) = None
reader_of i (ports.Output n) = None
reader_of i (ports.Done g) = None
reader_of i (ports.Literal w v) = None

-- for a port: what never rests has a cell wait on itself, so that it never rests either
abbrev pub waits_on : ℕ → Basis → List ℕ
waits_on c basis.State = []
waits_on c basis.Nothing = c ∷ []
waits_on c (basis.Cell d) = d ∷ []

-- a list where the cell is the reader
abbrev pub if_reader : Option ℕ → ℕ → List ℕ → List ℕ
if_reader None c waits = []
if_reader (Some d) c waits = if nat_eq d c then waits else []

-- cell c waits for what continuous assignments of inputs that are read name; where a group drives one it never rests
abbrev pub always_waits : Instance → Bool → ℕ → PlainAssign → List ℕ
always_waits i inputs c a =
    if_reader (reader_of i a.target) c
    (flat_map (λ p. waits_on c (basis_of i inputs p.port)) (sources_of a))

abbrev pub group_waits : Instance → ℕ → PlainAssign → List ℕ
group_waits i c a = if_reader (reader_of i a.target) c (c ∷ [])

abbrev pub waits_of : Instance → Bool → ℕ → List ℕ
waits_of i inputs c =
    flat_map (always_waits i inputs c) (part_of i).always
    ++ flat_map (λ g. flat_map (group_waits i c) g.assigns) (part_of i).groups

-- for so many numbers from one on
abbrev pub tabled : (ℕ → List ℕ) → ℕ → ℕ → Edges
tabled f n zero = []
tabled f n (suc k) = f n ∷ tabled f (suc n) k

-- THE GRAPH of a component: from each cell to those on which it waits
abbrev pub waits : Instance → Bool → Edges
waits i inputs = tabled (waits_of i inputs) 0 (cell_count (cells_of i))
