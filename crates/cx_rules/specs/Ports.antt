-- Ports of a component: their widths, their sides, and their names in messages.
use Rattle.std.specs.Prelude.{ℕ, zero, suc, ◌^◌, nat_lt, nat_le, Bool, true, false, ◌&&◌, not, List, [], ◌∷◌, ◌++◌, Option, Some, None, codes, decimal, length, slice_get, option_map, if◌then◌else◌}
use Rattle.cx_prim.specs.declared.ports.PortRow.{PortRow}
use Rattle.cx_prim.specs.PortNames.{text_of}
use Rattle.cx_prim.specs.Rows.{is_output_side}
use Rattle.cx_meaning.specs.declared.ports.PortRef.{PortRef}
use Rattle.cx_meaning.specs.declared.ports.PortRef.TheVariants as ports
use Rattle.cx_meaning.specs.declared.kinds.PortDecl.{PortDecl}
use Rattle.cx_meaning.specs.Rows.{side_of}
use Rattle.cx_meaning.specs.Designs.{PlainComponent, PlainDesign, PlainCell, group_at}
use Rattle.cx_meaning.specs.Instances.{Instance, At, Nothing, OfRow, OfInstance, cell_at, cells_of, part_of, tree_within}
use Rattle.cx_meaning.specs.Sights.{PartPort, Go, AnInput, AnOutput, ItsDone, part_port}
use Rattle.cx_meaning.specs.Calls.{enables_at}

-- component k of a design with what is below it; no tree has more levels than there are components
abbrev pub component_of : PlainDesign → ℕ → Instance
component_of d k = tree_within d (length d.components) k

-- WIDTHS in bits. A literal has its width where it is one of 1 to 128 bits that the value fits
abbrev pub keeps_literal : ℕ → ℕ → Bool
keeps_literal w v = nat_le 1 w && nat_le w 128 && nat_lt v (2 ^ w)

abbrev pub declared_width : List PortDecl → ℕ → Option ℕ
declared_width decls n = option_map (λ decl. decl.width) (slice_get decls n)

abbrev pub part_width : PlainComponent → PartPort → Option ℕ
part_width part Go = Some 1
part_width part (AnInput n) = declared_width part.inputs n
part_width part (AnOutput n) = declared_width part.outputs n
part_width part ItsDone = Some 1

abbrev pub cell_width : At → ℕ → Option ℕ
cell_width Nothing p = None
cell_width (OfRow row) p = option_map (λ port. port.width) (slice_get row.ports p)
cell_width (OfInstance child) p = part_width (part_of child) (part_port (part_of child) p)

abbrev pub width_of : Instance → PortRef → Option ℕ
width_of i (ports.Cell c p) = cell_width (cell_at (cells_of i) c) p
width_of i (ports.Input n) = declared_width (part_of i).inputs n
width_of i (ports.Output n) = declared_width (part_of i).outputs n
width_of i (ports.Done g) = Some 1
width_of i (ports.Literal w v) = if keeps_literal w v then Some w else None

-- a literal's width as it is written
abbrev pub written_width : Instance → PortRef → Option ℕ
written_width i (ports.Cell c p) = width_of i (ports.Cell c p)
written_width i (ports.Input n) = width_of i (ports.Input n)
written_width i (ports.Output n) = width_of i (ports.Output n)
written_width i (ports.Done g) = width_of i (ports.Done g)
written_width i (ports.Literal w v) = Some w

-- SIDES
abbrev pub is_part_output : PartPort → Bool
is_part_output Go = false
is_part_output (AnInput n) = false
is_part_output (AnOutput n) = true
is_part_output ItsDone = true

abbrev pub is_part_done : PartPort → Bool
is_part_done Go = false
is_part_done (AnInput n) = false
is_part_done (AnOutput n) = false
is_part_done ItsDone = true

abbrev pub is_cell_output : At → ℕ → Bool
is_cell_output Nothing p = false
is_cell_output (OfRow row) p = is_output_side (side_of row p)
is_cell_output (OfInstance child) p = is_part_output (part_port (part_of child) p)

-- an output of a cell, or an input of the signature: no target
abbrev pub is_source_only : Instance → PortRef → Bool
is_source_only i (ports.Cell c p) = is_cell_output (cell_at (cells_of i) c) p
is_source_only i (ports.Input n) = true
is_source_only i (ports.Output n) = false
is_source_only i (ports.Done g) = false
is_source_only i (ports.Literal w v) = false

-- an input of a cell, or an output of the signature: no source
abbrev pub is_target_only : Instance → PortRef → Bool
is_target_only i (ports.Cell c p) = not (is_cell_output (cell_at (cells_of i) c) p)
is_target_only i (ports.Input n) = false
is_target_only i (ports.Output n) = true
is_target_only i (ports.Done g) = false
is_target_only i (ports.Literal w v) = false

-- an enabling port of a primitive cell
abbrev pub is_primitive_enable : Instance → PortRef → Bool
is_primitive_enable i (ports.Cell c p) = enables_at (cell_at (cells_of i) c) p
is_primitive_enable i (ports.Input n) = false
is_primitive_enable i (ports.Output n) = false
is_primitive_enable i (ports.Done g) = false
is_primitive_enable i (ports.Literal w v) = false

abbrev pub is_instance : At → Bool
is_instance Nothing = false
is_instance (OfRow row) = false
is_instance (OfInstance child) = true

-- a port of a component cell
abbrev pub is_part_port : Instance → PortRef → Bool
is_part_port i (ports.Cell c p) = is_instance (cell_at (cells_of i) c)
is_part_port i (ports.Input n) = false
is_part_port i (ports.Output n) = false
is_part_port i (ports.Done g) = false
is_part_port i (ports.Literal w v) = false

-- NAMES in messages: r.in, x, g[done], and a literal as its width, 'd and its value
abbrev pub declared_name : List PortDecl → ℕ → List ℕ
declared_name [] n = []
declared_name (decl ∷ decls) zero = decl.name
declared_name (decl ∷ decls) (suc n) = declared_name decls n

abbrev pub part_port_name : PlainComponent → PartPort → List ℕ
part_port_name part Go = codes "go"
part_port_name part (AnInput n) = declared_name part.inputs n
part_port_name part (AnOutput n) = declared_name part.outputs n
part_port_name part ItsDone = codes "done"

abbrev pub row_port_name : List PortRow → ℕ → List ℕ
row_port_name [] p = []
row_port_name (port ∷ ports) zero = text_of port.name
row_port_name (port ∷ ports) (suc p) = row_port_name ports p

abbrev pub cell_port_name : At → ℕ → List ℕ
cell_port_name Nothing p = []
cell_port_name (OfRow row) p = row_port_name row.ports p
cell_port_name (OfInstance child) p = part_port_name (part_of child) (part_port (part_of child) p)

abbrev pub cell_name : List PlainCell → ℕ → List ℕ
cell_name [] c = []
cell_name (cell ∷ cells) zero = cell.name
cell_name (cell ∷ cells) (suc c) = cell_name cells c

-- a port as a message names it
abbrev pub path_of : Instance → PortRef → List ℕ
path_of i (ports.Cell c p) = cell_name (part_of i).cells c ++ codes "." ++ cell_port_name (cell_at (cells_of i) c) p
path_of i (ports.Input n) = declared_name (part_of i).inputs n
path_of i (ports.Output n) = declared_name (part_of i).outputs n
path_of i (ports.Done g) = (group_at (part_of i) g).name ++ codes "[done]"
path_of i (ports.Literal w v) = decimal w ++ codes "'d" ++ decimal v
