-- Names of a tree's parts, and the numbers that they stand for: the place among the names of their kind, the first of equal ones.
use Rattle.std.specs.Prelude.{ℕ, suc, Bool, true, false, ◌&&◌, ◌||◌, not, nat_eq, List, [], ◌∷◌, ◌++◌, Option, Some, None, codes, map, is_some, if◌then◌else◌}
use Rattle.cx_prim.specs.declared.names.PrimitiveName.{PrimitiveName}
use Rattle.cx_prim.specs.declared.names.PrimitiveName.TheVariants as primitives
use Rattle.cx_prim.specs.PrimitiveNames.{name_text}
use Rattle.cx_prim.specs.PortNames.{text_of}
use Rattle.cx_prim.specs.Table.{PrimitiveRow, row_of}
use Rattle.cx_ast.specs.declared.components.Attribute.{Attribute}
use Rattle.cx_ast.specs.declared.components.Mark.{Mark}
use Rattle.cx_ast.specs.PlainTree as ast

-- two equal names
abbrev pub same_name : List ℕ → List ℕ → Bool
same_name [] [] = true
same_name [] (b ∷ ys) = false
same_name (a ∷ xs) [] = false
same_name (a ∷ xs) (b ∷ ys) = nat_eq a b && same_name xs ys

abbrev pub later : Option ℕ → Option ℕ
later None = None
later (Some n) = Some (suc n)

-- the place of a name in a list of names
abbrev pub number_of : List ℕ → List (List ℕ) → Option ℕ
number_of name [] = None
number_of name (x ∷ xs) = if same_name x name then Some 0 else later (number_of name xs)

abbrev pub is_among : List ℕ → List (List ℕ) → Bool
is_among name names = is_some (number_of name names)

-- the primitives that a text can name, all but the internal timer
abbrev pub primitive_names : List PrimitiveName
primitive_names =
    primitives.Const ∷ primitives.Wire ∷ primitives.Add ∷ primitives.Sub ∷ primitives.And ∷ primitives.Or
    ∷ primitives.Xor ∷ primitives.Not
    ∷ primitives.Lsh ∷ primitives.Rsh ∷ primitives.Lt ∷ primitives.Gt ∷ primitives.Equal ∷ primitives.Neq
    ∷ primitives.Le ∷ primitives.Ge
    ∷ primitives.Slt ∷ primitives.Sgt ∷ primitives.Seq ∷ primitives.Sneq ∷ primitives.Sle ∷ primitives.Sge
    ∷ primitives.Slice ∷ primitives.Pad
    ∷ primitives.Mux ∷ primitives.Reg ∷ primitives.StdMemD1 ∷ primitives.StdMemD2 ∷ primitives.StdMemD3
    ∷ primitives.StdMemD4
    ∷ primitives.CombMemD1 ∷ primitives.CombMemD2 ∷ primitives.CombMemD3 ∷ primitives.CombMemD4
    ∷ primitives.SeqMemD1 ∷ primitives.SeqMemD2 ∷ primitives.SeqMemD3 ∷ primitives.SeqMemD4
    ∷ primitives.MultPipe ∷ primitives.DivPipe ∷ []

abbrev pub primitive_among : List ℕ → List PrimitiveName → Option PrimitiveName
primitive_among name [] = None
primitive_among name (p ∷ ps) = if same_name (name_text p) name then Some p else primitive_among name ps

-- the primitive of a name
abbrev pub primitive_of : List ℕ → Option PrimitiveName
primitive_of name = primitive_among name primitive_names

-- go, clk, reset and done are ports of every component, whether its signature names them or not
abbrev pub own_names : List (List ℕ)
own_names = codes "go" ∷ codes "clk" ∷ codes "reset" ∷ codes "done" ∷ []

abbrev pub is_own_name : List ℕ → Bool
is_own_name name = is_among name own_names

-- the other ports of a signature, in source order
abbrev pub if_not_own : Bool → ast.PlainPort → List ast.PlainPort → List ast.PlainPort
if_not_own true port rest = rest
if_not_own false port rest = port ∷ rest

abbrev pub signature_ports : List ast.PlainPort → List ast.PlainPort
signature_ports [] = []
signature_ports (port ∷ rest) = if_not_own (is_own_name port.name) port (signature_ports rest)

abbrev pub port_names : List ast.PlainPort → List (List ℕ)
port_names list = map (λ port. port.name) (signature_ports list)

abbrev pub component_names : ast.PlainTree → List (List ℕ)
component_names tree = map (λ part. part.name) tree.components

abbrev pub cell_names : ast.PlainComponent → List (List ℕ)
cell_names part = map (λ cell. cell.name) part.cells

-- the groups and the continuous assignments, each in source order
abbrev pub groups_in : List ast.PlainWire → List ast.PlainGroup
groups_in [] = []
groups_in (ast.Group g ∷ rest) = g ∷ groups_in rest
groups_in (ast.Assign a ∷ rest) = groups_in rest

abbrev pub always_in : List ast.PlainWire → List ast.PlainAssign
always_in [] = []
always_in (ast.Group g ∷ rest) = always_in rest
always_in (ast.Assign a ∷ rest) = a ∷ always_in rest

abbrev pub group_names : ast.PlainComponent → List (List ℕ)
group_names part = map (λ g. g.name) (groups_in part.wires)

-- the component of a name; none where there is none
abbrev pub component_among : List ℕ → List ast.PlainComponent → Option ast.PlainComponent
component_among name [] = None
component_among name (part ∷ parts) = if same_name part.name name then Some part else component_among name parts

abbrev pub cell_among : List ℕ → List ast.PlainCell → Option ast.PlainCell
cell_among name [] = None
cell_among name (cell ∷ cells) = if same_name cell.name name then Some cell else cell_among name cells

abbrev pub group_among : List ℕ → List ast.PlainGroup → Option ast.PlainGroup
group_among name [] = None
group_among name (g ∷ gs) = if same_name g.name name then Some g else group_among name gs

-- what a cell is of: a primitive's name is the primitive's, also where a component has that name
pub data CellOf : Type 0 where
  Neither : CellOf
  APrimitive : (primitive : PrimitiveRow) → CellOf
  AComponent : (component : ast.PlainComponent) → CellOf

abbrev pub or_component : Option ast.PlainComponent → CellOf
or_component None = Neither
or_component (Some part) = AComponent part

abbrev pub primitive_or : Option PrimitiveName → List ℕ → Option ast.PlainComponent → CellOf
primitive_or (Some name) numbers part = APrimitive (record { name = name; numbers = numbers })
primitive_or None numbers part = or_component part

abbrev pub cell_of : ast.PlainTree → ast.PlainCell → CellOf
cell_of tree cell = primitive_or (primitive_of cell.kind) cell.numbers (component_among cell.kind tree.components)

-- the names of a cell's ports in order; those of a component's cell are go, its inputs, its outputs, done
abbrev pub cell_port_names : CellOf → List (List ℕ)
cell_port_names Neither = []
cell_port_names (APrimitive primitive) = map (λ port. text_of port.name) (row_of primitive).ports
cell_port_names (AComponent part) =
    codes "go" ∷ (port_names part.inputs ++ (port_names part.outputs ++ (codes "done" ∷ [])))

abbrev pub found_cell_ports : ast.PlainTree → Option ast.PlainCell → List (List ℕ)
found_cell_ports tree None = []
found_cell_ports tree (Some cell) = cell_port_names (cell_of tree cell)

-- the latency of a cell's component, which a static component has
abbrev pub latency_of : CellOf → Option ℕ
latency_of Neither = None
latency_of (APrimitive primitive) = None
latency_of (AComponent part) = part.length

abbrev pub found_latency : ast.PlainTree → Option ast.PlainCell → Option ℕ
found_latency tree None = None
found_latency tree (Some cell) = latency_of (cell_of tree cell)

-- the go port of a cell, which an invoke drives
abbrev pub go_name : PrimitiveName → Option (List ℕ)
go_name primitives.Reg = Some (codes "write_en")
go_name primitives.StdMemD1 = Some (codes "write_en")
go_name primitives.StdMemD2 = Some (codes "write_en")
go_name primitives.StdMemD3 = Some (codes "write_en")
go_name primitives.StdMemD4 = Some (codes "write_en")
go_name primitives.CombMemD1 = Some (codes "write_en")
go_name primitives.CombMemD2 = Some (codes "write_en")
go_name primitives.CombMemD3 = Some (codes "write_en")
go_name primitives.CombMemD4 = Some (codes "write_en")
go_name primitives.SeqMemD1 = Some (codes "content_en")
go_name primitives.SeqMemD2 = Some (codes "content_en")
go_name primitives.SeqMemD3 = Some (codes "content_en")
go_name primitives.SeqMemD4 = Some (codes "content_en")
go_name primitives.MultPipe = Some (codes "go")
go_name primitives.DivPipe = Some (codes "go")
go_name _ = None

abbrev pub cell_go : CellOf → Option (List ℕ)
cell_go Neither = None
cell_go (APrimitive primitive) = go_name primitive.name
cell_go (AComponent part) = Some (codes "go")

-- a part is external by @external or by a mark, with a number other than 0 or without one
abbrev pub is_on : Option ℕ → Bool
is_on None = true
is_on (Some n) = not (nat_eq n 0)

abbrev pub has_attribute : List ℕ → List Attribute → Bool
has_attribute name [] = false
has_attribute name (a ∷ rest) = (same_name a.name name && is_on a.number) || has_attribute name rest

abbrev pub has_mark : List ℕ → List Mark → Bool
has_mark name [] = false
has_mark name (m ∷ rest) = (same_name m.name name && not (nat_eq m.number 0)) || has_mark name rest

abbrev pub is_external : ast.PlainCell → Bool
is_external cell = has_attribute (codes "external") cell.attributes || has_mark (codes "external") cell.marks
