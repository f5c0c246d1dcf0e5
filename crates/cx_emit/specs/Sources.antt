-- The source of a net.
use Rattle.std.specs.Prelude.{ℕ, ◌==◌, List, [], ◌∷◌, ◌++◌, Option, Some, None, length, map, if◌then◌else◌, slice_get, codes}
use Rattle.std.specs.List.{flat_map}
use Rattle.cx_prim.specs.Table.{PrimitiveRow}
use Rattle.cx_meaning.specs.declared.ports.PortRef.TheVariants as ports
use Rattle.cx_meaning.specs.declared.kinds.PortDecl.{PortDecl}
use Rattle.cx_meaning.specs.Designs.{PlainKind, OfPrimitive, OfComponent, PlainCell}
use Rattle.cx_rules.specs.Wellformed.{first_number}
use Rattle.cx_rules.specs.Externals.{numbers_of, sizes_in}
use Rattle.cx_vtree.specs.Plain.{PlainExpr, Named, PlainPort, PlainDecl, WireOf, RegisterOf, PlainAssign, PlainConn, PlainInstance, SetTo, PlainItem, PlainEdge, PlainModule, PlainExternal, PlainSource}
use Rattle.cx_vtree.specs.Sound.{has_name}
use Rattle.cx_net.specs.Nets.{ToPort, ToRegister, ToWire, ToDone, PlainNetDriver, PlainNetComponent, PlainNet}
use Rattle.cx_emit.specs.Names.{output_name, cell_port_name, wire_name, register_name, instance_name, module_name, primitive_name}
use Rattle.cx_emit.specs.Numbered.{with_numbers, lists_from}
use Rattle.cx_emit.specs.Exprs.{literal}
use Rattle.cx_emit.specs.Chains.{chain_to}
use Rattle.cx_emit.specs.Signatures.{PlainCellPorts, module_ports, primitive_module, cell_ports}

abbrev pub assign : List ℕ → PlainExpr → PlainAssign
assign name value = record { name = name; value = value }

-- the wires at the ports of a cell
abbrev pub port_decl : ℕ → ℕ → PlainPort → PlainDecl
port_decl c p port = WireOf (cell_port_name c p) port.width

abbrev pub cell_decls : ℕ → PlainCellPorts → List PlainDecl
cell_decls c cell = with_numbers (port_decl c) cell.ports

-- an input is driven by its chain, an output by the instance
abbrev pub port_assigns : List PlainNetDriver → ℕ → ℕ → PlainPort → List PlainAssign
port_assigns ds c p port =
    if port.output then []
    else assign (cell_port_name c p) (chain_to (ToPort (ports.Cell c p)) (literal port.width 0) ds) ∷ []

abbrev pub cell_assigns : List PlainNetDriver → ℕ → PlainCellPorts → List PlainAssign
cell_assigns ds c cell = lists_from (port_assigns ds c) 0 cell.ports

abbrev pub conn : List ℕ → List ℕ → PlainConn
conn port net = record { port = port; net = net }

abbrev pub port_conn : ℕ → ℕ → PlainPort → PlainConn
port_conn c p port = conn port.name (cell_port_name c p)

abbrev pub cell_instance : ℕ → PlainCellPorts → PlainInstance
cell_instance c cell = record {
  kind = cell.kind;
  name = instance_name c;
  conns =
      conn (codes "clk") (codes "clk") ∷ conn (codes "reset") (codes "reset")
      ∷ with_numbers (port_conn c) cell.ports;
}

abbrev pub wire_decl : ℕ → ℕ → PlainDecl
wire_decl n width = WireOf (wire_name n) width

abbrev pub wire_assign : List PlainNetDriver → ℕ → ℕ → PlainAssign
wire_assign ds n width = assign (wire_name n) (chain_to (ToWire n) (literal width 0) ds)

abbrev pub output_assign : List PlainNetDriver → ℕ → PortDecl → PlainAssign
output_assign ds n d = assign (output_name n) (chain_to (ToPort (ports.Output n)) (literal d.width 0) ds)

abbrev pub done_assign : List PlainNetDriver → PlainAssign
done_assign ds = assign (codes "done") (chain_to ToDone (literal 1 0) ds)

-- a register is 0 after an edge with reset; else it takes its chain, or stays
abbrev pub register_decl : ℕ → ℕ → PlainDecl
register_decl n width = RegisterOf (register_name n) width

abbrev pub register_reset : ℕ → ℕ → PlainAssign
register_reset n width = assign (register_name n) (literal width 0)

abbrev pub register_assign : List PlainNetDriver → ℕ → ℕ → PlainAssign
register_assign ds n width = assign (register_name n) (chain_to (ToRegister n) (Named (register_name n)) ds)

abbrev pub register_step : List PlainNetDriver → ℕ → ℕ → PlainItem
register_step ds n width = SetTo (register_assign ds n width)

abbrev pub edge_of : PlainNetComponent → Option PlainEdge
edge_of part =
    if length part.registers == 0 then None
    else Some (record {
      reset = with_numbers register_reset part.registers;
      step = with_numbers (register_step part.drivers) part.registers;
    })

-- what a component declares, and what it assigns, where its cells have these ports
abbrev pub decls_with : PlainNetComponent → List PlainCellPorts → List PlainDecl
decls_with part cells =
    lists_from cell_decls 0 cells ++ with_numbers wire_decl part.wires
    ++ with_numbers register_decl part.registers

abbrev pub assigns_with : PlainNetComponent → List PlainCellPorts → List PlainAssign
assigns_with part cells =
    lists_from (cell_assigns part.drivers) 0 cells ++ with_numbers (wire_assign part.drivers) part.wires
    ++ with_numbers (output_assign part.drivers) part.outputs ++ done_assign part.drivers ∷ []

-- the module of component k, whose cells have these ports
abbrev pub module_with : List ℕ → PlainNetComponent → List PlainCellPorts → PlainModule
module_with name part cells = record {
  name = name;
  ports = module_ports part;
  decls = decls_with part cells;
  assigns = assigns_with part cells;
  instances = with_numbers cell_instance cells;
  edge = edge_of part;
}

abbrev pub component_module : PlainNet → ℕ → PlainNetComponent → PlainModule
component_module net k part = module_with (module_name net.main k) part (map (cell_ports net) part.cells)

-- the primitives of cells, in their order
abbrev pub primitives_of : PlainKind → List PrimitiveRow
primitives_of (OfPrimitive p) = p ∷ []
primitives_of (OfComponent j) = []

abbrev pub primitives_in : List PlainCell → List PrimitiveRow
primitives_in cells = flat_map (λ cell. primitives_of cell.kind) cells

abbrev pub primitives_among : List PlainNetComponent → List PrimitiveRow
primitives_among parts = flat_map (λ part. primitives_in part.cells) parts

-- each primitive once, where it comes first; none whose name is among those given
abbrev pub firsts : List (List ℕ) → List PrimitiveRow → List PrimitiveRow
firsts names [] = []
firsts names (p ∷ ps) =
    if has_name names (primitive_name p) then firsts names ps
    else p ∷ firsts (names ++ primitive_name p ∷ []) ps

-- modules, and behind them those of the primitives of which none is there
abbrev pub with_primitives : List PlainModule → List PrimitiveRow → List PlainModule
with_primitives modules ps = modules ++ map primitive_module (firsts (map (λ m. m.name) modules) ps)

-- ONE MODULE for each primitive and its numbers, whatever cells there are of it
abbrev pub primitive_modules : PlainNet → List PlainModule
primitive_modules net = with_primitives [] (primitives_among net.components)

-- an external cell
abbrev pub external_of : ℕ → PlainCell → PlainExternal
external_of c cell = record {
  name = cell.name;
  instance = instance_name c;
  width = first_number (numbers_of cell.kind);
  sizes = sizes_in (numbers_of cell.kind);
}

abbrev pub cell_externals : ℕ → PlainCell → List PlainExternal
cell_externals c cell = if cell.external then external_of c cell ∷ [] else []

abbrev pub externals_at : Option PlainNetComponent → List PlainExternal
externals_at None = []
externals_at (Some main) = lists_from cell_externals 0 main.cells

-- THE SOURCE of a net: the external cells of main, the modules of primitives, and those of the components in order
abbrev pub source_of : PlainNet → PlainSource
source_of net = record {
  externals = externals_at (slice_get net.components net.main);
  modules = primitive_modules net ++ with_numbers (component_module net) net.components;
}
