-- What drives each target of a component, one driver after the other from the last on.
use Rattle.std.specs.Prelude.{ℕ, suc, ◌==◌, List, [], ◌∷◌, Option, Some, None, option_map, map, length, if◌then◌else◌}
use Rattle.cx_meaning.specs.declared.ports.PortRef.{PortRef}
use Rattle.cx_meaning.specs.declared.ports.PortRef.TheVariants as ports
use Rattle.cx_vtree.specs.Plain.{PlainPort, PlainAssign, SetTo, PlainEdge}
use Rattle.cx_net.specs.Nets.{PlainNetTarget, ToPort, ToRegister, ToWire, ToHole, ToDone, PlainNetDriver, PlainNetComponent}
use Rattle.cx_emit.specs.Numbered.{with_numbers}
use Rattle.cx_emit.specs.Names.{cell_port_name}
use Rattle.cx_emit.specs.Exprs.{literal}
use Rattle.cx_emit.specs.Chains.{before, chain_to}
use Rattle.cx_emit.specs.Signatures.{PlainCellPorts}
use Rattle.cx_emit.specs.Sources.{assign, register_assign, register_reset, wire_assign, output_assign, done_assign}

-- an output of a cell has no assign here: the instance drives it
pub record PlainDriven : Type 0 where
  pub cells : List (List (Option PlainAssign))
  pub outputs : List PlainAssign
  pub wires : List PlainAssign
  pub registers : List PlainAssign
  pub done : PlainAssign

abbrev pub port_driven : List PlainNetDriver → ℕ → ℕ → PlainPort → Option PlainAssign
port_driven ds c p port =
    if port.output then None
    else Some (assign (cell_port_name c p) (chain_to (ToPort (ports.Cell c p)) (literal port.width 0) ds))

abbrev pub cell_driven : List PlainNetDriver → ℕ → PlainCellPorts → List (Option PlainAssign)
cell_driven ds c cell = with_numbers (port_driven ds c) cell.ports

-- by these drivers
abbrev pub driven_by : PlainNetComponent → List PlainCellPorts → List PlainNetDriver → PlainDriven
driven_by part cells ds = record {
  cells = with_numbers (cell_driven ds) cells;
  outputs = with_numbers (output_assign ds) part.outputs;
  wires = with_numbers (wire_assign ds) part.wires;
  registers = with_numbers (register_assign ds) part.registers;
  done = done_assign ds;
}

-- the element of a number changed, where the first has number k
abbrev pub changed_from : {A : Type 0} → ℕ → ℕ → (A → A) → List A → List A
changed_from k n f [] = []
changed_from k n f (x ∷ xs) = (if n == k then f x else x) ∷ changed_from (suc k) n f xs

abbrev pub changed_at : {A : Type 0} → ℕ → (A → A) → List A → List A
changed_at n f xs = changed_from 0 n f xs

-- a driver before those of an assign
abbrev pub driver_before : PlainNetDriver → PlainAssign → PlainAssign
driver_before d a = assign a.name (before d a.value)

abbrev pub port_before : PortRef → PlainNetDriver → PlainDriven → PlainDriven
port_before (ports.Cell c p) d s =
    record s { cells = changed_at c (changed_at p (option_map (driver_before d))) s.cells }
port_before (ports.Output n) d s = record s { outputs = changed_at n (driver_before d) s.outputs }
port_before (ports.Input n) d s = s
port_before (ports.Done g) d s = s
port_before (ports.Literal w v) d s = s

abbrev pub target_before : PlainNetTarget → PlainNetDriver → PlainDriven → PlainDriven
target_before (ToPort p) d s = port_before p d s
target_before (ToRegister n) d s = record s { registers = changed_at n (driver_before d) s.registers }
target_before (ToWire n) d s = record s { wires = changed_at n (driver_before d) s.wires }
target_before (ToHole n) d s = s
target_before ToDone d s = record s { done = driver_before d s.done }

-- the assigns among what may be none
abbrev pub present : List (Option PlainAssign) → List PlainAssign
present [] = []
present (None ∷ rest) = present rest
present (Some a ∷ rest) = a ∷ present rest

-- the edge of registers of these widths and these assigns
abbrev pub edge_with : List ℕ → List PlainAssign → Option PlainEdge
edge_with widths driven =
    if length widths == 0 then None
    else Some (record { reset = with_numbers register_reset widths; step = map SetTo driven })
