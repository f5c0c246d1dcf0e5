-- The net of a lowered design.
use Rattle.std.specs.Prelude.{ℕ, ◌+◌, List, ◌∷◌, ◌++◌, length, map, replicate, Option, Some, None, option_map, unwrap_or, slice_get, filter_map}
use Rattle.cx_prim.specs.Table.{row_of}
use Rattle.cx_meaning.specs.declared.ports.PortRef.TheVariants as ports
use Rattle.cx_meaning.specs.Designs.{PlainKind, OfPrimitive, OfComponent, PlainCell}
use Rattle.cx_meaning.specs.Sights.{part_port}
use Rattle.cx_rules.specs.Ports.{declared_width, part_width}
use Rattle.cx_net.specs.Nets.{PlainNetTarget, ToPort, ToRegister, ToWire, PlainNetDriver, PlainNetComponent, PlainNet}
use Rattle.cx_static.specs.Islands.{PlainLowered, PlainLowereds}
use Rattle.cx_wiring.specs.Counts.{wires_of, registers_of}
use Rattle.cx_wiring.specs.IslandDrivers.{island_wires}
use Rattle.cx_wiring.specs.Control.{control_drivers}
use Rattle.cx_wiring.specs.Assignments.{driven_assigns, assigns_wires, assigns_drivers}
use Rattle.cx_wiring.specs.Trees.{Driven, by_target, driven, trees, tree_widths}
use Rattle.cx_wiring.specs.Reached.{place_in, order}

module _ (lowered : PlainLowered) where
  abbrev pub groups : ℕ
  groups = length lowered.part.groups

  -- WIRES: the offsets of the groups, of 32 bits, and of one bit those of the islands, of statements, of assignments
  abbrev pub first_of_control : ℕ
  first_of_control = groups + island_wires lowered.islands

  abbrev pub first_of_assigns : ℕ
  first_of_assigns = first_of_control + wires_of lowered.part.control

  abbrev pub bits : ℕ
  bits = island_wires lowered.islands + wires_of lowered.part.control + assigns_wires (driven_assigns lowered)

  abbrev pub plain_wires : List ℕ
  plain_wires = replicate groups 32 ++ replicate bits 1

  -- REGISTERS: first that of the component's region
  abbrev pub component_registers : List ℕ
  component_registers = 32 ∷ registers_of lowered.islands lowered.part.control

  -- all drivers but those of bundles: of control, then of the assignments
  abbrev pub plain_drivers : List PlainNetDriver
  plain_drivers =
      control_drivers groups lowered.islands first_of_control lowered.part.control
      ++ assigns_drivers groups first_of_assigns (driven_assigns lowered)

  abbrev pub component_driven : List Driven
  component_driven = driven (by_target plain_drivers)

-- WIDTHS of targets in a component of a design; what is not there counts as one bit
module _ (d : PlainLowereds) (lowered : PlainLowered) where
  abbrev pub width_in_part : Option PlainLowered → ℕ → Option ℕ
  width_in_part None port = None
  width_in_part (Some child) port = part_width child.part (part_port child.part port)

  abbrev pub kind_width : PlainKind → ℕ → Option ℕ
  kind_width (OfPrimitive primitive) port = option_map (λ p. p.width) (slice_get (row_of primitive).ports port)
  kind_width (OfComponent k) port = width_in_part (slice_get d.components k) port

  abbrev pub port_width : Option PlainCell → ℕ → Option ℕ
  port_width None port = None
  port_width (Some cell) port = kind_width cell.kind port

  abbrev pub known_width : PlainNetTarget → Option ℕ
  known_width (ToPort (ports.Cell c p)) = port_width (slice_get lowered.part.cells c) p
  known_width (ToPort (ports.Output n)) = declared_width lowered.part.outputs n
  known_width (ToRegister n) = slice_get (component_registers lowered) n
  known_width (ToWire n) = slice_get (plain_wires lowered) n
  known_width other = None

  abbrev pub target_width : PlainNetTarget → ℕ
  target_width t = unwrap_or (known_width t) 1

-- a cell whose component has its number in the net
abbrev pub kind_in : List ℕ → PlainKind → PlainKind
kind_in numbers (OfPrimitive primitive) = OfPrimitive primitive
kind_in numbers (OfComponent k) = OfComponent (place_in k numbers)

abbrev pub cell_in : List ℕ → PlainCell → PlainCell
cell_in numbers c = record { name = c.name; kind = kind_in numbers c.kind; external = c.external; place = c.place }

-- A COMPONENT: its signature, its cells, and the wires, registers, holes and drivers of its control and its assignments. Each
-- group has two holes: that it is done, and behind those of all groups that it goes
abbrev pub net_component : PlainLowereds → PlainLowered → PlainNetComponent
net_component d lowered = record {
  name = lowered.part.name;
  inputs = lowered.part.inputs;
  outputs = lowered.part.outputs;
  cells = map (cell_in (order d)) lowered.part.cells;
  registers = component_registers lowered;
  wires = plain_wires lowered ++ tree_widths (target_width d lowered) (component_driven lowered);
  holes = groups lowered + groups lowered;
  drivers = trees (length (plain_wires lowered)) (component_driven lowered);
}

-- THE NET: the components that main reaches
abbrev pub net_of : PlainLowereds → PlainNet
net_of d = record {
  components = map (net_component d) (filter_map (slice_get d.components) (order d));
  main = place_in d.main (order d);
}
