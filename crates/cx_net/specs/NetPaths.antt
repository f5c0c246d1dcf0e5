-- Paths down from a component of a net, and the widths of its nodes.
use Rattle.std.specs.Prelude.{◌≡◌, ℕ, nat_lt, [], ◌∷◌, Option, Some, None, slice_get, if◌then◌else◌}
use Rattle.cx_meaning.specs.declared.ports.PortRef.TheVariants as ports
use Rattle.cx_meaning.specs.Designs.{OfComponent, PlainCell}
use Rattle.cx_meaning.specs.Instances.{Path}
use Rattle.cx_net.specs.Nets.{PlainNetComponent, PlainNet}
use Rattle.cx_net.specs.NetTree.{net_component_at}
use Rattle.cx_net.specs.NetMeaning.{Node, APort, AWire, AHole, TheDone}
use Rattle.cx_net.specs.NetFits.{port_width}

-- the path leads from component k down to component h
abbrev pub LeadsTo : PlainNet → ℕ → Path → ℕ → Type 0
LeadsTo net k [] h = k ≡ h
LeadsTo net k (c ∷ path) h =
    (cell : PlainCell) × (child : ℕ) × (slice_get (net_component_at net k).cells c ≡ Some cell)
    × (cell.kind ≡ OfComponent child) × LeadsTo net child path h

-- the width of a node; None where it is not there
abbrev pub width_of_node : PlainNet → PlainNetComponent → Node → Option ℕ
width_of_node net part (APort (ports.Cell c p)) = port_width net part (ports.Cell c p)
width_of_node net part (APort (ports.Input n)) = None
width_of_node net part (APort (ports.Output n)) = port_width net part (ports.Output n)
width_of_node net part (APort (ports.Done g)) = None
width_of_node net part (APort (ports.Literal w v)) = None
width_of_node net part (AWire n) = slice_get part.wires n
width_of_node net part (AHole n) = if nat_lt n part.holes then Some 1 else None
width_of_node net part TheDone = Some 1
