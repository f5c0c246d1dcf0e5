-- Numbers for the ports of a component, its nodes: those of its cells, cell by cell, then its inputs, its outputs and the
-- dones of its groups.
use Rattle.std.specs.Prelude.{◌≡◌, ℕ, zero, suc, ◌+◌, ◌≤◌, nat_lt, Option, Some, None, length, slice_index, if◌then◌else◌}
use Rattle.cx_meaning.specs.declared.ports.PortRef.{PortRef}
use Rattle.cx_meaning.specs.declared.ports.PortRef.TheVariants as ports
use Rattle.cx_meaning.specs.Instances.{Instance, Cells, cell_at, cell_count, cells_of, part_of}
use Rattle.cx_rules.specs.Wellformed.{port_count}
use Rattle.cx_design_leads.specs.declared.numbering.Nodes.{Nodes}

-- how many ports the cells before a number have
abbrev pub ports_before : Cells → ℕ → ℕ
ports_before cells zero = 0
ports_before cells (suc c) = ports_before cells c + port_count (cell_at cells c)

-- the first input, the first output, the first done, and how many nodes there are
abbrev pub first_input : Instance → ℕ
first_input i = ports_before (cells_of i) (cell_count (cells_of i))

abbrev pub first_output : Instance → ℕ
first_output i = first_input i + length (part_of i).inputs

abbrev pub first_done : Instance → ℕ
first_done i = first_output i + length (part_of i).outputs

abbrev pub node_count : Instance → ℕ
node_count i = first_done i + length (part_of i).groups

abbrev pub below : ℕ → ℕ → ℕ → Option ℕ
below count first n = if nat_lt n count then Some (first + n) else None

-- THE NODE of a port that is there; a literal has none
abbrev pub node_of : Instance → PortRef → Option ℕ
node_of i (ports.Cell c p) = below (port_count (cell_at (cells_of i) c)) (ports_before (cells_of i) c) p
node_of i (ports.Input n) = below (length (part_of i).inputs) (first_input i) n
node_of i (ports.Output n) = below (length (part_of i).outputs) (first_output i) n
node_of i (ports.Done g) = below (length (part_of i).groups) (first_done i) g
node_of i (ports.Literal w v) = None

-- what the numbering of a component keeps: where the ports of each cell begin, and where those of the last end
pub record IsNodesOf (i : Instance) (nodes : Nodes) : Type 0 where
  pub same_length : length nodes.cells.items ≡ cell_count (cells_of i) + 1
  pub starts : (c : ℕ) → c ≤ cell_count (cells_of i) → slice_index nodes.cells.items c ≡ ports_before (cells_of i) c
  pub inputs : nodes.inputs ≡ first_input i
  pub outputs : nodes.outputs ≡ first_output i
  pub dones : nodes.dones ≡ first_done i
  pub count : nodes.count ≡ node_count i
