-- What the run of a shared design keeps of the run of the design: the states of all cells that hold something, and
-- the fault, by new numbers.
use Rattle.std.specs.Prelude.{Bool, not}
use Rattle.cx_prim.specs.Rows.{Row}
use Rattle.cx_meaning.specs.Instances.{Instance, State, instance_at, part_of}
use Rattle.cx_meaning.specs.Cycles.{Fault}
use Rattle.cx_rewrites.specs.Renaming.{renamed}
use Rattle.cx_rewrites.specs.Standing.{Stands, renumbered}
use Rattle.cx_sharing.specs.Uses.{is_stateless}
use Rattle.cx_sharing.specs.Giving.{new_cell}

abbrev pub has_state : Row → Bool
has_state row = not (is_stateless row.shape)

-- the same states of all cells that hold something
abbrev pub SharedStands : Instance → State → State → Type 0
SharedStands i s z = Stands new_cell has_state i s z

-- the same fault: at the path by the new numbers, of the port of the cell that stands for its cell
abbrev pub shared_fault : Instance → Fault → Fault
shared_fault i f = record {
  kind = f.kind;
  path = renumbered new_cell i f.path;
  port = renamed (new_cell (part_of (instance_at i f.path))) f.port;
}
