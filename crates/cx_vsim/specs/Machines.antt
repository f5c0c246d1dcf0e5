-- A machine that stands for a source, before it runs.
use Rattle.std.specs.Prelude.{◌≡◌, List, length}
use Rattle.cx_vtree.specs.InstanceTree.{Placed}
use Rattle.cx_vnets.specs.Readers.{ReadersStand}
use Rattle.cx_vnets.specs.Runs.{IsReady}
use Rattle.cx_vnets.specs.Memory.{StoredStands}
use Rattle.cx_vnets.specs.RunsFlat.{MachineStands}
use Rattle.cx_velab.specs.Zeros.{zero_moment}
use Rattle.cx_vsim.specs.declared.machines.Built.{Built}

-- the machine stands for the tree and fits what is stored, the tables of readers are right, and all is 0
pub record BuiltStands (tree : List Placed) (b : Built) : Type 0 where
  pub machine : MachineStands tree b.machine
  pub ready : IsReady b.machine b.stored b.bench
  pub readers : ReadersStand b.machine.nets b.machine.order.items b.machine.readers
  pub stale : length b.bench.stale.items ≡ length b.machine.nets.drivers.items
  pub zeros : StoredStands tree zero_moment b.stored
