-- When what a machine has stored stands for a state of a net: the machine is that of the net's source, and what it has stored are the
-- registers and words of that source in a cycle, which stand for the state.
use Rattle.std.specs.Prelude.{◌≡◌, ℕ, true}
use Rattle.cx_vtree.specs.InstanceTree.{instances_of}
use Rattle.cx_vtree.specs.Meaning.{State, Moment}
use Rattle.cx_vtree.specs.Sound.{is_sound}
use Rattle.cx_vnets.specs.declared.machines.Machine.{Machine}
use Rattle.cx_vnets.specs.declared.nets.Stored.{Stored}
use Rattle.cx_vnets.specs.Memory.{StoredStands}
use Rattle.cx_vnets.specs.RunsFlat.{MachineStands}
use Rattle.cx_net.specs.NetFits.{IsFit, HasNoHoles}
use Rattle.cx_net.specs.NetMeaning.{NetState}
use Rattle.cx_net.specs.Nets.{PlainNet}
use Rattle.cx_emit.specs.Sources.{source_of}
use Rattle.cx_emit.specs.States.{StatesStand}

abbrev pub moment : State → ℕ → ℕ → Moment
moment state reset go = record { state = state; reset = reset; go = go }

-- in a cycle with these inputs
pub record StandsAt (net : PlainNet) (s : NetState) (m : Machine) (x : Stored) (reset go : ℕ) : Type 0 where
  pub fits : IsFit net
  pub no_holes : HasNoHoles net
  pub sound : is_sound (source_of net) ≡ true
  pub machine : MachineStands (instances_of (source_of net)) m
  pub state : State
  pub stored : StoredStands (instances_of (source_of net)) (moment state reset go) x
  pub states : StatesStand net net.main 0 s state

abbrev pub StandsIn : PlainNet → NetState → Machine → Stored → Type 0
StandsIn net s m x = (reset : ℕ) × (go : ℕ) × StandsAt net s m x reset go
