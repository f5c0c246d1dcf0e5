-- When the state of a net that is run stands for one of its meaning.
use Rattle.std.specs.Prelude.{◌≡◌, true}
use Rattle.cx_vnets.specs.Runs.{IsReady}
use Rattle.cx_net.specs.NetMeaning as meaning
use Rattle.cx_net.specs.NetMeaning.{NetLook}
use Rattle.cx_net.specs.NetRuns.{IsWholeLook, is_done}
use Rattle.cx_net.specs.NetTree.{net_tree}
use Rattle.cx_net.specs.Nets.{PlainNet}
use Rattle.cx_net_runs.specs.declared.states.NetState.{NetState}
use Rattle.cx_net_runs.specs.Standing.{StandsIn}

-- its tables fit each other
abbrev pub CanStep : NetState → Type 0
CanStep x = IsReady x.built.machine x.built.stored x.built.bench

-- what is stored stands for the state, and whether it is done is known
pub record StandsFor (net : PlainNet) (s : meaning.NetState) (x : NetState) : Type 0 where
  pub stored : StandsIn net s x.built.machine x.built.stored
  pub done : (look : NetLook) → IsWholeLook (net_tree net) true s look → x.done ≡ is_done look
