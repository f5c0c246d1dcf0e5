-- One cycle of a net, in which all has a value.
use Rattle.std.proofs.Common.{◌≡◌, Bool, false}
use Rattle.cx_net.specs.NetTree.{NetInstance}
use Rattle.cx_net.specs.NetMeaning.{NetState, NetLook}
use Rattle.cx_net.specs.NetEdges.{net_after}
use Rattle.cx_net.specs.NetRuns.{IsWholeLook, is_done}

pub record NetCycle (tree : NetInstance) (go : Bool) (v : NetState) (done : Bool) (w : NetState) : Type 0 where
  pub look : NetLook
  pub whole : IsWholeLook tree go v look
  pub shows : is_done look ≡ done
  pub leads : net_after tree false go v look ≡ w
