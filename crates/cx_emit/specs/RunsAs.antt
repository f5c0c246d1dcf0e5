-- That the source of a net does as the net: values, edges, runs.
use Rattle.std.specs.Prelude.{◌≡◌, ℕ, Bool, true, Some, if◌then◌else◌}
use Rattle.cx_bits.specs.BitVector.{BitVector}
use Rattle.cx_meaning.specs.Instances.{Path}
use Rattle.cx_vtree.specs.InstanceTree.{instances_of}
use Rattle.cx_vtree.specs.Meaning.{Moment, Look, HasValue}
use Rattle.cx_vtree.specs.Edges.{state_after}
use Rattle.cx_vtree.specs.Plain.{PlainSource}
use Rattle.cx_vtree.specs.PlainParts.{rows_of}
use Rattle.cx_vtree.specs.SimRun.{IsWhole, SimRun}
use Rattle.cx_vtree.specs.Sound.{is_sound}
use Rattle.cx_net.specs.Nets.{PlainNet}
use Rattle.cx_net.specs.NetTree.{net_component_at, net_tree}
use Rattle.cx_net.specs.NetMeaning.{NetState, Node, NetLook, NetHas}
use Rattle.cx_net.specs.NetEdges.{net_after}
use Rattle.cx_net.specs.NetRuns.{IsWholeLook, NetRun}
use Rattle.cx_net.specs.Realises.{Follows}
use Rattle.cx_emit.specs.Sources.{source_of}
use Rattle.cx_net.specs.NetPaths.{LeadsTo}
use Rattle.cx_emit.specs.Places.{number_at, node_name}
use Rattle.cx_emit.specs.Fits.{node_width}
use Rattle.cx_emit.specs.States.{StatesStand}

-- a node that is there and has a value in the net has it in the source, at its instance and under its name, where the states
-- stand for each other and go is the same
abbrev pub ValuesCarry : PlainNet → Type 0
ValuesCarry net =
    (go : Bool) (s : NetState) (now : Moment) (path : Path) (h w : ℕ) (node : Node) (v : BitVector)
    → StatesStand net net.main 0 s now.state → now.go ≡ (if go then 1 else 0)
    → LeadsTo net net.main path h → node_width net (net_component_at net h) node ≡ Some w
    → NetHas (net_tree net) go s path node v
    → HasValue (instances_of (source_of net)) now (number_at (source_of net) 0 path) (node_name node) v

-- where states stand for each other they do so after an edge, with reset or without, by whole looks on both sides
abbrev pub EdgesCarry : PlainNet → Type 0
EdgesCarry net =
    (with_reset go : Bool) (s : NetState) (now : Moment) (look : NetLook) (text : Look)
    → StatesStand net net.main 0 s now.state
    → now.go ≡ (if go then 1 else 0) → now.reset ≡ (if with_reset then 1 else 0)
    → IsWholeLook (net_tree net) go s look → IsWhole (instances_of (source_of net)) now text
    → StatesStand net net.main 0 (net_after (net_tree net) with_reset go s look)
    (state_after (instances_of (source_of net)) now text)

-- what the net comes to, with words that fit the external memories, the source comes to
abbrev pub Runs : PlainNet → Type 0
Runs net = Follows (rows_of (source_of net).externals) (NetRun (net_tree net)) (SimRun (source_of net))

-- A SOURCE RUNS AS A NET: it is sound, and what the net comes to it comes to
pub record RunsAs (net : PlainNet) (source : PlainSource) : Type 0 where
  pub sound : is_sound source ≡ true
  pub runs : Follows (rows_of source.externals) (NetRun (net_tree net)) (SimRun source)
