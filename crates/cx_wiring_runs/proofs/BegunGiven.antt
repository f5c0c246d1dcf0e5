-- Where the ports of the static ifs that begin are the same in the net as the machine sees them, its islands take the same samples.
use Rattle.std.proofs.Common.{◌≡◌, ℕ, Bool, Option, Some, None}
use Rattle.cx_text.specs.Members.{In}
use Rattle.cx_meaning.specs.declared.kinds.GroupKind.{GroupKind}
use Rattle.cx_meaning.specs.declared.kinds.GroupKind.TheVariants as kinds
use Rattle.cx_meaning.specs.declared.ports.PortRef.{PortRef}
use Rattle.cx_meaning.specs.Designs.{PlainComponent, PlainDesign, PlainForm, Enable, group_at}
use Rattle.cx_meaning.specs.Instances as instances
use Rattle.cx_meaning.specs.Instances.{Cells}
use Rattle.cx_meaning.specs.Active.{nothing}
use Rattle.cx_meaning.specs.Sights.{seen}
use Rattle.cx_meaning.specs.Islands.{group_length}
use Rattle.cx_laws.specs.Samples.{says, begun_by}
use Rattle.cx_lockstep.specs.Worlds.{Machine}
use Rattle.cx_lockstep.specs.Running.{Running, AGroup, AnIsland, running}
use Rattle.cx_control.specs.Spots.{Kept, cells_in, held_in}
use Rattle.cx_control.specs.Leaves.{InIsland, Cycle, LastTurn, Coded, sampled_now, kind_machine, leaf_machines}
use Rattle.cx_control.specs.Controls.{coded_control, coded_below}
use Rattle.cx_net.specs.NetMeaning.{NetState, NetLook, NetAround}
use Rattle.cx_wiring_cycles.specs.AtLeaves.{AnyTest, AnyGroup, enable_holds}
use Rattle.cx_wiring_cycles.proofs.LeafHolds.{LeafHas, holds_all}
use Rattle.cx_wiring_cycles.proofs.BegunSamples.{begun_samples}
use Rattle.cx_wiring_runs.proofs.IslandsGiven.{port_in, island_begun, kind_begun, timed_begun, Begun}

module _ (d : PlainDesign) (part : PlainComponent) (cells : Cells) (s : Kept) (v : NetState) (around : NetAround) (look : NetLook) where
  abbrev port : PortRef → Bool
  port = port_in d part cells v around look

  -- what is asked of a leaf
  abbrev pub PortsSeen : PlainForm → InIsland → Type 0
  PortsSeen form (Cycle t kept) =
      (q : PortRef) → In (begun_by part (sampled_now (instances.Node part cells) form t kept s) t form) q → port_in d part cells v around look q ≡ says (seen (instances.Node part cells) (held_in s) nothing (cells_in s)) q
  PortsSeen form LastTurn = Unit {0}

  abbrev pub kind_seen : (g : ℕ) (kind : GroupKind) → Machine.Place (kind_machine (instances.Node part cells) (coded_below cells) g kind) → Type 0
  kind_seen g kinds.Plain stand = Unit {0}
  kind_seen g kinds.Comb stand = Unit {0}
  kind_seen g (kinds.Timed n) stand = PortsSeen (Enable g) stand

  abbrev pub LeafSeen : Running (leaf_machines (instances.Node part cells) (coded_below cells)) → Type 0
  LeafSeen (AGroup g place stand) = kind_seen g (group_at part g).kind stand
  LeafSeen (AnIsland form place stand) = PortsSeen form stand

  island_same : (form : PlainForm) (stand : InIsland) → PortsSeen form stand → island_begun part cells s (port_in d part cells v around look) form stand
  island_same form (Cycle t kept) h = λ m low. begun_samples part kept port (says (seen (instances.Node part cells) (held_in s) nothing (cells_in s))) form t h m
  island_same form LastTurn h = tt

  kind_same : (g : ℕ) (kind : GroupKind) (stand : Machine.Place (kind_machine (instances.Node part cells) (coded_below cells) g kind)) → kind_seen g kind stand → kind_begun part cells s (port_in d part cells v around look) g kind stand
  kind_same g kinds.Plain stand h = tt
  kind_same g kinds.Comb stand h = tt
  kind_same g (kinds.Timed n) stand h = island_same (Enable g) stand h

  leaf_same : (r : Running (leaf_machines (instances.Node part cells) (coded_below cells))) → LeafSeen r
      → LeafHas (leaf_machines (instances.Node part cells) (coded_below cells)) part (timed_begun part cells s (port_in d part cells v around look)) (island_begun part cells s (port_in d part cells v around look)) r
  leaf_same (AGroup g place stand) h = by (group_length part g)
    where
      by : (o : Option ℕ) → enable_holds (leaf_machines (instances.Node part cells) (coded_below cells)) part AnyTest (AnyGroup (leaf_machines (instances.Node part cells) (coded_below cells))) (timed_begun part cells s (port_in d part cells v around look))
          (island_begun part cells s (port_in d part cells v around look)) g o stand
      by None = tt
      by (Some c) = kind_same g (group_at part g).kind stand h
  leaf_same (AnIsland form place stand) h = island_same form stand h

  pub begun_given : (p : Machine.Place (Coded.machine (coded_control (instances.Node part cells)))) → ((r : Running (leaf_machines (instances.Node part cells) (coded_below cells))) → In (running (leaf_machines (instances.Node part cells) (coded_below cells)) part.control p) r → LeafSeen r)
      → Begun d part cells p s v around look
  begun_given p all =
      holds_all (leaf_machines (instances.Node part cells) (coded_below cells)) part (timed_begun part cells s (port_in d part cells v around look)) (island_begun part cells s (port_in d part cells v around look)) part.control p (λ r i. leaf_same r (all r i))
