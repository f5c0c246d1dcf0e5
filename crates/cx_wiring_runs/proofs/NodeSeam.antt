-- What a node's leaves find around them in a cycle without a fault: each group that runs and goes, apart from what else goes; and at rest
-- what it reads and does not call.
use Rattle.std.proofs.Common.{◌≡◌, ◌⊎◌, ℕ, true, false, List, [], ◌∷◌, Option, Some, None, unwrap_or}
use Rattle.std.specs.Prelude.{is_some}
use Rattle.cx_text.specs.Members.{In}
use Rattle.cx_text.specs.declared.places.Place.{Place}
use Rattle.cx_bits.specs.BitVector.{BitVector, zero_of}
use Rattle.cx_prim.specs.CellStates.{CellState}
use Rattle.cx_prim.specs.Rows.{Row}
use Rattle.cx_meaning.specs.declared.ports.PortRef.TheVariants as ports
use Rattle.cx_meaning.specs.declared.sights.Seen.TheVariants.{Value}
use Rattle.cx_meaning.specs.Designs.{PlainComponent, PlainForm, Enable, Placed, group_at}
use Rattle.cx_meaning.specs.Instances.{Instance, Node, Cells, OfInstance, cell_at, part_of, Path, under}
use Rattle.cx_meaning.specs.declared.kinds.GroupKind.{GroupKind}
use Rattle.cx_meaning.specs.declared.kinds.GroupKind.TheVariants as kinds
use Rattle.cx_meaning.specs.Active.{Entry, nothing, group, entries, offset_in}
use Rattle.cx_meaning.specs.Sights.{unheld, Sees, AnOutput, part_port}
use Rattle.cx_meaning.specs.Islands.{kind_length, group_length}
use Rattle.cx_meaning.specs.Control.{group_drives, drives}
use Rattle.cx_meaning.specs.Calls.{called}
use Rattle.cx_rules.specs.Items.{is_comb}
use Rattle.cx_rules.specs.Footprints.{Reads}
use Rattle.cx_control.specs.Apart.{IsApart}
use Rattle.cx_control.specs.Flows.{given}
use Rattle.cx_lockstep.specs.Worlds.{Machine, edge_of}
use Rattle.cx_lockstep.specs.Statements.{LeafMachines}
use Rattle.cx_lockstep.specs.Running.{Running, AGroup, AnIsland, leaf_of, running}
use Rattle.cx_control.specs.Spots.{Cell, Number, Kept, cells_in}
use Rattle.cx_control.specs.Leaves.{Coded, InIsland, Cycle, LastTurn, sampled_now, kind_machine, leaf_machines}
use Rattle.cx_laws.specs.Samples.{active_by}
use Rattle.cx_static.specs.Lowering.{lowered_component}
use Rattle.cx_wiring.specs.Assignments.{owner_drives}
use Rattle.cx_wiring_cycles.specs.Shown.{wide, Going, told}
use Rattle.cx_control.specs.Controls.{coded_control, coded_below}
use Rattle.cx_control.specs.Standing.{RestsAt, bare}
use Rattle.cx_control.specs.InstanceRules.{Stands}
use Rattle.cx_net.specs.NetMeaning.{NetState, APort, AWire, AHole, TheDone, NetLook, NetAround, is_true, truth_bit}
use Rattle.cx_wiring_runs.specs.PortValues.{port_value, active_now}

module _ (part : PlainComponent) (cells : Cells) (around : NetAround) (v : NetState) (look : NetLook) (s : Kept) (p : Machine.Place (Coded.machine (coded_control (Node part cells)))) where
  abbrev pub Runs : Running (leaf_machines (Node part cells) (coded_below cells)) → Type 0
  Runs r = In (running (leaf_machines (Node part cells) (coded_below cells)) part.control p) r

  -- a leaf of an island
  abbrev pub IsStaticLeaf : Running (leaf_machines (Node part cells) (coded_below cells)) → Type 0
  IsStaticLeaf (AGroup g place stand) = (n : ℕ) × (group_length part g ≡ Some n)
  IsStaticLeaf (AnIsland form place stand) = Unit {0}

  -- the edge of a primitive over the machine's store, where so much is written
  abbrev pub StepsTo : ℕ → Row → Option CellState → Type 0
  StepsTo c row o = row.next (s (Cell (c ∷ []))) (given (port_value (Node part cells) around v look) c 0 row.ports) ≡ edge_of o (row.idle (s (Cell (c ∷ []))))

  -- what is active at a place of an island
  abbrev pub entries_at : PlainForm → InIsland → List Entry
  entries_at form (Cycle t kept) = active_by part (sampled_now (Node part cells) form t kept s) t form
  entries_at form LastTurn = []

  -- WHAT GOES IN THE NET is that, as far as the island reads
  abbrev pub IslandGoes : PlainForm → Place → InIsland → Type 0
  IslandGoes form place stand = IsApart part (Placed form place) (entries (entries_at form stand)) (active_now (Node part cells) around v look)

  abbrev pub KindGoes : (g : ℕ) → Place → (k : GroupKind) → Machine.Place (kind_machine (Node part cells) (coded_below cells) g k) → Type 0
  KindGoes g place kinds.Plain stand = Unit {0}
  KindGoes g place kinds.Comb stand = Unit {0}
  KindGoes g place (kinds.Timed n) stand = IslandGoes (Enable g) place stand

  abbrev pub LeafGoes : Running (leaf_machines (Node part cells) (coded_below cells)) → Type 0
  LeafGoes (AGroup g place stand) = KindGoes g place (group_at part g).kind stand
  LeafGoes (AnIsland form place stand) = IslandGoes form place stand

  -- of a list of goes: the entries go, each at its offset, and no other group of the list
  pub record SaysActive (xs : List Going) (os : List Entry) : Type 0 where
    pub goes : (g : ℕ) → told g (Some (truth_bit false)) xs ≡ Some (truth_bit (is_some (offset_in os g)))
    -- the wire of its offset, where it drives a cell
    pub wire : (g c o : ℕ) → group_drives part g c ≡ true → offset_in os g ≡ Some o → look [] (AWire g) ≡ Some (wide o)
    pub stands : (g c o : ℕ) → group_drives part g c ≡ true → offset_in os g ≡ Some o → owner_drives (lowered_component part) (Some g) ≡ true

  module _ (of_enable : (g : ℕ) → Machine.Place (LeafMachines.enable (leaf_machines (Node part cells) (coded_below cells)) g) → List Going)
      (of_form : (form : PlainForm) → Machine.Place (LeafMachines.island (leaf_machines (Node part cells) (coded_below cells)) form) → List Going) where
    abbrev pub KindSays : (g : ℕ) → List Going → (k : GroupKind) → Machine.Place (kind_machine (Node part cells) (coded_below cells) g k) → Type 0
    KindSays g xs kinds.Plain stand = Unit {0}
    KindSays g xs kinds.Comb stand = Unit {0}
    KindSays g xs (kinds.Timed n) stand = SaysActive xs (entries_at (Enable g) stand)

    -- OF A LEAF that runs
    abbrev pub LeafSays : Running (leaf_machines (Node part cells) (coded_below cells)) → Type 0
    LeafSays (AGroup g place stand) = KindSays g (of_enable g stand) (group_at part g).kind stand
    LeafSays (AnIsland form place stand) = SaysActive (of_form form stand) (entries_at form stand)

  -- what rests in a cycle without a fault, whatever goes
  pub record NodeRest : Type 0 where
    pub stands : (r : Running (leaf_machines (Node part cells) (coded_below cells))) → Runs r → Stands (Node part cells) (leaf_of (leaf_machines (Node part cells) (coded_below cells)) r)
    pub island_rests : (form : PlainForm) (place : Place) (stand : Machine.Place (LeafMachines.island (leaf_machines (Node part cells) (coded_below cells)) form)) → Runs (AnIsland form place stand) → (c : ℕ) (child : Instance)
        → Reads part (Placed form place) c → cell_at cells c ≡ OfInstance child → RestsAt cells c (bare s)
    pub child_seen : (c : ℕ) → ((e : ℕ) (path : Path) (n : ℕ) → s (Number (c ∷ e ∷ path) n) ≡ 0) → (q n : ℕ) (child : Instance) (b : BitVector) → cell_at cells c ≡ OfInstance child → part_port (part_of child) q ≡ AnOutput n
        → Sees child unheld nothing (under c (cells_in s)) (ports.Output n) (Value b) → look (c ∷ []) (APort (ports.Output n)) ≡ Some b
    pub rests_done : (c : ℕ) (child : Instance) → RestsAt cells c (bare s) → cell_at cells c ≡ OfInstance child → look (c ∷ []) TheDone ≡ Some (truth_bit false)

  pub record NodeSeam : Type 0 where
    pub stands : (r : Running (leaf_machines (Node part cells) (coded_below cells))) → Runs r → Stands (Node part cells) (leaf_of (leaf_machines (Node part cells) (coded_below cells)) r)
    pub group_apart : (g : ℕ) (place : Place) (stand : Machine.Place (LeafMachines.enable (leaf_machines (Node part cells) (coded_below cells)) g)) → Runs (AGroup g place stand) → kind_length (group_at part g).kind ≡ None
        → is_true (unwrap_or (look [] (AHole g)) (zero_of 1)) ≡ false → IsApart part (Placed (Enable g) place) (group g) (active_now (Node part cells) around v look)
    pub group_rests : (g : ℕ) (place : Place) (stand : Machine.Place (LeafMachines.enable (leaf_machines (Node part cells) (coded_below cells)) g)) → Runs (AGroup g place stand) → (c : ℕ) (child : Instance)
        → Reads part (Placed (Enable g) place) c → cell_at cells c ≡ OfInstance child → (called (Node part cells) g ≡ Some c → ⊥) → RestsAt cells c (bare s)
    pub island_rests : (form : PlainForm) (place : Place) (stand : Machine.Place (LeafMachines.island (leaf_machines (Node part cells) (coded_below cells)) form)) → Runs (AnIsland form place stand) → (c : ℕ) (child : Instance)
        → Reads part (Placed form place) c → cell_at cells c ≡ OfInstance child → RestsAt cells c (bare s)
    -- the outputs of a child below which all numbers are 0, and the done of one at rest
    pub child_seen : (c : ℕ) → ((e : ℕ) (path : Path) (n : ℕ) → s (Number (c ∷ e ∷ path) n) ≡ 0) → (q n : ℕ) (child : Instance) (b : BitVector) → cell_at cells c ≡ OfInstance child → part_port (part_of child) q ≡ AnOutput n
        → Sees child unheld nothing (under c (cells_in s)) (ports.Output n) (Value b) → look (c ∷ []) (APort (ports.Output n)) ≡ Some b
    pub rests_done : (c : ℕ) (child : Instance) → RestsAt cells c (bare s) → cell_at cells c ≡ OfInstance child → look (c ∷ []) TheDone ≡ Some (truth_bit false)
    -- of groups that drive what a group that ends reads none goes; and of those that drive a cell that no leaf drives, comb groups alone
    pub ended_group : (g : ℕ) (place : Place) (stand : Machine.Place (LeafMachines.enable (leaf_machines (Node part cells) (coded_below cells)) g)) → Runs (AGroup g place stand) → kind_length (group_at part g).kind ≡ None
        → is_true (unwrap_or (look [] (AHole g)) (zero_of 1)) ≡ true → (c h : ℕ) → Reads part (Placed (Enable g) place) c → group_drives part h c ≡ true → (active_now (Node part cells) around v look).offset h ≡ None
    pub free_cell : (c : ℕ) → ((r : Running (leaf_machines (Node part cells) (coded_below cells))) → Runs r → drives part (leaf_of (leaf_machines (Node part cells) (coded_below cells)) r) c ≡ false) → (h : ℕ) → group_drives part h c ≡ true
        → ((active_now (Node part cells) around v look).offset h ≡ None) ⊎ (is_comb (group_at part h).kind ≡ true)
