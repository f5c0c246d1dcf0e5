-- In a cycle with go the wires of a node's offsets are those of what is active in the islands that run, with what one island says as a premise.
use Rattle.std.proofs.Common.{◌≡◌, inl, inr, ℕ, suc, ◌+◌, ◌<◌, ◌≤◌, Bool, true, false, if◌then◌else◌, List, [], ◌∷◌, ◌++◌, length, Option, Some, None, refl, sym, ap, ◌∙◌, arith}
use Rattle.std.specs.Prelude.{flat_map, nat_eq}
use Rattle.cx_text.specs.declared.places.Place.{Place}
use Rattle.cx_bits.specs.BitVector.{BitVector}
use Rattle.cx_meaning.specs.Designs.{PlainComponent, PlainDesign, PlainForm, Timed, PlainStatement, Placed}
use Rattle.cx_meaning.specs.Instances as instances
use Rattle.cx_meaning.specs.Instances.{Cells}
use Rattle.cx_meaning.specs.Active.{Entry, offset_in}
use Rattle.cx_text.specs.Members.{In}
use Rattle.cx_text.proofs.OptionLaws.{none_some}
use Rattle.cx_lockstep.specs.Worlds.{Machine}
use Rattle.cx_lockstep.specs.Statements.{LeafMachines, machine_of}
use Rattle.cx_lockstep.specs.Running.{Running, running}
use Rattle.cx_control.specs.Codings.{Coding}
use Rattle.cx_control.specs.StatementCodings.{statement_coding}
use Rattle.cx_control.specs.Spots.{Kept}
use Rattle.cx_control.specs.Leaves.{Coded, leaf_machines}
use Rattle.cx_control.specs.Controls.{coded_control, coded_below, leaf_codings}
use Rattle.cx_control.specs.InstanceRules.{Stands}
use Rattle.cx_control.specs.ControlRules.{ControlRules}
use Rattle.cx_net.specs.Nets.{ToWire}
use Rattle.cx_net.specs.NetMeaning.{NetState, NetLook, NetAround, AWire}
use Rattle.cx_static.specs.Lowering.{Lowering, after, lowered, lowered_component, unlowered}
use Rattle.cx_wiring.specs.Stands.{Stand}
use Rattle.cx_wiring.specs.Control.{whole_stand, finishing, drivers_of}
use Rattle.cx_wiring.specs.Assignments.{assigns_drivers, driven_assigns}
use Rattle.cx_wiring.specs.Wiring.{groups, first_of_control, first_of_assigns}
use Rattle.cx_wiring.specs.Takings.{takes}
use Rattle.cx_wiring.proofs.IslandCells.{IsBefore, itself}
use Rattle.cx_wiring_cycles.specs.IslandNumbers.{of_island}
use Rattle.cx_wiring_cycles.specs.Standing.{IsIn}
use Rattle.cx_wiring_cycles.specs.IslandNumbers.{of_island}
use Rattle.cx_wiring_cycles.specs.Shown.{wide, number_of}
use Rattle.cx_wiring_cycles.specs.Wired.{IsWired}
use Rattle.cx_wiring_cycles.specs.AtLeaves.{IslandsHold}
use Rattle.cx_wiring_cycles.proofs.ConnectLaws.{Reads, read_before}
use Rattle.cx_wiring_cycles.proofs.ComponentLaws.{PlainCycle}
use Rattle.cx_wiring_cycles.proofs.SizeLaws.{enable_one, island_one}
use Rattle.cx_wiring_cycles.proofs.OffsetWires.{isles_of, statement_only}
use Rattle.cx_wiring_cycles.proofs.OffsetWalk.{offset_told, entries_of, statement_says}
use Rattle.cx_wiring_runs.proofs.NodeRules.{NodeRules}
use Rattle.cx_wiring_runs.proofs.OutputFlows.{fine_node}
use Rattle.cx_wiring_runs.proofs.BlockTells.{hole_now, port_now}
use Rattle.cx_wiring_runs.proofs.BlockIdles.{next, now_R}
use Rattle.cx_wiring_runs.proofs.NodeTimers.{node_away}
use Rattle.cx_wiring_runs.proofs.NodeCells.{CellRules}
use Rattle.cx_wiring_runs.proofs.NodeEdges.{IsCycle}
use Rattle.cx_wiring_runs.proofs.NodeTurns.{Low, low_back, low_parts, root, law, plain, acts, so_there, wired}

-- THE FIRST OF SOME LISTS that names a group says its offset, where all that name it say the same
told_passes : (g : ℕ) (later : Option BitVector) (xs ys : List Entry) → offset_in xs g ≡ None → offset_told g later (xs ++ ys) ≡ offset_told g later ys
told_passes g later [] ys e = refl
told_passes g later (x ∷ xs) ys e = by (nat_eq x.group g) refl e (told_passes g later xs ys)
  where
    by : (b : Bool) → nat_eq x.group g ≡ b → (if b then Some x.offset else offset_in xs g) ≡ None → (offset_in xs g ≡ None → offset_told g later (xs ++ ys) ≡ offset_told g later ys)
        → (if b then Some (wide x.offset) else offset_told g later (xs ++ ys)) ≡ offset_told g later ys
    by true f h k = absurd cc
    by false f h k = k h

told_here : (g o : ℕ) (later : Option BitVector) (xs ys : List Entry) → offset_in xs g ≡ Some o → offset_told g later (xs ++ ys) ≡ Some (wide o)
told_here g o later [] ys e = absurd cc
told_here g o later (x ∷ xs) ys e = by (nat_eq x.group g) e (told_here g o later xs ys)
  where
    by : (b : Bool) → (if b then Some x.offset else offset_in xs g) ≡ Some o → (offset_in xs g ≡ Some o → offset_told g later (xs ++ ys) ≡ Some (wide o))
        → (if b then Some (wide x.offset) else offset_told g later (xs ++ ys)) ≡ Some (wide o)
    by true h k = ap (λ n. Some (wide n)) (same x.offset o h)
      where
        same : (a b : ℕ) → ◌≡◌ {A = Option ℕ} (Some a) (Some b) → a ≡ b
        same a b f = cc
    by false h k = k h

pub told_among : {A : Type 0} (f : A → List Entry) (g o : ℕ) (later : Option BitVector) (rs : List A) (r : A) → In rs r → offset_in (f r) g ≡ Some o → ((q : A) (k : ℕ) → In rs q → offset_in (f q) g ≡ Some k → q ≡ r) → offset_told g later (flat_map f rs) ≡ Some (wide o)
told_among f g o later [] r i e only = absurd i
told_among f g o later (x ∷ rs) r i e only = by (offset_in (f x) g) refl i (λ j. told_among f g o later rs r j e (λ q k m h. only q k (inr m) h))
  where
    by : (u : Option ℕ) → offset_in (f x) g ≡ u → In (x ∷ rs) r → (In rs r → offset_told g later (flat_map f rs) ≡ Some (wide o)) → offset_told g later (f x ++ flat_map f rs) ≡ Some (wide o)
    by (Some k) h j rest = told_here g o later (f x) (flat_map f rs) (ap (λ y. offset_in (f y) g) (only x k (inl refl) h) ∙ e)
    by None h (inl same) rest = absurd (none_some o (sym h ∙ ap (λ y. offset_in (f y) g) same ∙ e))
    by None h (inr j) rest = told_passes g later (f x) (flat_map f rs) h ∙ rest j

module _ (d : PlainDesign) (part : PlainComponent) (cells : Cells) (rules : NodeRules d (instances.Node part cells)) (own : CellRules (instances.Node part cells))
    (control : ControlRules (instances.Node part cells))
    (p : Machine.Place (Coded.machine (coded_control (instances.Node part cells)))) (s : Kept) (v : NetState) (around : NetAround) (look : NetLook) (cycle : IsCycle d of_island part cells rules own p s v around look)
    (of_enable : (g : ℕ) → Machine.Place (LeafMachines.enable (leaf_machines (instances.Node part cells) (coded_below cells)) g) → List Entry)
    (of_form : (form : PlainForm) → Machine.Place (LeafMachines.island (leaf_machines (instances.Node part cells) (coded_below cells)) form) → List Entry)
    (timed_saw : (g : ℕ) → Machine.Place (LeafMachines.enable (leaf_machines (instances.Node part cells) (coded_below cells)) g) → Type 0) (island_saw : (form : PlainForm) → Machine.Place (LeafMachines.island (leaf_machines (instances.Node part cells) (coded_below cells)) form) → Type 0) where
  abbrev R : ℕ → Option BitVector
  R = now_R d of_island part cells (fine_node d of_island part cells rules) v around look cycle.solves

  -- WHAT ONE ISLAND SAYS, where control stands at it
  abbrev pub IslandsSay : ℕ → Type 0
  IslandsSay g = (t : PlainStatement) → Stands (instances.Node part cells) t → (l : Lowering) → IsBefore (after part t l) (after part part.control (unlowered part)) → (place : Place) → lowered part t l ≡ Placed (Timed (length l.islands)) place
      → (x : Stand) (r : ℕ) (q : Machine.Place (machine_of (leaf_machines (instances.Node part cells) (coded_below cells)) t)) → Coding.IsFine (statement_coding (leaf_machines (instances.Node part cells) (coded_below cells)) (leaf_codings (instances.Node part cells) (coded_below cells)) t) q
      → IsIn around (now_R d of_island part cells (fine_node d of_island part cells rules) v around look cycle.solves) (look []) x.acts x.region true r
      → (r ≡ x.position + Coding.number (statement_coding (leaf_machines (instances.Node part cells) (coded_below cells)) (leaf_codings (instances.Node part cells) (coded_below cells)) t) q)
      × ((n : ℕ) → n < Coding.extra (statement_coding (leaf_machines (instances.Node part cells) (coded_below cells)) (leaf_codings (instances.Node part cells) (coded_below cells)) t)
      → number_of (leaf_machines (instances.Node part cells) (coded_below cells)) (leaf_codings (instances.Node part cells) (coded_below cells)) part (lowered_component part).islands (v.register []) (of_island part v) t l x.register n
      ≡ Coding.other (statement_coding (leaf_machines (instances.Node part cells) (coded_below cells)) (leaf_codings (instances.Node part cells) (coded_below cells)) t) q n)
      → IsWired (groups (lowered_component part)) (lowered_component part).islands around (now_R d of_island part cells (fine_node d of_island part cells rules) v around look cycle.solves) (look []) (first_of_control (lowered_component part)) (v.register [])
      (next d of_island part cells (fine_node d of_island part cells rules) v around look cycle.solves) (hole_now d of_island part cells (fine_node d of_island part cells rules) v around look cycle.solves)
      (port_now d of_island part cells (fine_node d of_island part cells rules) v around look cycle.solves) x (lowered part t l)
      → IslandsHold (leaf_machines (instances.Node part cells) (coded_below cells)) part timed_saw island_saw t q → (o : Option BitVector) → takes around (now_R d of_island part cells (fine_node d of_island part cells rules) v around look cycle.solves) (look []) (ToWire g) o (isles_of (groups (lowered_component part)) (lowered_component part).islands x (lowered part t l))
      ≡ offset_told g o (flat_map (entries_of (leaf_machines (instances.Node part cells) (coded_below cells)) part of_enable of_form) (running (leaf_machines (instances.Node part cells) (coded_below cells)) t q))

  -- THE WIRE of a group's offset
  module _ (g : ℕ) (there : g < groups (lowered_component part)) (say : IslandsSay g) (has : IslandsHold (leaf_machines (instances.Node part cells) (coded_below cells)) part timed_saw island_saw part.control p) where
    above : groups (lowered_component part) ≤ first_of_control (lowered_component part)
    above = omega arith

    it : PlainCycle part (fine_node d of_island part cells rules).islands_named around R (look []) (v.register []) (next d of_island part cells (fine_node d of_island part cells rules) v around look cycle.solves)
        (hole_now d of_island part cells (fine_node d of_island part cells rules) v around look cycle.solves) (port_now d of_island part cells (fine_node d of_island part cells rules) v around look cycle.solves) cycle.solves.go.0
    it = plain d part cells rules own control p s v around look cycle

    reads : Reads (groups (lowered_component part)) (lowered_component part).islands (fine_node d of_island part cells rules).islands_named around R (look []) g
        (drivers_of (groups (lowered_component part)) (lowered_component part).islands (whole_stand (first_of_control (lowered_component part))) (lowered part part.control (unlowered part)))
    reads =
        read_before (groups (lowered_component part)) (lowered_component part).islands (fine_node d of_island part cells rules).islands_named around R (look []) g
        (drivers_of (groups (lowered_component part)) (lowered_component part).islands (whole_stand (first_of_control (lowered_component part))) (lowered part part.control (unlowered part)))
        (finishing (first_of_control (lowered_component part)) (lowered part part.control (unlowered part)))
        (read_before (groups (lowered_component part)) (lowered_component part).islands (fine_node d of_island part cells rules).islands_named around R (look []) g
        (drivers_of (groups (lowered_component part)) (lowered_component part).islands (whole_stand (first_of_control (lowered_component part))) (lowered part part.control (unlowered part))
        ++ finishing (first_of_control (lowered_component part)) (lowered part part.control (unlowered part)))
        (assigns_drivers (groups (lowered_component part)) (first_of_assigns (lowered_component part)) (driven_assigns (lowered_component part)))
        (PlainCycle.wires it g (omega arith)))

    pub offset_reads : (o : Option BitVector) × (look [] (AWire g) ≡ offset_told g o (flat_map (entries_of (leaf_machines (instances.Node part cells) (coded_below cells)) part of_enable of_form) (running (leaf_machines (instances.Node part cells) (coded_below cells)) part.control p)))
    offset_reads = (
      Reads.behind_them reads,
      Reads.reads reads
          ∙ statement_only (groups (lowered_component part)) (lowered_component part).islands around R (look []) (first_of_control (lowered_component part)) g there above (lowered part part.control (unlowered part)) (whole_stand (first_of_control (lowered_component part))) (omega arith) (Reads.behind_them reads)
          ∙ statement_says (groups (lowered_component part)) (lowered_component part).islands around R (look []) (first_of_control (lowered_component part)) (v.register []) (next d of_island part cells (fine_node d of_island part cells rules) v around look cycle.solves)
          (hole_now d of_island part cells (fine_node d of_island part cells rules) v around look cycle.solves) (port_now d of_island part cells (fine_node d of_island part cells rules) v around look cycle.solves)
          (node_away d of_island part cells (fine_node d of_island part cells rules) v around look cycle.solves) g there above
          (leaf_machines (instances.Node part cells) (coded_below cells)) (leaf_codings (instances.Node part cells) (coded_below cells)) part (of_island part v) (Stands (instances.Node part cells)) (law d part cells rules own control)
          (enable_one (instances.Node part cells) (coded_below cells)) (island_one (instances.Node part cells) (coded_below cells)) of_enable of_form timed_saw island_saw
          (Low d part cells rules own control) (low_back d part cells rules own control) (low_parts d part cells rules own control) say part.control (root d part cells rules own control) (unlowered part)
          (itself part (after part part.control (unlowered part))) (whole_stand (first_of_control (lowered_component part))) (v.register [] 0) p cycle.fine (acts d part cells rules own control p s v around look cycle)
          (so_there d part cells rules own control p s v around look cycle, λ n less. cycle.shows.own (suc n)) (wired d part cells rules own control p s v around look cycle) has (Reads.behind_them reads),
    )

    -- of a leaf that runs, where no other one has the group
    pub offset_wire : (r : Running (leaf_machines (instances.Node part cells) (coded_below cells))) → In (running (leaf_machines (instances.Node part cells) (coded_below cells)) part.control p) r → (k : ℕ)
        → offset_in (entries_of (leaf_machines (instances.Node part cells) (coded_below cells)) part of_enable of_form r) g ≡ Some k
        → ((q : Running (leaf_machines (instances.Node part cells) (coded_below cells))) (n : ℕ) → In (running (leaf_machines (instances.Node part cells) (coded_below cells)) part.control p) q
        → offset_in (entries_of (leaf_machines (instances.Node part cells) (coded_below cells)) part of_enable of_form q) g ≡ Some n → q ≡ r) → look [] (AWire g) ≡ Some (wide k)
    offset_wire r m k e only =
        offset_reads.1
        ∙ told_among (entries_of (leaf_machines (instances.Node part cells) (coded_below cells)) part of_enable of_form) g k offset_reads.0 (running (leaf_machines (instances.Node part cells) (coded_below cells)) part.control p) r m e only
