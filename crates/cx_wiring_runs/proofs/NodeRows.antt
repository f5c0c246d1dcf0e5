-- EACH PRIMITIVE of a node makes at the edge of a cycle without a fault the step that the machine writes, or its idle step where nothing is
-- written. Of islands that is a premise here.
use Rattle.std.proofs.Common.{◌≡◌, ◌⊎◌, inl, inr, ◌⊎◌, ℕ, ◌<◌, Bool, true, false, if◌then◌else◌, [], ◌∷◌, length, Option, Some, None, unwrap_or, refl, sym, ap, ap₂, ◌∙◌, subst}
use Rattle.std.specs.Prelude.{nat_eq}
use Rattle.std.proofs.lemmas.Bool.{eq-eqb}
use Rattle.std.proofs.lemmas.Bool.Decides.{eqb_tells}
use Rattle.cx_text.specs.Members.{In}
use Rattle.cx_text.specs.declared.places.Place.{Place}
use Rattle.cx_bits.specs.BitVector.{BitVector, zero_of as zero_wide}
use Rattle.cx_prim.specs.CellStates.{CellState}
use Rattle.cx_prim.specs.Rows.{Row, is_enable_side}
use Rattle.cx_prim.specs.declared.ports.Side.TheVariants as sides
use Rattle.cx_meaning.specs.declared.ports.PortRef.TheVariants as ports
use Rattle.cx_meaning.specs.declared.kinds.GroupKind.{GroupKind}
use Rattle.cx_meaning.specs.declared.kinds.GroupKind.TheVariants as kinds
use Rattle.cx_meaning.specs.declared.sights.Seen.TheVariants.{Value}
use Rattle.cx_meaning.specs.Rows.{side_of}
use Rattle.cx_meaning.specs.Designs.{PlainComponent, PlainDesign, PlainStatement, Enable, Placed, group_at}
use Rattle.cx_meaning.specs.Instances.{Instance, Node, Cells, OfRow, OfInstance, cell_at, part_of, under}
use Rattle.cx_meaning.specs.Active.{Active, Owned, nothing, group, capture, source_order, offset_of, drivers}
use Rattle.cx_meaning.specs.Truths.{Truth, One, Zero, truth_of}
use Rattle.cx_meaning.specs.Truths as truths
use Rattle.cx_meaning.specs.Sights.{unheld, Sees, seen, AnOutput, part_port}
use Rattle.cx_meaning.specs.Cycles.{Ended, Goes, Faults, Fault, cycle}
use Rattle.cx_meaning.specs.Islands.{kind_length, group_length, turn_of, is_one}
use Rattle.cx_meaning.specs.Control.{form_drives, group_drives, drives}
use Rattle.cx_meaning.specs.Calls.{hole_turn, called, captures}
use Rattle.cx_rules.specs.Items.{Dynamic, is_comb}
use Rattle.cx_rules.specs.Ports.{width_of}
use Rattle.cx_rules.specs.Footprints.{Reads, driven}
use Rattle.cx_rules.proofs.ForeignLemmas.{assigns_drive_in, OwnerOf, continuous, of_group, owner_of}
use Rattle.cx_frames.proofs.CircleFrames.{capture_acyclic}
use Rattle.cx_control.specs.Apart.{IsApart}
use Rattle.cx_control.specs.Flows.{Values, zero_of, first_on, Solves as FlowSolves}
use Rattle.cx_control.proofs.CellLemmas.{quiet_step}
use Rattle.cx_lockstep.specs.Worlds.{At, Done, Machine, edge_of, is_done}
use Rattle.cx_lockstep.specs.Statements.{LeafMachines}
use Rattle.cx_lockstep.specs.Running.{Running, AGroup, AnIsland, leaf_of, leaf_writes, running}
use Rattle.cx_lockstep.proofs.RunningLaws.{no_faults}
use Rattle.cx_control.specs.Spots.{Spot, Cell, Number, Holds, Kept, cells_in, held_in, pull}
use Rattle.cx_control.specs.Leaves.{Coded, child_at, turn_next, turn_writes, turn_faults, written, captured_now, inputs_now, hole_now, child_writes, child_faults, called_machine, kind_machine, leaf_machines}
use Rattle.cx_control.specs.Controls.{coded_control, coded_below}
use Rattle.cx_control.specs.Standing.{RestsAt, bare, bare_under, Calling, runs, at_end, captured, GoodAt, good_below}
use Rattle.cx_control.specs.InstanceRules.{Stands}
use Rattle.cx_control.specs.CallRules.{CallForm, CallRules}
use Rattle.cx_control.specs.ControlRules.{ControlRules}
use Rattle.cx_control.proofs.CallLaws.{ChildLaws}
use Rattle.cx_control.proofs.LeafLaws.{ActsAs, IsQuietEnd, kind_ends}
use Rattle.cx_control.proofs.ControlLaws.{IslandsDo}
use Rattle.cx_control.proofs.KeepLaws as keeps
use Rattle.cx_control.proofs.KeepLaws.{KeepsBelow}
use Rattle.cx_control.specs.Keeping.{AllRest, Keeps}
use Rattle.cx_control.proofs.RegisterLemmas.{cycle_steps}
use Rattle.cx_net.specs.NetMeaning.{NetState, APort, AHole, TheDone, NetLook, NetAround, is_true, truth_bit}
use Rattle.cx_net.specs.NetEdges.{inputs_from}
use Rattle.cx_wiring.specs.PartNets.{wired_in, timers_of}
use Rattle.cx_wiring_runs.proofs.SeamRules.{SeamRules, row_lawful}
use Rattle.cx_wiring_runs.specs.Blocks.{block, Solves, FitsInputs}
use Rattle.cx_wiring_runs.specs.PortValues.{around_of, port_value, active_now}
use Rattle.cx_wiring_runs.proofs.NodePorts.{port_stands}
use Rattle.cx_wiring_runs.proofs.CellEdges.{inputs_given}
use Rattle.cx_wiring_runs.proofs.RowSteps.{enable_flow, enable_low}
use Rattle.cx_wiring_runs.proofs.SeamFlows.{st_solves, Nearby, cell_steps}
use Rattle.cx_wiring_runs.proofs.NodeSeam.{Runs, NodeSeam, StepsTo, IsStaticLeaf}
use Rattle.cx_wiring_runs.proofs.CallValues.{call_enables_none}
use Rattle.cx_wiring_runs.proofs.CallHoles.{done_value}
use Rattle.cx_meaning.proofs.InstancesLemmas.{row_instance, not_just}
use Rattle.cx_text.proofs.NumberLaws.{true_false_also}

enable_is : (side : _) → side ≡ sides.Enable → is_enable_side side ≡ true
enable_is side e = ap is_enable_side e

module _ (d : PlainDesign) (numbers : Instance → NetState → ℕ → ℕ) (part : PlainComponent) (cells : Cells) (rules : SeamRules d (Node part cells)) (control : ControlRules (Node part cells)) (islands : IslandsDo (Node part cells))
    (below : (c : ℕ) (child : Instance) → cell_at cells c ≡ OfInstance child → ChildLaws cells c (coded_below cells c)) (kept : (c : ℕ) (child : Instance) → cell_at cells c ≡ OfInstance child → KeepsBelow cells c)
    (around : NetAround) (v : NetState) (look : NetLook) (solves : Solves (block (wired_in d) timers_of numbers (Node part cells)) around v look)
    (s : Kept) (same : (c : ℕ) (row : Row) → cell_at cells c ≡ OfRow row → v.cell (c ∷ []) ≡ s (Cell (c ∷ []))) (fits : FitsInputs (block (wired_in d) timers_of numbers (Node part cells)) s around)
    (p : Machine.Place (Coded.machine (coded_control (Node part cells)))) (good : GoodAt (Node part cells) (coded_below cells) (good_below cells) (running (leaf_machines (Node part cells) (coded_below cells)) part.control p) (bare s))
    (ok : Machine.faults (Coded.machine (coded_control (Node part cells))) p s ≡ false) (seam : NodeSeam part cells around v look s p)
    (holes : (g : ℕ) (place : Place) (stand : Machine.Place (LeafMachines.enable (leaf_machines (Node part cells) (coded_below cells)) g)) → Runs part cells around v look s p (AGroup g place stand) → group_length part g ≡ None
    → is_true (unwrap_or (look [] (AHole g)) (zero_wide 1)) ≡ is_done (Machine.step (LeafMachines.enable (leaf_machines (Node part cells) (coded_below cells)) g) stand s))
    (dones : (g : ℕ) (place : Place) (stand : Machine.Place (LeafMachines.enable (leaf_machines (Node part cells) (coded_below cells)) g)) (c : ℕ) → Runs part cells around v look s p (AGroup g place stand) → called (Node part cells) g ≡ Some c
    → look (c ∷ []) TheDone ≡ Some (truth_bit (is_done (child_at (coded_below cells c) c s)))) where
  abbrev i : Instance
  i = Node part cells

  abbrev P : LeafMachines Spot Holds Fault
  P = leaf_machines (Node part cells) (coded_below cells)

  abbrev M : Machine Spot Holds
  M = Coded.machine (coded_control (Node part cells))

  abbrev V : Values
  V = port_value (Node part cells) around v look

  abbrev Now : Active
  Now = active_now (Node part cells) around v look

  flows : FlowSolves (Node part cells) (active_now (Node part cells) around v look) (cells_in s) (around_of (Node part cells) around v look) (port_value (Node part cells) around v look)
  flows = st_solves d numbers part cells rules around v look solves (cells_in s) same

  module _ (c : ℕ) (row : Row) (at : cell_at cells c ≡ OfRow row) where
    port_flow : (q : ℕ) → side_of row q ≡ sides.Enable → V (ports.Cell c q) ≡ first_on V (zero_of (width_of (Node part cells) (ports.Cell c q))) (drivers part Now (ports.Cell c q))
    port_flow = enable_flow d numbers part cells rules around v look solves s same c row at

    low : ((h : ℕ) → group_drives part h c ≡ true → (Now.offset h ≡ None) ⊎ (is_comb (group_at part h).kind ≡ true)) → (q : ℕ) → side_of row q ≡ sides.Enable → (V (ports.Cell c q)).value ≡ 0
    low = enable_low d numbers part cells rules around v look solves s same c row at

    idles : ((q : ℕ) → side_of row q ≡ sides.Enable → (V (ports.Cell c q)).value ≡ 0) → StepsTo part cells around v look s p c row None
    idles zeros = quiet_step V c row (s (Cell (c ∷ []))) (row_lawful d (Node part cells) rules c row at) zeros

    steps_as : (o u : Option CellState) → u ≡ o → StepsTo part cells around v look s p c row o → StepsTo part cells around v look s p c row u
    steps_as o u e steps = steps ∙ ap (λ w. edge_of w (row.idle (s (Cell (c ∷ []))))) (sym e)

    -- A GROUP that drives it
    module _ (g : ℕ) (place : Place) (stand : Machine.Place (LeafMachines.enable (leaf_machines (Node part cells) (coded_below cells)) g)) (m : In (running (leaf_machines (Node part cells) (coded_below cells)) part.control p) (AGroup g place stand))
        (drives_it : drives part (Placed (Enable g) place) c ≡ true) (plain : group_length part g ≡ None) where
      abbrev t : PlainStatement
      t = Placed (Enable g) place

      abbrev stands : Stands (Node part cells) (Placed (Enable g) place)
      stands = seam.stands (AGroup g place stand) m

      there : g < length part.groups
      there = (rules.node.ports.forms (record { context = Dynamic; form = Enable g; place = place }) stands).0

      abbrev hole : Bool
      hole = is_true (unwrap_or (look [] (AHole g)) (zero_wide 1))

      -- it ends
      ends : hole ≡ true → StepsTo part cells around v look s p c row None
      ends shut = idles (low (λ h e. inl (seam.ended_group g place stand m plain shut c h (driven drives_it) e)))

      apart : hole ≡ false → IsApart part (Placed (Enable g) place) (group g) Now
      apart off = seam.group_apart g place stand m plain off

      clean : Machine.faults (LeafMachines.enable (leaf_machines (Node part cells) (coded_below cells)) g) stand s ≡ false
      clean = no_faults (leaf_machines (Node part cells) (coded_below cells)) s (AGroup g place stand) part.control p ok m

      none_some : (x : ℕ) → ◌≡◌ {A = Option ℕ} None (Some x) → ⊥
      none_some x e = cc

      -- IT CALLS NOTHING
      module _ (none : called (Node part cells) g ≡ None) where
        near : Nearby d numbers part cells rules around v look solves (cells_in s) same (held_in s) (group g) (λ x q. Reads part (Placed (Enable g) place) x)
        near = record {
          inputs = fits;
          outputs = λ x q n child b reads at_x port sees. seam.child_seen x (λ e path k. (rests_at x child reads at_x).numbers_rest (e ∷ path) k) q n child b at_x port sees;
          dones = λ x q child reads at_x port. seam.rests_done x child (rests_at x child reads at_x) at_x;
        }
          where
            rests_at : (x : ℕ) (child : Instance) → Reads part (Placed (Enable g) place) x → cell_at cells x ≡ OfInstance child → RestsAt cells x (bare s)
            rests_at x child reads at_x = seam.group_rests g place stand m x child reads at_x (λ calls. none_some x (sym none ∙ calls))

        of_cycle : hole ≡ false → (e : Ended) → cycle (Node part cells) (held_in s) (group g) (cells_in s) ≡ e → turn_faults (turn_of e) ≡ false
            → StepsTo part cells around v look s p c row (turn_writes (form_drives part (Enable g)) (turn_of e) (Cell (c ∷ [])))
        of_cycle off (Faults fault) is fine = true_false_also fine
        of_cycle off (Goes after) is fine =
            cell_steps d numbers part cells rules around v look solves (cells_in s) same (held_in s) (Placed (Enable g) place) (group g) (apart off) near (control.rules.groups g there) (control.rules.circles).1 c row (after (c ∷ [])) (driven drives_it) at
            (cycle_steps (Node part cells) (held_in s) (group g) (cells_in s) after c row is at)
            ∙ sym (ap (λ b. edge_of (written b after (Cell (c ∷ []))) (row.idle (s (Cell (c ∷ []))))) drives_it)

        never_ends : (e : Ended) → is_done (turn_next (turn_of e)) ≡ false
        never_ends (Goes after) = refl
        never_ends (Faults fault) = refl

        of_truth : (u : Truth) → hole ≡ is_done (turn_next (hole_turn g (cycle (Node part cells) (held_in s) (group g) (cells_in s)) u)) → turn_faults (hole_turn g (cycle (Node part cells) (held_in s) (group g) (cells_in s)) u) ≡ false
            → StepsTo part cells around v look s p c row (turn_writes (form_drives part (Enable g)) (hole_turn g (cycle (Node part cells) (held_in s) (group g) (cells_in s)) u) (Cell (c ∷ [])))
        of_truth One ends_so fine = ends ends_so
        of_truth Zero ends_so fine = of_cycle (ends_so ∙ never_ends (cycle (Node part cells) (held_in s) (group g) (cells_in s))) (cycle (Node part cells) (held_in s) (group g) (cells_in s)) refl fine
        of_truth truths.Conflict ends_so fine = true_false_also fine
        of_truth truths.Undefined ends_so fine = true_false_also fine

        of_called : (o : Option ℕ) → o ≡ None → (q : Machine.Place (called_machine (Node part cells) (coded_below cells) g o)) → hole ≡ is_done (Machine.step (called_machine (Node part cells) (coded_below cells) g o) q s)
            → Machine.faults (called_machine (Node part cells) (coded_below cells) g o) q s ≡ false → StepsTo part cells around v look s p c row (Machine.writes (called_machine (Node part cells) (coded_below cells) g o) q s (Cell (c ∷ [])))
        of_called None e q ends_so fine = of_truth (truth_of (seen (Node part cells) (held_in s) (group g) (cells_in s) (ports.Done g))) ends_so fine
        of_called (Some x) e q ends_so fine = absurd (none_some x (sym e))

        of_kind : (k : GroupKind) → kind_length k ≡ None → (q : Machine.Place (kind_machine (Node part cells) (coded_below cells) g k)) → hole ≡ is_done (Machine.step (kind_machine (Node part cells) (coded_below cells) g k) q s)
            → Machine.faults (kind_machine (Node part cells) (coded_below cells) g k) q s ≡ false → StepsTo part cells around v look s p c row (Machine.writes (kind_machine (Node part cells) (coded_below cells) g k) q s (Cell (c ∷ [])))
        of_kind kinds.Plain e q ends_so fine = of_called (called (Node part cells) g) none q ends_so fine
        of_kind kinds.Comb e q ends_so fine = of_called (called (Node part cells) g) none q ends_so fine
        of_kind (kinds.Timed n) e q ends_so fine = absurd cc

        plain_row : StepsTo part cells around v look s p c row (Machine.writes (LeafMachines.enable (leaf_machines (Node part cells) (coded_below cells)) g) stand s (Cell (c ∷ [])))
        plain_row = of_kind (group_at part g).kind plain stand (holes g place stand m plain) clean

      -- IT CALLS another cell
      module _ (x : ℕ) (e : called (Node part cells) g ≡ Some x) where
        abbrev call : CallRules (Node part cells) g x
        call = control.calls g place x (seam.stands (AGroup g place stand) m) e

        abbrev form : CallForm (Node part cells) g x
        form = CallRules.form call

        abbrev acts : ActsAs (Node part cells) (coded_below cells) g x s (LeafMachines.enable (leaf_machines (Node part cells) (coded_below cells)) g) stand
        acts = keeps.acts part cells control islands below kept p s good ok g place stand x m e

        differ : x ≡ c → ⊥
        differ f = row_instance row form.child (sym at ∙ ap (cell_at cells) (sym f) ∙ form.at_child)

        abbrev Hole : Bool
        Hole = hole_now (Node part cells) (coded_below cells x) g x (captures (Node part cells) g) (child_at (coded_below cells x) x s) s

        hole_is : hole ≡ Hole
        hole_is = holes g place stand m plain ∙ acts.ends

        abbrev WritesOf : Option CellState
        WritesOf = Machine.writes (LeafMachines.enable (leaf_machines (Node part cells) (coded_below cells)) g) stand s (Cell (c ∷ []))

        -- it ends in this cycle
        call_ends : Hole ≡ true → StepsTo part cells around v look s p c row (Machine.writes (LeafMachines.enable (leaf_machines (Node part cells) (coded_below cells)) g) stand s (Cell (c ∷ [])))
        call_ends over =
            steps_as None (Machine.writes (LeafMachines.enable (leaf_machines (Node part cells) (coded_below cells)) g) stand s (Cell (c ∷ [])))
            (IsQuietEnd.nothing (kind_ends (Node part cells) (coded_below cells) s g (group_at part g).kind stand) (acts.ends ∙ over) (Cell (c ∷ []))) (ends (hole_is ∙ over))

        module _ (off : Hole ≡ false) where
          writes_so : (k : _) → child_at (coded_below cells x) x s ≡ k
              → Machine.writes (LeafMachines.enable (leaf_machines (Node part cells) (coded_below cells)) g) stand s (Cell (c ∷ [])) ≡ child_writes (Node part cells) (coded_below cells x) g x (captures (Node part cells) g) k s (Cell (c ∷ []))
          writes_so k is =
              acts.writes (Cell (c ∷ []))
              ∙ ap (λ b. if b then None else child_writes (Node part cells) (coded_below cells x) g x (captures (Node part cells) g) (child_at (coded_below cells x) x s) s (Cell (c ∷ []))) off
              ∙ ap (λ q. child_writes (Node part cells) (coded_below cells x) g x (captures (Node part cells) g) q s (Cell (c ∷ []))) is

          off_in_net : hole ≡ false
          off_in_net = hole_is ∙ off

          same_offsets : (q : ℕ) (o : Owned) → side_of row q ≡ sides.Enable → In (source_order part) o → o.assign.target ≡ ports.Cell c q → offset_of Now o.owner ≡ offset_of (group g) o.owner
          same_offsets q o side j target = by (owner_of part o j)
            where
              by : OwnerOf part o → offset_of Now o.owner ≡ offset_of (group g) o.owner
              by (continuous owner in_it) = absurd (rules.kept.quiet o c q row j owner target at side)
              by (of_group h owner in_it) =
                  ap (offset_of Now) owner ∙ sym ((apart off_in_net).same h c (driven drives_it) (assigns_drive_in (group_at part h).assigns o.assign c q in_it target)) ∙ sym (ap (offset_of (group g)) owner)

          -- the child goes on
          child_runs : (q : Machine.Place (Coded.machine (coded_below cells x))) → child_at (coded_below cells x) x s ≡ At q
              → StepsTo part cells around v look s p c row (Machine.writes (LeafMachines.enable (leaf_machines (Node part cells) (coded_below cells)) g) stand s (Cell (c ∷ [])))
          child_runs q is =
              steps_as None (Machine.writes (LeafMachines.enable (leaf_machines (Node part cells) (coded_below cells)) g) stand s (Cell (c ∷ [])))
              (writes_so (At q) is ∙ ap (λ b. if b then Machine.writes (Coded.machine (coded_below cells x)) q (pull_of q) (Cell []) else None) (not_just x c (λ f. differ (sym f))))
              (idles (λ n side. call_enables_none (Node part cells) g x form V (λ o j bare target. none_some g (sym bare ∙ (rules.keeps o j).own_done g target)) (flows (ports.Literal 1 1)) Now (zero_of (width_of (Node part cells) (ports.Cell c n))) c n row
              (λ o j target. same_offsets n o side j target) (λ o j owner target. rules.kept.quiet o c n row j owner target at side) at (ap is_enable_side side) (port_flow n side) refl
              (done_value d numbers part cells rules control around v look solves s same g place x stands e (dones g place stand x m e) ∙ ap (λ k. truth_bit (is_done k)) is)))
            where
              pull_of : Machine.Place (Coded.machine (coded_below cells x)) → Kept
              pull_of q = pull x (inputs_now (Node part cells) (coded_below cells x) g x (captures (Node part cells) g) s) s

          -- the child is at its end: the registers capture
          abbrev Capture : Active
          Capture = capture g x

          captures_now : child_at (coded_below cells x) x s ≡ Done → ((e : ℕ) (path : _) (n : ℕ) → s (Number (x ∷ e ∷ path) n) ≡ 0) → captures (Node part cells) g ≡ true
              → StepsTo part cells around v look s p c row (Machine.writes (LeafMachines.enable (leaf_machines (Node part cells) (coded_below cells)) g) stand s (Cell (c ∷ [])))
          captures_now is zeros caps =
              steps_as (turn_writes (form_drives part (Enable g)) (turn_of (cycle (Node part cells) (held_in s) (capture g x) (cells_in s))) (Cell (c ∷ [])))
              (Machine.writes (LeafMachines.enable (leaf_machines (Node part cells) (coded_below cells)) g) stand s (Cell (c ∷ [])))
              (writes_so Done is
              ∙ ap (λ b. if b then turn_writes (form_drives part (Enable g)) (turn_of (cycle (Node part cells) (held_in s) (capture g x) (cells_in s))) (Cell (c ∷ [])) else None) caps)
              (of_capture (cycle (Node part cells) (held_in s) (capture g x) (cells_in s)) refl fine)
            where
              fine : turn_faults (turn_of (cycle (Node part cells) (held_in s) (capture g x) (cells_in s))) ≡ false
              fine =
                  sym (ap (λ b. if b then turn_faults (turn_of (cycle (Node part cells) (held_in s) (capture g x) (cells_in s))) else false) caps)
                  ∙ sym (ap (λ k. child_faults (Node part cells) (coded_below cells x) g x (captures (Node part cells) g) k s) is)
                  ∙ keeps.no_fault part cells control islands below kept p s good ok g place stand x m e off

              near_capture : Nearby d numbers part cells rules around v look solves (cells_in s) same (held_in s) (capture g x) (λ y q. Reads part (Placed (Enable g) place) y)
              near_capture = record {
                inputs = fits;
                outputs = λ y q n child b reads at_y port sees. outputs_by y q n child b reads at_y port sees (eqb_tells y x);
                dones = λ y q child reads at_y port. dones_by y child reads at_y (eqb_tells y x);
              }
                where
                  some_is : (a b : ℕ) → ◌≡◌ {A = Option ℕ} (Some a) (Some b) → a ≡ b
                  some_is a b f = cc

                  rests_at : (y : ℕ) (child : Instance) → Reads part (Placed (Enable g) place) y → cell_at cells y ≡ OfInstance child → (y ≡ x → ⊥) → RestsAt cells y (bare s)
                  rests_at y child reads at_y apart_so = seam.group_rests g place stand m y child reads at_y (λ calls. apart_so (some_is y x (sym calls ∙ e)))

                  outputs_by : (y q n : ℕ) (child : Instance) (b : BitVector) → Reads part (Placed (Enable g) place) y → cell_at cells y ≡ OfInstance child → part_port (part_of child) q ≡ AnOutput n
                      → Sees child unheld nothing (under y (cells_in s)) (ports.Output n) (Value b) → ((nat_eq y x ≡ true) × (y ≡ x)) ⊎ ((nat_eq y x ≡ false) × (y ≡ x → ⊥)) → look (y ∷ []) (APort (ports.Output n)) ≡ Some b
                  outputs_by y q n child b reads at_y port sees (inl k) = seam.child_seen y (λ f path j. subst (λ z. s (Number (z ∷ f ∷ path) j) ≡ 0) (sym k.1) (zeros f path j)) q n child b at_y port sees
                  outputs_by y q n child b reads at_y port sees (inr k) = seam.child_seen y (λ f path j. (rests_at y child reads at_y k.1).numbers_rest (f ∷ path) j) q n child b at_y port sees

                  dones_by : (y : ℕ) (child : Instance) → Reads part (Placed (Enable g) place) y → cell_at cells y ≡ OfInstance child → ((nat_eq y x ≡ true) × (y ≡ x)) ⊎ ((nat_eq y x ≡ false) × (y ≡ x → ⊥))
                      → look (y ∷ []) TheDone ≡ Some (truth_bit (nat_eq x y))
                  dones_by y child reads at_y (inl k) =
                      ap (λ z. look (z ∷ []) TheDone) k.1 ∙ dones g place stand x m e ∙ ap (λ z. Some (truth_bit (is_done z))) is ∙ ap (λ b. Some (truth_bit b)) (sym (eq-eqb x y (sym k.1)))
                  dones_by y child reads at_y (inr k) = seam.rests_done y child (rests_at y child reads at_y k.1) at_y ∙ ap (λ b. Some (truth_bit b)) (sym (not_same k.1))
                    where
                      not_same : (y ≡ x → ⊥) → nat_eq x y ≡ false
                      not_same f = of_tells (eqb_tells x y)
                        where
                          of_tells : ((nat_eq x y ≡ true) × (x ≡ y)) ⊎ ((nat_eq x y ≡ false) × (x ≡ y → ⊥)) → nat_eq x y ≡ false
                          of_tells (inl r) = absurd (f (sym r.1))
                          of_tells (inr r) = r.0

              capture_apart : IsApart part (Placed (Enable g) place) (capture g x) Now
              capture_apart = record { its_own = (apart off_in_net).its_own; same = (apart off_in_net).same }

              of_capture : (z : Ended) → cycle (Node part cells) (held_in s) (capture g x) (cells_in s) ≡ z → turn_faults (turn_of z) ≡ false → StepsTo part cells around v look s p c row (turn_writes (form_drives part (Enable g)) (turn_of z) (Cell (c ∷ [])))
              of_capture (Faults fault) f g2 = true_false_also g2
              of_capture (Goes after) f g2 =
                  cell_steps d numbers part cells rules around v look solves (cells_in s) same (held_in s) (Placed (Enable g) place) (capture g x) capture_apart near_capture
                  (capture_acyclic (Node part cells) g x (control.rules.groups g there)) (control.rules.circles).1 c row (after (c ∷ [])) (driven drives_it) at
                  (cycle_steps (Node part cells) (held_in s) (capture g x) (cells_in s) after c row f at)
                  ∙ sym (ap (λ b. edge_of (written b after (Cell (c ∷ []))) (row.idle (s (Cell (c ∷ []))))) drives_it)

          -- where it stands
          going_on : Calling (Node part cells) (coded_below cells) (good_below cells) g x (bare s) → StepsTo part cells around v look s p c row (Machine.writes (LeafMachines.enable (leaf_machines (Node part cells) (coded_below cells)) g) stand s (Cell (c ∷ [])))
          going_on (runs q fine code gd is_open) = child_runs q (keeps.decoded part cells control islands below kept g place x stands e s (At q) fine code)
          going_on (at_end code gd is_open) = by (captures (Node part cells) g) refl
            where
              at_its_end : child_at (coded_below cells x) x s ≡ Done
              at_its_end = keeps.decoded part cells control islands below kept g place x stands e s Done tt code

              by : (b : Bool) → captures (Node part cells) g ≡ b → StepsTo part cells around v look s p c row (Machine.writes (LeafMachines.enable (leaf_machines (Node part cells) (coded_below cells)) g) stand s (Cell (c ∷ [])))
              by true caps = captures_now at_its_end (λ f path n. AllRest.numbers (Keeps.ended (keeps.keeps part cells control islands below kept g place x stands e) (bare_under x (bare s)) gd) f path n) caps
              by false caps = true_false_also (sym (keeps.hole_at part cells control islands below kept p s good ok g place stand x m e Done false at_its_end caps) ∙ off)
          going_on (captured rests caps is_set) =
              true_false_also (sym (ap (λ b. if b then captured_now (Node part cells) (coded_below cells x) g x (captures (Node part cells) g) s else is_done (child_at (coded_below cells x) x s)) caps ∙ ap is_one (is_set (held_in s))) ∙ off)

        call_row : StepsTo part cells around v look s p c row (Machine.writes (LeafMachines.enable (leaf_machines (Node part cells) (coded_below cells)) g) stand s (Cell (c ∷ [])))
        call_row = by Hole refl
          where
            by : (b : Bool) → Hole ≡ b → StepsTo part cells around v look s p c row (Machine.writes (LeafMachines.enable (leaf_machines (Node part cells) (coded_below cells)) g) stand s (Cell (c ∷ [])))
            by true over = call_ends over
            by false off = going_on off (good.calls g place stand x m e)

      group_row : StepsTo part cells around v look s p c row (Machine.writes (LeafMachines.enable (leaf_machines (Node part cells) (coded_below cells)) g) stand s (Cell (c ∷ [])))
      group_row = by (called (Node part cells) g) refl
        where
          by : (o : Option ℕ) → called (Node part cells) g ≡ o → StepsTo part cells around v look s p c row (Machine.writes (LeafMachines.enable (leaf_machines (Node part cells) (coded_below cells)) g) stand s (Cell (c ∷ [])))
          by None none = plain_row none
          by (Some x) e = call_row x e

  -- EACH PRIMITIVE
  module _ (static_rows : (r : Running (leaf_machines (Node part cells) (coded_below cells))) → In (running (leaf_machines (Node part cells) (coded_below cells)) part.control p) r → IsStaticLeaf part cells around v look s p r → (c : ℕ) (row : Row) → cell_at cells c ≡ OfRow row
      → drives part (leaf_of (leaf_machines (Node part cells) (coded_below cells)) r) c ≡ true → StepsTo part cells around v look s p c row (leaf_writes (leaf_machines (Node part cells) (coded_below cells)) r s (Cell (c ∷ [])))) where
    over_store : (c : ℕ) (row : Row) → cell_at cells c ≡ OfRow row → StepsTo part cells around v look s p c row (Machine.writes (Coded.machine (coded_control (Node part cells))) p s (Cell (c ∷ [])))
    over_store c row at = by (keeps.driver_of part cells control islands below kept p s good ok c (running (leaf_machines (Node part cells) (coded_below cells)) part.control p))
      where
        of_leaf : (r : Running (leaf_machines (Node part cells) (coded_below cells))) → In (running (leaf_machines (Node part cells) (coded_below cells)) part.control p) r → drives part (leaf_of (leaf_machines (Node part cells) (coded_below cells)) r) c ≡ true
            → StepsTo part cells around v look s p c row (leaf_writes (leaf_machines (Node part cells) (coded_below cells)) r s (Cell (c ∷ [])))
        of_leaf (AnIsland form place stand) m f = static_rows (AnIsland form place stand) m tt c row at f
        of_leaf (AGroup g place stand) m f = of_length (group_length part g) refl
          where
            of_length : (o : Option ℕ) → group_length part g ≡ o → StepsTo part cells around v look s p c row (Machine.writes (LeafMachines.enable (leaf_machines (Node part cells) (coded_below cells)) g) stand s (Cell (c ∷ [])))
            of_length None plain = group_row c row at g place stand m f plain
            of_length (Some n) timed = static_rows (AGroup g place stand) m (n, timed) c row at f

        by : ((r : Running (leaf_machines (Node part cells) (coded_below cells))) × In (running (leaf_machines (Node part cells) (coded_below cells)) part.control p) r × (drives part (leaf_of (leaf_machines (Node part cells) (coded_below cells)) r) c ≡ true))
            ⊎ ((r : Running (leaf_machines (Node part cells) (coded_below cells))) → In (running (leaf_machines (Node part cells) (coded_below cells)) part.control p) r → drives part (leaf_of (leaf_machines (Node part cells) (coded_below cells)) r) c ≡ false)
            → StepsTo part cells around v look s p c row (Machine.writes (Coded.machine (coded_control (Node part cells))) p s (Cell (c ∷ [])))
        by (inl (r, m, f)) =
            steps_as c row at (leaf_writes (leaf_machines (Node part cells) (coded_below cells)) r s (Cell (c ∷ []))) (Machine.writes (Coded.machine (coded_control (Node part cells))) p s (Cell (c ∷ [])))
            (keeps.written_by part cells control islands below kept p s good ok (Cell (c ∷ [])) r m f) (of_leaf r m f)
        by (inr free) =
            steps_as c row at None (Machine.writes (Coded.machine (coded_control (Node part cells))) p s (Cell (c ∷ [])))
            (keeps.none_written part cells control islands below kept p s good ok (Cell (c ∷ [])) (λ r m. free r m)) (idles c row at (low c row at (λ h e. seam.free_cell c free h e)))

    pub node_rows : (c : ℕ) (row : Row) → cell_at cells c ≡ OfRow row
        → row.next (v.cell (c ∷ [])) (inputs_from look c 0 row.ports) ≡ edge_of (Machine.writes (Coded.machine (coded_control (Node part cells))) p s (Cell (c ∷ []))) (row.idle (s (Cell (c ∷ []))))
    node_rows c row at =
        ap₂ row.next (same c row at) (inputs_given (Node part cells) around v look c row at (λ q less. solves.whole [] (APort (ports.Cell c q)) (port_stands d numbers part cells c q (OfRow row) at less)))
        ∙ over_store c row at
