-- The primitives that an island drives make at the edge the step that its machine writes, where what goes in the net is what is active in
-- its cycle.
use Rattle.std.proofs.Common.{◌≡◌, inl, ℕ, true, false, List, [], ◌∷◌, Option, Some, None, refl, sym, ap, ◌∙◌}
use Rattle.cx_text.specs.declared.places.Place.{Place}
use Rattle.cx_prim.specs.Rows.{Row}
use Rattle.cx_meaning.specs.declared.kinds.GroupKind.{GroupKind}
use Rattle.cx_meaning.specs.declared.kinds.GroupKind.TheVariants as kinds
use Rattle.cx_meaning.specs.Designs.{PlainComponent, PlainDesign, PlainForm, Enable, Placed, group_at}
use Rattle.cx_meaning.specs.Instances.{Instance, Node, Cells, OfRow, OfInstance, cell_at}
use Rattle.cx_meaning.specs.Active.{Active, Entry, entries, nothing}
use Rattle.cx_meaning.specs.Sights.{seen}
use Rattle.cx_meaning.specs.Cycles.{Ended, Goes, Faults, Fault, cycle}
use Rattle.cx_meaning.specs.Islands.{kind_length, turn_of, first_unclear, unless_unclear}
use Rattle.cx_meaning.specs.Control.{form_drives, drives}
use Rattle.cx_rules.specs.Items.{Dynamic}
use Rattle.cx_rules.specs.Footprints.{Reads, driven}
use Rattle.cx_rules.specs.Circles.{IsAcyclic}
use Rattle.cx_laws.specs.Samples.{Samples, active_by, begun_by}
use Rattle.cx_laws.proofs.VisitLemmas.{visited}
use Rattle.cx_frames.proofs.CircleFrames.{group_acyclic}
use Rattle.cx_control.specs.Apart.{IsApart}
use Rattle.cx_control.specs.Flows.{Values}
use Rattle.cx_control.proofs.CellLemmas.{quiet_step}
use Rattle.cx_control.proofs.TogetherLemmas.{together_acyclic}
use Rattle.cx_lockstep.specs.Worlds.{Machine, edge_of}
use Rattle.cx_lockstep.specs.Running.{Running, AGroup, AnIsland, leaf_of, leaf_writes, leaf_faults}
use Rattle.cx_control.specs.Spots.{Cell, Kept, cells_in, held_in}
use Rattle.cx_control.specs.Leaves.{Coded, InIsland, Cycle, LastTurn, turn_writes, turn_faults, written, sampled_now, island_writes, island_faults, kind_machine, leaf_machines}
use Rattle.cx_control.specs.Controls.{coded_control, coded_below}
use Rattle.cx_control.specs.Standing.{RestsAt, bare}
use Rattle.cx_control.specs.InstanceRules.{Stands}
use Rattle.cx_control.specs.CallRules.{CallRules}
use Rattle.cx_control.specs.ControlRules.{ControlRules}
use Rattle.cx_control.proofs.RegisterLemmas.{cycle_steps}
use Rattle.cx_net.specs.NetMeaning.{NetState, NetLook, NetAround}
use Rattle.cx_wiring.specs.PartNets.{wired_in, timers_of}
use Rattle.cx_wiring_runs.proofs.SeamRules.{SeamRules, row_lawful}
use Rattle.cx_wiring_runs.specs.Blocks.{block, Solves, FitsInputs}
use Rattle.cx_wiring_runs.specs.PortValues.{port_value, active_now}
use Rattle.cx_wiring_runs.proofs.SeamFlows.{Nearby, cell_steps}
use Rattle.cx_wiring_runs.proofs.RowSteps.{enable_low}
use Rattle.cx_wiring_runs.proofs.IslandSets.{active_together}
use Rattle.cx_wiring_runs.proofs.NodeSeam.{Runs, NodeSeam, StepsTo, IsStaticLeaf, IslandGoes, KindGoes, LeafGoes}
use Rattle.cx_text.proofs.NumberLaws.{true_false_also}

module _ (d : PlainDesign) (numbers : Instance → NetState → ℕ → ℕ) (part : PlainComponent) (cells : Cells) (rules : SeamRules d (Node part cells)) (control : ControlRules (Node part cells)) (around : NetAround) (v : NetState) (look : NetLook)
    (solves : Solves (block (wired_in d) timers_of numbers (Node part cells)) around v look) (s : Kept) (same : (c : ℕ) (row : Row) → cell_at cells c ≡ OfRow row → v.cell (c ∷ []) ≡ s (Cell (c ∷ [])))
    (fits : FitsInputs (block (wired_in d) timers_of numbers (Node part cells)) s around) (p : Machine.Place (Coded.machine (coded_control (Node part cells)))) (seam : NodeSeam part cells around v look s p) where
  abbrev V : Values
  V = port_value (Node part cells) around v look

  abbrev Now : Active
  Now = active_now (Node part cells) around v look

  -- nothing leads in a circle
  pub island_acyclic : (form : PlainForm) (place : Place) → Stands (Node part cells) (Placed form place) → (t : ℕ) (kept : Samples) → IsAcyclic (Node part cells) (entries (active_by part kept t form))
  island_acyclic form place stands t kept =
      together_acyclic (Node part cells) rules.keeps (λ o j n names. rules.kept.sources o n j names) (control.rules.circles).0
      (group_acyclic (Node part cells) control.rules.circles control.rules.groups) (active_together part kept form place t) Dynamic
      (λ w j c shared. control.unshared w (visited Dynamic part.control (record { context = Dynamic; form = form; place = place }) w stands j) c shared)

  module _ (form : PlainForm) (place : Place) (stands : Stands (Node part cells) (Placed form place)) (rests : (c : ℕ) (child : Instance) → Reads part (Placed form place) c → cell_at cells c ≡ OfInstance child → RestsAt cells c (bare s))
      (c : ℕ) (row : Row) (at : cell_at cells c ≡ OfRow row) (drives_it : drives part (Placed form place) c ≡ true) where
    near : (os : List Entry) → Nearby d numbers part cells rules around v look solves (cells_in s) same (held_in s) (entries os) (λ x q. Reads part (Placed form place) x)
    near os = record {
      inputs = fits;
      outputs = λ x q n child b reads at_x port sees. seam.child_seen x (λ e path k. (rests x child reads at_x).numbers_rest (e ∷ path) k) q n child b at_x port sees;
      dones = λ x q child reads at_x port. seam.rests_done x child (rests x child reads at_x) at_x;
    }

    module _ (t : ℕ) (kept : Samples) (apart : IsApart part (Placed form place) (entries (active_by part (sampled_now (Node part cells) form t kept s) t form)) (active_now (Node part cells) around v look)) where
      abbrev os : List Entry
      os = active_by part (sampled_now (Node part cells) form t kept s) t form

      of_cycle : (e : Ended) → cycle (Node part cells) (held_in s) (entries os) (cells_in s) ≡ e → turn_faults (turn_of e) ≡ false → StepsTo part cells around v look s p c row (turn_writes (form_drives part form) (turn_of e) (Cell (c ∷ [])))
      of_cycle (Faults fault) is fine = true_false_also fine
      of_cycle (Goes after) is fine =
          cell_steps d numbers part cells rules around v look solves (cells_in s) same (held_in s) (Placed form place) (entries os) apart (near os) (island_acyclic form place stands t (sampled_now (Node part cells) form t kept s)) (control.rules.circles).1
          c row (after (c ∷ [])) (driven drives_it) at (cycle_steps (Node part cells) (held_in s) (entries os) (cells_in s) after c row is at)
          ∙ sym (ap (λ b. edge_of (written b after (Cell (c ∷ []))) (row.idle (s (Cell (c ∷ []))))) drives_it)

      of_unclear : (o : Option Fault) → turn_faults (unless_unclear o (cycle (Node part cells) (held_in s) (entries os) (cells_in s))) ≡ false
          → StepsTo part cells around v look s p c row (turn_writes (form_drives part form) (unless_unclear o (cycle (Node part cells) (held_in s) (entries os) (cells_in s))) (Cell (c ∷ [])))
      of_unclear (Some fault) fine = true_false_also fine
      of_unclear None fine = of_cycle (cycle (Node part cells) (held_in s) (entries os) (cells_in s)) refl fine

    pub island_row : (stand : InIsland) → IslandGoes part cells around v look s p form place stand → island_faults (Node part cells) form stand s ≡ false → StepsTo part cells around v look s p c row (island_writes (Node part cells) form stand s (Cell (c ∷ [])))
    island_row (Cycle t kept) goes fine = of_unclear t kept goes (first_unclear (seen (Node part cells) (held_in s) nothing (cells_in s)) (begun_by part (sampled_now (Node part cells) form t kept s) t form)) fine
    island_row LastTurn goes fine =
        quiet_step V c row (s (Cell (c ∷ []))) (row_lawful d (Node part cells) rules c row at)
        (enable_low d numbers part cells rules around v look solves s same c row at (λ h e. inl (sym (goes.same h c (driven drives_it) e))))

  -- A LEAF of an island that runs
  pub static_row : (r : Running (leaf_machines (Node part cells) (coded_below cells))) → Runs part cells around v look s p r → IsStaticLeaf part cells around v look s p r → LeafGoes part cells around v look s p r → leaf_faults (leaf_machines (Node part cells) (coded_below cells)) r s ≡ false
      → (c : ℕ) (row : Row) → cell_at cells c ≡ OfRow row → drives part (leaf_of (leaf_machines (Node part cells) (coded_below cells)) r) c ≡ true
      → StepsTo part cells around v look s p c row (leaf_writes (leaf_machines (Node part cells) (coded_below cells)) r s (Cell (c ∷ [])))
  static_row (AnIsland form place stand) m static goes fine c row at drives_it =
      island_row form place (seam.stands (AnIsland form place stand) m) (λ x child reads at_x. seam.island_rests form place stand m x child reads at_x) c row at drives_it stand goes fine
  static_row (AGroup g place stand) m static goes fine c row at drives_it = of_kind (group_at part g).kind refl stand goes fine
    where
      some_none : (n : ℕ) → ◌≡◌ {A = Option ℕ} None (Some n) → ⊥
      some_none n e = cc

      of_kind : (k : GroupKind) → (group_at part g).kind ≡ k → (q : Machine.Place (kind_machine (Node part cells) (coded_below cells) g k)) → KindGoes part cells around v look s p g place k q → Machine.faults (kind_machine (Node part cells) (coded_below cells) g k) q s ≡ false
          → StepsTo part cells around v look s p c row (Machine.writes (kind_machine (Node part cells) (coded_below cells) g k) q s (Cell (c ∷ [])))
      of_kind kinds.Plain e q says fine = absurd (some_none static.0 (sym (ap kind_length e) ∙ static.1))
      of_kind kinds.Comb e q says fine = absurd (some_none static.0 (sym (ap kind_length e) ∙ static.1))
      of_kind (kinds.Timed n) e q says fine =
          island_row (Enable g) place (seam.stands (AGroup g place stand) m)
          (λ x child reads at_x. seam.group_rests g place stand m x child reads at_x
          (λ calls. some_none n (sym (ap kind_length (CallRules.plain (control.calls g place x (seam.stands (AGroup g place stand) m) calls))) ∙ ap kind_length e))) c row at drives_it q says fine
