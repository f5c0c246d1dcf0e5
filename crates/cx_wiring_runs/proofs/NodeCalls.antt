-- A CALL THAT GOES ON: the cell that it calls has go in the net, and the inputs that the machine gives its child, where they are values.
use Rattle.std.proofs.Common.{◌≡◌, ◌⊎◌, inl, inr, ℕ, suc, ◌+◌, ◌<◌, Bool, true, false, ◌||◌, if◌then◌else◌, [], ◌∷◌, length, Option, Some, None, unwrap_or, refl, sym, ap, ◌∙◌, subst, arith}
use Rattle.std.specs.Prelude.{nat_lt, nat_eq}
use Rattle.std.proofs.lemmas.Bool.{lt-ltb, ltb-true}
use Rattle.std.proofs.lemmas.Bool.Decides.{eqb_tells}
use Rattle.cx_text.specs.Members.{In}
use Rattle.cx_text.specs.declared.places.Place.{Place}
use Rattle.cx_bits.specs.BitVector.{BitVector, zero_of as zero_wide}
use Rattle.cx_prim.specs.Rows.{Row}
use Rattle.cx_meaning.specs.declared.ports.PortRef.TheVariants as ports
use Rattle.cx_meaning.specs.declared.sights.Seen.TheVariants.{Value, Undefined}
use Rattle.cx_meaning.specs.Designs.{PlainComponent, PlainDesign, PlainStatement, Enable, Placed, group_at}
use Rattle.cx_meaning.specs.Instances.{Instance, Node, Cells, OfRow, OfInstance, cell_at, part_of, under, input_count}
use Rattle.cx_meaning.specs.Active.{Active, Owned, nothing, group, source_order, offset_of}
use Rattle.cx_meaning.specs.Sights.{unheld, Sees, seen, AnOutput, ItsDone, part_port}
use Rattle.cx_meaning.specs.Islands.{kind_length}
use Rattle.cx_meaning.specs.Control.{groups_of, group_drives}
use Rattle.cx_meaning.specs.Calls.{called, captures}
use Rattle.cx_rules.specs.Ports.{width_of}
use Rattle.cx_rules.specs.Footprints.{Reads, driven}
use Rattle.cx_rules.proofs.FoundLemmas.{seen_found}
use Rattle.cx_rules.proofs.ForeignLemmas.{assigns_drive_in, OwnerOf, continuous, of_group, owner_of}
use Rattle.cx_control.specs.Apart.{IsApart}
use Rattle.cx_control.specs.Flows.{Values, Reaches, zero_of, is_set, cell_flow, Solves as FlowSolves}
use Rattle.cx_lockstep.specs.Worlds.{Machine, is_done}
use Rattle.cx_lockstep.specs.Statements.{LeafMachines}
use Rattle.cx_lockstep.specs.Running.{AGroup}
use Rattle.cx_control.specs.Spots.{Cell, Kept, cells_in, held_in}
use Rattle.cx_control.specs.Leaves.{Coded, child_at, inputs_now, leaf_machines}
use Rattle.cx_control.specs.Controls.{coded_control, coded_below}
use Rattle.cx_control.specs.Standing.{RestsAt, bare}
use Rattle.cx_control.specs.InstanceRules.{Stands}
use Rattle.cx_control.specs.CallRules.{CallForm, CallRules}
use Rattle.cx_control.specs.ControlRules.{ControlRules}
use Rattle.cx_control.proofs.ShapeLemmas.{called_driving}
use Rattle.cx_net.specs.NetMeaning.{NetState, APort, AHole, TheDone, NetLook, NetAround, is_true, truth_bit, around_child}
use Rattle.cx_wiring.specs.PartNets.{wired_in, timers_of}
use Rattle.cx_wiring.proofs.TakingLemmas.{true_bit}
use Rattle.cx_wiring_runs.proofs.SeamRules.{SeamRules}
use Rattle.cx_wiring_runs.specs.Blocks.{block, block_below, Solves, FitsInputs, HasGo}
use Rattle.cx_wiring_runs.specs.PortValues.{has_port, value_beyond, around_of, port_value, active_now}
use Rattle.cx_wiring_runs.proofs.NodePorts.{port_stands}
use Rattle.cx_wiring_runs.proofs.CellEdges.{go_stands}
use Rattle.cx_wiring_runs.proofs.SeamFlows.{st_solves, Nearby, reach_reads, reached_seen}
use Rattle.cx_wiring_runs.proofs.NodeSeam.{Runs, NodeSeam}
use Rattle.cx_wiring_runs.proofs.CallValues.{go_is_one}
use Rattle.cx_wiring_runs.proofs.CallHoles.{done_value}
use Rattle.cx_meaning.proofs.InstancesLemmas.{instance_is}
use Rattle.cx_meaning.proofs.SightsLaws.{input_at}

cell_is : (c p e q : ℕ) → ports.Cell c p ≡ ports.Cell e q → c ≡ e
cell_is c p e q f = cc

value_is : (a b : BitVector) → Value a ≡ Value b → a ≡ b
value_is a b f = cc

module _ (d : PlainDesign) (numbers : Instance → NetState → ℕ → ℕ) (part : PlainComponent) (cells : Cells) (rules : SeamRules d (Node part cells)) (control : ControlRules (Node part cells)) (around : NetAround) (v : NetState) (look : NetLook)
    (solves : Solves (block (wired_in d) timers_of numbers (Node part cells)) around v look) (s : Kept) (same : (c : ℕ) (row : Row) → cell_at cells c ≡ OfRow row → v.cell (c ∷ []) ≡ s (Cell (c ∷ [])))
    (fits : FitsInputs (block (wired_in d) timers_of numbers (Node part cells)) s around) (p : Machine.Place (Coded.machine (coded_control (Node part cells)))) (seam : NodeSeam part cells around v look s p)
    (g : ℕ) (place : Place) (stand : Machine.Place (LeafMachines.enable (leaf_machines (Node part cells) (coded_below cells)) g)) (runs : Runs part cells around v look s p (AGroup g place stand)) (c : ℕ) (e : called (Node part cells) g ≡ Some c)
    (is_open : is_true (unwrap_or (look [] (AHole g)) (zero_wide 1)) ≡ false) where
  abbrev V : Values
  V = port_value (Node part cells) around v look

  abbrev Now : Active
  Now = active_now (Node part cells) around v look

  abbrev t : PlainStatement
  t = Placed (Enable g) place

  abbrev stands : Stands (Node part cells) (Placed (Enable g) place)
  stands = seam.stands (AGroup g place stand) runs

  abbrev call : CallRules (Node part cells) g c
  call = control.calls g place c stands e

  abbrev form : CallForm (Node part cells) g c
  form = CallRules.form call

  apart : IsApart part (Placed (Enable g) place) (group g) (active_now (Node part cells) around v look)
  apart = seam.group_apart g place stand runs (ap kind_length (CallRules.plain call)) is_open

  flows : FlowSolves (Node part cells) (active_now (Node part cells) around v look) (cells_in s) (around_of (Node part cells) around v look) (port_value (Node part cells) around v look)
  flows = st_solves d numbers part cells rules around v look solves (cells_in s) same

  -- the group drives the cell, and reads it
  drives_it : group_drives part g c ≡ true
  drives_it = let it = called_driving cells (group_at part g).assigns c e in assigns_drive_in (group_at part g).assigns it.assign c it.port it.is_in it.target

  reads_it : Reads part (Placed (Enable g) place) c
  reads_it = driven (ap (λ b. b || false) drives_it)

  -- THE GO
  same_offsets : (o : Owned) → In (source_order part) o → o.assign.target ≡ ports.Cell c 0 → offset_of Now o.owner ≡ offset_of (group g) o.owner
  same_offsets o j target = by (owner_of part o j)
    where
      by : OwnerOf part o → offset_of Now o.owner ≡ offset_of (group g) o.owner
      by (continuous owner there) = absurd (form.no_bare o 0 j owner target)
      by (of_group h owner there) =
          ap (offset_of Now) owner ∙ sym (apart.same h c reads_it (assigns_drive_in (group_at part h).assigns o.assign c 0 there target)) ∙ sym (ap (offset_of (group g)) owner)

  none_some : (x : ℕ) → ◌≡◌ {A = Option ℕ} None (Some x) → ⊥
  none_some x f = cc

  module _ (not_done : look (c ∷ []) TheDone ≡ Some (truth_bit (is_done (child_at (coded_below cells c) c s)))) (runs_on : is_done (child_at (coded_below cells c) c s) ≡ false) where
    go_value : V (ports.Cell c 0) ≡ truth_bit true
    go_value =
        go_is_one (Node part cells) g c form V (λ o j none target. none_some g (sym none ∙ (rules.keeps o j).own_done g target)) (flows (ports.Literal 1 1)) Now (zero_of (width_of (Node part cells) (ports.Cell c 0))) same_offsets
        (flows (ports.Cell c 0)
        ∙ ap (cell_flow (Node part cells) (active_now (Node part cells) around v look) (cells_in s) (around_of (Node part cells) around v look) V c 0) form.at_child)
        (ap is_set (done_value d numbers part cells rules control around v look solves s same g place c stands e not_done ∙ ap truth_bit runs_on))

    pub call_has_go : HasGo (block_below (wired_in d) timers_of numbers cells (timers_of part) c) (around_child c (look [])) true
    call_has_go = (
      V (ports.Cell c 0),
      go_stands (Node part cells) around v look c form.child form.at_child (solves.whole [] (APort (ports.Cell c 0)) (port_stands d numbers part cells c 0 (OfInstance form.child) form.at_child (omega arith))),
      ap is_true go_value ∙ true_bit true,
    )

  -- THE INPUTS
  module _ (n : ℕ) (there : n < length (part_of form.child).inputs) where
    own : (h o : ℕ) → (group g).offset h ≡ Some o → In (groups_of (Placed (Enable g) place)) h
    own = apart.its_own

    not_given : (child : Instance) (q : ℕ) → cell_at cells c ≡ OfInstance child → ((m : ℕ) × (part_port (part_of child) q ≡ AnOutput m)) ⊎ (part_port (part_of child) q ≡ ItsDone)
        → Reaches (Node part cells) (group g) (ports.Cell c (suc n)) (ports.Cell c q) → ⊥
    not_given child q at given reach =
        form.no_given n q (input_at (part_of form.child) n there)
        (subst (λ x. ((m : ℕ) × (part_port (part_of x) q ≡ AnOutput m)) ⊎ (part_port (part_of x) q ≡ ItsDone)) (instance_is child form.child (sym at ∙ form.at_child)) given) reach

    reads_so : (x q : ℕ) → Reaches (Node part cells) (group g) (ports.Cell c (suc n)) (ports.Cell x q) → Reads part (Placed (Enable g) place) x
    reads_so x q reach = reach_reads d numbers part cells rules around v look solves (cells_in s) same (Placed (Enable g) place) (group g) own c (suc n) reads_it x q reach

    rests : (x q : ℕ) (child : Instance) → Reaches (Node part cells) (group g) (ports.Cell c (suc n)) (ports.Cell x q) → cell_at cells x ≡ OfInstance child → (x ≡ c → ⊥) → RestsAt cells x (bare s)
    rests x q child reach at differ = seam.group_rests g place stand runs x child (reads_so x q reach) at (λ calls. differ (some_is x c (sym calls ∙ e)))
      where
        some_is : (a b : ℕ) → ◌≡◌ {A = Option ℕ} (Some a) (Some b) → a ≡ b
        some_is a b f = cc

    here : (x q : ℕ) → x ≡ c → Reaches (Node part cells) (group g) (ports.Cell c (suc n)) (ports.Cell x q) → Reaches (Node part cells) (group g) (ports.Cell c (suc n)) (ports.Cell c q)
    here x q f reach = subst (λ k. Reaches (Node part cells) (group g) (ports.Cell c (suc n)) (ports.Cell k q)) f reach

    near : Nearby d numbers part cells rules around v look solves (cells_in s) same (held_in s) (group g) (λ x q. Reaches (Node part cells) (group g) (ports.Cell c (suc n)) (ports.Cell x q))
    near = record {
      inputs = fits;
      outputs = λ x q m child b reach at port sees.
          outputs_by x q m child b reach at port sees (eqb_tells x c);
      dones = λ x q child reach at port. dones_by x q child reach at port (eqb_tells x c);
    }
      where
        outputs_by : (x q m : ℕ) (child : Instance) (b : BitVector) → Reaches (Node part cells) (group g) (ports.Cell c (suc n)) (ports.Cell x q) → cell_at cells x ≡ OfInstance child → part_port (part_of child) q ≡ AnOutput m
            → Sees child unheld nothing (under x (cells_in s)) (ports.Output m) (Value b) → ((nat_eq x c ≡ true) × (x ≡ c)) ⊎ ((nat_eq x c ≡ false) × (x ≡ c → ⊥)) → look (x ∷ []) (APort (ports.Output m)) ≡ Some b
        outputs_by x q m child b reach at port sees (inl k) = absurd (not_given child q (ap (cell_at cells) (sym k.1) ∙ at) (inl (m, port)) (here x q k.1 reach))
        outputs_by x q m child b reach at port sees (inr k) = seam.child_seen x (λ y path k2. (rests x q child reach at k.1).numbers_rest (y ∷ path) k2) q m child b at port sees

        dones_by : (x q : ℕ) (child : Instance) → Reaches (Node part cells) (group g) (ports.Cell c (suc n)) (ports.Cell x q) → cell_at cells x ≡ OfInstance child → part_port (part_of child) q ≡ ItsDone
            → ((nat_eq x c ≡ true) × (x ≡ c)) ⊎ ((nat_eq x c ≡ false) × (x ≡ c → ⊥)) → look (x ∷ []) TheDone ≡ Some (truth_bit false)
        dones_by x q child reach at port (inl k) = absurd (not_given child q (ap (cell_at cells) (sym k.1) ∙ at) (inr port) (here x q k.1 reach))
        dones_by x q child reach at port (inr k) = seam.rests_done x child (rests x q child reach at k.1) at

    input_value : (b : BitVector) → seen (Node part cells) (held_in s) (group g) (cells_in s) (ports.Cell c (suc n)) ≡ Value b → V (ports.Cell c (suc n)) ≡ b
    input_value b f =
        reached_seen d numbers part cells rules around v look solves (cells_in s) same (held_in s) (Placed (Enable g) place) (group g) apart c (suc n) reads_it near b
        (subst (Sees (Node part cells) (held_in s) (group g) (cells_in s) (ports.Cell c (suc n))) f
        (seen_found (Node part cells) (held_in s) (group g) (cells_in s) (control.rules.groups g (rules.node.ports.forms (record { context = _; form = Enable g; place = place }) stands).0) (control.rules.circles).1 (ports.Cell c (suc n))))

    input_stands : look [] (APort (ports.Cell c (suc n))) ≡ Some (V (ports.Cell c (suc n)))
    input_stands =
        let x = solves.whole [] (APort (ports.Cell c (suc n))) (port_stands d numbers part cells c (suc n) (OfInstance form.child) form.at_child (omega (arith, there))) in
        x.1 ∙ ap Some (sym (ap (λ o. unwrap_or o (zero_of None)) x.1)
        ∙ sym (ap (λ b. if b then unwrap_or (look [] (APort (ports.Cell c (suc n)))) (zero_of None) else value_beyond (Node part cells) around v look c (suc n) (cell_at cells c))
        (ap (λ k. has_port k (suc n)) form.at_child ∙ lt-ltb (suc n) (2 + length (part_of form.child).inputs + length (part_of form.child).outputs) (omega (arith, there)))))

  pub call_has_inputs : (n : ℕ) (x : BitVector) → inputs_now (Node part cells) (coded_below cells c) g c (captures (Node part cells) g) s n ≡ Value x → look [] (APort (ports.Cell c (suc n))) ≡ Some x
  call_has_inputs n x f = by (nat_lt n (input_count (cell_at cells c))) refl f
    where
      by : (b : Bool) → nat_lt n (input_count (cell_at cells c)) ≡ b → (if b then seen (Node part cells) (held_in s) (group g) (cells_in s) (ports.Cell c (suc n)) else Undefined) ≡ Value x
          → look [] (APort (ports.Cell c (suc n))) ≡ Some x
      by false less k = absurd cc
      by true less k =
          let there : n < length (part_of form.child).inputs = ltb-true n (length (part_of form.child).inputs) (sym (ap (λ y. nat_lt n (input_count y)) form.at_child) ∙ less) in
          input_stands n there ∙ ap Some (input_value n there x k)
