-- THE HOLE OF A GROUP THAT CALLS is in the net what its machine takes it for, where the done of the cell that it calls is.
use Rattle.std.proofs.Common.{◌≡◌, ℕ, suc, ◌+◌, ◌<◌, inl, inr, Bool, true, false, ◌||◌, if◌then◌else◌, List, [], ◌∷◌, length, Option, Some, None, unwrap_or, refl, sym, ap, ◌∙◌, subst, arith}
use Rattle.std.specs.Prelude.{slice_get}
use Rattle.cx_text.specs.Members.{In}
use Rattle.cx_text.specs.declared.places.Place.{Place}
use Rattle.cx_bits.specs.BitVector.{BitVector, zero_of as zero_wide}
use Rattle.cx_prim.specs.Rows.{Row}
use Rattle.cx_prim.specs.RegisterRow.{register_output, register_row}
use Rattle.cx_prim.specs.CellStates as states
use Rattle.cx_prim.specs.CellStates.{CellState}
use Rattle.cx_prim.proofs.PortsLemmas.{is_enable_side-Enable}
use Rattle.cx_meaning.specs.declared.ports.PortRef.{PortRef}
use Rattle.cx_meaning.specs.declared.ports.PortRef.TheVariants as ports
use Rattle.cx_meaning.specs.declared.sights.Seen.TheVariants.{Value}
use Rattle.cx_meaning.specs.Rows.{side_of}
use Rattle.cx_meaning.specs.Designs.{PlainAssign, PlainComponent, PlainDesign, Enable, Placed, group_at}
use Rattle.cx_meaning.specs.Instances.{Instance, Node, Cells, OfRow, cell_at, part_of}
use Rattle.cx_meaning.specs.Active.{Owned, group, same_port, source_order}
use Rattle.cx_meaning.specs.Truths.{One, truth_of}
use Rattle.cx_meaning.specs.Sights.{of_option, seen}
use Rattle.cx_meaning.specs.Calls.{enables_at, enables_primitive, captures_in, called, captures}
use Rattle.cx_rules.specs.Items.{Dynamic}
use Rattle.cx_rules.specs.Ports.{width_of}
use Rattle.cx_rules.specs.CallShape.{done_port, write_en_of, register_done, captured, wanted_dones}
use Rattle.cx_rules.proofs.FoundLemmas.{same_is}
use Rattle.cx_control.specs.Flows.{Values, zero_of, is_set, cell_flow, part_flow, Solves as FlowSolves}
use Rattle.cx_lockstep.specs.Worlds.{Machine, is_done}
use Rattle.cx_lockstep.specs.Statements.{LeafMachines}
use Rattle.cx_control.specs.Spots.{Cell, Kept, cells_in, held_in}
use Rattle.cx_control.specs.Leaves.{child_at, captured_now, leaf_machines}
use Rattle.cx_control.specs.Controls.{coded_below}
use Rattle.cx_control.specs.InstanceRules.{Stands}
use Rattle.cx_control.specs.CallRules.{CallForm, CallRules}
use Rattle.cx_control.specs.ControlRules.{ControlRules}
use Rattle.cx_control.proofs.LeafLaws.{is_one_of, ActsAs, kind_acts}
use Rattle.cx_control.proofs.RegisterLemmas.{set, Captured, captured_is, done_of_one, one_of_dones}
use Rattle.cx_control.proofs.HoleLemmas.{last_is_done, CaptureRules, wanted_are, Register, register, done_seen, all_done, hole_is_set}
use Rattle.cx_net.specs.NetMeaning.{NetState, AHole, TheDone, NetLook, NetAround, is_true, truth_bit}
use Rattle.cx_wiring.specs.PartNets.{wired_in, timers_of}
use Rattle.cx_wiring_runs.proofs.SeamRules.{SeamRules}
use Rattle.cx_wiring_runs.specs.Blocks.{block, Solves}
use Rattle.cx_wiring_runs.specs.PortValues.{around_of, port_value, active_now}
use Rattle.cx_wiring_runs.proofs.SeamFlows.{st_solves, hole_stands}
use Rattle.cx_wiring_runs.proofs.CallValues.{hole_wants, wants_hole}
use Rattle.cx_wiring_runs.proofs.NodePorts.{set_bit}
use Rattle.std.proofs.lemmas.Bool.{false_from_ne_true}
use Rattle.cx_text.proofs.NumberLaws.{true_false_also}
use Rattle.cx_rules.proofs.ShapeRulesLemmas.{a_target}

-- an assignment that enables a primitive
enables_in : (cells : Cells) (list : List PlainAssign) (a : PlainAssign) → In list a → enables_primitive cells a.target ≡ true → captures_in cells list ≡ true
enables_in cells [] a i e = absurd i
enables_in cells (x ∷ list) a (inl same) e = ap (λ b. b || captures_in cells list) (ap (λ (y : PlainAssign). enables_primitive cells y.target) same ∙ e)
enables_in cells (x ∷ list) a (inr i) e = by (enables_primitive cells x.target) (enables_in cells list a i e)
  where
    by : (b : Bool) → captures_in cells list ≡ true → (b || captures_in cells list) ≡ true
    by true f = refl
    by false f = f

-- the done of a register
seen_done : (w : ℕ) (z : BitVector) (d : CellState) → is_set z ≡ false → is_set (unwrap_or (register_output w d 3) z) ≡ true → of_option (register_output w d 3) ≡ Value set
seen_done w z (states.Register x true) low e = refl
seen_done w z (states.Register x false) low e = true_false_also (sym e)
seen_done w z states.Stateless low e = true_false_also (sym e ∙ low)
seen_done w z (states.Memory words done) low e = true_false_also (sym e ∙ low)
seen_done w z (states.SequentialMemory words read done) low e = true_false_also (sym e ∙ low)
seen_done w z (states.Multiplier run product) low e = true_false_also (sym e ∙ low)
seen_done w z (states.Divider run quotient remainder) low e = true_false_also (sym e ∙ low)
seen_done w z (states.Timer count done) low e = true_false_also (sym e ∙ low)

value_done : (w : ℕ) (z : BitVector) (d : CellState) → truth_of (of_option (register_output w d 3)) ≡ One → unwrap_or (register_output w d 3) z ≡ truth_bit true
value_done w z (states.Register x true) e = refl
value_done w z (states.Register x false) e = absurd cc
value_done w z states.Stateless e = absurd cc
value_done w z (states.Memory words done) e = absurd cc
value_done w z (states.SequentialMemory words read done) e = absurd cc
value_done w z (states.Multiplier run product) e = absurd cc
value_done w z (states.Divider run quotient remainder) e = absurd cc
value_done w z (states.Timer count done) e = absurd cc

module _ (d : PlainDesign) (numbers : Instance → NetState → ℕ → ℕ) (part : PlainComponent) (cells : Cells) (rules : SeamRules d (Node part cells)) (control : ControlRules (Node part cells)) (around : NetAround) (v : NetState) (look : NetLook)
    (solves : Solves (block (wired_in d) timers_of numbers (Node part cells)) around v look) (s : Kept) (same : (c : ℕ) (row : Row) → cell_at cells c ≡ OfRow row → v.cell (c ∷ []) ≡ s (Cell (c ∷ [])))
    (g : ℕ) (place : Place) (c : ℕ) (stands : Stands (Node part cells) (Placed (Enable g) place)) (e : called (Node part cells) g ≡ Some c)
    (done_here : look (c ∷ []) TheDone ≡ Some (truth_bit (is_done (child_at (coded_below cells c) c s)))) where
  abbrev i : Instance
  i = Node part cells

  abbrev V : Values
  V = port_value (Node part cells) around v look

  abbrev assigns : List PlainAssign
  assigns = (group_at part g).assigns

  abbrev pub call : CallRules (Node part cells) g c
  call = control.calls g place c stands e

  abbrev pub form : CallForm (Node part cells) g c
  form = CallRules.form call

  there : g < length part.groups
  there = (rules.node.ports.forms (record { context = Dynamic; form = Enable g; place = place }) stands).0

  flows : FlowSolves (Node part cells) (active_now (Node part cells) around v look) (cells_in s) (around_of (Node part cells) around v look) (port_value (Node part cells) around v look)
  flows = st_solves d numbers part cells rules around v look solves (cells_in s) same

  none_some : (x : ℕ) → ◌≡◌ {A = Option ℕ} None (Some x) → ⊥
  none_some x f = cc

  own_hole : (o : Owned) → In (source_order part) o → o.owner ≡ None → o.assign.target ≡ ports.Done g → ⊥
  own_hole o j none target = none_some g (sym none ∙ (rules.keeps o j).own_done g target)

  abbrev wanted : List PortRef
  wanted = wanted_dones (done_port c form.child) (captured part (group_at part g).assigns)

  wants : is_set (V (ports.Done g)) ≡ true → (w : PortRef) → In wanted w → is_set (V w) ≡ true
  wants is w j = hole_wants (Node part cells) g c form V own_hole (flows (ports.Literal 1 1)) (flows (ports.Done g)) is w j

  is_wanted : ((w : PortRef) → In wanted w → V w ≡ truth_bit true) → V (ports.Done g) ≡ truth_bit true
  is_wanted each = wants_hole (Node part cells) g c form V own_hole (flows (ports.Literal 1 1)) (flows (ports.Done g)) each

  abbrev hole : Bool
  hole = is_true (unwrap_or (look [] (AHole g)) (zero_wide 1))

  hole_value : V (ports.Done g) ≡ truth_bit (is_true (unwrap_or (look [] (AHole g)) (zero_wide 1)))
  hole_value = hole_stands d numbers part cells rules around v look solves (cells_in s) same g there

  hole_set : is_true (unwrap_or (look [] (AHole g)) (zero_wide 1)) ≡ is_set (V (ports.Done g))
  hole_set = sym (ap is_set hole_value ∙ set_bit hole)

  -- THE DONE of the cell
  pub done_value : V (done_port c form.child) ≡ truth_bit (is_done (child_at (coded_below cells c) c s))
  done_value =
      flows (done_port c form.child)
      ∙ ap (cell_flow (Node part cells) (active_now (Node part cells) around v look) (cells_in s) (around_of (Node part cells) around v look) V c (suc (length (part_of form.child).inputs + length (part_of form.child).outputs))) form.at_child
      ∙ ap (part_flow (Node part cells) (active_now (Node part cells) around v look) (cells_in s) (around_of (Node part cells) around v look) V c (suc (length (part_of form.child).inputs + length (part_of form.child).outputs))) (last_is_done (part_of form.child))
      ∙ ap (λ o. unwrap_or o (zero_of (Some 1))) done_here

  -- A GROUP THAT CAPTURES NOTHING
  none_captured : captures (Node part cells) g ≡ false → captured part (group_at part g).assigns ≡ []
  none_captured none = by (captured part (group_at part g).assigns) refl
    where
      by : (rs : List ℕ) → captured part (group_at part g).assigns ≡ rs → rs ≡ []
      by [] f = refl
      by (r ∷ rs) f =
          let it = captured_is assigns part.cells 0 r (subst (λ l. In l r) (sym f) (inl refl)) in
          let from : 0 + Captured.number it ≡ Captured.number it = omega arith in
          let row = form.registers r (Captured.cell it) (subst (λ n. slice_get part.cells n ≡ Some (Captured.cell it)) (sym (Captured.is it ∙ from)) (Captured.stands it)) (Captured.register it) in
          let a = a_target (same_port (write_en_of r)) assigns (Captured.driven it) in
          true_false_also (sym (enables_in cells assigns a.0 a.1 (ap (enables_primitive cells) (sym (same_is (write_en_of r) a.0.target a.2)) ∙ enabled row.0 r row.1)) ∙ none)
        where
          enabled : (w r : ℕ) → cell_at cells r ≡ OfRow (register_row w) → enables_primitive cells (write_en_of r) ≡ true
          enabled w r at = ap (λ k. enables_at k 1) at

  plain_call : captures (Node part cells) g ≡ false → is_true (unwrap_or (look [] (AHole g)) (zero_wide 1)) ≡ is_done (child_at (coded_below cells c) c s)
  plain_call none = by (is_done (child_at (coded_below cells c) c s)) refl
    where
      alone : wanted_dones (done_port c form.child) (captured part (group_at part g).assigns) ≡ done_port c form.child ∷ []
      alone = ap (wanted_dones (done_port c form.child)) (none_captured none)

      by : (b : Bool) → is_done (child_at (coded_below cells c) c s) ≡ b → is_true (unwrap_or (look [] (AHole g)) (zero_wide 1)) ≡ b
      by true f = hole_set ∙ ap is_set (is_wanted (λ w j. each w (subst (λ l. In l w) alone j)))
        where
          each : (w : PortRef) → In (done_port c form.child ∷ []) w → V w ≡ truth_bit true
          each w (inl h) = ap V (sym h) ∙ done_value ∙ ap truth_bit f
          each w (inr never) = absurd never
      by false f = false_from_ne_true hole (λ h. true_false_also (sym (wants (sym hole_set ∙ h) (done_port c form.child) (subst (λ l. In l (done_port c form.child)) (sym alone) (inl refl))) ∙ ap is_set (done_value ∙ ap truth_bit f)))

  abbrev capture_rules : CaptureRules (Node part cells) g c
  capture_rules = record {
    child = form.child;
    at_child = form.at_child;
    acyclic = control.rules.groups g there;
    deeper = (control.rules.circles).1;
    own_hole = own_hole;
    no_enable = λ o j none r p row target at enables. rules.kept.quiet o r p row j none target at (is_enable_side-Enable (side_of row p) enables);
    right_done = form.right_done;
    right_enable = λ a j r p row target at enables. form.right_enable a j r p row target at enables;
    registers = λ r cell stands_so is_reg. form.registers r cell stands_so is_reg;
  }

  module _ (caps : captures (Node part cells) g ≡ true) where
    abbrev registers : List ℕ
    registers = captured part (group_at part g).assigns

    done_stands : (r : ℕ) (j : In registers r)
        → V (register_done r) ≡ unwrap_or (register_output (Register.width (register (Node part cells) g c capture_rules caps r j)) (s (Cell (r ∷ []))) 3) (zero_of (width_of (Node part cells) (register_done r)))
    done_stands r j =
        flows (register_done r)
        ∙ ap (cell_flow (Node part cells) (active_now (Node part cells) around v look) (cells_in s) (around_of (Node part cells) around v look) V r 3) (Register.at (register (Node part cells) g c capture_rules caps r j))

    all_wanted : (w : PortRef) → In wanted w → (r : ℕ) × In registers r × (w ≡ register_done r)
    all_wanted w j = done_of_one registers w (subst (λ l. In l w) (wanted_are (Node part cells) g c capture_rules caps) j)

    capturing_call : is_true (unwrap_or (look [] (AHole g)) (zero_wide 1)) ≡ captured_now (Node part cells) (coded_below cells c) g c (captures (Node part cells) g) s
    capturing_call = by (captured_now (Node part cells) (coded_below cells c) g c (captures (Node part cells) g) s) refl
      where
        by : (b : Bool) → captured_now (Node part cells) (coded_below cells c) g c (captures (Node part cells) g) s ≡ b → is_true (unwrap_or (look [] (AHole g)) (zero_wide 1)) ≡ b
        by true f = hole_set ∙ ap is_set (is_wanted each)
          where
            each : (w : PortRef) → In wanted w → V w ≡ truth_bit true
            each w j =
                let r = all_wanted w j in
                let it = register (Node part cells) g c capture_rules caps r.0 r.1 in
                ap V r.2 ∙ done_stands r.0 r.1
                ∙ value_done (Register.width it) (zero_of (width_of (Node part cells) (register_done r.0))) (s (Cell (r.0 ∷ [])))
                (ap truth_of (sym (done_seen (Node part cells) g c capture_rules caps (held_in s) (cells_in s) r.0 (Register.width it) (Register.at it)))
                ∙ ap (λ x. truth_of (seen (Node part cells) (held_in s) (group g) (cells_in s) x)) (sym r.2)
                ∙ all_done (Node part cells) g c capture_rules caps (held_in s) (cells_in s) (is_one_of (truth_of (seen (Node part cells) (held_in s) (group g) (cells_in s) (ports.Done g))) f) w j)
        by false f = false_from_ne_true hole (λ h. true_false_also (sym (hole_is_set (Node part cells) g c capture_rules caps (held_in s) (cells_in s) (each h)) ∙ f))
          where
            each : is_true (unwrap_or (look [] (AHole g)) (zero_wide 1)) ≡ true → (r : ℕ) → In registers r → seen (Node part cells) (held_in s) (group g) (cells_in s) (register_done r) ≡ Value set
            each h r j =
                let it = register (Node part cells) g c capture_rules caps r j in
                done_seen (Node part cells) g c capture_rules caps (held_in s) (cells_in s) r (Register.width it) (Register.at it)
                ∙ seen_done (Register.width it) (zero_of (width_of (Node part cells) (register_done r))) (s (Cell (r ∷ []))) refl
                (ap is_set (sym (done_stands r j))
                ∙ wants (sym hole_set ∙ h) (register_done r) (subst (λ l. In l (register_done r)) (sym (wanted_are (Node part cells) g c capture_rules caps)) (one_of_dones registers r j)))

  -- THE HOLE, for the machine of the call
  call_turn : is_true (unwrap_or (look [] (AHole g)) (zero_wide 1)) ≡ (if captures (Node part cells) g then captured_now (Node part cells) (coded_below cells c) g c (captures (Node part cells) g) s else is_done (child_at (coded_below cells c) c s))
  call_turn = by (captures (Node part cells) g) refl
    where
      by : (b : Bool) → captures (Node part cells) g ≡ b
          → is_true (unwrap_or (look [] (AHole g)) (zero_wide 1)) ≡ (if b then captured_now (Node part cells) (coded_below cells c) g c (captures (Node part cells) g) s else is_done (child_at (coded_below cells c) c s))
      by true f = capturing_call f
      by false f = plain_call f

  pub call_hole : (stand : Machine.Place (LeafMachines.enable (leaf_machines (Node part cells) (coded_below cells)) g))
      → is_true (unwrap_or (look [] (AHole g)) (zero_wide 1)) ≡ is_done (Machine.step (LeafMachines.enable (leaf_machines (Node part cells) (coded_below cells)) g) stand s)
  call_hole stand = call_turn ∙ sym (ActsAs.ends (kind_acts (Node part cells) (coded_below cells) g c s (group_at part g).kind (CallRules.plain call) e stand))
