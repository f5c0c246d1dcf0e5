-- THE PORTS of an instance, as a look that solves the rules of its node has them, solve the equations of its design: the go of each group
-- is what its hole says, and its offset what its wire says.
use Rattle.std.proofs.Common.{◌≡◌, inl, inr, ℕ, zero, suc, ◌+◌, ◌-◌, ◌<◌, ◌≤◌, Bool, true, false, ◌&&◌, if◌then◌else◌, List, [], ◌∷◌, length, Option, Some, None, option_map, option_and_then, unwrap_or, slice_get, refl, sym, ap, ◌∙◌, subst, arith}
use Rattle.std.specs.Prelude.{nat_lt}
use Rattle.std.proofs.lemmas.Bool.{lt-ltb, ltb-true, ltb-false, le-ltb}
use Rattle.std.proofs.lemmas.Option.{slice_get-map, slice_get-get_or}
use Rattle.cx_text.specs.Members.{In}
use Rattle.cx_bits.specs.BitVector.{BitVector, zero_of as zero_wide}
use Rattle.cx_prim.specs.declared.ports.PortRow.{PortRow}
use Rattle.cx_prim.specs.declared.ports.Side.{Side}
use Rattle.cx_prim.specs.declared.ports.Side.TheVariants as sides
use Rattle.cx_prim.specs.Rows.{Inputs, Row, input, IsLawful}
use Rattle.cx_prim.proofs.TableLaws.{row_of_lawful}
use Rattle.cx_meaning.specs.declared.ports.PortRef.{PortRef}
use Rattle.cx_meaning.specs.declared.ports.PortRef.TheVariants as ports
use Rattle.cx_meaning.specs.declared.kinds.GroupKind.{GroupKind}
use Rattle.cx_meaning.specs.declared.kinds.GroupKind.TheVariants as kinds
use Rattle.cx_meaning.specs.Islands.{kind_length, group_length}
use Rattle.cx_meaning.specs.Rows.{side_from, side_of}
use Rattle.cx_meaning.specs.Designs.{PlainCell, PlainComponent, PlainDesign, component_at, no_component, group_at, no_group}
use Rattle.cx_meaning.specs.Instances.{Instance, Node, Cells, At, Nothing, OfRow, OfInstance, cell_at, part_of}
use Rattle.cx_meaning.specs.Active.{Active, group, Owned, Acting, acting, offset_of, if_acting, if_target, same_port, source_order, drivers}
use Rattle.cx_meaning.specs.Sights.{PartPort, Go, AnInput, AnOutput, ItsDone, output_port, part_port}
use Rattle.cx_rules.specs.Ports.{declared_width, part_width, cell_width, width_of}
use Rattle.cx_rules.specs.ShapeRules.{is_hole}
use Rattle.cx_rules.specs.Wellformed.{IsThere}
use Rattle.cx_rules.proofs.FoundLemmas.{same_is}
use Rattle.cx_control.specs.Flows.{Values, zero_of, guard_on, first_on, given, side_flow, part_flow, cell_flow}
use Rattle.cx_net.specs.Nets.{ToPort, ToHole}
use Rattle.cx_net.specs.NetTree.{ARow, AChild}
use Rattle.cx_net.specs.NetMeaning.{NetState, APort, AHole, TheDone, NetLook, NetAround, net_at_width, gather_known, is_port_of, is_own_node, same_target, drivers_to, registers_of, row_node, child_node, cell_node, chain as first_true}
use Rattle.cx_static.specs.Islands.{PlainIsland}
use Rattle.cx_static.specs.Lowering.{lowered_component, lowered_of}
use Rattle.cx_wiring.specs.Assignments.{target_of, occurs_in, kind_drives, owner_drives, is_driven}
use Rattle.cx_wiring.specs.Wiring.{width_in_part, kind_width, port_width, target_width}
use Rattle.cx_wiring.specs.PartNets.{timer_cells, wired_in, timers_of, net_of_instance, net_of_cells}
use Rattle.cx_wiring.proofs.TimerCells.{cells-lowered_component}
use Rattle.cx_wiring.proofs.DrivenLemmas.{IsProper}
use Rattle.cx_wiring_cycles.specs.GuardPorts.{going_set}
use Rattle.cx_wiring_cycles.proofs.AssignLaws.{same_cell, same_output}
use Rattle.cx_wiring_cycles.proofs.ControlPorts.{OfTimers}
use Rattle.cx_wiring_cycles.proofs.PortLaws.{driven_port, driven_hole}
use Rattle.cx_wiring_runs.proofs.TimerPlaces.{cell_no_timer, output_no_timer}
use Rattle.cx_wiring_runs.proofs.InstancePorts.{RowOf, ChildOf}
use Rattle.cx_wiring_runs.proofs.NodeRules.{NodeRules}
use Rattle.cx_wiring_runs.proofs.PortsKnown.{row_stands, part_port_same}
use Rattle.cx_wiring_runs.specs.Blocks.{block, Solves}
use Rattle.cx_wiring_runs.specs.PortValues.{own_offset, around_of, has_port, value_beyond, port_value, goes_now, offset_now, active_now, WiresSolve}
use Rattle.cx_wiring_runs.proofs.NodePorts.{known, any_offset, child_wide, child_here, port_stands, assigns_hold, holes_fit}
use Rattle.cx_text.proofs.ListLaws.{front}

-- what is known, whatever stands where it is not
settled : (o k : Option BitVector) (z y x : BitVector) → o ≡ Some x → o ≡ k → unwrap_or o z ≡ unwrap_or k y
settled o k z y x e f = ap (λ a. unwrap_or a z) e ∙ sym (ap (λ a. unwrap_or a y) (sym f ∙ e))

some_unwrapped : (o : Option BitVector) (z x : BitVector) → o ≡ Some x → unwrap_or o z ≡ x
some_unwrapped o z x e = ap (λ a. unwrap_or a z) e

-- a port of a row that is not there counts as registered, and one of a component cell as its done
beyond_row : (rows : List PortRow) (p : ℕ) → length rows ≤ p → side_from rows p ≡ sides.Registered
beyond_row [] p over = refl
beyond_row (row ∷ rows) zero over = absurd (omega arith)
beyond_row (row ∷ rows) (suc p) over = beyond_row rows p (omega arith)

beyond_part : (q : PlainComponent) (p : ℕ) → 2 + length q.inputs + length q.outputs ≤ p → part_port q p ≡ ItsDone
beyond_part q zero over = absurd (omega arith)
beyond_part q (suc n) over =
    let inputs : length q.inputs ≤ n = omega arith in
    let outputs : length q.outputs ≤ n - length q.inputs = omega arith in
    ap (λ b. if b then AnInput n else output_port (length q.outputs) (n - length q.inputs)) (le-ltb n (length q.inputs) inputs)
    ∙ ap (λ b. if b then AnOutput (n - length q.inputs) else ItsDone) (le-ltb (n - length q.inputs) (length q.outputs) outputs)

-- a lowered component has the ports of the component
lowered_port : (q : PlainComponent) (p : ℕ) → part_port (lowered_component q).part p ≡ part_port q p
lowered_port q zero = refl
lowered_port q (suc n) = refl

lowered_width : (q : PlainComponent) (port : PartPort) → part_width (lowered_component q).part port ≡ part_width q port
lowered_width q Go = refl
lowered_width q (AnInput n) = refl
lowered_width q (AnOutput n) = refl
lowered_width q ItsDone = refl

-- no assignment to a port that is not there
none_to : (act : Active) (p : PortRef) (list : List Owned) → ((a : Owned) → In list a → a.assign.target ≡ p → ⊥) → acting act p list ≡ []
none_to act p [] none = refl
none_to act p (a ∷ rest) none = by (same_port a.assign.target p) refl (none_to act p rest (λ b i. none b (inr i)))
  where
    by : (t : Bool) → same_port a.assign.target p ≡ t → acting act p rest ≡ [] → if_target t act a (acting act p rest) ≡ []
    by true e later = absurd (none a (inl refl) (same_is a.assign.target p e))
    by false e later = later

-- the inputs that an output reads are the values of their ports
module _ (look : ℕ → Option BitVector) (wanted : ℕ → Bool) (v : Values) (c : ℕ) where
  pub record Gathers (p : ℕ) (list : List PortRow) : Type 0 where
    pub inputs : Inputs
    pub gathers : gather_known look wanted p list ≡ Some inputs
    pub alike : (m : ℕ) → wanted (p + m) ≡ true → input inputs m ≡ input (given v c p list) m

  abbrev joined : ℕ → List PortRow → BitVector → Option Inputs
  joined p rest b = option_map (λ more. Some b ∷ more) (gather_known look wanted (suc p) rest)

  gather_one : (port : PortRow) (rest : List PortRow) (p : ℕ) (b : Bool) → wanted p ≡ b → look p ≡ Some (v (ports.Cell c p)) → Gathers (suc p) rest → Gathers p (port ∷ rest)
  gather_one port rest p true e first later = record {
    inputs = Some (v (ports.Cell c p)) ∷ later.inputs;
    gathers = ap (λ t. if t then option_and_then (joined p rest) (look p) else option_map (λ more. None ∷ more) (gather_known look wanted (suc p) rest)) e
        ∙ ap (option_and_then (joined p rest)) first
        ∙ ap (option_map (λ more. Some (v (ports.Cell c p)) ∷ more)) later.gathers;
    alike = at;
  }
    where
      at : (m : ℕ) → wanted (p + m) ≡ true → input (Some (v (ports.Cell c p)) ∷ later.inputs) m ≡ input (given v c p (port ∷ rest)) m
      at zero w = refl
      at (suc m) w = let same : p + suc m ≡ suc p + m = omega arith in later.alike m (ap wanted (sym same) ∙ w)
  gather_one port rest p false e first later = record {
    inputs = None ∷ later.inputs;
    gathers = ap (λ t. if t then option_and_then (joined p rest) (look p) else option_map (λ more. None ∷ more) (gather_known look wanted (suc p) rest)) e
        ∙ ap (option_map (λ more. None ∷ more)) later.gathers;
    alike = at;
  }
    where
      at : (m : ℕ) → wanted (p + m) ≡ true → input (None ∷ later.inputs) m ≡ input (given v c p (port ∷ rest)) m
      at zero w = let same : p + 0 ≡ p = omega arith in let no = sym e ∙ ap wanted (sym same) ∙ w in absurd cc
      at (suc m) w = let same : p + suc m ≡ suc p + m = omega arith in later.alike m (ap wanted (sym same) ∙ w)

  gathered : (list : List PortRow) (p : ℕ) → ((m : ℕ) → m < length list → look (p + m) ≡ Some (v (ports.Cell c (p + m)))) → Gathers p list
  gathered [] p each = record { inputs = []; gathers = refl; alike = λ m w. refl }
  gathered (port ∷ rest) p each =
      let none : p + 0 ≡ p = omega arith in
      gather_one port rest p (wanted p) refl (subst (λ n. look n ≡ Some (v (ports.Cell c n))) none (each 0 (omega arith)))
      (gathered rest (suc p) (λ m less. let at : p + suc m ≡ suc p + m = omega arith in subst (λ n. look n ≡ Some (v (ports.Cell c n))) at (each (suc m) (omega arith))))

module _ (d : PlainDesign) (numbers : Instance → NetState → ℕ → ℕ) (part : PlainComponent) (cells : Cells) (rules : NodeRules d (Node part cells)) where
  abbrev i : Instance
  i = Node part cells

  -- WIDTHS of targets in the net are those of the ports
  target_of_row : (c p : ℕ) (row : Row) → RowOf part c row → target_width (lowered_of d) (lowered_component part) (ToPort (ports.Cell c p)) ≡ unwrap_or (cell_width (OfRow row) p) 1
  target_of_row c p row of_row =
      ap (λ cs. unwrap_or (port_width (lowered_of d) (lowered_component part) (slice_get cs c) p) 1) (cells-lowered_component part)
      ∙ ap (λ o. unwrap_or (port_width (lowered_of d) (lowered_component part) o p) 1) (front part.cells (timer_cells part) c of_row.cell of_row.stands)
      ∙ ap (λ k. unwrap_or (kind_width (lowered_of d) (lowered_component part) k p) 1) of_row.kind
      ∙ ap (λ r. unwrap_or (cell_width (OfRow r) p) 1) of_row.is

  target_of_child : (c p : ℕ) (child : Instance) → ChildOf d part c child → target_width (lowered_of d) (lowered_component part) (ToPort (ports.Cell c p)) ≡ unwrap_or (part_width (part_of child) (part_port (part_of child) p)) 1
  target_of_child c p child of_child =
      ap (λ cs. unwrap_or (port_width (lowered_of d) (lowered_component part) (slice_get cs c) p) 1) (cells-lowered_component part)
      ∙ ap (λ o. unwrap_or (port_width (lowered_of d) (lowered_component part) o p) 1) (front part.cells (timer_cells part) c of_child.cell of_child.stands)
      ∙ ap (λ k. unwrap_or (kind_width (lowered_of d) (lowered_component part) k p) 1) of_child.kind
      ∙ ap (λ o. unwrap_or (width_in_part (lowered_of d) (lowered_component part) o p) 1)
      (slice_get-map lowered_component d.components of_child.component ∙ ap (option_map lowered_component) (slice_get-get_or d.components of_child.component no_component of_child.within))
      ∙ ap (λ port. unwrap_or (part_width (lowered_component (component_at d of_child.component)).part port) 1) (lowered_port (component_at d of_child.component) p)
      ∙ ap (λ o. unwrap_or o 1) (lowered_width (component_at d of_child.component) (part_port (component_at d of_child.component) p))
      ∙ ap (λ (q : PlainComponent). unwrap_or (part_width q (part_port q p)) 1) (sym of_child.is)

  within_cells : (c : ℕ) (x : PlainCell) → slice_get part.cells c ≡ Some x → c < length part.cells
  within_cells c x e = at part.cells c e
    where
      at : (list : List PlainCell) (n : ℕ) → slice_get list n ≡ Some x → n < length list
      at [] n f = absurd cc
      at (y ∷ list) zero f = omega arith
      at (y ∷ list) (suc n) f = let less : n < length list = at list n f in omega arith

  module _ (around : NetAround) (s : NetState) (look : NetLook) (solves : Solves (block (wired_in d) timers_of numbers (Node part cells)) around s look) where
    abbrev R : ℕ → Option BitVector
    R = registers_of (wired_in d part) (net_of_cells (wired_in d) timers_of numbers cells (timers_of part)) around s (look []) (λ c. look (c ∷ []))

    abbrev V : Values
    V = port_value (Node part cells) around s look

    abbrev act : Active
    act = active_now (Node part cells) around s look

    -- a group whose assignments are left out does not go
    left_out : (a : Owned) → In (source_order part) a → is_driven (lowered_component part) a ≡ false → offset_of (going_set (goes_now (Node part cells) around s look) (offset_now (Node part cells) around s look)) a.owner ≡ None
    left_out a i e = by a.owner e
      where
        and_false : (b c : Bool) → c ≡ false → (b && c) ≡ false
        and_false true c f = f
        and_false false c f = refl

        by : (o : Option ℕ) → owner_drives (lowered_component part) o ≡ false → offset_of (going_set (goes_now (Node part cells) around s look) (offset_now (Node part cells) around s look)) o ≡ None
        by None f = absurd cc
        by (Some g) f = ap (λ b. if b then Some (offset_now (Node part cells) around s look g).value else None) (and_false _ (owner_drives (lowered_component part) (Some g)) f)

    -- guards of what is not static look at no offset
    module _ (z : BitVector) (a : Owned) (i : In (source_order part) a) (one other : List Acting) (later : first_on V z one ≡ first_on V z other) where
      offset_free : (g n : ℕ) → a.owner ≡ Some g → (cycles : Option ℕ) → group_length part g ≡ cycles
          → first_on V z (record { offset = n; assign = a.assign } ∷ one) ≡ first_on V z (record { offset = own_offset cycles (record { width = 32; value = n }); assign = a.assign } ∷ other)
      offset_free g n owner (Some cycles) is = ap (λ x. if guard_on V n a.assign.guard then V a.assign.source.port else x) later
      offset_free g n owner None is =
          ap (λ x. if guard_on V n a.assign.guard then V a.assign.source.port else x) later
          ∙ ap (λ b. if b then V a.assign.source.port else first_on V z other)
          (any_offset V n 0 a.assign.guard (λ r j. let static = (rules.ports.assigns a i).range r j in none_static g static.group static.cycles (sym owner ∙ static.owns) (sym is) static.is))
        where
          none_static : (g h n : ℕ) → ◌≡◌ {A = Option ℕ} (Some g) (Some h) → None ≡ group_length part g → group_length part h ≡ Some n → ⊥
          none_static g h n e f k = let same : g ≡ h = cc in let no : ◌≡◌ {A = Option ℕ} None (Some n) = f ∙ ap (group_length part) same ∙ k in clash n no
            where
              clash : (n : ℕ) → ◌≡◌ {A = Option ℕ} None (Some n) → ⊥
              clash n q = cc

      goes_alike : (g : ℕ) → a.owner ≡ Some g → (b : Bool) (w : BitVector)
          → first_on V z (if_acting (if b then Some w.value else None) a.assign one) ≡ first_on V z (if_acting (if b then Some (own_offset (group_length part g) w) else None) a.assign other)
      goes_alike g owner true w = offset_free g w.value owner (group_length part g) refl ∙ ap (λ n. first_on V z (record { offset = n; assign = a.assign } ∷ other)) (same_value (group_length part g) w)
        where
          same_value : (cycles : Option ℕ) (w : BitVector) → own_offset cycles (record { width = 32; value = w.value }) ≡ own_offset cycles w
          same_value None w = refl
          same_value (Some n) w = refl
      goes_alike g owner false w = later

      owner_alike : (o : Option ℕ) → a.owner ≡ o
          → first_on V z (if_acting (offset_of (going_set (goes_now (Node part cells) around s look) (offset_now (Node part cells) around s look)) o) a.assign one) ≡ first_on V z (if_acting (offset_of act o) a.assign other)
      owner_alike None e = ap (λ x. if guard_on V 0 a.assign.guard then V a.assign.source.port else x) later
      owner_alike (Some g) e = goes_alike g e (goes_now (Node part cells) around s look g) (offset_now (Node part cells) around s look g)

      one_alike : (t : Bool) → first_on V z (if_target t (going_set (goes_now (Node part cells) around s look) (offset_now (Node part cells) around s look)) a one) ≡ first_on V z (if_target t act a other)
      one_alike true = owner_alike a.owner refl
      one_alike false = later

    first_alike : (z : BitVector) (p : PortRef) (list : List Owned) → ((a : Owned) → In list a → In (source_order part) a)
        → first_on V z (acting (going_set (goes_now (Node part cells) around s look) (offset_now (Node part cells) around s look)) p list) ≡ first_on V z (acting act p list)
    first_alike z p [] each = refl
    first_alike z p (a ∷ rest) each =
        one_alike z a (each a (inl refl)) (acting (going_set (goes_now (Node part cells) around s look) (offset_now (Node part cells) around s look)) p rest) (acting act p rest)
        (first_alike z p rest (λ b i. each b (inr i))) (same_port a.assign.target p)

    driven_at : (p : PortRef) → IsProper (ToPort p) → ((q : PortRef) → same_target (target_of q) (ToPort p) ≡ same_port q p)
        → ((k : ℕ) (island : PlainIsland) → slice_get (lowered_component part).islands k ≡ Some island → OfTimers (λ u. same_target u (ToPort p) ≡ false) island.timers)
        → first_true around R (look []) (zero_wide (target_width (lowered_of d) (lowered_component part) (ToPort p))) (drivers_to (ToPort p) (wired_in d part).drivers)
        ≡ Some (first_on V (zero_wide (target_width (lowered_of d) (lowered_component part) (ToPort p))) (drivers part act p))
    driven_at p proper same no_timer =
        driven_port (lowered_of d) part rules.islands_named (net_of_cells (wired_in d) timers_of numbers cells (timers_of part)) around s look (λ n t. solves.by_rule [] n t) (λ n t. solves.whole [] n t)
        rules.plain rules.control_named rules.assigns_named (port_value (Node part cells) around s look) (goes_now (Node part cells) around s look) (offset_now (Node part cells) around s look)
        (assigns_hold d numbers part cells rules.ports around s look solves) left_out p proper same no_timer
        ∙ ap Some (first_alike (zero_wide (target_width (lowered_of d) (lowered_component part) (ToPort p))) p (source_order part) (λ a i. i))

    -- what drives a port of a cell gives it what its active assignments do
    driven_cell : (c p w : ℕ) → c < length part.cells → target_width (lowered_of d) (lowered_component part) (ToPort (ports.Cell c p)) ≡ w
        → first_true around R (look []) (zero_wide w) (drivers_to (ToPort (ports.Cell c p)) (wired_in d part).drivers) ≡ Some (first_on V (zero_wide w) (drivers part act (ports.Cell c p)))
    driven_cell c p w less e =
        subst (λ x. first_true around R (look []) (zero_wide x) (drivers_to (ToPort (ports.Cell c p)) (wired_in d part).drivers) ≡ Some (first_on V (zero_wide x) (drivers part act (ports.Cell c p)))) e
        (driven_at (ports.Cell c p) tt (same_cell c p) (cell_no_timer part c p less))

    module _ (c p : ℕ) where
      abbrev node : Option BitVector
      node = look [] (APort (ports.Cell c p))

      -- A PORT OF A ROW
      module _ (row : Row) (e : cell_at cells c ≡ OfRow row) (less : nat_lt p (length row.ports) ≡ true) where
        of_row : RowOf part c row
        of_row = rules.ports.rows c row e

        there : c < length part.cells
        there = within_cells c of_row.cell of_row.stands

        lawful : IsLawful row
        lawful = subst IsLawful of_row.is (row_of_lawful of_row.primitive)

        ruled : (q : ℕ) → nat_lt q (length row.ports) ≡ true → (x : BitVector) × (look [] (APort (ports.Cell c q)) ≡ Some x)
        ruled q l = solves.whole [] (APort (ports.Cell c q)) (ap (λ x. is_port_of x q) (row_stands (wired_in d) timers_of numbers cells (timers_of part) c row e) ∙ l)

        is_row : look [] (APort (ports.Cell c p)) ≡ row_node (wired_in d part) (net_of_cells (wired_in d) timers_of numbers cells (timers_of part)) around s (look []) (λ k. look (k ∷ [])) row c p (side_of row p)
        is_row =
            solves.by_rule [] (APort (ports.Cell c p)) (ap (λ x. is_port_of x p) (row_stands (wired_in d) timers_of numbers cells (timers_of part) c row e) ∙ less)
            ∙ ap (cell_node (wired_in d part) (net_of_cells (wired_in d) timers_of numbers cells (timers_of part)) around s (look []) (λ k. look (k ∷ [])) c p) (row_stands (wired_in d) timers_of numbers cells (timers_of part) c row e)

        abbrev of_side : Side → Option BitVector
        of_side side = row_node (wired_in d part) (net_of_cells (wired_in d) timers_of numbers cells (timers_of part)) around s (look []) (λ k. look (k ∷ [])) row c p side

        driven_row : first_true around R (look []) (zero_wide (net_at_width (ARow row) p)) (drivers_to (ToPort (ports.Cell c p)) (wired_in d part).drivers)
            ≡ Some (first_on V (zero_wide (net_at_width (ARow row) p)) (drivers part act (ports.Cell c p)))
        driven_row = driven_cell c p (net_at_width (ARow row) p) there (target_of_row c p row of_row)

        value_of_input : (q : ℕ) → nat_lt q (length row.ports) ≡ true → look [] (APort (ports.Cell c q)) ≡ Some (V (ports.Cell c q))
        value_of_input q l =
            let x = ruled q l in
            known (look [] (APort (ports.Cell c q))) (zero_of None) x.0 x.1
            ∙ ap (λ b. Some (if b then unwrap_or (look [] (APort (ports.Cell c q))) (zero_of None) else value_beyond (Node part cells) around s look c q (cell_at cells c))) (sym (ap (λ x. has_port x q) e ∙ l))

        inputs_are : Gathers (λ q. look [] (APort (ports.Cell c q))) (row.reads p) V c 0 row.ports
        inputs_are =
            gathered (λ q. look [] (APort (ports.Cell c q))) (row.reads p) V c row.ports 0
            (λ m l. let at : m ≡ 0 + m = omega arith in subst (λ n. look [] (APort (ports.Cell c n)) ≡ Some (V (ports.Cell c n))) at (value_of_input m (lt-ltb m (length row.ports) l)))

        width_here : zero_of (cell_width (OfRow row) p) ≡ zero_of (width_of (Node part cells) (ports.Cell c p))
        width_here = ap (λ x. zero_of (cell_width x p)) (sym e)

        by_side : (side : Side) → look [] (APort (ports.Cell c p)) ≡ of_side side
            → unwrap_or (look [] (APort (ports.Cell c p))) (zero_of None) ≡ side_flow (Node part cells) act (λ path. s.cell path) (around_of (Node part cells) around s look) V row c p side
        by_side sides.Enable is =
            some_unwrapped (look [] (APort (ports.Cell c p))) (zero_of None) (first_on V (zero_wide (net_at_width (ARow row) p)) (drivers part act (ports.Cell c p))) (is ∙ driven_row)
            ∙ ap (λ z. first_on V z (drivers part act (ports.Cell c p))) width_here
        by_side sides.Plain is =
            some_unwrapped (look [] (APort (ports.Cell c p))) (zero_of None) (first_on V (zero_wide (net_at_width (ARow row) p)) (drivers part act (ports.Cell c p))) (is ∙ driven_row)
            ∙ ap (λ z. first_on V z (drivers part act (ports.Cell c p))) width_here
        by_side sides.Output is =
            some_unwrapped (look [] (APort (ports.Cell c p))) (zero_of None) (unwrap_or (row.output (s.cell (c ∷ [])) (Gathers.inputs inputs_are) p) (zero_wide (net_at_width (ARow row) p)))
            (is ∙ ap (option_map (λ inputs. unwrap_or (row.output (s.cell (c ∷ [])) inputs p) (zero_wide (net_at_width (ARow row) p)))) (Gathers.gathers inputs_are))
            ∙ ap (λ o. unwrap_or o (zero_wide (net_at_width (ARow row) p)))
            (lawful.reads_only (s.cell (c ∷ [])) (Gathers.inputs inputs_are) (given V c 0 row.ports) p
            (λ m w. let at : m ≡ 0 + m = omega arith in Gathers.alike inputs_are m (ap (row.reads p) (sym at) ∙ w)))
            ∙ ap (unwrap_or (row.output (s.cell (c ∷ [])) (given V c 0 row.ports) p)) width_here
        by_side sides.Registered is = let x = ruled p less in settled (look [] (APort (ports.Cell c p))) (row.output (s.cell (c ∷ [])) [] p) (zero_of None) (zero_of (width_of (Node part cells) (ports.Cell c p))) x.0 x.1 is

        row_solves : unwrap_or (look [] (APort (ports.Cell c p))) (zero_of None) ≡ side_flow (Node part cells) act (λ path. s.cell path) (around_of (Node part cells) around s look) V row c p (side_of row p)
        row_solves = by_side (side_of row p) is_row

      -- A PORT OF A COMPONENT CELL
      module _ (child : Instance) (e : cell_at cells c ≡ OfInstance child) (less : nat_lt p (2 + length (part_of child).inputs + length (part_of child).outputs) ≡ true) where
        of_child : ChildOf d part c child
        of_child = rules.ports.children c child e

        inside : c < length part.cells
        inside = within_cells c of_child.cell of_child.stands

        child_there : is_own_node (wired_in d part) (net_of_cells (wired_in d) timers_of numbers cells (timers_of part)) (APort (ports.Cell c p)) ≡ true
        child_there = port_stands d numbers part cells c p (OfInstance child) e (ltb-true p (2 + length (part_of child).inputs + length (part_of child).outputs) less)

        has_value : (x : BitVector) × (look [] (APort (ports.Cell c p)) ≡ Some x)
        has_value = solves.whole [] (APort (ports.Cell c p)) child_there

        abbrev of_port : PartPort → Option BitVector
        of_port port = child_node (wired_in d part) (net_of_cells (wired_in d) timers_of numbers cells (timers_of part)) around s (look []) (λ k. look (k ∷ [])) (net_of_instance (wired_in d) timers_of numbers child) c p port

        is_child : look [] (APort (ports.Cell c p)) ≡ of_port (part_port (part_of child) p)
        is_child =
            solves.by_rule [] (APort (ports.Cell c p)) child_there
            ∙ ap (cell_node (wired_in d part) (net_of_cells (wired_in d) timers_of numbers cells (timers_of part)) around s (look []) (λ k. look (k ∷ [])) c p) (child_here d numbers part cells c child e)
            ∙ ap of_port (part_port_same d numbers child p)

        child_width : zero_of (part_width (part_of child) (part_port (part_of child) p)) ≡ zero_of (width_of (Node part cells) (ports.Cell c p))
        child_width = ap (λ x. zero_of (cell_width x p)) (sym e)

        driven_child : (w : ℕ) → unwrap_or (part_width (part_of child) (part_port (part_of child) p)) 1 ≡ w → look [] (APort (ports.Cell c p)) ≡ first_true around R (look []) (zero_wide w) (drivers_to (ToPort (ports.Cell c p)) (wired_in d part).drivers)
            → unwrap_or (look [] (APort (ports.Cell c p))) (zero_of None) ≡ first_on V (zero_of (width_of (Node part cells) (ports.Cell c p))) (drivers part act (ports.Cell c p))
        driven_child w wide is =
            some_unwrapped (look [] (APort (ports.Cell c p))) (zero_of None) (first_on V (zero_wide w) (drivers part act (ports.Cell c p))) (is ∙ driven_cell c p w inside (target_of_child c p child of_child ∙ wide))
            ∙ ap (λ x. first_on V (zero_wide x) (drivers part act (ports.Cell c p))) (sym wide)
            ∙ ap (λ z. first_on V z (drivers part act (ports.Cell c p))) child_width

        by_port : (port : PartPort) → part_port (part_of child) p ≡ port → look [] (APort (ports.Cell c p)) ≡ of_port port
            → unwrap_or (look [] (APort (ports.Cell c p))) (zero_of None) ≡ part_flow (Node part cells) act (λ path. s.cell path) (around_of (Node part cells) around s look) V c p port
        by_port Go f is = driven_child 1 (ap (λ k. unwrap_or (part_width (part_of child) k) 1) f) is
        by_port (AnInput n) f is = driven_child (net_at_width (AChild (net_of_instance (wired_in d) timers_of numbers child)) p) (sym (child_wide d numbers child p)) is
        by_port (AnOutput n) f is = ap (λ o. unwrap_or o (zero_of None)) is
        by_port ItsDone f is = settled (look [] (APort (ports.Cell c p))) (look (c ∷ []) TheDone) (zero_of None) (zero_of (Some 1)) has_value.0 has_value.1 is

        child_solves : unwrap_or (look [] (APort (ports.Cell c p))) (zero_of None) ≡ part_flow (Node part cells) act (λ path. s.cell path) (around_of (Node part cells) around s look) V c p (part_port (part_of child) p)
        child_solves = by_port (part_port (part_of child) p) refl is_child

      -- A PORT OF A CELL
      abbrev here : Bool → At → BitVector
      here b at = if b then unwrap_or (look [] (APort (ports.Cell c p))) (zero_of None) else value_beyond (Node part cells) around s look c p at

      row_port : (row : Row) → cell_at cells c ≡ OfRow row → (b : Bool) → nat_lt p (length row.ports) ≡ b
          → here b (OfRow row) ≡ side_flow (Node part cells) act (λ path. s.cell path) (around_of (Node part cells) around s look) V row c p (side_of row p)
      row_port row e true less = row_solves row e less
      row_port row e false over = ap (side_flow (Node part cells) act (λ path. s.cell path) (around_of (Node part cells) around s look) V row c p) (sym (beyond_row row.ports p (ltb-false p (length row.ports) over)))

      child_port_value : (child : Instance) → cell_at cells c ≡ OfInstance child → (b : Bool) → nat_lt p (2 + length (part_of child).inputs + length (part_of child).outputs) ≡ b
          → here b (OfInstance child) ≡ part_flow (Node part cells) act (λ path. s.cell path) (around_of (Node part cells) around s look) V c p (part_port (part_of child) p)
      child_port_value child e true less = child_solves child e less
      child_port_value child e false over =
          ap (part_flow (Node part cells) act (λ path. s.cell path) (around_of (Node part cells) around s look) V c p)
          (sym (beyond_part (part_of child) p (ltb-false p (2 + length (part_of child).inputs + length (part_of child).outputs) over)))

      cell_value : (at : At) → cell_at cells c ≡ at → here (has_port at p) at ≡ cell_flow (Node part cells) act (λ path. s.cell path) (around_of (Node part cells) around s look) V c p at
      cell_value Nothing e = refl
      cell_value (OfRow row) e = row_port row e (nat_lt p (length row.ports)) refl
      cell_value (OfInstance child) e = child_port_value child e (nat_lt p (2 + length (part_of child).inputs + length (part_of child).outputs)) refl

    -- AN OUTPUT of the signature, which continuous assignments drive
    output_value : (n : ℕ) (b : Bool) → nat_lt n (length part.outputs) ≡ b
        → (if b then unwrap_or (look [] (APort (ports.Output n))) (zero_of None) else zero_of (declared_width part.outputs n)) ≡ first_on V (zero_of (declared_width part.outputs n)) (drivers part act (ports.Output n))
    output_value n true less =
        some_unwrapped (look [] (APort (ports.Output n))) (zero_of None) (first_on V (zero_of (declared_width part.outputs n)) (drivers part act (ports.Output n)))
        (solves.by_rule [] (APort (ports.Output n)) less ∙ driven_at (ports.Output n) tt (same_output n) (λ k island is. output_no_timer n island.timers))
    output_value n false over =
        sym (ap (first_on V (zero_of (declared_width part.outputs n)))
        (none_to act (ports.Output n) (source_order part) (λ a i is. let less : n < length part.outputs = subst (IsThere (Node part cells)) is (rules.ports.assigns a i).target in
        let more = ltb-false n (length part.outputs) over in absurd (omega (arith, less, more)))))

    -- A HOLE, which rests on states
    true_false : true ≡ false → ⊥
    true_false e = cc

    group_driven : (g h : ℕ) (a : Owned) → In (source_order part) a → a.assign.target ≡ ports.Done g → a.owner ≡ Some h → (kind : GroupKind) → (group_at part h).kind ≡ kind
        → kind_drives (occurs_in h (lowered_component part).islands) (Some kind) ≡ false → ⊥
    group_driven g h a i target owner kinds.Plain is e = true_false e
    group_driven g h a i target owner kinds.Comb is e = true_false e
    group_driven g h a i target owner (kinds.Timed n) is e = (rules.ports.assigns a i).static_hole (record { group = h; cycles = n; owns = owner; is = ap kind_length is }) (ap is_hole target)

    owner_driven : (g : ℕ) (a : Owned) → In (source_order part) a → a.assign.target ≡ ports.Done g → (o : Option ℕ) → a.owner ≡ o → owner_drives (lowered_component part) o ≡ false → ⊥
    owner_driven g a i target None owner e = true_false e
    owner_driven g a i target (Some h) owner e =
        group_driven g h a i target owner (group_at part h).kind refl
        (sym (ap (λ o. kind_drives (occurs_in h (lowered_component part).islands) (option_map (λ x. x.kind) o)) (slice_get-get_or part.groups h no_group ((rules.ports.assigns a i).owner h owner))) ∙ e)

    not_driven : (g : ℕ) (a : Owned) → In (source_order part) a → same_port a.assign.target (ports.Done g) ≡ true → is_driven (lowered_component part) a ≡ false → ⊥
    not_driven g a i t e = owner_driven g a i (same_is a.assign.target (ports.Done g) t) a.owner refl e

    hole_value : (g : ℕ) (b : Bool) → nat_lt g (length part.groups) ≡ b
        → (if b then unwrap_or (look [] (AHole g)) (zero_of (Some 1)) else zero_of (Some 1)) ≡ first_on V (zero_of (Some 1)) (drivers part (group g) (ports.Done g))
    hole_value g true less =
        let there : g < length part.groups = ltb-true g (length part.groups) less in
        let both : g < length part.groups + length part.groups = omega arith in
        let holds : nat_lt g (length part.groups + length part.groups) ≡ true = lt-ltb g (length part.groups + length part.groups) both in
        some_unwrapped (look [] (AHole g)) (zero_of (Some 1)) (first_on V (zero_wide 1) (drivers part (group g) (ports.Done g)))
        (solves.by_rule [] (AHole g) holds
        ∙ ap (λ b. if b then first_true around R (look []) (zero_wide 1) (drivers_to (ToHole g) (wired_in d part).drivers) else None) holds
        ∙ driven_hole (lowered_of d) part rules.islands_named (net_of_cells (wired_in d) timers_of numbers cells (timers_of part)) around s look (λ n t. solves.by_rule [] n t) (λ n t. solves.whole [] n t)
        rules.plain rules.control_named rules.assigns_named V (goes_now (Node part cells) around s look) (offset_now (Node part cells) around s look)
        (assigns_hold d numbers part cells rules.ports around s look solves) g there (holes_fit d numbers part cells rules.ports around s look solves g) (not_driven g))
    hole_value g false over =
        sym (ap (first_on V (zero_of (Some 1)))
        (none_to (group g) (ports.Done g) (source_order part) (λ a i is. let less : g < length part.groups = subst (IsThere (Node part cells)) is (rules.ports.assigns a i).target in
        let more = ltb-false g (length part.groups) over in absurd (omega (arith, less, more)))))

    -- THE PORTS SOLVE their equations
    pub wires_solve : WiresSolve (Node part cells) around s look
    wires_solve (ports.Cell c p) = cell_value c p (cell_at cells c) refl
    wires_solve (ports.Input n) = refl
    wires_solve (ports.Output n) = output_value n (nat_lt n (length part.outputs)) refl
    wires_solve (ports.Done g) = hole_value g (nat_lt g (length part.groups)) refl
    wires_solve (ports.Literal w n) = refl
