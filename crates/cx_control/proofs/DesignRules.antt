-- ALL THAT CONTROL NEEDS, of every instance of an accepted design's tree.
use Rattle.std.proofs.Common.{◌≡◌, ℕ, suc, ◌-◌, ◌<◌, ◌⊎◌, inl, inr, ⊎_elim, Bool, true, false, ◌||◌, [], Option, Some, None, length, if◌then◌else◌, refl, sym, ap, ◌∙◌, subst, arith}
use Rattle.std.specs.Prelude.{is_some}
use Rattle.std.proofs.lemmas.Bool.{cases_lt, lt-ltb}
use Rattle.std.proofs.lemmas.List.{get_or_past}
use Rattle.cx_text.proofs.MemberLaws.{in_at}
use Rattle.cx_text.specs.Members.{In}
use Rattle.cx_text.specs.declared.places.Place.{Place}
use Rattle.cx_prim.specs.RegisterRow.{register_row}
use Rattle.cx_prim.specs.Table.{PrimitiveRow, HasRow}
use Rattle.cx_meaning.specs.declared.ports.PortRef.{PortRef}
use Rattle.cx_meaning.specs.declared.ports.PortRef.TheVariants as ports
use Rattle.cx_meaning.specs.declared.kinds.GroupKind.{GroupKind}
use Rattle.cx_meaning.specs.declared.kinds.GroupKind.TheVariants as kinds
use Rattle.cx_meaning.specs.Rows.{side_of}
use Rattle.cx_meaning.specs.Designs.{PlainAssign, PlainKind, OfPrimitive, OfComponent, PlainCell, PlainComponent, PlainDesign, component_at, no_component, group_at, PlainForm, Empty, Enable, Seq, Par, If, While, Repeat, StaticSeq, StaticPar, StaticIf, StaticRepeat, Timed, PlainStatement, Placed}
use Rattle.cx_meaning.specs.Instances.{Instance, Node, Cells, OfRow, OfInstance, cell_at, cells_of, part_of, tree_of, Path, State, instance_at, input_count}
use Rattle.cx_meaning.specs.Active.{Active, Owned, group, entries, source_order, same_port}
use Rattle.cx_meaning.specs.Sights.{Held, AnInput, AnOutput, ItsDone, PartPort, output_port, part_port}
use Rattle.cx_meaning.specs.Cycles.{Goes, cycle}
use Rattle.cx_meaning.specs.Control.{form_drives, drives, groups_in, group_drives}
use Rattle.cx_meaning.specs.Islands.{History, active_in, form_flat, or_zero, kind_length, group_length, form_length}
use Rattle.cx_meaning.specs.Calls.{called_in, called, captures}
use Rattle.cx_meaning.specs.Rows.{KeepsIdle}
use Rattle.cx_meaning.specs.Laws.{AllRows}
use Rattle.cx_meaning.specs.Running.{run_control}
use Rattle.cx_meaning.proofs.RunningLemmas.{idle_settles}
use Rattle.cx_meaning.proofs.IdleLemmas.{kept_within}
use Rattle.cx_rules.specs.Ports.{component_of}
use Rattle.cx_rules.specs.Items.{Dynamic, Visited, statements_in, is_plain}
use Rattle.cx_rules.specs.Footprints.{Reads, Leads, PartLeads, CellLeads, Depends, at_once, by_way_of}
use Rattle.cx_rules.specs.Circles.{IsAcyclic, AreAcyclic}
use Rattle.cx_rules.specs.StaticControl.{is_static, may_stand, is_island_form}
use Rattle.cx_rules.specs.CallShape.{is_reg_name, is_reg_kind, write_en_of, captured, IsOutputOrDone}
use Rattle.cx_rules.proofs.FoundLemmas.{same_is}
use Rattle.cx_control.specs.Flows.{Reaches}
use Rattle.cx_rules.specs.Accepted.{IsAccepted}
use Rattle.cx_rules.specs.Flat.{IsFlat}
use Rattle.cx_rules.specs.Wellformed.{IsDesign, IsForm, IsKind}
use Rattle.cx_rules.proofs.CircleLemmas.{Reached, a_tree, no_tree, reached, instance_acyclic, instance_group}
use Rattle.cx_rules.proofs.ForeignLemmas.{assigns_drive_in}
use Rattle.cx_laws.specs.Closures.{IsClosed}
use Rattle.cx_frames.specs.Rests.{IsUndriven, IsSettledAt, IsKeptAt}
use Rattle.cx_frames.proofs.CircleFrames.{group_acyclic}
use Rattle.cx_frames.proofs.RuleLemmas.{IsKept, kept_instance}
use Rattle.cx_frames.proofs.RunLemmas.{undriven_group, group_undriven, capture_undriven, island_undriven}
use Rattle.cx_frames.proofs.ShareLemmas.{none_shared}
use Rattle.cx_laws.proofs.VisitLemmas.{visits, visited}
use Rattle.cx_control.proofs.InstanceLemmas.{KeepsPorts, instance_ports}
use Rattle.cx_control.specs.InstanceRules.{InstanceRules, Stands}
use Rattle.cx_control.specs.CallRules.{CallForm, CallRules}
use Rattle.cx_control.specs.ControlRules.{ControlRules}
use Rattle.cx_control.proofs.BesideLemmas.{KeepsCalls, StandsFor, of_component, of_nothing, instance_stands, keeps_calls}
use Rattle.cx_control.proofs.ShapeLemmas.{none_outside, calls_what_it_drives, child, is_a_plain_group, no_output, right_enable, right_go, right_done, plain_if_driven}
use Rattle.cx_control.proofs.TargetLemmas.{group_acts}
use Rattle.cx_control.proofs.HeldLemmas.{held_same}
use Rattle.cx_control.proofs.RegisterLemmas.{register_is_row, Captured, captured_is}
use Rattle.cx_control.proofs.HoleLemmas.{CaptureRules, hole_is_open, captured_hole, Register, register}
use Rattle.cx_laws.proofs.StaticLemmas.{static_form, static_may, all_may, static_lasts, group_lasts}
use Rattle.cx_text.proofs.OptionLaws.{none_some}
use Rattle.cx_prim.proofs.PortsLemmas.{is_enable_side-Enable}
use Rattle.cx_meaning.proofs.DesignsLemmas.{same_part}
use Rattle.cx_rules.proofs.CirclesLemmas.{cells_below}
use Rattle.cx_text.proofs.NumberLaws.{false_true}
use Rattle.cx_meaning.proofs.InstancesLemmas.{instance_row}
use Rattle.cx_meaning.proofs.ControlLaws.{driver}
use Rattle.cx_rules.proofs.ShapeRulesLemmas.{a_target}
use Rattle.cx_rules.proofs.ItemsLemmas.{bare_form}

plain_is : (kind : GroupKind) → is_plain kind ≡ true → kind ≡ kinds.Plain
plain_is kinds.Plain e = refl
plain_is kinds.Comb e = absurd (false_true e)
plain_is (kinds.Timed n) e = absurd (false_true e)

reg_primitive : (kind : PlainKind) → is_reg_kind kind ≡ true → (p : PrimitiveRow) × (kind ≡ OfPrimitive p) × (is_reg_name p.name ≡ true)
reg_primitive (OfPrimitive p) e = (p, refl, e)
reg_primitive (OfComponent k) e = absurd (false_true e)

-- an input of a component cell is no output of it
input_is_not_given : (port : PartPort) (n : ℕ) → port ≡ AnInput n → ((m : ℕ) × (port ≡ AnOutput m)) ⊎ (port ≡ ItsDone) → ⊥
input_is_not_given port n e (inl (m, f)) = cc
input_is_not_given port n e (inr f) = cc

-- IN ONE INSTANCE beside its component
module _ (part : PlainComponent) (cells more : Cells) (keeps : KeepsCalls (Node part cells) (Node part more)) (kept : IsKept (Node part cells)) (circles : AreAcyclic (Node part cells))
    (acyclic : (g : ℕ) → IsAcyclic (Node part cells) (group g))
    (holes : (o : Owned) → In (source_order part) o → (g : ℕ) → o.assign.target ≡ ports.Done g → o.owner ≡ Some g)
    (rows : (cell : PlainCell) → In part.cells cell → (p : PrimitiveRow) → cell.kind ≡ OfPrimitive p → HasRow p)
    (g c : ℕ) (there : g < length part.groups) (e : called (Node part cells) g ≡ Some c) where
  abbrev i : Instance
  i = Node part cells

  abbrev whole : Instance
  whole = Node part more

  its_child : (one : Instance) × (cell_at cells c ≡ OfInstance one)
  its_child = child i whole keeps g c e

  -- a port of the cell under the group is driven by it alone
  no_bare : (p : ℕ) (o : Owned) → In (source_order part) o → o.owner ≡ None → o.assign.target ≡ ports.Cell c p → ⊥
  no_bare p o stands owner target = none_outside i whole keeps o stands owner c p (child i whole keeps g c e).0 target (child i whole keeps g c e).1

  -- an input that leads anywhere is driven by an assignment of the group
  driving_leads : (n : ℕ) (q : PortRef) → part_port (part_of (child i whole keeps g c e).0) (suc n) ≡ AnInput n → Leads i (group g) (ports.Cell c (suc n)) q
      → (a : PlainAssign) × In (group_at part g).assigns a × (a.target ≡ ports.Cell c (suc n))
  driving_leads n q input l =
      let at_cell : CellLeads part (group g) c (suc n) (OfInstance (child i whole keeps g c e).0) q = subst (λ k. CellLeads part (group g) c (suc n) k q) (child i whole keeps g c e).1 l in
      let at_port : PartLeads part (group g) c (suc n) (AnInput n) q = subst (λ k. PartLeads part (group g) c (suc n) k q) input at_cell in
      let acts = group_acts part g (group g) (λ h. refl) (ports.Cell c (suc n)) (no_bare (suc n)) at_port.0 at_port.1 in
      (at_port.0.assign, acts.0, acts.1)

  no_given : (n : ℕ) → part_port (part_of (child i whole keeps g c e).0) (suc n) ≡ AnInput n → (q : ℕ) → IsOutputOrDone (child i whole keeps g c e).0 q → Reaches i (group g) (ports.Cell c (suc n)) (ports.Cell c q) → ⊥
  no_given n input q given_so (inl same) = input_is_not_given (part_port (part_of (child i whole keeps g c e).0) (suc n)) n input (subst (IsOutputOrDone (child i whole keeps g c e).0) (sym (port_is same)) given_so)
    where
      port_is : ports.Cell c (suc n) ≡ ports.Cell c q → suc n ≡ q
      port_is f = cc
  no_given n input q given_so (inr depends) =
      let a = driving_leads n (first depends).0 input (first depends).1 in
      no_output i whole keeps g c e a.0 a.1 (suc n) q n a.2 input given_so depends
    where
      first : Depends i (group g) (ports.Cell c (suc n)) (ports.Cell c q) → (r : PortRef) × Leads i (group g) (ports.Cell c (suc n)) r
      first (at_once l) = (ports.Cell c q, l)
      first (by_way_of r l deeper) = (r, l)

  capture_rules : CaptureRules (Node part cells) g c
  capture_rules = record {
    child = (child i whole keeps g c e).0;
    at_child = (child i whole keeps g c e).1;
    acyclic = acyclic g;
    deeper = cells_below i circles;
    own_hole = λ o stands none target. none_some g (sym none ∙ holes o stands g target);
    no_enable = λ o stands none r p row target at enables. kept.quiet o r p row stands none target at (is_enable_side-Enable (side_of row p) enables);
    right_done = right_done i whole keeps g c e there;
    right_enable = λ a j r p row target at enables. right_enable i whole keeps g c e a j r p row target at enables;
    registers = λ r cell stands is_reg.
        let kind = reg_primitive cell.kind is_reg in
        let row = register_is_row kind.0 kind.2 (rows cell (in_at part.cells r cell stands) kind.0 kind.1) in
        (row.0, (KeepsCalls.beside keeps).primitives c (child i whole keeps g c e).0 (child i whole keeps g c e).1 r cell kind.0 stands kind.1 ∙ ap OfRow row.1);
  }

  -- a captured register is driven, and is not the called cell
  captured_driven : (cap : captures i g ≡ true) (r : ℕ) (j : In (captured part (group_at part g).assigns) r) → (form_drives part (Enable g) r ≡ true) × (r ≡ c → ⊥)
  captured_driven cap r j =
      let it = captured_is (group_at part g).assigns part.cells 0 r j in
      let a = a_target (same_port (write_en_of r)) (group_at part g).assigns (Captured.driven it) in (
        ap (λ b. b || false) (assigns_drive_in (group_at part g).assigns a.0 r 1 a.1 (sym (same_is (write_en_of r) a.0.target a.2))),
        λ same. instance_row (child i whole keeps g c e).0 (register_row (Register.width (register i g c capture_rules cap r j))) (sym (child i whole keeps g c e).1 ∙ ap (cell_at cells) (sym same) ∙ Register.at (register i g c capture_rules cap r j)),
      )

  call_form : CallForm (Node part cells) g c
  call_form = record {
    child = (child i whole keeps g c e).0;
    at_child = (child i whole keeps g c e).1;
    no_bare = λ o p stands owner target. no_bare p o stands owner target;
    right_go = right_go i whole keeps g c e there;
    right_done = right_done i whole keeps g c e there;
    right_enable = λ a j r p row target at enables. right_enable i whole keeps g c e a j r p row target at enables;
    registers = λ r cell stands is_reg. CaptureRules.registers capture_rules r cell stands is_reg;
    no_given = λ n q input given_so reach. no_given n input q given_so reach;
  }

  pub call_rules : CallRules (Node part cells) g c
  call_rules = record {
    calls = e;
    form = call_form;
    plain = plain_is (group_at part g).kind (is_a_plain_group i whole keeps g c e);
    held = λ held s t outside n less.
        held_same i (group g) (acyclic g) (cells_below i circles) c (child i whole keeps g c e).0 (child i whole keeps g c e).1 held s t outside (ports.Cell c (suc n)) (no_given n (input_at n less));
    is_open = λ caps held s rest. hole_is_open i g c capture_rules caps held s (λ r j. let d = captured_driven caps r j in rest r d.0 d.1);
    is_set = λ caps held other s after t goes same. captured_hole i g c capture_rules caps held s after goes other t (λ r j. let d = captured_driven caps r j in same r d.0 d.1);
  }
    where
      input_at : (n : ℕ) → n < input_count (cell_at cells c) → part_port (part_of (child i whole keeps g c e).0) (suc n) ≡ AnInput n
      input_at n less =
          let inside : n < length (part_of (child i whole keeps g c e).0).inputs = subst (λ k. n < input_count k) (child i whole keeps g c e).1 less in
          ap (λ b. if b then AnInput n else output_port (length (part_of (child i whole keeps g c e).0).outputs) (n - length (part_of (child i whole keeps g c e).0).inputs)) (lt-ltb n (length (part_of (child i whole keeps g c e).0).inputs) inside)

module _ (d : PlainDesign) (design : IsDesign d) (accepted : IsAccepted d) where
  -- what is asked of a component's statements and cells is kept in the instances of it
  module _ (Keeps : PlainComponent → Type 0) (each : (k : ℕ) → k < length d.components → Keeps (component_at d k)) (nothing : Keeps no_component) where
    part_keeps : {i : Instance} → Reached d i → Keeps (part_of i)
    part_keeps (a_tree m k) =
        subst Keeps (sym (same_part d m k))
        (⊎_elim (λ l. each k l) (λ l. subst Keeps (sym (get_or_past d.components k no_component l)) nothing) (cases_lt k (length d.components)))
    part_keeps no_tree = nothing

    pub instance_part : (path : Path) → Keeps (part_of (instance_at (tree_of d) path))
    instance_part path = part_keeps (reached d path (length d.components) d.main)

  rows_idle : {i : Instance} → Reached d i → AllRows KeepsIdle i
  rows_idle (a_tree m k) = kept_within d m k
  rows_idle no_tree = tt

  module _ (path : Path)
      (entries_acyclic : (v : Visited) (h : History) (t : ℕ) → In (statements_in (part_of (instance_at (tree_of d) path))) v → IsAcyclic (instance_at (tree_of d) path) (entries (active_in h t (form_flat (part_of (instance_at (tree_of d) path)) v.form 0 []))))
      (closed : (part : PlainComponent) (s : PlainStatement) → IsClosed part s (Reads part s))
      (quiet : (held : Held) (act : Active) (s after : State) (c : ℕ) → IsUndriven (part_of (instance_at (tree_of d) path)) act c → IsSettledAt (instance_at (tree_of d) path) s c → cycle (instance_at (tree_of d) path) held act s ≡ Goes after → IsKeptAt s after c)
      (children : (child : Instance) (held : Held) (act : Active) (s after : State) (c : ℕ) → cell_at (cells_of (instance_at (tree_of d) path)) c ≡ OfInstance child → cycle (instance_at (tree_of d) path) held act s ≡ Goes after → IsKeptAt s after c)
      (own_inputs : (held other : Held) (s : State) (n : ℕ) → ((input : ℕ) → input < length (part_of (instance_at (tree_of d) path)).inputs → held input ≡ other input) → run_control (instance_at (tree_of d) path) held s n ≡ run_control (instance_at (tree_of d) path) other s n) where
    abbrev at : Instance
    at = instance_at (tree_of d) path

    pub instance_rules : InstanceRules (instance_at (tree_of d) path)
    instance_rules = record {
      kept = kept_instance d design accepted path;
      circles = instance_acyclic d accepted path;
      groups = λ g there. instance_group d accepted path g there;
      islands = entries_acyclic;
      closed = λ s. closed (part_of (instance_at (tree_of d) path)) s;
      settles = λ s. idle_settles (instance_at (tree_of d) path) (rows_idle (reached d path (length d.components) d.main)) s;
      quiet = quiet;
      children = children;
      alone = λ s g c i free. group_undriven (part_of (instance_at (tree_of d) path)) g c (undriven_group (part_of (instance_at (tree_of d) path)) s c free g i);
      capturing = λ s g called c i free. capture_undriven (part_of (instance_at (tree_of d) path)) g called c (undriven_group (part_of (instance_at (tree_of d) path)) s c free g i);
      in_island = λ form place h t c free. island_undriven (part_of (instance_at (tree_of d) path)) form place t h c free;
    }

    -- statements
    abbrev KeepsForms : PlainComponent → Type 0
    KeepsForms part = (v : Visited) → In (statements_in part) v → IsForm part v.form

    forms : KeepsForms (part_of (instance_at (tree_of d) path))
    forms = instance_part KeepsForms
        (λ k l v i. subst (λ part. IsForm part v.form) (same_part d (length d.components) k) (((design.components k l).statements v i).form))
        bare_form path

    abbrev KeepsStatic : PlainComponent → Type 0
    KeepsStatic part = (v : Visited) → In (statements_in part) v → v.context ≡ Dynamic → is_static v.form ≡ true → (0 < form_length part v.form) × ((g : ℕ) → In (groups_in v.form) g → is_some (group_length part g) ≡ true)

    statics : IsFlat d → KeepsStatic (part_of (instance_at (tree_of d) path))
    statics flat = instance_part KeepsStatic of_component_here bare path
      where
        of_component_here : (k : ℕ) → k < length d.components → KeepsStatic (component_at d k)
        of_component_here k l v i dynamic static =
            let all = λ (w : Visited) (j : In (visits v) w). all_may d accepted k l w (visited Dynamic (component_at d k).control v w i j) in
            let it = static_form (component_at d k) (flat k l).no_invoke v.context v.form (subst (λ c. may_stand (component_at d k) c v.form ≡ true) (sym dynamic) (static_may (component_at d k) v.form static)) (λ w j. all w (inr j)) in
            (static_lasts d accepted k l flat v i static it.has, it.static)

        bare : KeepsStatic no_component
        bare v (inl e) dynamic static = absurd (false_true (subst (λ w. is_static w.form ≡ true) (sym e) static))
        bare v (inr i) dynamic static = absurd i

    abbrev KeepsGroups : PlainComponent → Type 0
    KeepsGroups part = (g n : ℕ) → g < length (PlainComponent.groups part) → group_length part g ≡ Some n → 0 < n

    group_lengths : KeepsGroups (part_of (instance_at (tree_of d) path))
    group_lengths = instance_part KeepsGroups (λ k l g n there is. group_lasts d accepted k l g n there is) (λ g n there is. absurd (none_below g there)) path
      where
        none_below : (g : ℕ) → g < 0 → ⊥
        none_below g l = absurd (omega (arith, l))

    abbrev KeepsRows : PlainComponent → Type 0
    KeepsRows part = (cell : PlainCell) → In (PlainComponent.cells part) cell → (p : PrimitiveRow) → cell.kind ≡ OfPrimitive p → HasRow p

    cell_rows : KeepsRows (part_of (instance_at (tree_of d) path))
    cell_rows = instance_part KeepsRows (λ k l cell i p is. of_kind cell.kind p is (((design.components k l).cells cell i).kind)) (λ cell i. absurd i) path
      where
        of_kind : (kind : PlainKind) (p : PrimitiveRow) → kind ≡ OfPrimitive p → IsKind d kind → HasRow p
        of_kind (OfPrimitive q) p e has = subst HasRow (same q p e) has.0
          where
            same : (a b : PrimitiveRow) → OfPrimitive a ≡ OfPrimitive b → a ≡ b
            same a b f = cc
        of_kind (OfComponent k) p e has = absurd (cc)

    lasts : IsFlat d → (form : PlainForm) (place : Place) → Stands (instance_at (tree_of d) path) (Placed form place) → is_island_form (part_of (instance_at (tree_of d) path)) form ≡ true → 0 < form_length (part_of (instance_at (tree_of d) path)) form
    lasts flat Empty place stands e = absurd (false_true e)
    lasts flat (Enable g) place stands e = of_length (group_length (part_of (instance_at (tree_of d) path)) g) refl e
      where
        there : g < length (part_of (instance_at (tree_of d) path)).groups
        there = (forms (record { context = Dynamic; form = Enable g; place = place }) stands).0

        of_length : (o : Option ℕ) → group_length (part_of (instance_at (tree_of d) path)) g ≡ o → is_some o ≡ true → 0 < or_zero o
        of_length None is f = absurd (false_true f)
        of_length (Some n) is f = group_lengths g n there is
    lasts flat (Seq parts) place stands e = absurd (false_true e)
    lasts flat (Par arms) place stands e = absurd (false_true e)
    lasts flat (If test comb a b) place stands e = absurd (false_true e)
    lasts flat (While test comb a) place stands e = absurd (false_true e)
    lasts flat (Repeat count a) place stands e = absurd (false_true e)
    lasts flat (StaticSeq length parts) place stands e = (statics flat (record { context = Dynamic; form = StaticSeq length parts; place = place }) stands refl refl).0
    lasts flat (StaticPar length arms) place stands e = (statics flat (record { context = Dynamic; form = StaticPar length arms; place = place }) stands refl refl).0
    lasts flat (StaticIf length test a b) place stands e = (statics flat (record { context = Dynamic; form = StaticIf length test a b; place = place }) stands refl refl).0
    lasts flat (StaticRepeat length count a) place stands e = (statics flat (record { context = Dynamic; form = StaticRepeat length count a; place = place }) stands refl refl).0
    lasts flat (Timed k) place stands e = absurd (false_true e)

    no_invoke : IsFlat d → (part_of (instance_at (tree_of d) path)).invokes ≡ []
    no_invoke flat = instance_part (λ part. part.invokes ≡ []) (λ k l. (flat k l).no_invoke) refl path

    untimed : IsFlat d → (k : ℕ) (place : Place) → Stands (instance_at (tree_of d) path) (Placed (Timed k) place) → ⊥
    untimed flat k place stands =
        let none : k < 0 = subst (λ invokes. k < length invokes) (no_invoke flat) (forms (record { context = Dynamic; form = Timed k; place = place }) stands) in
        omega (arith, none)

    group_there : (g : ℕ) (place : Place) → Stands (instance_at (tree_of d) path) (Placed (Enable g) place) → g < length (part_of (instance_at (tree_of d) path)).groups
    group_there g place stands = (forms (record { context = Dynamic; form = Enable g; place = place }) stands).0

    -- calls, beside the component
    module _ (i : Instance) (is : instance_at (tree_of d) path ≡ i) where
      holes_of : (o : Owned) → In (source_order (part_of i)) o → (g : ℕ) → o.assign.target ≡ ports.Done g → o.owner ≡ Some g
      holes_of = subst (λ x. (o : Owned) → In (source_order (part_of x)) o → (g : ℕ) → o.assign.target ≡ ports.Done g → o.owner ≡ Some g) is (λ o j. KeepsPorts.own_done (instance_ports d design path o j))

      acyclic_of : (g : ℕ) → IsAcyclic i (group g)
      acyclic_of = subst (λ x. (g : ℕ) → IsAcyclic x (group g)) is (group_acyclic (instance_at (tree_of d) path) (instance_acyclic d accepted path) (λ g there. instance_group d accepted path g there))

    pub node_calls : (part : PlainComponent) (cells more : Cells) → instance_at (tree_of d) path ≡ Node part cells → KeepsCalls (Node part cells) (Node part more) → (g c : ℕ) → g < length part.groups → called (Node part cells) g ≡ Some c → CallRules (Node part cells) g c
    node_calls part cells more is keeps g c there e =
        call_rules part cells more keeps (subst IsKept is (kept_instance d design accepted path)) (subst AreAcyclic is (instance_acyclic d accepted path)) (acyclic_of (Node part cells) is)
        (holes_of (Node part cells) is) (subst (λ x. KeepsRows (part_of x)) is cell_rows) g c there e

    whole_of : (i whole : Instance) → part_of i ≡ part_of whole → KeepsCalls i whole → (P : Instance → Type 0) → ((part : PlainComponent) (cells more : Cells) → i ≡ Node part cells → KeepsCalls (Node part cells) (Node part more) → P (Node part cells)) → P i
    whole_of (Node part cells) (Node other more) same keeps P each = each part cells more refl (subst (λ p. KeepsCalls (Node part cells) (Node p more)) (sym same) keeps)

    -- where there is no component there is nothing to call
    nothing_calls : (i : Instance) → part_of i ≡ no_component → (g c : ℕ) → called i g ≡ Some c → ⊥
    nothing_calls i none g c e = none_some c (sym (ap (λ (part : PlainComponent). called_in (cells_of i) (group_at part g).assigns) none) ∙ e)

    nothing_drives : (part : PlainComponent) → part ≡ no_component → (g c : ℕ) → group_drives part g c ≡ true → ⊥
    nothing_drives part none g c e = false_true (sym (ap (λ x. group_drives x g c) none) ∙ e)

    calls_of : StandsFor d (instance_at (tree_of d) path) → (g c : ℕ) → g < length (part_of (instance_at (tree_of d) path)).groups → called (instance_at (tree_of d) path) g ≡ Some c → CallRules (instance_at (tree_of d) path) g c
    calls_of (of_component k l beside) g c =
        whole_of (instance_at (tree_of d) path) (component_of d k) beside.same (keeps_calls d accepted k l (instance_at (tree_of d) path) beside)
        (λ i. g < length (PlainComponent.groups (part_of i)) → called i g ≡ Some c → CallRules i g c) (λ part cells more is keeps there e. node_calls part cells more is keeps g c there e)
    calls_of (of_nothing none) g c = λ there e. absurd (nothing_calls (instance_at (tree_of d) path) none g c e)

    called_if_driven : StandsFor d (instance_at (tree_of d) path) → (g c : ℕ) (child : Instance) → cell_at (cells_of (instance_at (tree_of d) path)) c ≡ OfInstance child → group_drives (part_of (instance_at (tree_of d) path)) g c ≡ true
        → called (instance_at (tree_of d) path) g ≡ Some c
    called_if_driven (of_component k l beside) g c below =
        whole_of (instance_at (tree_of d) path) (component_of d k) beside.same (keeps_calls d accepted k l (instance_at (tree_of d) path) beside)
        (λ i. cell_at (cells_of i) c ≡ OfInstance below → group_drives (part_of i) g c ≡ true → called i g ≡ Some c)
        (λ part cells more is keeps stands e. calls_what_it_drives (Node part cells) (Node part more) keeps g c below stands e)
    called_if_driven (of_nothing none) g c below = λ stands e. absurd (nothing_drives (part_of (instance_at (tree_of d) path)) none g c e)

    no_static_calls : IsFlat d → (form : PlainForm) (place : Place) (c : ℕ) (child : Instance) → Stands (instance_at (tree_of d) path) (Placed form place) → is_static form ≡ true → cell_at (cells_of (instance_at (tree_of d) path)) c ≡ OfInstance child
        → drives (part_of (instance_at (tree_of d) path)) (Placed form place) c ≡ true → ⊥
    no_static_calls flat form place c child stands static at_child e =
        let g = driver (part_of (instance_at (tree_of d) path)) (groups_in form) c e in
        let timed = (statics flat (record { context = Dynamic; form = form; place = place }) stands refl static).1 g.0 g.1 in
        not_both (group_at (part_of (instance_at (tree_of d) path)) g.0).kind (plain_if_driven d accepted path g.0 c child at_child g.2) timed
      where
        not_both : (kind : GroupKind) → is_plain kind ≡ true → is_some (kind_length kind) ≡ true → ⊥
        not_both kinds.Plain plain timed = false_true timed
        not_both kinds.Comb plain timed = false_true plain
        not_both (kinds.Timed n) plain timed = false_true plain

    -- ALL RULES
    pub control_rules : IsFlat d → ControlRules (instance_at (tree_of d) path)
    control_rules flat = record {
      rules = instance_rules;
      is_untimed = untimed flat;
      unshared = λ v i c. none_shared d accepted path v i c;
      lasts = lasts flat;
      calls = λ g place c stands e. calls_of (instance_stands d path) g c (group_there g place stands) e;
      calls_it = λ g place c child stands at_child e. called_if_driven (instance_stands d path) g c child at_child (one_group (part_of (instance_at (tree_of d) path)) g c e);
      no_island_calls = no_static_calls flat;
      own_inputs = own_inputs;
    }
      where
        one_group : (part : PlainComponent) (g c : ℕ) → (group_drives part g c || false) ≡ true → group_drives part g c ≡ true
        one_group part g c = of_bool (group_drives part g c)
          where
            of_bool : (b : Bool) → (b || false) ≡ true → b ≡ true
            of_bool true e = refl
            of_bool false e = absurd (false_true e)
