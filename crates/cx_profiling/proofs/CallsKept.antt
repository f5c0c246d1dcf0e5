-- An instrumented design keeps the rule on calls: a group that calls is not counted, so it has its old assignments, moved, alone.
use Rattle.std.proofs.Common.{◌≡◌, ℕ, suc, ◌+◌, ◌*◌, ◌<◌, ◌≤◌, inl, inr, ◌⊎◌, ⊎_elim, Bool, true, false, ◌&&◌, if◌then◌else◌, List, [], ◌∷◌, ◌++◌, length, map, Option, Some, None, slice_get, refl, sym, ap, ap₂, ◌∙◌, subst, arith}
use Rattle.std.specs.Prelude.{nat_eq, is_none}
use Rattle.std.proofs.lemmas.Bool.{and_parts, both_ways, cases_lt, eq-eqb, ne_eqb}
use Rattle.cx_text.proofs.MemberLaws.{image_in}
use Rattle.cx_text.specs.Members.{In}
use Rattle.cx_text.specs.declared.places.Place.{Place}
use Rattle.cx_text.specs.declared.rules.Rule.TheVariants as rules
use Rattle.cx_text.proofs.ListLaws.{there_at, there_below, nothing_more}
use Rattle.cx_text.proofs.OptionLaws.{none_some}
use Rattle.cx_prim.specs.Rows.{Row}
use Rattle.cx_meaning.specs.declared.kinds.GroupKind.{GroupKind}
use Rattle.cx_meaning.specs.declared.kinds.GroupKind.TheVariants as kinds
use Rattle.cx_meaning.specs.declared.ports.PortRef.{PortRef}
use Rattle.cx_meaning.specs.declared.ports.PortRef.TheVariants as ports
use Rattle.cx_meaning.specs.Designs.{PlainAssign, PlainGroup, PlainCell, PlainKind, OfPrimitive, OfComponent, PlainComponent, PlainDesign, component_at, group_at}
use Rattle.cx_meaning.specs.Instances.{Instance, Cells, At, Nothing, OfRow, OfInstance, cell_at, cells_of, part_of, tree_within}
use Rattle.cx_meaning.specs.Active.{group, Owned, same_port, source_order}
use Rattle.cx_meaning.specs.Calls.{if_instance, called_by, called_in}
use Rattle.cx_meaning.specs.Sights.{PartPort, AnInput, part_port}
use Rattle.cx_meaning.proofs.DesignsLemmas.{same_part}
use Rattle.cx_meaning.proofs.InstancesLemmas.{instance_is, row_instance}
use Rattle.cx_rules.specs.Accepted.{IsAccepted}
use Rattle.cx_rules.specs.Footprints.{Depends}
use Rattle.cx_rules.specs.Items.{is_plain}
use Rattle.cx_rules.specs.Ports.{component_of, is_primitive_enable, is_instance, is_part_port, path_of}
use Rattle.cx_rules.specs.ShapeRules.{is_hole_of, some_target}
use Rattle.cx_rules.specs.CallShape.{is_port_of, Calls, go_port, done_port, write_en_of, register_done, is_reg_kind, is_register_cell, is_register_enable, is_right_go, is_right_enable, is_right_done, with_target, added, captured_from, captured, wanted_dones, assigns_of, IsOutputOrDone, has_right_go, IsFedBack, has_right_enable, has_right_done, CallBreak, another_cell, wrong_go, input_by_output, wrong_enable, wrong_done, IsOutside, IsMisshapen, BreaksCallShape, GroupBreaksCallShape}
use Rattle.cx_rules.specs.Wellformed.{IsDesign}
use Rattle.cx_rules.proofs.FoundLemmas.{same_is}
use Rattle.cx_rewrites.specs.Moving.{moved_assign}
use Rattle.cx_rewrites.proofs.MovedLists.{some_moved}
use Rattle.cx_rewrites.proofs.MovedCalls.{AllInside, with_target-moved, is_right_go-moved, is_right_enable-moved, is_right_done-moved}
use Rattle.cx_profiling.specs.Counters.{has_name, is_counted_kind, is_counted, counters, shown_in, first_gained}
use Rattle.cx_profiling.specs.Instrumented.{gained, moved_number, moved_in, moved_assigns, address_width, with_counts}
use Rattle.cx_profiling.proofs.CellPorts.{IsGiven, given_output, given_done, part_given}
use Rattle.cx_profiling.proofs.CircleLemmas.{depends_back}
use Rattle.cx_profiling.proofs.GainedLemmas.{grown_at}
use Rattle.cx_profiling.proofs.InvokesKept.{keeps_at}
use Rattle.cx_profiling.proofs.ListedCells.{CellIs, is_primitive, is_component, cell_is}
use Rattle.cx_profiling.proofs.ListedCells as listed
use Rattle.cx_profiling.proofs.MovedCalls.{same_moved, target_inside, one_kept, stands_alone}
use Rattle.cx_profiling.proofs.PairLemmas.{CellPair, row_pair, child_pair, pair_at, child_ports}
use Rattle.cx_profiling.proofs.PartTable.{GroupMade, bare_group, counting_group, storing_group, no_group_there, group_made, kind_kept, InGroup, old_in, counting_in, storing_in, in_group, OwnedMade, old_owned, showing, counting, storing, owned_made}
use Rattle.cx_profiling.proofs.PortLemmas.{IsInside, grown_number, moved-primitive, moved_apart}
use Rattle.cx_profiling.proofs.PortsKept.{counter_target, StoreTarget, to_memory, to_hole, store_target, enable_kept, part_port_kept, hole_of_kept, cell_back, done_back, counter_row_there, counts_row, memory_there}
use Rattle.cx_profiling.proofs.RoleLemmas.{more_cells}
use Rattle.cx_profiling.proofs.ShapesKept as shapes
use Rattle.cx_rules.proofs.ShapeRulesLemmas.{some_in, a_target, port_of_is}
use Rattle.cx_flattening.proofs.Ruled.{in_order}

-- a group that drives a port of a component's cell calls
calls_one : (cells : Cells) (list : List PlainAssign) (b : PlainAssign) (c q : ℕ) (child : Instance) → In list b → b.target ≡ ports.Cell c q → cell_at cells c ≡ OfInstance child → called_in cells list ≡ None → ⊥
calls_one cells [] b c q child i e at none = i
calls_one cells (a ∷ rest) b c q child (inl same) e at none =
    absurd (let wrong : Some c ≡ None = sym (ap (λ t. called_by cells t (called_in cells rest)) (ap (λ (x : PlainAssign). x.target) same ∙ e) ∙ ap (λ x. if_instance x c (called_in cells rest)) at) ∙ none in cc)
calls_one cells (a ∷ rest) b c q child (inr i) e at none = calls_one cells rest b c q child i e at (later a.target none)
  where
    at_cell : (x : ℕ) (k : At) → if_instance k x (called_in cells rest) ≡ None → called_in cells rest ≡ None
    at_cell x Nothing h = h
    at_cell x (OfRow row) h = h
    at_cell x (OfInstance kid) h = absurd (cc)

    later : (t : PortRef) → called_by cells t (called_in cells rest) ≡ None → called_in cells rest ≡ None
    later (ports.Cell x p) h = at_cell x (cell_at cells x) h
    later (ports.Input n) h = h
    later (ports.Output n) h = h
    later (ports.Done g) h = h
    later (ports.Literal w v) h = h

-- a counted plain group calls nothing
counted_plain : (cells : Cells) (g : PlainGroup) → is_counted cells g ≡ true → is_plain g.kind ≡ true → called_in cells g.assigns ≡ None
counted_plain cells g counted plain = by g.kind plain (and_parts (has_name g.name) (is_counted_kind cells g.assigns g.kind) counted).1
  where
    none_is : (o : Option ℕ) → is_none o ≡ true → o ≡ None
    none_is None e = refl
    none_is (Some x) e = absurd (cc)

    by : (kind : GroupKind) → is_plain kind ≡ true → is_counted_kind cells g.assigns kind ≡ true → called_in cells g.assigns ≡ None
    by kinds.Plain p e = none_is (called_in cells g.assigns) e
    by kinds.Comb p e = absurd (cc)
    by (kinds.Timed n) p e = absurd (cc)

-- an input stands before the outputs
input_before : (part new : PlainComponent) (p n : ℕ) → length new.inputs ≡ length part.inputs → part_port new p ≡ AnInput n → p < first_gained part
input_before part new p n same e =
    ⊎_elim (λ (less : p < suc (length new.inputs)). omega (arith, less, same)) (λ (past : suc (length new.inputs) ≤ p). absurd (no_given (part_port new p) (part_given new p past) e)) (cases_lt p (suc (length new.inputs)))
  where
    no_given : (port : PartPort) → IsGiven port → port ≡ AnInput n → ⊥
    no_given port (given_output m) h = absurd (cc)
    no_given port given_done h = absurd (cc)

module _ (d : PlainDesign) (design : IsDesign d) (accepted : IsAccepted d) (m k : ℕ) (count : length d.components ≡ suc m) (within : k < length d.components) where
  abbrev part : PlainComponent
  part = component_at d k

  abbrev other : PlainComponent
  other = component_at (with_counts d) k

  abbrev i : Instance
  i = tree_within d (suc m) k

  abbrev j : Instance
  j = tree_within (with_counts d) (suc m) k

  abbrev mv : PortRef → PortRef
  mv p = moved_in d part p

  abbrev memory : ℕ
  memory = length part.cells + 2 * length (counters (component_of d k))

  -- what a group names
  pub group_inside : (g : ℕ) → g < length part.groups → AllInside (IsInside d part) (group_at part g).assigns
  group_inside g few a stands = record {
    target = shapes.target_inside d design accepted m k count within (record { owner = Some g; assign = a }) (in_order part (Some g) a (few, stands));
    names = λ q names. shapes.named_inside d design accepted m k count within (record { owner = Some g; assign = a }) (in_order part (Some g) a (few, stands)) q names;
  }

  -- A CALL of the instrumented design is one of the design
  record CallBack (g c : ℕ) (kid : Instance) : Type 0 where
    few : g < length part.groups
    cell : PlainCell
    component : ℕ
    stands : slice_get part.cells c ≡ Some cell
    is : cell.kind ≡ OfComponent component
    below : component < length d.components
    first : cell_at (cells_of i) c ≡ OfInstance (tree_within d m component)
    kid_is : tree_within (with_counts d) m component ≡ kid
    dynamic : (component_at d component).latency ≡ None
    moved : (p : ℕ) → mv (ports.Cell c p) ≡ ports.Cell c (grown_number d (first_gained (component_at d component)) (gained d component) p)
    assign : PlainAssign
    inside : In (group_at part g).assigns assign
    number : ℕ
    target : assign.target ≡ ports.Cell c number

  call_back : (g c : ℕ) (calls : Calls j (assigns_of j g) c) → CallBack g c calls.child
  call_back g c calls = by a.0 n (in_group d design k within g a.0 a.1)
    where
      a : (x : PlainAssign) × In (assigns_of j g) x × (is_port_of c x.target ≡ true)
      a = a_target (is_port_of c) (assigns_of j g) calls.driven

      n : (n : ℕ) × (a.0.target ≡ ports.Cell c n)
      n = port_of_is c a.0.target a.2

      no_row : (row : Row) → cell_at (cells_of j) c ≡ OfRow row → ⊥
      no_row row e = row_instance row calls.child (sym e ∙ calls.is_component)

      of_pair : (b : PlainAssign) (q : ℕ) → g < length part.groups → In (group_at part g).assigns b → b.target ≡ ports.Cell c q → CellPair d design m k within c → CallBack g c calls.child
      of_pair b q few h e (row_pair row first second moved) = absurd (no_row row second)
      of_pair b q few h e (child_pair cell f stands is below first second moved) = record {
        few = few;
        cell = cell;
        component = f;
        stands = stands;
        is = is;
        below = below;
        first = first;
        kid_is = instance_is (tree_within (with_counts d) m f) calls.child (sym second ∙ calls.is_component);
        dynamic =
            sym (keeps_at d f below).latency ∙ ap (λ (x : PlainComponent). x.latency) (sym (same_part (with_counts d) m f))
            ∙ ap (λ t. (part_of t).latency) (instance_is (tree_within (with_counts d) m f) calls.child (sym second ∙ calls.is_component)) ∙ calls.dynamic;
        moved = moved;
        assign = b;
        inside = h;
        number = q;
        target = e;
      }

      of_store : k ≡ d.main → (p h : ℕ) (x : PlainAssign) → x.target ≡ ports.Cell c p → StoreTarget memory h x → CallBack g c calls.child
      of_store main p h x target (to_memory u e) =
          let same : memory ≡ c = (let both : ports.Cell memory u ≡ ports.Cell c p = sym e ∙ target in cc) in
          absurd (no_row (counts_row d design m k within) (ap (cell_at (cells_of j)) (sym same) ∙ memory_there d design m k within main))
      of_store main p h x target (to_hole e names) = absurd (let both : ports.Done h ≡ ports.Cell c p = sym e ∙ target in cc)

      by : (x : PlainAssign) → (n : ℕ) × (x.target ≡ ports.Cell c n) → InGroup d design k within g x → CallBack g c calls.child
      by x (p, target) (old_in b few h is) =
          let q = cell_back d design m k within b.target c p (ap (λ (y : PlainAssign). y.target) is ∙ target) in
          let here : IsInside d part (ports.Cell c q.0) = subst (IsInside d part) q.1 (group_inside g few b h).target in
          of_pair b q.0 few h q.1 (pair_at d design m k within c here.0)
      by x (p, target) (counting_in r own reached few is h) =
          let t = counter_target part.place r x h in
          let same : t.0 ≡ c = (let both : ports.Cell t.0 t.1 ≡ ports.Cell c p = sym t.2 ∙ target in cc) in
          let row = counter_row_there d design m k within reached (record { group = g; register = r }) own c (subst (λ z. (z ≡ r) ⊎ (z ≡ suc r)) same t.3) in
          absurd (no_row row.0 row.1)
      by x (p, target) (storing_in s y main at number h) =
          of_store main p (length part.groups + s) x target (store_target part.place memory (address_width (length (shown_in (component_of d k)))) (length part.groups + s) s y.port x h)

  abbrev old_calls : (g c : ℕ) (kid : Instance) (b : CallBack g c kid) → Calls i (assigns_of i g) c
  old_calls g c kid b = record {
    child = tree_within d m b.component;
    is_component = b.first;
    dynamic = ap (λ (x : PlainComponent). x.latency) (same_part d m b.component) ∙ b.dynamic;
    driven = some_in (is_port_of c) (assigns_of i g) b.assign b.inside (ap (is_port_of c) b.target ∙ eq-eqb c c refl);
  }

  -- a group that calls is not counted
  not_counted : (g c : ℕ) (kid : Instance) → CallBack g c kid → is_plain (group_at part g).kind ≡ true → is_counted (cells_of (component_of d k)) (group_at part g) ≡ true → ⊥
  not_counted g c kid b plain counted =
      calls_one (cells_of i) (group_at part g).assigns b.assign c b.number (tree_within d m b.component) b.inside b.target b.first
      (counted_plain (cells_of i) (group_at part g) (ap (λ t. is_counted (cells_of t) (group_at part g)) (sym (shapes.i_is d design accepted m k count within)) ∙ counted) plain)

  -- THE CONDITIONS on one call
  module _ (g c : ℕ) (kid : Instance) (b : CallBack g c kid) (plain : is_plain (group_at other g).kind ≡ true) where
    abbrev child : Instance
    child = tree_within d m b.component

    old_plain : is_plain (group_at part g).kind ≡ true
    old_plain = ap is_plain (sym (kind_kept d design k within g)) ∙ plain

    -- the group has its old assignments alone
    assigns_are : assigns_of j g ≡ map (moved_assign mv) (assigns_of i g)
    assigns_are = by (group_made d design k within g)
      where
        by : GroupMade d design k within g → assigns_of j g ≡ map (moved_assign mv) (assigns_of i g)
        by (bare_group few e) = ap (λ (x : PlainGroup). x.assigns) e ∙ nothing_more (moved_assigns d part (group_at part g).assigns)
        by (counting_group r own reached few is e) = absurd (not_counted g c kid b old_plain is)
        by (storing_group n x name main at number e) = let few : g < length part.groups = b.few in absurd (omega (arith, few, number))
        by (no_group_there past gone e) = let few : g < length part.groups = b.few in absurd (omega (arith, few, past))

    all_inside : AllInside (IsInside d part) (assigns_of i g)
    all_inside = group_inside g b.few

    cell_few : c < length part.cells
    cell_few = let here : IsInside d part (ports.Cell c b.number) = subst (IsInside d part) b.target (all_inside b.assign b.inside).target in here.0

    -- the ports of the cell, up to its done
    port_inside : (p : ℕ) → p ≤ first_gained (component_at d b.component) → IsInside d part (ports.Cell c p)
    port_inside p few = (
      cell_few,
      λ cell e stands is.
          let same : b.cell ≡ cell = (let both : Some b.cell ≡ Some cell = sym b.stands ∙ stands in cc) in
          let number : b.component ≡ e = (let both : OfComponent b.component ≡ OfComponent e = sym b.is ∙ ap (λ (x : PlainCell). x.kind) same ∙ is in cc) in
          subst (λ x. p ≤ first_gained (component_at d x)) number few,
    )

    port_few : (p : ℕ) → IsInside d part (ports.Cell c p) → p ≤ first_gained (component_at d b.component)
    port_few p here = here.1 b.cell b.component b.stands b.is

    child_part : part_of child ≡ component_at d b.component
    child_part = same_part d m b.component

    kid_part : part_of kid ≡ component_at (with_counts d) b.component
    kid_part = ap part_of (sym b.kid_is) ∙ same_part (with_counts d) m b.component

    ports_is : (p : ℕ) → p ≤ first_gained (component_at d b.component) → part_port (part_of kid) (grown_number d (first_gained (component_at d b.component)) (gained d b.component) p) ≡ part_port (part_of child) p
    ports_is p few = ap (λ t. part_port (part_of t) (grown_number d (first_gained (component_at d b.component)) (gained d b.component) p)) (sym b.kid_is) ∙ child_ports d design m k within b.component p b.below few

    -- a port of the cell before its done
    early_stays : (p : ℕ) → p < first_gained (component_at d b.component) → mv (ports.Cell c p) ≡ ports.Cell c p
    early_stays p less = b.moved p ∙ ap (λ x. ports.Cell c (if x then p + gained d b.component else p)) (ne_eqb p (first_gained (component_at d b.component)) (λ same. omega (arith, less, same)))

    go_stays : mv (go_port c) ≡ go_port c
    go_stays = early_stays 0 (omega arith)

    go_inside : IsInside d part (go_port c)
    go_inside = port_inside 0 (omega arith)

    done_inside : IsInside d part (done_port c child)
    done_inside = subst (λ (x : PlainComponent). IsInside d part (ports.Cell c (first_gained x))) (sym child_part) (port_inside (first_gained (component_at d b.component)) (omega arith))

    done_is : mv (done_port c child) ≡ done_port c kid
    done_is =
        ap (λ (x : PlainComponent). mv (ports.Cell c (first_gained x))) child_part
        ∙ b.moved (first_gained (component_at d b.component))
        ∙ ap (λ t. ports.Cell c (if t then first_gained (component_at d b.component) + gained d b.component else first_gained (component_at d b.component))) (eq-eqb (first_gained (component_at d b.component)) (first_gained (component_at d b.component)) refl)
        ∙ ap (ports.Cell c) longer
        ∙ ap (λ (x : PlainComponent). ports.Cell c (first_gained x)) (sym kid_part)
      where
        longer : first_gained (component_at d b.component) + gained d b.component ≡ first_gained (component_at (with_counts d) b.component)
        longer =
            let inputs : length (component_at (with_counts d) b.component).inputs ≡ length (component_at d b.component).inputs = ap length ((grown_at d b.component b.below).inputs) in
            let outputs : length (component_at (with_counts d) b.component).outputs ≡ length (component_at d b.component).outputs + gained d b.component = (grown_at d b.component b.below).outputs in
            omega (arith, inputs, outputs)

    of_target : (q : PortRef) → IsInside d part q → with_target (mv q) (assigns_of j g) ≡ map (moved_assign mv) (with_target q (assigns_of i g))
    of_target q here = ap (with_target (mv q)) assigns_are ∙ with_target-moved mv (one_kept d part) (IsInside d part) q (stands_alone d part q here) (assigns_of i g) all_inside

    go_kept : has_right_go j g c kid ≡ has_right_go i g c child
    go_kept =
        ap₂ (λ x p. is_right_go x (with_target p (assigns_of j g))) (sym done_is) (sym go_stays)
        ∙ ap (is_right_go (mv (done_port c child))) (of_target (go_port c) go_inside)
        ∙ is_right_go-moved mv (one_kept d part) (IsInside d part) (done_port c child) (stands_alone d part (done_port c child) done_inside) (with_target (go_port c) (assigns_of i g)) (target_inside d part (go_port c) (assigns_of i g) all_inside)

    register_kept : (r p : ℕ) → IsInside d part (ports.Cell r p) → is_register_enable other (mv (ports.Cell r p)) ≡ is_register_enable part (ports.Cell r p)
    register_kept r p here = by (cell_is part.cells r)
      where
        there : (cell : PlainCell) → slice_get part.cells r ≡ Some cell → slice_get other.cells r ≡ Some cell
        there cell e = (grown_at d k within).cells r cell e

        by : CellIs part.cells r → is_register_enable other (mv (ports.Cell r p)) ≡ is_register_enable part (ports.Cell r p)
        by (listed.is_none e) = let x = there_at part.cells r here.0 in absurd (let wrong : None ≡ Some x.0 = sym e ∙ x.1 in cc)
        by (is_primitive cell primitive e is) =
            ap₂ (λ x n. is_register_cell x && nat_eq n 1) (there cell e) (ap (λ o. moved_number d o p) e ∙ moved-primitive d cell primitive p is)
            ∙ ap (λ x. is_register_cell x && nat_eq p 1) (sym e)
        by (is_component cell e stands is) =
            ap (λ x. is_register_cell x && nat_eq (moved_number d (slice_get part.cells r) p) 1) (there cell stands)
            ∙ ap (λ x. is_reg_kind x && nat_eq (moved_number d (slice_get part.cells r) p) 1) is
            ∙ ap (λ x. is_reg_kind x && nat_eq p 1) (sym is)
            ∙ ap (λ x. is_register_cell x && nat_eq p 1) (sym stands)

    enable_is : (q : PortRef) → IsInside d part q → has_right_enable j g c kid (mv q) ≡ has_right_enable i g c child q
    enable_is q here =
        ap₂ ◌&&◌ (enables q here)
        (ap (λ x. is_right_enable x (with_target (mv q) (assigns_of j g))) (sym done_is)
        ∙ ap (is_right_enable (mv (done_port c child))) (of_target q here)
        ∙ is_right_enable-moved mv (one_kept d part) (IsInside d part) (done_port c child) (stands_alone d part (done_port c child) done_inside) (with_target q (assigns_of i g)) (target_inside d part q (assigns_of i g) all_inside))
      where
        enables : (q : PortRef) → IsInside d part q → is_register_enable other (mv q) ≡ is_register_enable part q
        enables (ports.Cell r p) here = register_kept r p here
        enables (ports.Input n) here = refl
        enables (ports.Output n) here = refl
        enables (ports.Done h) here = refl
        enables (ports.Literal w v) here = refl

    -- the captured registers are the same
    register_inside : (r : ℕ) (cell : PlainCell) (p : ℕ) → slice_get part.cells r ≡ Some cell → is_reg_kind cell.kind ≡ true → IsInside d part (ports.Cell r p) × (mv (ports.Cell r p) ≡ ports.Cell r p)
    register_inside r cell p at is = by cell.kind refl
      where
        by : (kind : PlainKind) → cell.kind ≡ kind → IsInside d part (ports.Cell r p) × (mv (ports.Cell r p) ≡ ports.Cell r p)
        by (OfPrimitive primitive) e = (
          (
            there_below part.cells r cell at,
            λ x f stands comp.
                let same : cell ≡ x = (let both : Some cell ≡ Some x = sym at ∙ stands in cc) in
                absurd (let wrong : OfPrimitive primitive ≡ OfComponent f = sym e ∙ ap (λ (y : PlainCell). y.kind) same ∙ comp in cc),
          ),
          ap (ports.Cell r) (ap (λ o. moved_number d o p) at ∙ moved-primitive d cell primitive p e),
        )
        by (OfComponent f) e = absurd (both_ways (is_reg_kind cell.kind) (ap is_reg_kind e) is)

    writes : (r : ℕ) (cell : PlainCell) → slice_get part.cells r ≡ Some cell
        → (is_reg_kind cell.kind && some_target (same_port (write_en_of r)) (map (moved_assign mv) (assigns_of i g))) ≡ (is_reg_kind cell.kind && some_target (same_port (write_en_of r)) (assigns_of i g))
    writes r cell at = by (is_reg_kind cell.kind) refl
      where
        by : (t : Bool) → is_reg_kind cell.kind ≡ t → (t && some_target (same_port (write_en_of r)) (map (moved_assign mv) (assigns_of i g))) ≡ (t && some_target (same_port (write_en_of r)) (assigns_of i g))
        by false e = refl
        by true e =
            let x = register_inside r cell 1 at e in
            some_moved mv (same_port (write_en_of r)) (same_port (write_en_of r)) (assigns_of i g)
            (λ a h. ap (λ q. same_port q (mv a.target)) (sym x.1) ∙ same_moved d part (write_en_of r) a.target x.0 (all_inside a h).target)

    -- no old group writes to a register behind the old cells
    none_writes : (r : ℕ) → length part.cells ≤ r → some_target (same_port (write_en_of r)) (map (moved_assign mv) (assigns_of i g)) ≡ false
    none_writes r past = by (some_target (same_port (write_en_of r)) (map (moved_assign mv) (assigns_of i g))) refl
      where
        by : (t : Bool) → some_target (same_port (write_en_of r)) (map (moved_assign mv) (assigns_of i g)) ≡ t → t ≡ false
        by false e = refl
        by true e =
            let a = a_target (same_port (write_en_of r)) (map (moved_assign mv) (assigns_of i g)) e in
            let x = image_in (moved_assign mv) (assigns_of i g) a.0 a.1 in
            let target : mv x.0.target ≡ write_en_of r = ap (λ (y : PlainAssign). y.target) x.2 ∙ sym (same_is (write_en_of r) a.0.target a.2) in
            let q = cell_back d design m k within x.0.target r 1 target in
            let here : IsInside d part (ports.Cell r q.0) = subst (IsInside d part) q.1 (all_inside x.0 x.1).target in
            let few : r < length part.cells = here.0 in
            absurd (omega (arith, few, past))

    captured_past : (r : ℕ) (cells : List PlainCell) → length part.cells ≤ r → captured_from (map (moved_assign mv) (assigns_of i g)) r cells ≡ []
    captured_past r [] past = refl
    captured_past r (cell ∷ cells) past =
        ap (λ t. added r (is_reg_kind cell.kind && t) (captured_from (map (moved_assign mv) (assigns_of i g)) (suc r) cells)) (none_writes r past)
        ∙ none (is_reg_kind cell.kind) ∙ captured_past (suc r) cells (omega (arith, past))
      where
        none : (t : Bool) → added r (t && false) (captured_from (map (moved_assign mv) (assigns_of i g)) (suc r) cells) ≡ captured_from (map (moved_assign mv) (assigns_of i g)) (suc r) cells
        none true = refl
        none false = refl

    captured_same : (r : ℕ) (cells more : List PlainCell) → ((n : ℕ) (cell : PlainCell) → slice_get cells n ≡ Some cell → slice_get part.cells (r + n) ≡ Some cell) → length part.cells ≤ r + length cells
        → captured_from (map (moved_assign mv) (assigns_of i g)) r (cells ++ more) ≡ captured_from (assigns_of i g) r cells
    captured_same r [] more at past = let none : length part.cells ≤ r = omega (arith, past) in captured_past r more none
    captured_same r (cell ∷ cells) more at past =
        let none : r + 0 ≡ r = omega arith in
        let here : slice_get part.cells r ≡ Some cell = subst (λ n. slice_get part.cells n ≡ Some cell) none (at 0 cell refl) in
        ap₂ (added r) (writes r cell here)
        (captured_same (suc r) cells more (λ n x e. let next : r + suc n ≡ suc r + n = omega arith in subst (λ y. slice_get part.cells y ≡ Some x) next (at (suc n) x e)) (omega (arith, past)))

    captured_kept : captured other (assigns_of j g) ≡ captured part (assigns_of i g)
    captured_kept =
        let more = more_cells d k within in
        ap₂ (λ list cells. captured_from list 0 cells) assigns_are more.1
        ∙ captured_same 0 part.cells more.0 (λ n cell e. let same : 0 + n ≡ n = omega arith in ap (slice_get part.cells) same ∙ e) (omega arith)

    captured_registers : (r : ℕ) (cells : List PlainCell) → ((n : ℕ) (cell : PlainCell) → slice_get cells n ≡ Some cell → slice_get part.cells (r + n) ≡ Some cell)
        → (x : ℕ) → In (captured_from (assigns_of i g) r cells) x → IsInside d part (ports.Cell x 3) × (mv (ports.Cell x 3) ≡ ports.Cell x 3)
    captured_registers r [] at x h = absurd h
    captured_registers r (cell ∷ cells) at x h = by (is_reg_kind cell.kind) (some_target (same_port (write_en_of r)) (assigns_of i g)) refl h (captured_registers (suc r) cells later x)
      where
        later : (n : ℕ) (y : PlainCell) → slice_get cells n ≡ Some y → slice_get part.cells (suc r + n) ≡ Some y
        later n y e = let next : r + suc n ≡ suc r + n = omega arith in subst (λ z. slice_get part.cells z ≡ Some y) next (at (suc n) y e)

        here : slice_get part.cells r ≡ Some cell
        here = let none : r + 0 ≡ r = omega arith in subst (λ n. slice_get part.cells n ≡ Some cell) none (at 0 cell refl)

        by : (s t : Bool) → is_reg_kind cell.kind ≡ s → In (added r (s && t) (captured_from (assigns_of i g) (suc r) cells)) x
            → (In (captured_from (assigns_of i g) (suc r) cells) x → IsInside d part (ports.Cell x 3) × (mv (ports.Cell x 3) ≡ ports.Cell x 3)) → IsInside d part (ports.Cell x 3) × (mv (ports.Cell x 3) ≡ ports.Cell x 3)
        by true true e (inl same) next = subst (λ z. IsInside d part (ports.Cell z 3) × (mv (ports.Cell z 3) ≡ ports.Cell z 3)) same (register_inside r cell 3 here e)
        by true true e (inr y) next = next y
        by true false e y next = next y
        by false t e y next = next y

    done_ports : (rs : List ℕ) → ((x : ℕ) → In rs x → IsInside d part (ports.Cell x 3) × (mv (ports.Cell x 3) ≡ ports.Cell x 3))
        → (wanted_dones (mv (done_port c child)) rs ≡ map mv (wanted_dones (done_port c child) rs)) × ((w : PortRef) → In (wanted_dones (done_port c child) rs) w → IsInside d part w)
    done_ports [] each = (refl, λ w h. only w h)
      where
        only : (w : PortRef) → In (done_port c child ∷ []) w → IsInside d part w
        only w (inl e) = subst (IsInside d part) e done_inside
        only w (inr h) = absurd h
    done_ports (r ∷ rs) each = (ap₂ (λ p ps. p ∷ ps) (sym (each r (inl refl)).1) (all rs (λ x h. each x (inr h))), λ w h. among w h)
      where
        all : (xs : List ℕ) → ((x : ℕ) → In xs x → IsInside d part (ports.Cell x 3) × (mv (ports.Cell x 3) ≡ ports.Cell x 3)) → map register_done xs ≡ map mv (map register_done xs)
        all [] h = refl
        all (x ∷ xs) h = ap₂ (λ p ps. p ∷ ps) (sym (h x (inl refl)).1) (all xs (λ y e. h y (inr e)))

        of_rest : (xs : List ℕ) → ((x : ℕ) → In xs x → IsInside d part (ports.Cell x 3) × (mv (ports.Cell x 3) ≡ ports.Cell x 3)) → (w : PortRef) → In (map register_done xs) w → IsInside d part w
        of_rest [] h w y = absurd y
        of_rest (x ∷ xs) h w (inl e) = subst (IsInside d part) e (h x (inl refl)).0
        of_rest (x ∷ xs) h w (inr y) = of_rest xs (λ z e. h z (inr e)) w y

        among : (w : PortRef) → In (register_done r ∷ map register_done rs) w → IsInside d part w
        among w (inl e) = subst (IsInside d part) e (each r (inl refl)).0
        among w (inr y) = of_rest rs (λ x h. each x (inr h)) w y

    done_kept : has_right_done j g c kid ≡ has_right_done i g c child
    done_kept =
        let each = captured_registers 0 part.cells (λ n cell e. let same : 0 + n ≡ n = omega arith in ap (slice_get part.cells) same ∙ e) in
        let w = done_ports (captured part (assigns_of i g)) each in
        ap₂ (λ x rs. is_right_done (wanted_dones x rs) (with_target (ports.Done g) (assigns_of j g))) (sym done_is) captured_kept
        ∙ ap₂ is_right_done w.0 (of_target (ports.Done g) b.few)
        ∙ is_right_done-moved mv (one_kept d part) (IsInside d part) (wanted_dones (done_port c child) (captured part (assigns_of i g))) (λ x h. stands_alone d part x (w.1 x h)) (with_target (ports.Done g) (assigns_of i g)) (target_inside d part (ports.Done g) (assigns_of i g) all_inside)

    early_port : (p : ℕ) → p < first_gained (component_at d b.component) → (t : PortRef) → IsInside d part t → mv t ≡ ports.Cell c p → t ≡ ports.Cell c p
    early_port p less t here e =
        moved_apart d part t (ports.Cell c p) here (port_inside p (omega (arith, less)))
        (e ∙ sym (early_stays p less))

    input_early : (p n : ℕ) → part_port (part_of kid) p ≡ AnInput n → p < first_gained (component_at d b.component)
    input_early p n e =
        input_before (component_at d b.component) (part_of kid) p n
        (ap (λ (x : PlainComponent). length x.inputs) kid_part ∙ ap length ((grown_at d b.component b.below).inputs)) e

    early_is : (p : ℕ) → p < first_gained (component_at d b.component) → part_port (part_of kid) p ≡ part_port (part_of child) p
    early_is p less =
        ap (part_port (part_of kid)) (sym (ap (λ x. if x then p + gained d b.component else p) (ne_eqb p (first_gained (component_at d b.component)) (λ same. omega (arith, less, same)))))
        ∙ ports_is p (omega (arith, less))

    fed_back : (p : ℕ) → IsFedBack j g c kid p → IsFedBack i g c child p
    fed_back p ((n, input), (q, output, depends)) =
        let less : p < first_gained (component_at d b.component) = input_early p n input in
        let r = depends_back d design m k within (group g) (ports.Cell c p) (ports.Cell c p) (ports.Cell c q) (port_inside p (omega (arith, less))) (early_stays p less) depends in
        let x = cell_back d design m k within r.0 c q r.1 in
        let here : IsInside d part (ports.Cell c x.0) = subst (IsInside d part) x.1 r.3 in
        let number : grown_number d (first_gained (component_at d b.component)) (gained d b.component) x.0 ≡ q =
        (let both : ports.Cell c (grown_number d (first_gained (component_at d b.component)) (gained d b.component) x.0) ≡ ports.Cell c q = sym (b.moved x.0) ∙ ap mv (sym x.1) ∙ r.1 in cc) in
        let same : part_port (part_of child) x.0 ≡ part_port (part_of kid) q = sym (ports_is x.0 (port_few x.0 here)) ∙ ap (part_port (part_of kid)) number in
        ((n, sym (early_is p less) ∙ input), (x.0, out x.0 q same output, subst (Depends i (group g) (ports.Cell c p)) x.1 r.2))
      where
        out : (x q : ℕ) → part_port (part_of child) x ≡ part_port (part_of kid) q → IsOutputOrDone kid q → IsOutputOrDone child x
        out x q same (inl (n, is)) = inl (n, same ∙ is)
        out x q same (inr is) = inr (same ∙ is)

    break_back : (t target : PortRef) → IsInside d part t → mv t ≡ target → CallBreak j g c kid target → CallBreak i g c child t
    break_back t target here is (another_cell ((e, calls, differs), part_is)) =
        another_cell ((e, old_calls g e calls.child (call_back g e calls), differs), sym (part_port_kept d design m k within t here) ∙ ap (is_part_port j) is ∙ part_is)
    break_back t target here is (wrong_go wrong) = subst (CallBreak i g c child) (sym (early_port 0 (omega arith) t here is)) (wrong_go (sym go_kept ∙ wrong))
    break_back t target here is (input_by_output p fed) =
        subst (CallBreak i g c child) (sym (early_port p (input_early p fed.0.0 fed.0.1) t here is)) (input_by_output p (fed_back p fed))
    break_back t target here is (wrong_enable enable wrong) =
        wrong_enable (sym (enable_kept d design m k within t here) ∙ ap (is_primitive_enable j) is ∙ enable) (sym (enable_is t here) ∙ ap (has_right_enable j g c kid) is ∙ wrong)
    break_back t target here is (wrong_done wrong) = subst (CallBreak i g c child) (sym (done_back d design m k within t g is)) (wrong_done (sym done_kept ∙ wrong))

  -- THE RULE
  module _ (o : Owned) (inside : In (source_order other) o) where
    no_part : (c : ℕ) (row : Row) → cell_at (cells_of j) c ≡ OfRow row → is_instance (cell_at (cells_of j) c) ≡ true → ⊥
    no_part c row at e = absurd (let wrong : false ≡ true = sym (ap is_instance at) ∙ e in cc)

    outside_never : IsOutside j o → ⊥
    outside_never (is, why) = by (owned_made d design k within o inside)
      where
        owner_back : (w : Owned) → w.owner ≡ o.owner → (o.owner ≡ None) ⊎ ((g : ℕ) × (o.owner ≡ Some g) × (is_plain (group_at other g).kind ≡ false)) → (w.owner ≡ None) ⊎ ((g : ℕ) × (w.owner ≡ Some g) × (is_plain (group_at part g).kind ≡ false))
        owner_back w same (inl none) = inl (same ∙ none)
        owner_back w same (inr (g, some, plain)) = inr (g, same ∙ some, ap is_plain (sym (kind_kept d design k within g)) ∙ plain)

        of_store : k ≡ d.main → (h : ℕ) → StoreTarget memory h o.assign → ⊥
        of_store main h (to_memory p e) = no_part memory (counts_row d design m k within) (memory_there d design m k within main) (ap (is_part_port j) (sym e) ∙ is)
        of_store main h (to_hole e names) = absurd (let wrong : false ≡ true = ap (is_part_port j) (sym e) ∙ is in cc)

        by : OwnedMade d design k within o → ⊥
        by (old_owned w stands e) =
            shapes.old_assign d design accepted m k count within BreaksCallShape (λ s p n on. accepted.shapes rules.CallShape s p n refl (inl on)) w stands w.assign.place (path_of i w.assign.target) (
              inl (
                sym (part_port_kept d design m k within w.assign.target (shapes.target_inside d design accepted m k count within w stands)) ∙ ap (λ (x : Owned). is_part_port j x.assign.target) e ∙ is,
                owner_back w (ap (λ (x : Owned). x.owner) e) why,
              ),
              (refl, refl),
            )
        by (showing none n x main reached at e) = absurd (let wrong : false ≡ true = ap (λ (y : PlainAssign). is_part_port j y.target) e ∙ is in cc)
        by (counting h r some own reached few counted x) =
            let t = counter_target part.place r o.assign x in
            let row = counter_row_there d design m k within reached (record { group = h; register = r }) own t.0 t.3 in
            no_part t.0 row.0 row.1 (ap (is_part_port j) (sym t.2) ∙ is)
        by (storing n x main at some h) = of_store main (length part.groups + n) (store_target part.place memory (address_width (length (shown_in (component_of d k)))) (length part.groups + n) n x.port o.assign h)

    misshapen_never : IsMisshapen j o → ⊥
    misshapen_never mis = by (owned_made d design k within o inside)
      where
        back : CallBack mis.group mis.cell mis.calls.child
        back = call_back mis.group mis.cell mis.calls

        old_plain_is : is_plain (group_at part mis.group).kind ≡ true
        old_plain_is = ap is_plain (sym (kind_kept d design k within mis.group)) ∙ mis.plain

        by : OwnedMade d design k within o → ⊥
        by (old_owned w stands e) =
            shapes.old_assign d design accepted m k count within BreaksCallShape (λ s p n on. accepted.shapes rules.CallShape s p n refl (inl on)) w stands w.assign.place (path_of i w.assign.target) (
              inr (record {
                group = mis.group;
                owner = ap (λ (x : Owned). x.owner) e ∙ mis.owner;
                plain = old_plain_is;
                cell = mis.cell;
                calls = old_calls mis.group mis.cell mis.calls.child back;
                breaks = break_back mis.group mis.cell mis.calls.child back mis.plain w.assign.target o.assign.target (shapes.target_inside d design accepted m k count within w stands) (ap (λ (x : Owned). x.assign.target) e) mis.breaks;
              }),
              (refl, refl),
            )
        by (showing none n x main reached at e) = none_some mis.group (sym none ∙ mis.owner)
        by (counting h r some own reached few counted x) =
            let same : h ≡ mis.group = (let both : Some h ≡ Some mis.group = sym some ∙ mis.owner in cc) in
            not_counted mis.group mis.cell mis.calls.child back old_plain_is (subst (λ z. is_counted (cells_of (component_of d k)) (group_at part z) ≡ true) same counted)
        by (storing n x main at some h) =
            let same : length part.groups + n ≡ mis.group = (let both : Some (length part.groups + n) ≡ Some mis.group = sym some ∙ mis.owner in cc) in
            let few : mis.group < length part.groups = back.few in
            omega (arith, same, few)

    pub call_never : (place : Place) (name : List ℕ) → BreaksCallShape j o place name → ⊥
    call_never place name (inl outside, told) = outside_never outside
    call_never place name (inr misshapen, told) = misshapen_never misshapen

  pub group_call_never : (g : ℕ) (place : Place) (name : List ℕ) → GroupBreaksCallShape j g place name → ⊥
  group_call_never g place name (plain, (c, calls, bad), told) =
      let back = call_back g c calls in
      let inside = group_inside g back.few in
      let go : some_target (same_port (go_port c)) (assigns_of j g) ≡ some_target (same_port (go_port c)) (assigns_of i g) =
      ap (some_target (same_port (go_port c))) (assigns_are g c calls.child back plain)
      ∙ some_moved mv (same_port (go_port c)) (same_port (go_port c)) (assigns_of i g)
      (λ a h. ap (λ q. same_port q (mv a.target)) (sym (go_stays g c calls.child back plain)) ∙ same_moved d part (go_port c) a.target (go_inside g c calls.child back plain) (inside a h).target) in
      let done : some_target (is_hole_of g) (assigns_of j g) ≡ some_target (is_hole_of g) (assigns_of i g) =
      ap (some_target (is_hole_of g)) (assigns_are g c calls.child back plain) ∙ some_moved mv (is_hole_of g) (is_hole_of g) (assigns_of i g) (λ a h. hole_of_kept d design m k within g a.target) in
      shapes.old_group d design accepted m k count within GroupBreaksCallShape (λ s p n on. accepted.shapes rules.CallShape s p n refl (inr (inl on))) g back.few (group_at part g).place (group_at part g).name
      (ap is_plain (sym (kind_kept d design k within g)) ∙ plain, (c, old_calls g c calls.child back, sym (ap₂ ◌&&◌ go done) ∙ bad), (refl, refl))
