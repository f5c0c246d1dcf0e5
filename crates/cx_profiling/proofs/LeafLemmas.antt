-- THE LEAVES OF CONTROL of an instrumented instance carry those of the instance: groups, tests, calls and islands.
use Rattle.std.proofs.Common.{◌≡◌, ℕ, suc, ◌+◌, ◌*◌, ◌^◌, ◌%◌, ◌<◌, ◌≤◌, inl, inr, ◌⊎◌, ⊎_elim, Bool, true, false, ◌||◌, ◌&&◌, if◌then◌else◌, List, [], ◌∷◌, ◌++◌, length, Option, Some, None, slice_get, nat_eq, is_none, refl, sym, ap, ◌∙◌, subst, arith}
use Rattle.std.proofs.lemmas.Bool.{ne_eqb, eq-eqb, cases_eq, cases_lt}
use Rattle.cx_text.specs.Members.{In}
use Rattle.cx_prim.specs.CellStates.{CellState, Register}
use Rattle.cx_prim.specs.Rows.{Row}
use Rattle.cx_prim.specs.Table.{row_of}
use Rattle.cx_prim.specs.declared.names.PrimitiveName.TheVariants as primitives
use Rattle.cx_meaning.specs.declared.kinds.GroupKind.{GroupKind}
use Rattle.cx_meaning.specs.declared.kinds.GroupKind.TheVariants as kinds
use Rattle.cx_meaning.specs.declared.ports.PortRef.{PortRef}
use Rattle.cx_meaning.specs.declared.ports.PortRef.TheVariants as ports
use Rattle.cx_meaning.specs.declared.sights.FaultKind.{FaultKind}
use Rattle.cx_meaning.specs.declared.sights.FaultKind.TheVariants as fault_kinds
use Rattle.cx_meaning.specs.Designs.{PlainAssign, PlainCell, PlainGroup, PlainComponent, PlainDesign, OfComponent, component_at, group_at}
use Rattle.cx_meaning.specs.Instances.{Instance, Cells, At, Nothing, OfRow, OfInstance, cell_at, cell_count, cells_of, Path, State, under, put, beneath, just, idle, tree_within}
use Rattle.cx_meaning.specs.Active.{Active, nothing, group, capture, entries, only_at}
use Rattle.cx_meaning.specs.Truths.{Truth, One, Zero, truth_of}
use Rattle.cx_meaning.specs.Truths as truths
use Rattle.cx_meaning.specs.Sights.{Held, bit_of, seen, part_port, part_step, cell_step, outputs_below, is_done_cell}
use Rattle.cx_meaning.specs.Cycles.{Fault, fault_at, Next, Stops, outcome_at, first_fault, state_after, Faults, cycle}
use Rattle.cx_meaning.specs.Answers.{Turn, Unclear, turns_of}
use Rattle.cx_meaning.specs.Answers as answers
use Rattle.cx_meaning.specs.Islands.{History, no_history, active_in, form_flat, form_length, group_length, kind_length, island, turn_of}
use Rattle.cx_meaning.specs.Calls.{test, test_of, called, called_in, called_by, if_instance, captures, captures_in, enables_primitive, enables_at, group_turn, inputs_of_call, call}
use Rattle.cx_meaning.specs.Running.{Children}
use Rattle.cx_meaning.proofs.CycleLemmas.{row_within, one_stops, faults_with, count_for}
use Rattle.cx_meaning.proofs.DesignsLemmas.{same_part}
use Rattle.cx_meaning.proofs.InstancesLemmas.{instance_is, instance_row, just_same, just_true, not_just}
use Rattle.cx_rules.specs.Circles.{IsAcyclic}
use Rattle.cx_rules.specs.Ports.{component_of}
use Rattle.cx_rules.specs.Items.{Visited, statements_in}
use Rattle.cx_rules.specs.Accepted.{IsAccepted}
use Rattle.cx_rules.specs.Wellformed.{IsDesign}
use Rattle.cx_rules.proofs.CircleLemmas.{within_group, node_acyclic}
use Rattle.cx_rules.proofs.FoundLemmas.{seen_solves}
use Rattle.cx_frames.proofs.CircleFrames.{capture_acyclic}
use Rattle.cx_frames.proofs.IslandFrames.{AllFine, looked_good}
use Rattle.cx_rewrites.specs.Tallies.{Tally, none, plus, at_cell, below, Counted, turns_count}
use Rattle.cx_rewrites.specs.Carrying.{Exact, Rests, TestCarried, TurnCarried, Carries}
use Rattle.cx_rewrites.specs.Moving.{moved_fault, moved_form}
use Rattle.cx_rewrites.specs.Turns.{CycleCarries}
use Rattle.cx_rewrites.specs.Cells.{comes_to}
use Rattle.cx_rewrites.proofs.TurnLemmas.{group_carries}
use Rattle.cx_rewrites.proofs.IslandLemmas.{island_carries}
use Rattle.cx_profiling.specs.Counters.{is_counted, is_counted_kind, has_name, Counter, counters, first_gained}
use Rattle.cx_profiling.specs.Counting.{once, made_with, count_island}
use Rattle.cx_profiling.specs.Growing.{Grown}
use Rattle.cx_profiling.specs.Instrumented.{gained, moved_number, moved_in, moved_assigns, counter_assigns, with_counts}
use Rattle.cx_profiling.proofs.ListedCells.{at_row, at_component}
use Rattle.cx_profiling.proofs.PortLemmas.{IsInside, moved-component, grown_number, there_inside}
use Rattle.cx_profiling.proofs.GrownLemmas.{grown_numbers}
use Rattle.cx_profiling.proofs.RestLemmas.{grown_rests, grown_states}
use Rattle.cx_profiling.proofs.RoleLemmas.{register_there, adder_there}
use Rattle.cx_profiling.proofs.CellPorts.{done_port}
use Rattle.cx_profiling.proofs.GrownTrees.{InTree, in_reach, is_whole, trees_grow}
use Rattle.cx_profiling.proofs.PairLemmas.{CellPair, row_pair, child_pair, pair_at}
use Rattle.cx_profiling.proofs.SightLemmas.{found_grows}
use Rattle.cx_profiling.proofs.AcyclicLemmas.{ActsWithin, child_few}
use Rattle.cx_profiling.proofs.GrownCycles.{grown_rows, grown_kid, make_grown, cycle_grows}
use Rattle.cx_profiling.proofs.SeenOutputs.{below_here, below_there, entries_here, kids_seen}
use Rattle.cx_profiling.proofs.CountWithin.{none_active}
use Rattle.cx_profiling.proofs.GroupLemmas.{GroupOf, counted_group, plain_group, group_is, counted_there, register_past, new_length}
use Rattle.cx_profiling.proofs.FaultLemmas.{IsLeft, carried_fixed, island_fixed}
use Rattle.cx_profiling.proofs.CallLemmas.{call_grows}

pub group_within : (part : PlainComponent) (g : ℕ) → g < length part.groups → ActsWithin part (group g)
group_within part g few h past = ap (λ b. if b then Some 0 else None) (ne_eqb g h (λ e. omega (arith, few, past, e)))

pub capture_within : (part : PlainComponent) (g c : ℕ) → g < length part.groups → ActsWithin part (capture g c)
capture_within part g c few h past = ap (λ b. if b then Some 0 else None) (ne_eqb g h (λ e. omega (arith, few, past, e)))

-- what a turn counts may be told otherwise, if the states stay related
pub turn_counts : (R : Tally → State → State → Type 0) (before one two : Tally) (o x : Turn State Fault) → ((s z : State) → R (plus before one) s z → R (plus before two) s z)
    → TurnCarried Exact R (λ f. f) before one o x → TurnCarried Exact R (λ f. f) before two o x
turn_counts R before one two answers.Ends x h carried = carried
turn_counts R before one two (answers.Goes s) x h (z, e, r) = (z, e, h s z r)
turn_counts R before one two (answers.Faults f) x h carried = carried

pub called_instance : (cells : Cells) (assigns : List PlainAssign) (c : ℕ) → called_in cells assigns ≡ Some c → (child : Instance) × (cell_at cells c ≡ OfInstance child)
called_instance cells [] c e = absurd (cc)
called_instance cells (a ∷ rest) c e = by a.target e (called_instance cells rest c)
  where
    at_cell_of : (x p : ℕ) (at : At) → cell_at cells x ≡ at → if_instance at x (called_in cells rest) ≡ Some c → (called_in cells rest ≡ Some c → (child : Instance) × (cell_at cells c ≡ OfInstance child)) → (child : Instance) × (cell_at cells c ≡ OfInstance child)
    at_cell_of x p Nothing is e h = h e
    at_cell_of x p (OfRow row) is e h = h e
    at_cell_of x p (OfInstance child) is e h = let same : x ≡ c = cc in (child, ap (cell_at cells) (sym same) ∙ is)

    by : (target : PortRef) → called_by cells target (called_in cells rest) ≡ Some c → (called_in cells rest ≡ Some c → (child : Instance) × (cell_at cells c ≡ OfInstance child)) → (child : Instance) × (cell_at cells c ≡ OfInstance child)
    by (ports.Cell x p) e h = at_cell_of x p (cell_at cells x) refl e h
    by (ports.Input n) e h = h e
    by (ports.Output n) e h = h e
    by (ports.Done g) e h = h e
    by (ports.Literal w v) e h = h e

module _ (d : PlainDesign) (design : IsDesign d) (accepted : IsAccepted d) (grown_accepted : IsAccepted (with_counts d)) (m k : ℕ) (at : InTree d (suc m) k) where
  abbrev node : PlainComponent
  node = component_at d k

  abbrev other : PlainComponent
  other = component_at (with_counts d) k

  abbrev i : Instance
  i = tree_within d (suc m) k

  abbrev j : Instance
  j = tree_within (with_counts d) (suc m) k

  abbrev mv : PortRef → PortRef
  mv p = moved_in d node p

  pub rests : Rests (Grown i) (idle i) (idle j)
  rests τ s t grown = grown_rests i j (trees_grow d design (suc m) k at) τ s t grown

  -- a tally counts by the counters of the instance, and by all that is below it
  pub regrown : (τ σ : Tally) (s t : State) → ((x : Counter) → In (counters i) x → τ [] x.group ≡ σ [] x.group) → ((c : ℕ) (path : Path) (g : ℕ) → τ (c ∷ path) g ≡ σ (c ∷ path) g) → Grown i τ s t → Grown i σ s t
  regrown τ σ s t own deep grown =
      make_grown d design m k at σ s t (grown_rows d design m k at τ s t grown)
      (λ c child e. grown_numbers child (at_cell c τ) (at_cell c σ) (under c s) (under c t) (λ path g. deep c path g) (grown_kid d design m k at τ s t grown c child e))
      (λ x there. let r = grown.1 x there in (r.0, r.1 ∙ ap (λ n. Register (n % 2 ^ 64) r.0) (own x there)))

  -- the ports of a primitive cell stay
  pub row_stays : (c p : ℕ) (row : Row) → cell_at (cells_of i) c ≡ OfRow row → c < length node.cells → mv (ports.Cell c p) ≡ ports.Cell c p
  row_stays c p row e few = by (pair_at d design m k at.within c few)
    where
      by : CellPair d design m k at.within c → mv (ports.Cell c p) ≡ ports.Cell c p
      by (row_pair r first second moved) = moved p
      by (child_pair cell f stands is below first second moved) = absurd (instance_row (tree_within d m f) row (sym first ∙ e))

  pub child_inside : (c p : ℕ) (cell : PlainCell) (e : ℕ) → c < length node.cells → slice_get node.cells c ≡ Some cell → cell.kind ≡ OfComponent e → p ≤ first_gained (component_at d e) → IsInside d node (ports.Cell c p)
  child_inside c p cell e few stands is less = (
    few,
    λ x f there kind.
        let same : cell ≡ x = same_cell cell x stands there in
        let number : e ≡ f = same_component e f (sym is ∙ ap (λ y. y.kind) same ∙ kind) in
        subst (λ y. p ≤ first_gained (component_at d y)) number less,
  )
    where
      same_cell : (cell x : PlainCell) → slice_get node.cells c ≡ Some cell → slice_get node.cells c ≡ Some x → cell ≡ x
      same_cell cell x e f = let same : Some cell ≡ Some x = sym e ∙ f in cc

      same_component : (e f : ℕ) → OfComponent e ≡ OfComponent f → e ≡ f
      same_component e f h = cc

  pub grown_same : (first more p : ℕ) → (p ≡ first → ⊥) → grown_number d first more p ≡ p
  grown_same first more p differ = ap (λ b. if b then p + more else p) (ne_eqb p first differ)

  -- WHAT A GROUP CALLS AND CAPTURES stays
  group_inside : (g : ℕ) → g < length node.groups → (a : PlainAssign) → In (group_at node g).assigns a → IsInside d node a.target
  group_inside g few a i = there_inside d k at.within a.target ((design.components k at.within).assigns (Some g) a (few, i)).target

  cell_called : (c : ℕ) (o : Option ℕ) → c < length node.cells → if_instance (cell_at (cells_of j) c) c o ≡ if_instance (cell_at (cells_of i) c) c o
  cell_called c o few = by (pair_at d design m k at.within c few)
    where
      by : CellPair d design m k at.within c → if_instance (cell_at (cells_of j) c) c o ≡ if_instance (cell_at (cells_of i) c) c o
      by (row_pair row first second moved) = ap (λ x. if_instance x c o) second ∙ ap (λ x. if_instance x c o) (sym first)
      by (child_pair cell f stands is below first second moved) = ap (λ x. if_instance x c o) second ∙ ap (λ x. if_instance x c o) (sym first)

  moved_called : (list more : List PlainAssign) → ((a : PlainAssign) → In list a → IsInside d node a.target) → called_in (cells_of j) more ≡ None
      → called_in (cells_of j) (moved_assigns d node list ++ more) ≡ called_in (cells_of i) list
  moved_called [] more inside none = none
  moved_called (a ∷ rest) more inside none = by a.target (inside a (inl refl)) (moved_called rest more (λ b i. inside b (inr i)) none)
    where
      by : (target : PortRef) → IsInside d node target → called_in (cells_of j) (moved_assigns d node rest ++ more) ≡ called_in (cells_of i) rest
          → called_by (cells_of j) (moved_in d node target) (called_in (cells_of j) (moved_assigns d node rest ++ more)) ≡ called_by (cells_of i) target (called_in (cells_of i) rest)
      by (ports.Cell c p) here h = ap (if_instance (cell_at (cells_of j) c) c) h ∙ cell_called c (called_in (cells_of i) rest) here.0
      by (ports.Input n) here h = h
      by (ports.Output n) here h = h
      by (ports.Done g) here h = h
      by (ports.Literal w v) here h = h

  no_call : (x : Counter) → In (counters (component_of d k)) x → called_in (cells_of j) (counter_assigns node.place x.register) ≡ None
  no_call x there =
      ap (λ a. if_instance a (suc x.register) (if_instance (cell_at (cells_of j) (suc x.register)) (suc x.register) (if_instance (cell_at (cells_of j) x.register) x.register (if_instance (cell_at (cells_of j) x.register) x.register None)))) adder
      ∙ ap (λ a. if_instance a (suc x.register) (if_instance (cell_at (cells_of j) x.register) x.register (if_instance (cell_at (cells_of j) x.register) x.register None))) adder
      ∙ ap (λ a. if_instance a x.register (if_instance (cell_at (cells_of j) x.register) x.register None)) register
      ∙ ap (λ a. if_instance a x.register None) register
    where
      register : cell_at (cells_of j) x.register ≡ OfRow (row_of (record { name = primitives.Reg; numbers = 64 ∷ [] }))
      register = let c = register_there d k at.within (in_reach d at) x there in at_row (tree_within (with_counts d) m) other.cells x.register c.0 (record { name = primitives.Reg; numbers = 64 ∷ [] }) c.1 c.2

      adder : cell_at (cells_of j) (suc x.register) ≡ OfRow (row_of (record { name = primitives.Add; numbers = 64 ∷ [] }))
      adder = let c = adder_there d k at.within (in_reach d at) x there in at_row (tree_within (with_counts d) m) other.cells (suc x.register) c.0 (record { name = primitives.Add; numbers = 64 ∷ [] }) c.1 c.2

  pub same_called : (g : ℕ) → g < length node.groups → called j g ≡ called i g
  same_called g few = by (group_is d k at.within (in_reach d at) g few)
    where
      by : GroupOf d node (cells_of (component_of d k)) (counters (component_of d k)) g (group_at node g) (group_at other g) → called j g ≡ called i g
      by (counted_group r there is e) =
          ap (λ (x : PlainGroup). called_in (cells_of j) x.assigns) e ∙ moved_called (group_at node g).assigns (counter_assigns node.place r) (group_inside g few) (no_call (record { group = g; register = r }) there)
      by (plain_group is e) = ap (λ (x : PlainGroup). called_in (cells_of j) x.assigns) e ∙ moved_called (group_at node g).assigns [] (group_inside g few) refl

  cell_enables : (c p : ℕ) → c < length node.cells → enables_primitive (cells_of j) (mv (ports.Cell c p)) ≡ enables_primitive (cells_of i) (ports.Cell c p)
  cell_enables c p few = by (pair_at d design m k at.within c few)
    where
      by : CellPair d design m k at.within c → enables_primitive (cells_of j) (mv (ports.Cell c p)) ≡ enables_primitive (cells_of i) (ports.Cell c p)
      by (row_pair row first second moved) = ap (enables_primitive (cells_of j)) (moved p) ∙ ap (λ x. enables_at x p) second ∙ ap (λ x. enables_at x p) (sym first)
      by (child_pair cell f stands is below first second moved) =
          ap (enables_primitive (cells_of j)) (moved p) ∙ ap (λ x. enables_at x (grown_number d (first_gained (component_at d f)) (gained d f) p)) second ∙ ap (λ x. enables_at x p) (sym first)

  moved_captures : (list : List PlainAssign) → ((a : PlainAssign) → In list a → IsInside d node a.target) → captures_in (cells_of j) (moved_assigns d node list ++ []) ≡ captures_in (cells_of i) list
  moved_captures [] inside = refl
  moved_captures (a ∷ rest) inside =
      ap (λ b. enables_primitive (cells_of j) (mv a.target) || b) (moved_captures rest (λ b i. inside b (inr i))) ∙ ap (λ b. b || captures_in (cells_of i) rest) (by a.target (inside a (inl refl)))
    where
      by : (target : PortRef) → IsInside d node target → enables_primitive (cells_of j) (mv target) ≡ enables_primitive (cells_of i) target
      by (ports.Cell c p) here = cell_enables c p here.0
      by (ports.Input n) here = refl
      by (ports.Output n) here = refl
      by (ports.Done g) here = refl
      by (ports.Literal w v) here = refl

  -- a group that calls is not counted
  pub calls_uncounted : (g c : ℕ) (kind : GroupKind) → (group_at node g).kind ≡ kind → kind_length kind ≡ None → called i g ≡ Some c → is_counted (cells_of (component_of d k)) (group_at node g) ≡ false
  calls_uncounted g c kind is none calls =
      ap (λ x. has_name (group_at node g).name && is_counted_kind (cells_of (component_of d k)) (group_at node g).assigns x) is ∙ by kind none
    where
      and_false : (b : Bool) → (b && false) ≡ false
      and_false true = refl
      and_false false = refl

      by : (kind : GroupKind) → kind_length kind ≡ None → (has_name (group_at node g).name && is_counted_kind (cells_of (component_of d k)) (group_at node g).assigns kind) ≡ false
      by kinds.Plain e =
          ap (λ tree. has_name (group_at node g).name && is_none (called_in (cells_of tree) (group_at node g).assigns)) (sym (is_whole d at))
          ∙ ap (λ o. has_name (group_at node g).name && is_none o) calls ∙ and_false (has_name (group_at node g).name)
      by kinds.Comb e = and_false (has_name (group_at node g).name)
      by (kinds.Timed n) e = absurd (cc)

  both : (b : Bool) → b ≡ true → b ≡ false → ⊥
  both true e f = absurd (cc)
  both false e f = absurd (cc)

  pub same_captures : (g : ℕ) → g < length node.groups → is_counted (cells_of (component_of d k)) (group_at node g) ≡ false → captures j g ≡ captures i g
  same_captures g few uncounted = by (group_is d k at.within (in_reach d at) g few)
    where
      by : GroupOf d node (cells_of (component_of d k)) (counters (component_of d k)) g (group_at node g) (group_at other g) → captures j g ≡ captures i g
      by (counted_group r there is e) = absurd (both (is_counted (cells_of (component_of d k)) (group_at node g)) is uncounted)
      by (plain_group is e) = ap (λ (x : PlainGroup). captures_in (cells_of j) x.assigns) e ∙ moved_captures (group_at node g).assigns (group_inside g few)

  pub same_kind : (g : ℕ) → g < length node.groups → (group_at other g).kind ≡ (group_at node g).kind
  same_kind g few = by (group_is d k at.within (in_reach d at) g few)
    where
      by : GroupOf d node (cells_of (component_of d k)) (counters (component_of d k)) g (group_at node g) (group_at other g) → (group_at other g).kind ≡ (group_at node g).kind
      by (counted_group r there is e) = ap (λ (x : PlainGroup). x.kind) e
      by (plain_group is e) = ap (λ (x : PlainGroup). x.kind) e

  -- A CHILD'S STATE put back
  pub put_grown : (c : ℕ) (child : Instance) → cell_at (cells_of i) c ≡ OfInstance child → (τ counted : Tally) (s t own twin : State) → Grown i τ s t → Grown child (plus (at_cell c τ) counted) own twin
      → Grown i (plus τ (below c counted)) (put c own s) (put c twin t)
  put_grown c child stands τ counted s t own twin grown inner =
      make_grown d design m k at (plus τ (below c counted)) (put c own s) (put c twin t)
      (λ e row is. rows e row is (just c e) refl)
      (λ e kid is. kids e kid is (cases_eq c e))
      (λ x there. registers x there)
    where
      few : c < length node.cells
      few = child_few (tree_within d m) node.cells c child stands

      rows : (e : ℕ) (row : Row) → cell_at (cells_of i) e ≡ OfRow row → (b : Bool) → just c e ≡ b → (if b then beneath twin (e ∷ []) else t (e ∷ [])) ≡ (if b then beneath own (e ∷ []) else s (e ∷ []))
      rows e row is false off = grown_rows d design m k at τ s t grown e row is
      rows e row is true on = absurd (instance_row child row (sym stands ∙ ap (cell_at (cells_of i)) (just_true c e on) ∙ is))

      kids : (e : ℕ) (kid : Instance) → cell_at (cells_of i) e ≡ OfInstance kid → ((c ≡ e) ⊎ (c ≡ e → ⊥)) → Grown kid (at_cell e (plus τ (below c counted))) (under e (put c own s)) (under e (put c twin t))
      kids e kid is (inl same) =
          subst (λ n. Grown kid (at_cell n (plus τ (below c counted))) (under n (put c own s)) (under n (put c twin t))) same
          (grown_states kid (at_cell c (plus τ (below c counted))) own twin (under c (put c own s)) (under c (put c twin t))
          (λ path. sym (ap (λ b. if b then own path else s (c ∷ path)) (just_same c))) (λ path. sym (ap (λ b. if b then twin path else t (c ∷ path)) (just_same c)))
          (grown_numbers kid (plus (at_cell c τ) counted) (at_cell c (plus τ (below c counted))) own twin (λ path g. ap (λ b. τ (c ∷ path) g + (if b then counted path g else 0)) (sym (eq-eqb c c refl)))
          (subst (λ x. Grown x (plus (at_cell c τ) counted) own twin) (instance_is child kid (sym stands ∙ ap (cell_at (cells_of i)) same ∙ is)) inner)))
      kids e kid is (inr differ) =
          grown_states kid (at_cell e (plus τ (below c counted))) (under e s) (under e t) (under e (put c own s)) (under e (put c twin t))
          (λ path. sym (ap (λ b. if b then own path else s (e ∷ path)) (not_just c e (λ h. differ (sym h))))) (λ path. sym (ap (λ b. if b then twin path else t (e ∷ path)) (not_just c e (λ h. differ (sym h)))))
          (grown_numbers kid (at_cell e τ) (at_cell e (plus τ (below c counted))) (under e s) (under e t)
          (λ path g. let none : (if nat_eq c e then counted path g else 0) ≡ 0 = ap (λ b. if b then counted path g else 0) (ne_eqb c e differ) in omega (arith, none)) (grown_kid d design m k at τ s t grown e kid is))

      registers : (x : Counter) → In (counters i) x → (done : Bool) × (put c twin t (x.register ∷ []) ≡ Register (plus τ (below c counted) [] x.group % 2 ^ 64) done)
      registers x there =
          let r = grown.1 x there in
          let past : length node.cells ≤ x.register = register_past d k at.within (in_reach d at) x (subst (λ tree. In (counters tree) x) (is_whole d at) there) in
          let none : τ [] x.group ≡ τ [] x.group + 0 = omega arith in
          (r.0, ap (λ b. if b then beneath twin (x.register ∷ []) else t (x.register ∷ [])) (not_just c x.register (λ h. omega (arith, few, past, h))) ∙ r.1 ∙ ap (λ n. Register (n % 2 ^ 64) r.0) none)

  -- UNDER GROUPS OF THE DESIGN
  module _ (entries_there : (act : Active) → ActsWithin node act → IsAcyclic i act → IsAcyclic j act)
      (further : (act : Active) → ActsWithin node act → IsAcyclic j act → (twin : Held) (t : State) (e : ℕ) → length node.cells + 2 * length (counters (component_of d k)) ≤ e → e < length other.cells
      → (after : CellState) × (comes_to j twin act t e ≡ Next after))
      (held twin : Held) (same : (n : ℕ) → n < length node.inputs → twin n ≡ held n) where
    pub found : (act : Active) → ActsWithin node act → IsAcyclic i act → (τ : Tally) (s t : State) → Grown i τ s t → (p : PortRef) → IsInside d node p → seen j twin act t (mv p) ≡ seen i held act s p
    found act acts acyclic τ s t grown p here =
        found_grows d design m k at act held twin same s t (grown_rows d design m k at τ s t grown) (kids_seen d design accepted grown_accepted m k at τ s t grown)
        (entries_there act acts acyclic) (below_there d design accepted grown_accepted (suc m) k) acyclic (below_here d design accepted grown_accepted (suc m) k) p here

    pub cycles : (act : Active) → ActsWithin node act → IsAcyclic i act → (faults : Fault → Fault)
        → ((c p : ℕ) (row : Row) (kind : FaultKind) → cell_at (cells_of i) c ≡ OfRow row → faults (fault_at kind (ports.Cell c p)) ≡ fault_at kind (ports.Cell c p))
        → CycleCarries Exact (Grown i) faults (made_with act) i j held twin act act
    cycles act acts acyclic faults fixed =
        cycle_grows d design m k at act acyclic (below_here d design accepted grown_accepted (suc m) k) (entries_there act acts acyclic) (below_there d design accepted grown_accepted (suc m) k) held twin same
        (λ τ s t grown. kids_seen d design accepted grown_accepted m k at τ s t grown) faults fixed (λ t e past less. further act acts (entries_there act acts acyclic) twin t e past less)

    -- A GROUP
    pub group_leaf : (g : ℕ) → g < length node.groups → Carries Exact (Grown i) (λ f. f) (turns_count (group_turn i held g) (made_with (group g))) (turns_of (idle i) (group_turn i held g)) (turns_of (idle j) (group_turn j twin g))
    group_leaf g few =
        group_carries Exact (Grown i) (λ f. f) i j held twin g g (made_with (group g))
        (record {
          rests = rests;
          hole = λ τ s t grown. found (group g) (group_within node g few) (within_group d accepted (suc m) k g few) τ s t grown (ports.Done g) few;
          told = λ kind. refl;
          cycle = cycles (group g) (group_within node g few) (within_group d accepted (suc m) k g few) (λ f. f) (λ c p row kind e. refl);
        })

    -- a port stays, or it is the done of a component's cell, which is one bit
    pub left_or_bit : (act : Active) → IsAcyclic i act → (s : State) (p : PortRef) → IsInside d node p → IsLeft mv (seen i held act s) p
    left_or_bit act acyclic s (ports.Input n) here = inl refl
    left_or_bit act acyclic s (ports.Output n) here = inl refl
    left_or_bit act acyclic s (ports.Done g) here = inl refl
    left_or_bit act acyclic s (ports.Literal w v) here = inl refl
    left_or_bit act acyclic s (ports.Cell c p) here = by (pair_at d design m k at.within c here.0)
      where
        by : CellPair d design m k at.within c → IsLeft mv (seen i held act s) (ports.Cell c p)
        by (row_pair row first second moved) = inl (moved p)
        by (child_pair cell e stands is inner first second moved) =
            ⊎_elim
            (λ (last : p ≡ first_gained (component_at d e)).
            inr (
              is_done_cell act.done_cell c,
              seen_solves i held act s acyclic (below_here d design accepted grown_accepted (suc m) k) (ports.Cell c p)
                  ∙ ap (cell_step node act s (seen i held act s) (outputs_below (cells_of i) (λ x. under x s)) c p) first
                  ∙ ap (part_step node act s (seen i held act s) (outputs_below (cells_of i) (λ x. under x s)) c p) (ap (λ x. part_port x p) (same_part d m e) ∙ ap (part_port (component_at d e)) last ∙ done_port (component_at d e)),
            ))
            (λ differ. inl (moved p ∙ ap (ports.Cell c) (grown_same (first_gained (component_at d e)) (gained d e) p differ)))
            (cases_eq p (first_gained (component_at d e)))

    -- A TEST
    pub test_leaf : (p : PortRef) (with_group : Option ℕ) → IsInside d node p → ((g : ℕ) → with_group ≡ Some g → g < length node.groups) → (τ : Tally) (s t : State) → Grown i τ s t
        → TestCarried Exact (λ f. f) (test i held p with_group s) (test j twin (mv p) with_group t)
    test_leaf p with_group here there τ s t grown = of_comb with_group there
      where
        one : (x : Truth) → mv p ≡ p → TestCarried Exact (λ f. f) (test_of p x) (test_of (mv p) x)
        one One e = refl
        one Zero e = refl
        one truths.Conflict e = ap (λ q. Unclear (fault_at fault_kinds.Conflict q)) e
        one truths.Undefined e = ap (λ q. Unclear (fault_at fault_kinds.Undefined q)) e

        bit : (b : Bool) → TestCarried Exact (λ f. f) (test_of p (truth_of (bit_of b))) (test_of (mv p) (truth_of (bit_of b)))
        bit true = refl
        bit false = refl

        under_act : (act : Active) → ActsWithin node act → IsAcyclic i act → TestCarried Exact (λ f. f) (test_of p (truth_of (seen i held act s p))) (test_of (mv p) (truth_of (seen j twin act t (mv p))))
        under_act act acts acyclic =
            subst (λ x. TestCarried Exact (λ f. f) (test_of p (truth_of (seen i held act s p))) (test_of (mv p) (truth_of x))) (sym (found act acts acyclic τ s t grown p here))
            (⊎_elim (λ e. one (truth_of (seen i held act s p)) e)
            (λ b. subst (λ x. TestCarried Exact (λ f. f) (test_of p (truth_of x)) (test_of (mv p) (truth_of x))) (sym b.1) (bit b.0)) (left_or_bit act acyclic s p here))

        of_comb : (c : Option ℕ) → ((g : ℕ) → c ≡ Some g → g < length node.groups) → TestCarried Exact (λ f. f) (test i held p c s) (test j twin (mv p) c t)
        of_comb None there = under_act nothing (λ g past. refl) (node_acyclic d accepted (suc m) k)
        of_comb (Some g) there = under_act (group g) (group_within node g (there g refl)) (within_group d accepted (suc m) k g (there g refl))

    -- A CALL
    pub call_leaf : (g c : ℕ) (kind : GroupKind) → g < length node.groups → (group_at node g).kind ≡ kind → kind_length kind ≡ None → called i g ≡ Some c
        → (cell : PlainCell) (e : ℕ) → slice_get node.cells c ≡ Some cell → cell.kind ≡ OfComponent e → (children others : Children) (counts : Held → Counted State)
        → ((own other : Held) → ((n : ℕ) → n < length (component_at d e).inputs → other n ≡ own n) → Carries Exact (Grown (tree_within d m e)) (λ f. f) (counts own) (children c own) (others c other))
        → Carries Exact (Grown i) (λ f. f) (λ s n. below c (counts (inputs_of_call i held g c s) (under c s) n)) (call i children held g c) (call j others twin g c)
    call_leaf g c kind few is none calls cell e stands comp children others counts kids =
        call_grows (Grown i) (Grown (tree_within d m e)) i j held twin g c (length (component_at d e).inputs)
        (record {
          rests = rests;
          inputs = λ input less τ s t grown.
              let before : suc input ≡ first_gained (component_at d e) → ⊥ = λ h. omega (arith, less, h) in
              let up_to : suc input ≤ first_gained (component_at d e) = omega (arith, less) in
              ap (seen j twin (group g) t) (sym (input_stays (suc input) before))
              ∙ found (group g) (group_within node g few) (within_group d accepted (suc m) k g few) τ s t grown (ports.Cell c (suc input)) (child_inside c (suc input) cell e there stands comp up_to);
          begins = λ τ s t grown. grown_kid d design m k at τ s t grown c (tree_within d m e) child_at_c;
          ends = λ τ counted s t own twin_own grown inner. put_grown c (tree_within d m e) child_at_c τ counted s t own twin_own grown inner;
          captured = same_captures g few uncounted;
          capture_cycle = λ capturing τ s t grown.
              turn_counts (Grown i) τ (made_with (capture g c)) (λ path h. 0) (turn_of (cycle i held (capture g c) s)) (turn_of (cycle j twin (capture g c) t))
              (λ a b after. regrown (plus τ (made_with (capture g c))) (plus τ (λ path h. 0)) a b (λ x own. not_made τ x own) (λ f path h. refl) after)
              (cycles (capture g c) (capture_within node g c few) (capture_acyclic i g c (within_group d accepted (suc m) k g few)) (λ f. f) (λ f p row kind h. refl) τ s t grown);
        })
        children others counts kids
      where
        child_at_c : cell_at (cells_of i) c ≡ OfInstance (tree_within d m e)
        child_at_c = at_component (tree_within d m) node.cells c cell e stands comp

        there : c < length node.cells
        there = child_few (tree_within d m) node.cells c (tree_within d m e) child_at_c

        uncounted : is_counted (cells_of (component_of d k)) (group_at node g) ≡ false
        uncounted = calls_uncounted g c kind is none calls

        input_stays : (p : ℕ) → (p ≡ first_gained (component_at d e) → ⊥) → mv (ports.Cell c p) ≡ ports.Cell c p
        input_stays p differ =
            ap (ports.Cell c) (ap (λ o. moved_number d o p) stands ∙ moved-component d cell e p comp ∙ grown_same (first_gained (component_at d e)) (gained d e) p differ)

        not_made : (τ : Tally) (x : Counter) → In (counters i) x → τ [] x.group + once (only_at g x.group) ≡ τ [] x.group + 0
        not_made τ x own =
            let known = counted_there d k at.within (in_reach d at) x (subst (λ tree. In (counters tree) x) (is_whole d at) own) in
            ap (λ b. τ [] x.group + once (if b then Some 0 else None))
            (ne_eqb g x.group (λ h. both (is_counted (cells_of (component_of d k)) (group_at node x.group)) known.1 (ap (λ y. is_counted (cells_of (component_of d k)) (group_at node y)) (sym h) ∙ uncounted)))

    -- AN ISLAND
    fault_stays : (c p : ℕ) (row : Row) (kind : FaultKind) → cell_at (cells_of i) c ≡ OfRow row → moved_fault mv (fault_at kind (ports.Cell c p)) ≡ fault_at kind (ports.Cell c p)
    fault_stays c p row kind e =
        ap (λ q. fault_at kind q) (row_stays c p row e (subst (λ n. c < n) (count_for (tree_within d m) node.cells) (row_within (cells_of i) c row e)))

    cycle_stays : (act : Active) (s : State) (f : Fault) → cycle i held act s ≡ Faults f → moved_fault mv f ≡ f
    cycle_stays act s f e =
        let r = one_stops (comes_to i held act s) 0 (cell_count (cells_of i)) f (faults_with (first_fault (comes_to i held act s) 0 (cell_count (cells_of i))) (state_after (comes_to i held act s) s) f e) in
        subst (λ g. moved_fault mv g ≡ g) r.told (of_cell r.cell r.port r.kind (cell_at (cells_of i) r.cell) refl r.stops)
      where
        of_cell : (c p : ℕ) (kind : FaultKind) (x : At) → cell_at (cells_of i) c ≡ x → comes_to i held act s c ≡ Stops kind p → moved_fault mv (fault_at kind (ports.Cell c p)) ≡ fault_at kind (ports.Cell c p)
        of_cell c p kind Nothing is stops = let goes : Next (s (c ∷ [])) ≡ Stops kind p = sym (ap (λ a. outcome_at (seen i held act s) c a (s (c ∷ []))) is) ∙ stops in absurd (cc)
        of_cell c p kind (OfRow row) is stops = fault_stays c p row kind is
        of_cell c p kind (OfInstance child) is stops = let goes : Next (s (c ∷ [])) ≡ Stops kind p = sym (ap (λ a. outcome_at (seen i held act s) c a (s (c ∷ []))) is) ∙ stops in absurd (cc)

    pub island_leaf : (v : Visited) → In (statements_in node) v → AllFine (λ g. g < length node.groups) (IsInside d node) (form_flat node v.form 0 [])
        → Carries Exact (Grown i) (λ f. f) (count_island i held v.form) (island i held v.form) (island j twin (moved_form mv v.form))
    island_leaf v stands fine τ s t n u room grown =
        carried_fixed (moved_fault mv) (Grown i) τ (count_island i held v.form s n) (island i held v.form s n) (island j twin (moved_form mv v.form) t u)
        (island_fixed (moved_fault mv) i held (form_flat node v.form 0 []) cycle_stays
        (λ s h x p kind inside no_bit.
        ⊎_elim (λ e. ap (λ q. fault_at kind q) e) (λ b. absurd (no_bit b.0 b.1))
        (left_or_bit nothing (node_acyclic d accepted (suc m) k) s p (looked_good (λ g. g < length node.groups) (IsInside d node) h x (form_flat node v.form 0 []) fine p inside)))
        (form_length node v.form) 0 no_history s n)
        (island_carries mv Exact (Grown i) (moved_fault mv) (λ es. made_with (entries es)) (λ g. g < length node.groups) (IsInside d node) i j held twin v.form lengths fine
        (record {
          rests = rests;
          samples = λ p here τ s t grown. found nothing (λ g past. refl) (node_acyclic d accepted (suc m) k) τ s t grown p here;
          told = λ p here kind. refl;
          cycles = λ h x. cycles (entries (active_in h x (form_flat node v.form 0 []))) (acts_within h x) (entries_here d design accepted grown_accepted m k at.within v stands h x) (moved_fault mv) fault_stays;
        }) τ s t n u room grown)
      where
        acts_within : (h : History) (x : ℕ) → ActsWithin node (entries (active_in h x (form_flat node v.form 0 [])))
        acts_within h x g past =
            none_active (λ y. y < length node.groups) (IsInside d node) g (λ y few e. omega (arith, few, past, e)) h x (form_flat node v.form 0 []) fine

        lengths : (g : ℕ) → group_length other g ≡ group_length node g
        lengths g = ⊎_elim (λ few. ap kind_length (same_kind g few)) (λ past. new_length d k at.within (in_reach d at) g past) (cases_lt g (length node.groups))
