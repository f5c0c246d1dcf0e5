-- PORTS THAT THE RULES ASK FOR: a moved port is an enabling port, a port of a component's cell or a hole where the port is, and rests on state
-- where it does; the ports of counters and of the memory are ports of primitive cells, and what shows a count rests on state.
use Rattle.std.proofs.Common.{◌≡◌, ℕ, zero, suc, ◌+◌, ◌*◌, ◌<◌, ◌≤◌, inl, inr, ◌⊎◌, ⊎_elim, Bool, true, false, if◌then◌else◌, [], ◌∷◌, ◌++◌, length, slice_get, refl, sym, ap, ◌∙◌, subst, arith}
use Rattle.std.specs.Prelude.{nat_eq}
use Rattle.std.proofs.lemmas.Bool.{cases_lt}
use Rattle.cx_text.specs.Members.{In}
use Rattle.cx_text.specs.declared.places.Place.{Place}
use Rattle.cx_text.proofs.ListLaws.{behind}
use Rattle.cx_prim.specs.declared.names.PrimitiveName.TheVariants as primitives
use Rattle.cx_prim.specs.Rows.{Row}
use Rattle.cx_prim.specs.Table.{row_of}
use Rattle.cx_meaning.specs.declared.ports.PortRef.{PortRef}
use Rattle.cx_meaning.specs.declared.ports.PortRef.TheVariants as ports
use Rattle.cx_meaning.specs.Designs.{PlainAssign, PlainComponent, PlainDesign, component_at, group_at}
use Rattle.cx_meaning.specs.Instances.{Instance, OfRow, OfInstance, cell_at, cells_of, part_of, tree_within}
use Rattle.cx_meaning.specs.Sights.{PartPort, AnInput, AnOutput, ItsDone, part_port}
use Rattle.cx_meaning.proofs.CycleLemmas.{row_within, count_for}
use Rattle.cx_meaning.proofs.DesignsLemmas.{same_part}
use Rattle.cx_meaning.proofs.InstancesLemmas.{instance_is, instance_row, row_instance, row_is}
use Rattle.cx_meaning.proofs.SightsLaws.{input_at}
use Rattle.cx_rules.specs.Footprints.{AssignNames, Rests, literal_rests, input_rests, registered_rests, output_rests, done_rests, combinational_rests}
use Rattle.cx_rules.specs.Ports.{component_of, is_primitive_enable, is_instance, is_part_port}
use Rattle.cx_meaning.specs.Calls.{enables_at}
use Rattle.cx_rules.specs.ShapeRules.{is_hole, is_hole_of}
use Rattle.cx_rules.specs.Wellformed.{IsDesign}
use Rattle.cx_rewrites.proofs.ReflectLemmas.{names_back}
use Rattle.cx_profiling.specs.Counters.{Counter, counters, Shown, shown_in, first_gained}
use Rattle.cx_profiling.specs.Instrumented.{is_reached, drive, counter_assigns, counter_cells, name_at, memory_cell, address_width, store_assigns, gained, moved_in, with_counts}
use Rattle.cx_profiling.proofs.AcyclicLemmas.{child_few}
use Rattle.cx_profiling.proofs.CellPorts.{IsGiven, given_output, given_done, part_given}
use Rattle.cx_profiling.proofs.CounterLemmas.{counter_cells-length}
use Rattle.cx_profiling.proofs.GainedLemmas.{grown_at}
use Rattle.cx_profiling.proofs.GroupLemmas.{register_past}
use Rattle.cx_profiling.proofs.GrownTrees.{InTree, is_whole}
use Rattle.cx_profiling.proofs.ListedCells.{at_row}
use Rattle.cx_profiling.proofs.PairLemmas.{CellPair, row_pair, child_pair, pair_at}
use Rattle.cx_profiling.proofs.PartTable.{InGroup, old_in, counting_in, storing_in, in_group, AlwaysMade, old_always, showing_always, always_made}
use Rattle.cx_profiling.proofs.PortLemmas.{IsInside, grown_number}
use Rattle.cx_profiling.proofs.RestLemmas.{counter_row}
use Rattle.cx_profiling.proofs.RoleLemmas.{Role, as_main, as_child, as_kept, role, register_there, adder_there}
use Rattle.cx_profiling.proofs.RowLemmas.{adder_row}
use Rattle.cx_profiling.proofs.ShownLemmas.{WhereShown, own_count, child_count, where_shown}

-- an output or the done of a component stands behind go and the inputs
given_past : (part : PlainComponent) (p : ℕ) (port : PartPort) → IsGiven port → part_port part p ≡ port → suc (length part.inputs) ≤ p
given_past part zero port (given_output n) e = absurd (cc)
given_past part zero port given_done e = absurd (cc)
given_past part (suc n) port given e = ⊎_elim (λ less. absurd (no_input port given (sym e ∙ input_at part n less))) (λ (past : length part.inputs ≤ n). omega (arith, past)) (cases_lt n (length part.inputs))
  where
    no_input : (port : PartPort) → IsGiven port → port ≡ AnInput n → ⊥
    no_input port (given_output m) same = absurd (cc)
    no_input port given_done same = absurd (cc)

grown_more : (d : PlainDesign) (first more p : ℕ) → p ≤ grown_number d first more p
grown_more d first more p = by (nat_eq p first)
  where
    by : (b : Bool) → p ≤ (if b then p + more else p)
    by true = omega arith
    by false = omega arith

-- the assignments of a counter drive and name its two cells alone
pub counter_target : (place : Place) (r : ℕ) (a : PlainAssign) → In (counter_assigns place r) a → (c p : ℕ) × (a.target ≡ ports.Cell c p) × ((c ≡ r) ⊎ (c ≡ suc r))
counter_target place r a (inl e) = (suc r, 0, ap (λ (x : PlainAssign). x.target) (sym e), inr refl)
counter_target place r a (inr (inl e)) = (suc r, 1, ap (λ (x : PlainAssign). x.target) (sym e), inr refl)
counter_target place r a (inr (inr (inl e))) = (r, 0, ap (λ (x : PlainAssign). x.target) (sym e), inl refl)
counter_target place r a (inr (inr (inr (inl e)))) = (r, 1, ap (λ (x : PlainAssign). x.target) (sym e), inl refl)
counter_target place r a (inr (inr (inr (inr i)))) = absurd i

pub counter_names : (place : Place) (r : ℕ) (a : PlainAssign) (c p : ℕ) → In (counter_assigns place r) a → AssignNames a (ports.Cell c p) → (c ≡ r) ⊎ (c ≡ suc r)
counter_names place r a c p i names = by i
  where
    source : (q : PortRef) (place at : Place) (target : PortRef) → drive place target q ≡ a → q ≡ ports.Cell c p
    source q place at target e = ⊎_elim (λ wrong. absurd wrong) (λ same. same) (subst (λ (x : PlainAssign). AssignNames x (ports.Cell c p)) (sym e) names)

    by : In (counter_assigns place r) a → (c ≡ r) ⊎ (c ≡ suc r)
    by (inl e) = let s : ports.Cell r 2 ≡ ports.Cell c p = source (ports.Cell r 2) place place (ports.Cell (suc r) 0) e in inl (let same : r ≡ c = cc in sym same)
    by (inr (inl e)) = absurd (let s : ports.Literal 64 1 ≡ ports.Cell c p = source (ports.Literal 64 1) place place (ports.Cell (suc r) 1) e in cc)
    by (inr (inr (inl e))) = let s : ports.Cell (suc r) 2 ≡ ports.Cell c p = source (ports.Cell (suc r) 2) place place (ports.Cell r 0) e in inr (let same : suc r ≡ c = cc in sym same)
    by (inr (inr (inr (inl e)))) = absurd (let s : ports.Literal 1 1 ≡ ports.Cell c p = source (ports.Literal 1 1) place place (ports.Cell r 1) e in cc)
    by (inr (inr (inr (inr j)))) = absurd j

-- an assignment of a store drives the memory, or the done of its group by that of the memory
pub data StoreTarget (memory g : ℕ) (a : PlainAssign) : Type 0 where
  to_memory : (p : ℕ) → a.target ≡ ports.Cell memory p → StoreTarget memory g a
  to_hole : a.target ≡ ports.Done g → ((q : PortRef) → AssignNames a q → q ≡ ports.Cell memory 4) → StoreTarget memory g a

pub store_target : (place : Place) (memory width g n : ℕ) (count : PortRef) (a : PlainAssign) → In (store_assigns place memory width g n count) a → StoreTarget memory g a
store_target place memory width g n count a (inl e) = to_memory 0 (ap (λ (x : PlainAssign). x.target) (sym e))
store_target place memory width g n count a (inr (inl e)) = to_memory 1 (ap (λ (x : PlainAssign). x.target) (sym e))
store_target place memory width g n count a (inr (inr (inl e))) = to_memory 2 (ap (λ (x : PlainAssign). x.target) (sym e))
store_target place memory width g n count a (inr (inr (inr (inl e)))) =
    to_hole (ap (λ (x : PlainAssign). x.target) (sym e)) (λ q names. ⊎_elim (λ wrong. absurd wrong) (λ same. sym same) (subst (λ (x : PlainAssign). AssignNames x q) (sym e) names))
store_target place memory width g n count a (inr (inr (inr (inr i)))) = absurd i

module _ (d : PlainDesign) (design : IsDesign d) (m k : ℕ) (within : k < length d.components) where
  abbrev part : PlainComponent
  part = component_at d k

  abbrev other : PlainComponent
  other = component_at (with_counts d) k

  abbrev i : Instance
  i = tree_within d (suc m) k

  abbrev j : Instance
  j = tree_within (with_counts d) (suc m) k

  abbrev mv : PortRef → PortRef
  mv p = moved_in d part p

  abbrev memory : ℕ
  memory = length part.cells + 2 * length (counters (component_of d k))

  -- MOVED PORTS
  pub enable_kept : (p : PortRef) → IsInside d part p → is_primitive_enable j (mv p) ≡ is_primitive_enable i p
  enable_kept (ports.Cell c p) here = by (pair_at d design m k within c here.0)
    where
      by : CellPair d design m k within c → is_primitive_enable j (mv (ports.Cell c p)) ≡ is_primitive_enable i (ports.Cell c p)
      by (row_pair row first second moved) = ap (is_primitive_enable j) (moved p) ∙ ap (λ x. enables_at x p) second ∙ ap (λ x. enables_at x p) (sym first)
      by (child_pair cell e stands is below first second moved) = ap (is_primitive_enable j) (moved p) ∙ ap (λ x. enables_at x (grown_number d (first_gained (component_at d e)) (gained d e) p)) second ∙ ap (λ x. enables_at x p) (sym first)
  enable_kept (ports.Input n) here = refl
  enable_kept (ports.Output n) here = refl
  enable_kept (ports.Done g) here = refl
  enable_kept (ports.Literal w v) here = refl

  pub part_port_kept : (p : PortRef) → IsInside d part p → is_part_port j (mv p) ≡ is_part_port i p
  part_port_kept (ports.Cell c p) here = by (pair_at d design m k within c here.0)
    where
      by : CellPair d design m k within c → is_part_port j (mv (ports.Cell c p)) ≡ is_part_port i (ports.Cell c p)
      by (row_pair row first second moved) = ap (is_part_port j) (moved p) ∙ ap is_instance second ∙ ap is_instance (sym first)
      by (child_pair cell e stands is below first second moved) = ap (is_part_port j) (moved p) ∙ ap is_instance second ∙ ap is_instance (sym first)
  part_port_kept (ports.Input n) here = refl
  part_port_kept (ports.Output n) here = refl
  part_port_kept (ports.Done g) here = refl
  part_port_kept (ports.Literal w v) here = refl

  pub hole_kept : (p : PortRef) → is_hole (mv p) ≡ is_hole p
  hole_kept (ports.Cell c p) = refl
  hole_kept (ports.Input n) = refl
  hole_kept (ports.Output n) = refl
  hole_kept (ports.Done g) = refl
  hole_kept (ports.Literal w v) = refl

  pub hole_of_kept : (g : ℕ) (p : PortRef) → is_hole_of g (mv p) ≡ is_hole_of g p
  hole_of_kept g (ports.Cell c p) = refl
  hole_of_kept g (ports.Input n) = refl
  hole_of_kept g (ports.Output n) = refl
  hole_of_kept g (ports.Done h) = refl
  hole_of_kept g (ports.Literal w v) = refl

  -- the port of a cell, a done and an output come from such
  pub cell_back : (p : PortRef) (c n : ℕ) → mv p ≡ ports.Cell c n → (q : ℕ) × (p ≡ ports.Cell c q)
  cell_back (ports.Cell e q) c n h = (q, let same : e ≡ c = cc in ap (λ z. ports.Cell z q) same)
  cell_back (ports.Input m) c n h = absurd (cc)
  cell_back (ports.Output m) c n h = absurd (cc)
  cell_back (ports.Done g) c n h = absurd (cc)
  cell_back (ports.Literal w v) c n h = absurd (cc)

  pub done_back : (p : PortRef) (g : ℕ) → mv p ≡ ports.Done g → p ≡ ports.Done g
  done_back (ports.Cell e q) g h = absurd (cc)
  done_back (ports.Input m) g h = absurd (cc)
  done_back (ports.Output m) g h = absurd (cc)
  done_back (ports.Done x) g h = h
  done_back (ports.Literal w v) g h = absurd (cc)

  pub output_back : (p : PortRef) (n : ℕ) → mv p ≡ ports.Output n → p ≡ ports.Output n
  output_back (ports.Cell e q) n h = absurd (cc)
  output_back (ports.Input m) n h = absurd (cc)
  output_back (ports.Output m) n h = h
  output_back (ports.Done x) n h = absurd (cc)
  output_back (ports.Literal w v) n h = absurd (cc)

  pub input_back : (p : PortRef) (n : ℕ) → mv p ≡ ports.Input n → p ≡ ports.Input n
  input_back (ports.Cell e q) n h = absurd (cc)
  input_back (ports.Input m) n h = h
  input_back (ports.Output m) n h = absurd (cc)
  input_back (ports.Done x) n h = absurd (cc)
  input_back (ports.Literal w v) n h = absurd (cc)

  -- the number of a port of a primitive's cell stays
  pub row_back : (p : PortRef) (c n : ℕ) → ((q : ℕ) → mv (ports.Cell c q) ≡ ports.Cell c q) → mv p ≡ ports.Cell c n → p ≡ ports.Cell c n
  row_back p c n moved h =
      let r = cell_back p c n h in
      r.1 ∙ (sym (moved r.0) ∙ ap mv (sym r.1) ∙ h)

  pub record RowTwin (c : ℕ) (row : Row) : Type 0 where
    pub few : c < length part.cells
    pub there : cell_at (cells_of j) c ≡ OfRow row
    pub moved : (p : ℕ) → mv (ports.Cell c p) ≡ ports.Cell c p

  pub row_twin : (c : ℕ) (row : Row) → cell_at (cells_of i) c ≡ OfRow row → RowTwin c row
  row_twin c row at = by (pair_at d design m k within c few_cells)
    where
      few_cells : c < length part.cells
      few_cells = subst (λ n. c < n) (count_for (tree_within d m) part.cells) (row_within (cells_of i) c row at)

      by : CellPair d design m k within c → RowTwin c row
      by (row_pair r first second stays) = record { few = few_cells; there = second ∙ ap OfRow (row_is r row (sym first ∙ at)); moved = stays }
      by (child_pair cell e stands is below first second stays) = absurd (instance_row (tree_within d m e) row (sym first ∙ at))

  -- NEW CELLS are of primitives
  module _ (reached : is_reached d k ≡ true) (x : Counter) (own : In (counters (component_of d k)) x) where
    pub register_cell : cell_at (cells_of j) x.register ≡ OfRow counter_row
    register_cell = let c = register_there d k within reached x own in at_row (tree_within (with_counts d) m) other.cells x.register c.0 (record { name = primitives.Reg; numbers = 64 ∷ [] }) c.1 c.2

    pub adder_cell : cell_at (cells_of j) (suc x.register) ≡ OfRow adder_row
    adder_cell = let c = adder_there d k within reached x own in at_row (tree_within (with_counts d) m) other.cells (suc x.register) c.0 (record { name = primitives.Add; numbers = 64 ∷ [] }) c.1 c.2

    pub counter_row_there : (c : ℕ) → (c ≡ x.register) ⊎ (c ≡ suc x.register) → (row : Row) × (cell_at (cells_of j) c ≡ OfRow row)
    counter_row_there c (inl e) = (counter_row, ap (cell_at (cells_of j)) e ∙ register_cell)
    counter_row_there c (inr e) = (adder_row, ap (cell_at (cells_of j)) e ∙ adder_cell)

  abbrev pub counts_row : Row
  counts_row = row_of (record { name = primitives.StdMemD1; numbers = 64 ∷ length (shown_in (component_of d k)) ∷ address_width (length (shown_in (component_of d k))) ∷ [] })

  pub memory_there : k ≡ d.main → cell_at (cells_of j) memory ≡ OfRow counts_row
  memory_there main = by (role d k within)
    where
      by : Role d k → cell_at (cells_of j) memory ≡ OfRow counts_row
      by (as_child names is r e) = absurd (is main)
      by (as_kept is r e) = absurd (is main)
      by (as_main names is e) =
          let size = length (shown_in (component_of d k)) in
          let last = memory_cell part.place (name_at names (2 * length (counters (component_of d k)))) size in
          let count : length (counter_cells part.place names 0 (length (counters (component_of d k)))) ≡ 2 * length (counters (component_of d k)) = counter_cells-length part.place names 0 (length (counters (component_of d k))) in
          let number : 2 * length (counters (component_of d k)) ≡ length (counter_cells part.place names 0 (length (counters (component_of d k)))) + 0 = omega (arith, count) in
          at_row (tree_within (with_counts d) m) other.cells memory last (record { name = primitives.StdMemD1; numbers = 64 ∷ size ∷ address_width size ∷ [] })
          (ap (λ (x : PlainComponent). slice_get x.cells memory) e
          ∙ behind part.cells (counter_cells part.place names 0 (length (counters (component_of d k))) ++ last ∷ []) memory (2 * length (counters (component_of d k))) refl
          ∙ behind (counter_cells part.place names 0 (length (counters (component_of d k)))) (last ∷ []) (2 * length (counters (component_of d k))) 0 number) refl

  -- RESTS ON STATE
  rests_given : (c p : ℕ) (child : Instance) → cell_at (cells_of j) c ≡ OfInstance child → (port : PartPort) → IsGiven port → part_port (part_of child) p ≡ port → Rests j (ports.Cell c p)
  rests_given c p child at port (given_output n) e = output_rests n child at e
  rests_given c p child at port given_done e = done_rests child at e

  child_rests : (c p : ℕ) (child : Instance) (port : PartPort) → cell_at (cells_of i) c ≡ OfInstance child → part_port (part_of child) p ≡ port → IsGiven port → Rests j (mv (ports.Cell c p))
  child_rests c p child port at e given = by (pair_at d design m k within c (child_few (tree_within d m) part.cells c child at))
    where
      by : CellPair d design m k within c → Rests j (mv (ports.Cell c p))
      by (row_pair row first second moved) = absurd (row_instance row child (sym first ∙ at))
      by (child_pair cell f stands is below first second moved) =
          let new : Instance = tree_within (with_counts d) m f in
          let r : ℕ = grown_number d (first_gained (component_at d f)) (gained d f) p in
          let same : tree_within d m f ≡ child = instance_is (tree_within d m f) child (sym first ∙ at) in
          let past : suc (length (part_of child).inputs) ≤ p = given_past (part_of child) p port given e in
          let inputs : length (part_of (tree_within (with_counts d) m f)).inputs ≡ length (part_of child).inputs =
          ap (λ (x : PlainComponent). length x.inputs) (same_part (with_counts d) m f) ∙ ap length ((grown_at d f below).inputs) ∙ ap (λ (x : PlainComponent). length x.inputs) (sym (same_part d m f) ∙ ap part_of same) in
          let more : p ≤ grown_number d (first_gained (component_at d f)) (gained d f) p = grown_more d (first_gained (component_at d f)) (gained d f) p in
          subst (Rests j) (sym (moved p))
          (rests_given c (grown_number d (first_gained (component_at d f)) (gained d f) p) (tree_within (with_counts d) m f) second (part_port (part_of (tree_within (with_counts d) m f)) (grown_number d (first_gained (component_at d f)) (gained d f) p))
          (part_given (part_of (tree_within (with_counts d) m f)) (grown_number d (first_gained (component_at d f)) (gained d f) p) (omega (arith, past, inputs, more))) refl)

  -- what an assignment of an old port was
  record OldDriver (c n : ℕ) (a : PlainAssign) (q : PortRef) : Type 0 where
    assign : PlainAssign
    port : PortRef
    stands : In part.always assign
    target : assign.target ≡ ports.Cell c n
    names : AssignNames assign port
    moved : mv port ≡ q

  old_driver : (c n : ℕ) (row : Row) → RowTwin c row → (a : PlainAssign) (q : PortRef) → In other.always a → a.target ≡ ports.Cell c n → AssignNames a q → OldDriver c n a q
  old_driver c n row t a q inside target names = by (always_made d design k within a inside)
    where
      by : AlwaysMade d design k within a → OldDriver c n a q
      by (old_always b h is) =
          let y = names_back mv b q (subst (λ (x : PlainAssign). AssignNames x q) (sym is) names) in
          record { assign = b; port = y.0; stands = h; target = row_back b.target c n t.moved (ap (λ (x : PlainAssign). x.target) is ∙ target); names = y.2; moved = y.1 }
      by (showing_always x s main reached at is) = absurd (let wrong : ports.Output (length part.outputs + x) ≡ ports.Cell c n = ap (λ (y : PlainAssign). y.target) is ∙ target in cc)

  -- new assignments drive no old port of a cell
  new_cell_past : (c g r : ℕ) → In (counters (component_of d k)) (record { group = g; register = r }) → is_reached d k ≡ true → (c ≡ r) ⊎ (c ≡ suc r) → c < length part.cells → ⊥
  new_cell_past c g r own reached at few =
      let past : length part.cells ≤ r = register_past d k within reached (record { group = g; register = r }) own in
      ⊎_elim (λ (e : c ≡ r). omega (arith, past, e, few)) (λ (e : c ≡ suc r). omega (arith, past, e, few)) at

  undriven_kept : (c n g : ℕ) (row : Row) → RowTwin c row → (a : PlainAssign) → ((b : PlainAssign) → In (group_at part g).assigns b → b.target ≡ ports.Cell c n → ⊥) → In (group_at other g).assigns a → a.target ≡ ports.Cell c n → ⊥
  undriven_kept c n g row t a none inside target = by (in_group d design k within g a inside)
    where
      of_store : (memory h : ℕ) → length part.cells ≤ memory → StoreTarget memory h a → ⊥
      of_store memory h far (to_memory p e) = let few : c < length part.cells = t.few in let same : memory ≡ c = (let both : ports.Cell memory p ≡ ports.Cell c n = sym e ∙ target in cc) in omega (arith, far, few, same)
      of_store memory h far (to_hole e names) = absurd (let wrong : ports.Done h ≡ ports.Cell c n = sym e ∙ target in cc)

      by : InGroup d design k within g a → ⊥
      by (old_in b few h is) = none b h (row_back b.target c n t.moved (ap (λ (x : PlainAssign). x.target) is ∙ target))
      by (counting_in r own reached few is h) =
          let x = counter_target part.place r a h in
          let same : x.0 ≡ c = (let both : ports.Cell x.0 x.1 ≡ ports.Cell c n = sym x.2 ∙ target in cc) in
          new_cell_past c g r own reached (subst (λ z. (z ≡ r) ⊎ (z ≡ suc r)) same x.3) t.few
      by (storing_in s x main at number h) = of_store memory (length part.groups + s) (omega arith) (store_target part.place memory (address_width (length (shown_in (component_of d k)))) (length part.groups + s) s x.port a h)

  pub rests_moved : (q : PortRef) → Rests i q → Rests j (mv q)
  rests_moved q literal_rests = literal_rests
  rests_moved q input_rests = input_rests
  rests_moved q (registered_rests {c} {p} row at side) = let t = row_twin c row at in subst (Rests j) (sym (t.moved p)) (registered_rests row t.there side)
  rests_moved q (output_rests {c} {p} n child at is) = child_rests c p child (AnOutput n) at is (given_output n)
  rests_moved q (done_rests {c} {p} child at is) = child_rests c p child ItsDone at is given_done
  rests_moved q (combinational_rests {c} {p} row at side none all) =
      let t = row_twin c row at in
      subst (Rests j) (sym (t.moved p))
      (combinational_rests row t.there side (λ n g a reads inside target. undriven_kept c n g row t a (λ b h e. none n g b reads h e) inside target)
      (λ n a r reads inside target names.
      let x = old_driver c n row t a r inside target names in
      subst (Rests j) x.moved (rests_moved x.port (all n x.assign x.port reads x.stands x.target x.names))))

  -- WHAT SHOWS A COUNT
  pub shown_rests : InTree d (suc m) k → (x : Shown) → In (shown_in (component_of d k)) x → Rests j x.port
  shown_rests tree x inside = by (where_shown (component_of d k) x inside)
    where
      of_pair : (c p : ℕ) (child : Instance) → cell_at (cells_of i) c ≡ OfInstance child → first_gained (part_of child) ≤ p → CellPair d design m k within c → Rests j (ports.Cell c p)
      of_pair c p child stands past (row_pair row first second moved) = absurd (row_instance row child (sym first ∙ stands))
      of_pair c p child stands past (child_pair cell e there is below first second moved) =
          let same : tree_within d m e ≡ child = instance_is (tree_within d m e) child (sym first ∙ stands) in
          let inputs : length (part_of (tree_within (with_counts d) m e)).inputs ≡ length (part_of child).inputs =
          ap (λ (x : PlainComponent). length x.inputs) (same_part (with_counts d) m e) ∙ ap length ((grown_at d e below).inputs) ∙ ap (λ (x : PlainComponent). length x.inputs) (sym (same_part d m e) ∙ ap part_of same) in
          rests_given c p (tree_within (with_counts d) m e) second (part_port (part_of (tree_within (with_counts d) m e)) p) (part_given (part_of (tree_within (with_counts d) m e)) p (omega (arith, past, inputs))) refl

      by : WhereShown (component_of d k) x → Rests j x.port
      by (own_count counter own e) = subst (λ (y : Shown). Rests j y.port) e (registered_rests counter_row (register_cell tree.reached counter own) refl)
      by (child_count b) =
          let whole : cell_at (cells_of i) b.cell ≡ OfInstance b.child = ap (λ t. cell_at (cells_of t) b.cell) (is_whole d tree) ∙ b.stands in
          let few : b.cell < length part.cells = child_few (tree_within d m) part.cells b.cell b.child whole in
          let zero_first : 0 + b.cell ≡ b.cell = omega arith in
          subst (Rests j) (ap (λ c. ports.Cell c (first_gained (part_of b.child) + b.number)) (sym zero_first) ∙ sym b.port)
          (of_pair b.cell (first_gained (part_of b.child) + b.number) b.child whole (omega arith) (pair_at d design m k within b.cell few))
