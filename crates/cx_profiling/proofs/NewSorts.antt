-- The widths and sides of new cells, and of ports that show counts.
use Rattle.std.proofs.Common.{◌≡◌, ℕ, zero, suc, ◌+◌, ◌-◌, ◌*◌, ◌^◌, ◌<◌, ◌≤◌, Bool, true, false, not, ◌&&◌, inl, inr, ◌⊎◌, List, [], ◌∷◌, ◌++◌, length, map, Some, None, refl, sym, ap, ◌∙◌, subst, arith}
use Rattle.std.specs.Prelude.{nat_eq, nat_le, nat_lt, option_map, if◌then◌else◌}
use Rattle.std.specs.List.{slice_get}
use Rattle.std.proofs.lemmas.Bool.{lt-ltb, le-ltb, le-leb, leb-true, eqb-true}
use Rattle.std.proofs.lemmas.Nat.{pow_pos}
use Rattle.std.proofs.Math.Nat.{pow-suc}
use Rattle.cx_text.proofs.MemberLaws.{image_in, in_at, in_either}
use Rattle.cx_text.specs.Members.{In}
use Rattle.cx_text.proofs.ListLaws.{front, behind, there_below}
use Rattle.cx_text.proofs.NumberLaws.{true_false, lt_true}
use Rattle.cx_prim.specs.declared.names.PrimitiveName.TheVariants as primitives
use Rattle.cx_prim.specs.Rows.{is_output_side}
use Rattle.cx_prim.specs.MemoryRows.{memory_row}
use Rattle.cx_meaning.specs.declared.ports.PortRef.{PortRef}
use Rattle.cx_meaning.specs.declared.ports.PortRef.TheVariants as ports
use Rattle.cx_meaning.specs.Rows.{side_of}
use Rattle.cx_meaning.specs.Designs.{OfPrimitive, PlainCell, PlainComponent, PlainDesign, component_at}
use Rattle.cx_meaning.specs.Instances.{Instance, cells_of, cells_for, part_of}
use Rattle.cx_meaning.specs.Sights.{AnInput, AnOutput, ItsDone, part_port, output_port, later_port}
use Rattle.cx_rules.specs.Ports.{component_of, width_of, is_source_only, is_target_only, part_width, is_part_output}
use Rattle.cx_rules.proofs.PortsLemmas.{part_is}
use Rattle.cx_rules.specs.Wellformed.{IsDesign}
use Rattle.cx_flattening.proofs.TreeLevels.{child_there}
use Rattle.cx_profiling.specs.Counters.{counters, counters_from, Shown, shown_here, shown_in, shown_below, first_gained}
use Rattle.cx_profiling.specs.Instrumented.{is_reached, new_cell, name_at, counter_cells, count_outputs, width_from, address_width, memory_cell, child_component, main_component, instrumented_component, with_counts}
use Rattle.cx_profiling.proofs.TreeLemmas.{component_of-is}
use Rattle.cx_profiling.proofs.ReachedLemmas.{child_reached, is_reached-from}
use Rattle.cx_profiling.proofs.CounterLemmas.{register_at, adder_at, counter_cells-length, in_counters, IsShownBelow, in_shown_below}
use Rattle.cx_profiling.proofs.GainedLemmas.{by_kind, components-length, component_at-with_counts, grown_at}
use Rattle.cx_profiling.proofs.NewAssigns.{HasCounters, counters-is, shown_in-is}
use Rattle.cx_profiling.proofs.CellLemmas.{memory_row_of, width_from-ge, width_from-le}
use Rattle.cx_profiling.proofs.SortLemmas.{kind_width, is_kind_output, width_at, output_at}

-- an address names each word
width_from-enough : (fuel w k : ℕ) → k ≤ 2 ^ (w + fuel) → k ≤ 2 ^ width_from fuel w k
width_from-enough zero w k enough = let z : w + 0 ≡ w = omega arith in subst (λ n. k ≤ 2 ^ n) z enough
width_from-enough (suc more) w k enough = by (nat_le k (2 ^ w)) refl (width_from-enough more (suc w) k (let z : w + suc more ≡ suc w + more = omega arith in subst (λ n. k ≤ 2 ^ n) z enough))
  where
    by : (b : Bool) → nat_le k (2 ^ w) ≡ b → k ≤ 2 ^ width_from more (suc w) k → k ≤ 2 ^ (if b then w else width_from more (suc w) k)
    by true e later = leb-true k (2 ^ w) e
    by false e later = later

below_power : (k : ℕ) → k ≤ 2 ^ (1 + k)
below_power zero = omega arith
below_power (suc k) =
    let z : k ≤ 2 ^ (1 + k) = below_power k in
    let one : 0 < 2 ^ (1 + k) = pow_pos (1 + k) in
    let next : 1 + suc k ≡ suc (1 + k) = omega arith in
    let two : 2 ^ (1 + suc k) ≡ 2 ^ (1 + k) * 2 = ap (λ n. 2 ^ n) next ∙ pow-suc 2 (1 + k) in
    omega arith

pub names_each : (k j : ℕ) → j < k → j < 2 ^ address_width k
names_each k j less = let z : k ≤ 2 ^ address_width k = width_from-enough k 1 k (below_power k) in omega arith

-- the memory of the counts, and an output that shows one
pub count_outputs-at : (names : List (List ℕ)) (n : ℕ) (xs : List Shown) (m : ℕ) → m < length xs → (name : List ℕ) × (slice_get (count_outputs names n xs) m ≡ Some (record { name = name; width = 64 }))
count_outputs-at names n [] m less = absurd (omega arith)
count_outputs-at names n (x ∷ xs) zero less = (name_at names n, refl)
count_outputs-at names n (x ∷ xs) (suc m) less = count_outputs-at names (suc n) xs m (omega arith)

module _ (d : PlainDesign) (k : ℕ) where
  abbrev part : PlainComponent
  part = component_at d k

  abbrev own : ℕ
  own = length (counters (component_of d k))

  abbrev shown : List Shown
  shown = shown_in (component_of d k)

  -- main, or a component with an instance
  abbrev pub HasInstance : Type 0
  HasInstance = (nat_eq k d.main ≡ true) ⊎ (is_reached d k ≡ true)

  counters_with : (more : List PlainCell) (names : List (List ℕ)) (new : PlainComponent) → new.cells ≡ part.cells ++ (counter_cells part.place names 0 own ++ more) → HasCounters d k new
  counters_with more names new cells = record {
    register = λ m less. let r = register_at part.place names 0 own m less in (
      r.0,
      ap (λ cs. slice_get cs (length part.cells + 2 * m)) cells
          ∙ behind part.cells (counter_cells part.place names 0 own ++ more) (length part.cells + 2 * m) (2 * m) refl ∙ front (counter_cells part.place names 0 own) more (2 * m) (new_cell part.place r.0 primitives.Reg (64 ∷ []) false) r.1,
    );
    adder = λ m less. let a = adder_at part.place names 0 own m less in let z : suc (length part.cells + 2 * m) ≡ length part.cells + suc (2 * m) = omega arith in (
      a.0,
      ap (λ cs. slice_get cs (suc (length part.cells + 2 * m))) cells
          ∙ behind part.cells (counter_cells part.place names 0 own ++ more) (suc (length part.cells + 2 * m)) (suc (2 * m)) z ∙ front (counter_cells part.place names 0 own) more (suc (2 * m)) (new_cell part.place a.0 primitives.Add (64 ∷ []) false) a.1,
    );
  }

  has_counters : HasInstance → HasCounters d k (instrumented_component d k)
  has_counters has = by_kind d (λ new. HasInstance → HasCounters d k new) k
      (λ names e f h. counters_with (memory_cell part.place (name_at names (2 * own)) (length shown) ∷ []) names (main_component d k names) refl)
      (λ names e f r h. counters_with [] names (child_component d k names) (ap (λ cs. part.cells ++ cs) (sym (append_nothing (counter_cells part.place names 0 own)))))
      (λ f e h. absurd (neither f e h)) has
    where
      append_nothing : {A : Type 0} (xs : List A) → xs ++ [] ≡ xs
      append_nothing [] = refl
      append_nothing (x ∷ xs) = ap (λ l. x ∷ l) (append_nothing xs)

      neither : nat_eq k d.main ≡ false → is_reached d k ≡ false → HasInstance → ⊥
      neither f e (inl m) = true_false (sym m ∙ f)
      neither f e (inr r) = true_false (sym r ∙ e)

  -- the memory, behind the counters of main
  memory_in : nat_eq k d.main ≡ true → (name : List ℕ) × (slice_get (instrumented_component d k).cells (length part.cells + 2 * own) ≡ Some (memory_cell part.place name (length shown)))
  memory_in is_main = by_kind d (λ new. nat_eq k d.main ≡ true → (name : List ℕ) × (slice_get new.cells (length part.cells + 2 * own) ≡ Some (memory_cell part.place name (length shown)))) k
      (λ names e f h. (name_at names (2 * own), at names)) (λ names e f r h. absurd (true_false (sym h ∙ f))) (λ f e h. absurd (true_false (sym h ∙ f))) is_main
    where
      at : (names : List (List ℕ)) → slice_get (main_component d k names).cells (length part.cells + 2 * own) ≡ Some (memory_cell part.place (name_at names (2 * own)) (length shown))
      at names =
          behind part.cells (counter_cells part.place names 0 own ++ memory_cell part.place (name_at names (2 * own)) (length shown) ∷ []) (length part.cells + 2 * own) (2 * own) refl
          ∙ behind (counter_cells part.place names 0 own) (memory_cell part.place (name_at names (2 * own)) (length shown) ∷ []) (2 * own) 0
          (let z : length (counter_cells part.place names 0 own) ≡ 2 * own = counter_cells-length part.place names 0 own in omega arith)

  -- the outputs that a child gains
  pub gained_output : nat_eq k d.main ≡ false → is_reached d k ≡ true → (m : ℕ) → m < length shown
      → (name : List ℕ) × (slice_get (instrumented_component d k).outputs (length part.outputs + m) ≡ Some (record { name = name; width = 64 }))
  gained_output f r m less = by_kind d (λ new. (name : List ℕ) × (slice_get new.outputs (length part.outputs + m) ≡ Some (record { name = name; width = 64 }))) k
      (λ names e g. absurd (true_false (sym g ∙ f)))
      (λ names e g h. let o = count_outputs-at names (2 * own) shown m less in (o.0, behind part.outputs (count_outputs names (2 * own) shown) (length part.outputs + m) m refl ∙ o.1))
      (λ g e. absurd (true_false (sym r ∙ e)))

module _ (d : PlainDesign) (rules : IsDesign d) (k : ℕ) (there : k < length d.components) where
  abbrev i : Instance
  i = component_of (with_counts d) k

  some : 0 < length (with_counts d).components
  some = subst (λ n. 0 < n) (sym (components-length d)) (omega arith)

  same : component_at (with_counts d) k ≡ instrumented_component d k
  same = component_at-with_counts d k there

  -- a port is this wide, and is a target, or a source
  abbrev pub IsTarget : PortRef → ℕ → Type 0
  IsTarget p w = (width_of i p ≡ Some w) × (is_source_only i p ≡ false)

  abbrev pub IsSource : PortRef → ℕ → Type 0
  IsSource p w = (width_of i p ≡ Some w) × (is_target_only i p ≡ false)

  cell_sort : (c p w : ℕ) (b : Bool) (cell : PlainCell) → slice_get (instrumented_component d k).cells c ≡ Some cell → kind_width (with_counts d) cell.kind p ≡ Some w → is_kind_output (with_counts d) cell.kind p ≡ b
      → (width_of i (ports.Cell c p) ≡ Some w) × (is_source_only i (ports.Cell c p) ≡ b)
  cell_sort c p w b cell at wide side =
      let here : slice_get (component_at (with_counts d) k).cells c ≡ Some cell = ap (λ part. slice_get part.cells c) same ∙ at in
      (width_at (with_counts d) some k c cell here p ∙ wide, output_at (with_counts d) some k c cell here p ∙ side)

  -- of a counter
  module _ (has : HasInstance d k) (m : ℕ) (less : m < length (counters (component_of d k))) where
    abbrev r : ℕ
    r = length (component_at d k).cells + 2 * m

    register_sort : (p w : ℕ) (b : Bool) → kind_width (with_counts d) (OfPrimitive (record { name = primitives.Reg; numbers = 64 ∷ [] })) p ≡ Some w → is_kind_output (with_counts d) (OfPrimitive (record { name = primitives.Reg; numbers = 64 ∷ [] })) p ≡ b
        → (width_of i (ports.Cell r p) ≡ Some w) × (is_source_only i (ports.Cell r p) ≡ b)
    register_sort p w b wide side = let x = (has_counters d k has).register m less in cell_sort r p w b (new_cell (component_at d k).place x.0 primitives.Reg (64 ∷ []) false) x.1 wide side

    adder_sort : (p w : ℕ) (b : Bool) → kind_width (with_counts d) (OfPrimitive (record { name = primitives.Add; numbers = 64 ∷ [] })) p ≡ Some w → is_kind_output (with_counts d) (OfPrimitive (record { name = primitives.Add; numbers = 64 ∷ [] })) p ≡ b
        → (width_of i (ports.Cell (suc r) p) ≡ Some w) × (is_source_only i (ports.Cell (suc r) p) ≡ b)
    adder_sort p w b wide side = let x = (has_counters d k has).adder m less in cell_sort (suc r) p w b (new_cell (component_at d k).place x.0 primitives.Add (64 ∷ []) false) x.1 wide side

    as_source : (p : PortRef) (w : ℕ) → (c q : ℕ) → p ≡ ports.Cell c q → (width_of i (ports.Cell c q) ≡ Some w) × (is_source_only i (ports.Cell c q) ≡ true) → IsSource p w
    as_source p w c q e (wide, side) = subst (λ x. IsSource x w) (sym e) (wide, ap not side)

    pub register_in : IsTarget (ports.Cell r 0) 64
    register_in = register_sort 0 64 false refl refl

    pub register_write : IsTarget (ports.Cell r 1) 1
    register_write = register_sort 1 1 false refl refl

    pub register_out : IsSource (ports.Cell r 2) 64
    register_out = as_source (ports.Cell r 2) 64 r 2 refl (register_sort 2 64 true refl refl)

    pub adder_left : IsTarget (ports.Cell (suc r) 0) 64
    adder_left = adder_sort 0 64 false refl refl

    pub adder_right : IsTarget (ports.Cell (suc r) 1) 64
    adder_right = adder_sort 1 64 false refl refl

    pub adder_out : IsSource (ports.Cell (suc r) 2) 64
    adder_out = as_source (ports.Cell (suc r) 2) 64 (suc r) 2 refl (adder_sort 2 64 true refl refl)

  has_reached : HasInstance d k → is_reached d k ≡ true
  has_reached (inl m) = is_reached-from d rules k (inl (sym (eqb-true k d.main m)))
  has_reached (inr r) = r

  -- of a port that shows a count
  own_shown : HasInstance d k → (x : Shown) → In (map shown_here (counters (component_of d k))) x → IsSource x.port 64
  own_shown has x h =
      let s = image_in shown_here (counters (component_of d k)) x h in
      let all : counters (component_of d k) ≡ counters_from (cells_of (component_of d k)) (length (component_at d k).cells) 0 (component_at d k).groups =
      counters-is (component_of d k) ∙ ap (λ part. counters_from (cells_of (component_of d k)) (length part.cells) 0 part.groups) (part_is d k) in
      let m = in_counters (cells_of (component_of d k)) (length (component_at d k).cells) 0 (component_at d k).groups s.0 (subst (λ list. In list s.0) all s.1) in
      let less : m.0 < length (counters (component_of d k)) = subst (λ list. m.0 < length list) (sym all) m.1 in
      let port : x.port ≡ ports.Cell (length (component_at d k).cells + 2 * m.0) 2 = ap (λ y. y.port) (sym s.2) ∙ ap (λ r. ports.Cell r 2) m.2 in
      subst (λ p. IsSource p 64) (sym port) (register_out has m.0 less)

  -- an output that a child gains, among the ports of its cell
  gained_port : (part : PlainComponent) (ins outs m : ℕ) → length part.inputs ≡ ins → outs + m < length part.outputs → part_port part (suc (ins + outs) + m) ≡ AnOutput (outs + m)
  gained_port part ins outs m e less =
      let z : suc (ins + outs) + m ≡ suc (ins + outs + m) = omega arith in
      let y : ins + outs + m - ins ≡ outs + m = omega arith in
      ap (part_port part) z
      ∙ ap (λ n. later_port n (length part.outputs) (ins + outs + m)) e
      ∙ ap (λ b. if b then AnInput (ins + outs + m) else output_port (length part.outputs) (ins + outs + m - ins)) (le-ltb (ins + outs + m) ins (omega arith))
      ∙ ap (output_port (length part.outputs)) y
      ∙ ap (λ b. if b then AnOutput (outs + m) else ItsDone) (lt-ltb (outs + m) (length part.outputs) less)

  child_shown : HasInstance d k → (x : Shown) → IsShownBelow (component_of d) (component_at d k).cells 0 x → IsSource x.port 64
  child_shown has x s =
      let here : In (component_at d k).cells s.cell = in_at (component_at d k).cells s.c s.cell s.here in
      let child = child_reached d rules k s.component s.cell (has_reached has) here s.kind in
      let child_in : s.component < length d.components = child_there d rules k s.component s.cell there here s.kind in
      let is : part_of (component_of d s.component) ≡ component_at d s.component = part_is d s.component in
      let zero_more : 0 + s.c ≡ s.c = omega arith in
      let port : x.port ≡ ports.Cell s.c (first_gained (component_at d s.component) + s.m) =
      s.port ∙ ap (λ n. ports.Cell n (first_gained (part_of (component_of d s.component)) + s.m)) zero_more ∙ ap (λ part. ports.Cell s.c (first_gained part + s.m)) is in
      let own_output = gained_output d s.component child.1 child.0 s.m s.less in
      let made : component_at (with_counts d) s.component ≡ instrumented_component d s.component = component_at-with_counts d s.component child_in in
      let output : slice_get (component_at (with_counts d) s.component).outputs (length (component_at d s.component).outputs + s.m) ≡ Some (record { name = own_output.0; width = 64 }) =
      ap (λ part. slice_get part.outputs (length (component_at d s.component).outputs + s.m)) made ∙ own_output.1 in
      let numbered : part_port (component_at (with_counts d) s.component) (first_gained (component_at d s.component) + s.m) ≡ AnOutput (length (component_at d s.component).outputs + s.m) =
      gained_port (component_at (with_counts d) s.component) (length (component_at d s.component).inputs) (length (component_at d s.component).outputs) s.m (ap length (grown_at d s.component child_in).inputs)
      (there_below (component_at (with_counts d) s.component).outputs (length (component_at d s.component).outputs + s.m) (record { name = own_output.0; width = 64 }) output) in
      let wide : kind_width (with_counts d) s.cell.kind (first_gained (component_at d s.component) + s.m) ≡ Some 64 =
      ap (λ kind. kind_width (with_counts d) kind (first_gained (component_at d s.component) + s.m)) s.kind ∙ ap (part_width (component_at (with_counts d) s.component)) numbered ∙ ap (option_map (λ decl. decl.width)) output in
      let side : is_kind_output (with_counts d) s.cell.kind (first_gained (component_at d s.component) + s.m) ≡ true =
      ap (λ kind. is_kind_output (with_counts d) kind (first_gained (component_at d s.component) + s.m)) s.kind ∙ ap is_part_output numbered in
      let at : slice_get (instrumented_component d k).cells s.c ≡ Some s.cell = ap (λ part. slice_get part.cells s.c) (sym same) ∙ (grown_at d k there).cells s.c s.cell s.here in
      let sort = cell_sort s.c (first_gained (component_at d s.component) + s.m) 64 true s.cell at wide side in
      subst (λ p. IsSource p 64) (sym port) (sort.0, ap not sort.1)

  pub shown_source : HasInstance d k → (x : Shown) → In (shown_in (component_of d k)) x → IsSource x.port 64
  shown_source has x h = by (in_either (map shown_here (counters (component_of d k))) (shown_below (cells_of (component_of d k)) 0) x (subst (λ list. In list x) (shown_in-is (component_of d k)) h))
    where
      cells : cells_of (component_of d k) ≡ cells_for (component_of d) (component_at d k).cells
      cells = ap cells_of (component_of-is d rules k there)

      by : In (map shown_here (counters (component_of d k))) x ⊎ In (shown_below (cells_of (component_of d k)) 0) x → IsSource x.port 64
      by (inl own) = own_shown has x own
      by (inr below) = child_shown has x (in_shown_below (component_of d) (component_at d k).cells 0 x (subst (λ list. In (shown_below list 0) x) cells below))

  -- of an output that shows a count
  pub shown_output : nat_eq k d.main ≡ false → is_reached d k ≡ true → (n : ℕ) → length (component_at d k).outputs ≤ n → n < length (component_at d k).outputs + length (shown_in (component_of d k)) → IsTarget (ports.Output n) 64
  shown_output f r n from to =
      let m = behind_by (length (component_at d k).outputs) n from in
      let o = gained_output d k f r m.0 (let e : n ≡ length (component_at d k).outputs + m.0 = m.1 in omega arith) in (
        ap (λ part. option_map (λ decl. decl.width) (slice_get part.outputs n)) (part_is (with_counts d) k ∙ same) ∙ ap (λ x. option_map (λ decl. decl.width) (slice_get (instrumented_component d k).outputs x)) m.1
            ∙ ap (option_map (λ decl. decl.width)) o.1,
        refl,
      )
    where
      behind_by : (m n : ℕ) → m ≤ n → (i : ℕ) × (n ≡ m + i)
      behind_by zero n le = (n, omega arith)
      behind_by (suc m) zero le = absurd (omega arith)
      behind_by (suc m) (suc n) le = let r = behind_by m n (omega arith) in (r.0, let e : n ≡ m + r.0 = r.1 in omega arith)

  -- of the memory of the counts
  module _ (is_main : nat_eq k d.main ≡ true) (counted : 1 ≤ length (shown_in (component_of d k))) (few : length (shown_in (component_of d k)) < 2 ^ 32) where
    abbrev memory : ℕ
    memory = length (component_at d k).cells + 2 * length (counters (component_of d k))

    abbrev words : ℕ
    words = length (shown_in (component_of d k))

    memory_sort : (p w : ℕ) (b : Bool) → option_map (λ port. port.width) (slice_get (memory_row 64 (words ∷ []) (address_width words ∷ [])).ports p) ≡ Some w
        → is_output_side (side_of (memory_row 64 (words ∷ []) (address_width words ∷ [])) p) ≡ b → (width_of i (ports.Cell memory p) ≡ Some w) × (is_source_only i (ports.Cell memory p) ≡ b)
    memory_sort p w b wide side =
        let x = memory_in d k is_main in
        cell_sort memory p w b (memory_cell (component_at d k).place x.0 words) x.1
        (ap (λ row. option_map (λ port. port.width) (slice_get row.ports p)) (memory_row_of words counted few) ∙ wide)
        (ap (λ row. is_output_side (side_of row p)) (memory_row_of words counted few) ∙ side)

    pub memory_address : IsTarget (ports.Cell memory 0) (address_width words)
    memory_address = memory_sort 0 (address_width words) false refl refl

    pub memory_data : IsTarget (ports.Cell memory 1) 64
    memory_data = memory_sort 1 64 false refl refl

    pub memory_write : IsTarget (ports.Cell memory 2) 1
    memory_write = memory_sort 2 1 false refl refl

    pub memory_done : IsSource (ports.Cell memory 4) 1
    memory_done = let s = memory_sort 4 1 true refl refl in (s.0, ap not s.1)

    -- and of the address of a word
    pub address_source : (j : ℕ) → j < words → IsSource (ports.Literal (address_width words) j) (address_width words)
    address_source j less = (
      ap (λ b. if b && nat_le (address_width words) 128 && nat_lt j (2 ^ address_width words) then Some (address_width words) else None) (le-leb 1 (address_width words) (width_from-ge words 1 words (omega arith)))
          ∙ ap (λ b. if true && b && nat_lt j (2 ^ address_width words) then Some (address_width words) else None)
          (le-leb (address_width words) 128 (let w : address_width words ≤ 32 = width_from-le words 1 words (omega arith) (omega arith) in omega arith))
          ∙ ap (λ b. if true && true && b then Some (address_width words) else None) (lt_true j (2 ^ address_width words) (names_each words j less)),
      refl,
    )
