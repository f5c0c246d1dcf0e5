-- THE START of an instrumented design is the start of the design, with counters at 0 and a memory more.
use Rattle.std.proofs.Common.{◌≡◌, ℕ, zero, suc, ◌+◌, ◌*◌, ◌<◌, inl, inr, Bool, true, false, if◌then◌else◌, List, [], ◌∷◌, ◌++◌, length, Some, slice_get, refl, sym, ap, ◌∙◌, subst, arith}
use Rattle.std.proofs.lemmas.Option.{slice_get_within}
use Rattle.cx_text.proofs.MemberLaws.{in_at}
use Rattle.cx_text.specs.declared.places.Place.{Place}
use Rattle.cx_prim.specs.CellStates.{CellState, Register, Memory}
use Rattle.cx_prim.specs.CellStates as cell_states
use Rattle.cx_prim.specs.Rows.{Row}
use Rattle.cx_prim.specs.MemoryRows.{memory_row}
use Rattle.cx_prim.specs.Table.{row_of}
use Rattle.cx_prim.specs.declared.names.PrimitiveName.TheVariants as primitives
use Rattle.cx_meaning.specs.Designs.{PlainCell, PlainKind, OfPrimitive, OfComponent, PlainComponent, PlainDesign, component_at}
use Rattle.cx_meaning.specs.Instances.{Instance, OfRow, OfInstance, cell_at, cells_of, Path, State, under, just, start, start_at, loaded_at, if_external, externals_from, externals_of, tree_within}
use Rattle.cx_text.specs.Members.{In}
use Rattle.cx_meaning.proofs.CycleLemmas.{row_within, count_for}
use Rattle.cx_meaning.proofs.InstancesLemmas.{instance_is, instance_row, row_instance, just_same, not_just}
use Rattle.cx_rules.specs.Ports.{component_of}
use Rattle.cx_rules.specs.Wellformed.{IsDesign, IsExternal}
use Rattle.cx_rewrites.specs.Tallies.{none, at_cell}
use Rattle.cx_profiling.specs.Counters.{Counter, counters, shown_in}
use Rattle.cx_profiling.specs.Growing.{Grown}
use Rattle.cx_profiling.specs.Instrumented.{address_width, counter_cells, memory_cell, name_at, main_component, with_counts}
use Rattle.cx_profiling.proofs.ListedCells.{at_row}
use Rattle.cx_profiling.proofs.RestLemmas.{counter_row}
use Rattle.cx_profiling.proofs.CounterLemmas.{counter_cells-length, in_counters}
use Rattle.cx_profiling.proofs.RoleLemmas.{register_there, own_counters}
use Rattle.cx_profiling.proofs.GrownTrees.{InTree, in_reach, is_whole, child_in_tree}
use Rattle.cx_profiling.proofs.PairLemmas.{CellPair, row_pair, child_pair, pair_at}
use Rattle.cx_profiling.proofs.SightLemmas.{RowsAlike}
use Rattle.cx_profiling.proofs.AcyclicLemmas.{child_few}
use Rattle.cx_profiling.proofs.GrownCycles.{make_grown}
use Rattle.cx_meaning.proofs.CyclesLemmas.{start_row, child_start}

module _ (d : PlainDesign) (design : IsDesign d) where
  -- a state that is the start below the cells of an instance
  abbrev StartsBelow : Instance → State → Type 0
  StartsBelow x s = (c e : ℕ) (path : Path) → s (c ∷ e ∷ path) ≡ start_at x (c ∷ e ∷ path)

  module _ (m k : ℕ) (at : InTree d (suc m) k)
      (kids : (e : ℕ) → InTree d m e → (s t : State) → ((c : ℕ) (path : Path) → s (c ∷ path) ≡ start_at (tree_within d m e) (c ∷ path)) → ((c : ℕ) (path : Path) → t (c ∷ path) ≡ start_at (tree_within (with_counts d) m e) (c ∷ path))
      → Grown (tree_within d m e) none s t)
      (s t : State) (rows : RowsAlike d design m k at s t) (here : StartsBelow (tree_within d (suc m) k) s) (there : StartsBelow (tree_within (with_counts d) (suc m) k) t)
      (registers : (x : Counter) → In (counters (tree_within d (suc m) k)) x → t (x.register ∷ []) ≡ Register 0 false) where
    kids_start : (c : ℕ) (child : Instance) → cell_at (cells_of (tree_within d (suc m) k)) c ≡ OfInstance child → Grown child (at_cell c none) (under c s) (under c t)
    kids_start c child e = by (pair_at d design m k at.within c (child_few (tree_within d m) (component_at d k).cells c child e))
      where
        by : CellPair d design m k at.within c → Grown child (at_cell c none) (under c s) (under c t)
        by (row_pair row first second moved) = absurd (row_instance row child (sym first ∙ e))
        by (child_pair cell f stands is below first second moved) =
            subst (λ x. Grown x none (under c s) (under c t)) (instance_is (tree_within d m f) child (sym first ∙ e))
            (kids f (child_in_tree d design at cell f (in_at (component_at d k).cells c cell stands) is) (under c s) (under c t)
            (λ x path. here c x path ∙ child_start (cells_of (tree_within d (suc m) k)) c (tree_within d m f) (x ∷ path) first)
            (λ x path. there c x path ∙ child_start (cells_of (tree_within (with_counts d) (suc m) k)) c (tree_within (with_counts d) m f) (x ∷ path) second))

    pub node_start : Grown (tree_within d (suc m) k) none s t
    node_start = make_grown d design m k at none s t rows kids_start (λ x own. (false, registers x own))

  pub register_start : (m k : ℕ) (at : InTree d (suc m) k) (x : Counter) → In (counters (tree_within d (suc m) k)) x → start_at (tree_within (with_counts d) (suc m) k) (x.register ∷ []) ≡ Register 0 false
  register_start m k at x own =
      let c = register_there d k at.within (in_reach d at) x (subst (λ tree. In (counters tree) x) (is_whole d at) own) in
      start_row (cells_of (tree_within (with_counts d) (suc m) k)) x.register counter_row
      (at_row (tree_within (with_counts d) m) (component_at (with_counts d) k).cells x.register c.0 (record { name = primitives.Reg; numbers = 64 ∷ [] }) c.1 c.2)

  rows_start : (m k : ℕ) (at : InTree d (suc m) k) (c : ℕ) (row : Row) → cell_at (cells_of (tree_within d (suc m) k)) c ≡ OfRow row
      → start_at (tree_within (with_counts d) (suc m) k) (c ∷ []) ≡ start_at (tree_within d (suc m) k) (c ∷ [])
  rows_start m k at c row e = by (pair_at d design m k at.within c (subst (λ n. c < n) (count_for (tree_within d m) (component_at d k).cells) (row_within (cells_of (tree_within d (suc m) k)) c row e)))
    where
      by : CellPair d design m k at.within c → start_at (tree_within (with_counts d) (suc m) k) (c ∷ []) ≡ start_at (tree_within d (suc m) k) (c ∷ [])
      by (row_pair r first second moved) = start_row (cells_of (tree_within (with_counts d) (suc m) k)) c r second ∙ sym (start_row (cells_of (tree_within d (suc m) k)) c r first)
      by (child_pair cell f stands is below first second moved) = absurd (instance_row (tree_within d m f) row (sym first ∙ e))

  pub kids_start_grown : (m e : ℕ) → InTree d m e → (s t : State) → ((c : ℕ) (path : Path) → s (c ∷ path) ≡ start_at (tree_within d m e) (c ∷ path))
      → ((c : ℕ) (path : Path) → t (c ∷ path) ≡ start_at (tree_within (with_counts d) m e) (c ∷ path)) → Grown (tree_within d m e) none s t
  kids_start_grown zero e at s t here there = absurd at.deep_enough
  kids_start_grown (suc m) e at s t here there =
      node_start m e at (λ f below a b x y. kids_start_grown m f below a b x y) s t (λ c row h. there c [] ∙ rows_start m e at c row h ∙ sym (here c [])) (λ c x path. here c (x ∷ path)) (λ c x path. there c (x ∷ path))
      (λ x own. there x.register [] ∙ register_start m e at x own)

  -- LOADED WORDS: the words for the new memory stand last
  loaded_before : (es : List ℕ) (ws : List (List ℕ)) (e : ℕ) (w : List ℕ) (c : ℕ) (state : CellState) → length ws ≡ length es → (c ≡ e → ⊥) → loaded_at (es ++ e ∷ []) (ws ++ w ∷ []) c state ≡ loaded_at es ws c state
  loaded_before [] [] e w c state same differ = ap (λ b. if b then cell_states.with_words w state else state) (not_just e c differ)
  loaded_before [] (v ∷ ws) e w c state same differ = absurd (omega (arith, same))
  loaded_before (f ∷ es) [] e w c state same differ = absurd (omega (arith, same))
  loaded_before (f ∷ es) (v ∷ ws) e w c state same differ =
      ap (λ x. if just f c then cell_states.with_words v state else x) (loaded_before es ws e w c state (let less : suc (length ws) ≡ suc (length es) = same in omega (arith, less)) differ)

  loaded_none : (es : List ℕ) (ws : List (List ℕ)) (c : ℕ) (state : CellState) → ((f : ℕ) → In es f → c ≡ f → ⊥) → loaded_at es ws c state ≡ state
  loaded_none [] ws c state apart = refl
  loaded_none (f ∷ es) [] c state apart = refl
  loaded_none (f ∷ es) (v ∷ ws) c state apart =
      ap (λ b. if b then cell_states.with_words v state else loaded_at es ws c state) (not_just f c (apart f (inl refl))) ∙ loaded_none es ws c state (λ x i. apart x (inr i))

  loaded_last : (es : List ℕ) (ws : List (List ℕ)) (e : ℕ) (w : List ℕ) (state : CellState) → length ws ≡ length es → ((f : ℕ) → In es f → e ≡ f → ⊥) → loaded_at (es ++ e ∷ []) (ws ++ w ∷ []) e state ≡ cell_states.with_words w state
  loaded_last [] [] e w state same apart = ap (λ b. if b then cell_states.with_words w state else state) (just_same e)
  loaded_last [] (v ∷ ws) e w state same apart = absurd (omega (arith, same))
  loaded_last (f ∷ es) [] e w state same apart = absurd (omega (arith, same))
  loaded_last (f ∷ es) (v ∷ ws) e w state same apart =
      ap (λ b. if b then cell_states.with_words v state else loaded_at (es ++ e ∷ []) (ws ++ w ∷ []) e state) (not_just f e (apart f (inl refl)))
      ∙ loaded_last es ws e w state (let less : suc (length ws) ≡ suc (length es) = same in omega (arith, less)) (λ x i. apart x (inr i))

  externals_joined : (c : ℕ) (xs ys : List PlainCell) (n : ℕ) → n ≡ c + length xs → externals_from c (xs ++ ys) ≡ externals_from c xs ++ externals_from n ys
  externals_joined c [] ys n e = let same : n ≡ c = omega (arith, e) in ap (λ x. externals_from x ys) (sym same)
  externals_joined c (x ∷ xs) ys n e = ap (if_external x.external c) (externals_joined (suc c) xs ys n (omega (arith, e))) ∙ pulled x.external c (externals_from (suc c) xs) (externals_from n ys)
    where
      pulled : (b : Bool) (c : ℕ) (first rest : List ℕ) → if_external b c (first ++ rest) ≡ if_external b c first ++ rest
      pulled true c first rest = refl
      pulled false c first rest = refl

  no_externals : (place : Place) (names : List (List ℕ)) (n own c : ℕ) → externals_from c (counter_cells place names n own) ≡ []
  no_externals place names n zero c = refl
  no_externals place names n (suc own) c = no_externals place names (suc (suc n)) own (suc (suc c))

  -- an external memory is a primitive cell of main
  pub external_there : (c : ℕ) (cells : List PlainCell) (e : ℕ) → In (externals_from c cells) e → (n : ℕ) × (cell : PlainCell) × (slice_get cells n ≡ Some cell) × (cell.external ≡ true) × (e ≡ c + n)
  external_there c [] e i = absurd i
  external_there c (x ∷ xs) e i = by x.external refl i (external_there (suc c) xs e)
    where
      by : (b : Bool) → x.external ≡ b → In (if_external b c (externals_from (suc c) xs)) e
          → (In (externals_from (suc c) xs) e → (n : ℕ) × (cell : PlainCell) × (slice_get xs n ≡ Some cell) × (cell.external ≡ true) × (e ≡ suc c + n))
          → (n : ℕ) × (cell : PlainCell) × (slice_get (x ∷ xs) n ≡ Some cell) × (cell.external ≡ true) × (e ≡ c + n)
      by true is (inl h) next = (0, x, refl, is, omega (arith, h))
      by true is (inr j) next = let r = next j in let number : e ≡ suc c + r.0 = r.4 in (suc r.0, r.1, r.2, r.3, omega (arith, number))
      by false is j next = let r = next j in let number : e ≡ suc c + r.0 = r.4 in (suc r.0, r.1, r.2, r.3, omega (arith, number))

  module _ (m k : ℕ) (at : InTree d (suc m) k) (names : List (List ℕ)) (is : component_at (with_counts d) k ≡ main_component d k names) where
    abbrev node : PlainComponent
    node = component_at d k

    abbrev memory : ℕ
    memory = length node.cells + 2 * length (counters (component_of d k))

    pub externals_grow : externals_of (component_at (with_counts d) k) ≡ externals_of node ++ memory ∷ []
    externals_grow =
        let added = counter_cells node.place names 0 (length (counters (component_of d k))) in
        let last = memory_cell node.place (name_at names (2 * length (counters (component_of d k)))) (length (shown_in (component_of d k))) ∷ [] in
        let total : memory ≡ length node.cells + length added = (let second : length added ≡ 2 * length (counters (component_of d k)) = counter_cells-length node.place names 0 (length (counters (component_of d k))) in omega (arith, second)) in
        ap externals_of is
        ∙ externals_joined 0 node.cells (added ++ last) (length node.cells) (omega arith)
        ∙ ap (λ list. externals_of node ++ list) (externals_joined (length node.cells) added last memory total
        ∙ ap (λ list. list ++ memory ∷ []) (no_externals node.place names 0 (length (counters (component_of d k))) (length node.cells)))

    pub external_row : (c : ℕ) → In (externals_of node) c → (c < length node.cells) × ((row : Row) × (cell_at (cells_of (tree_within d (suc m) k)) c ≡ OfRow row))
    external_row c i = by (external_there 0 node.cells c i)
      where
        by : (n : ℕ) × (cell : PlainCell) × (slice_get node.cells n ≡ Some cell) × (cell.external ≡ true) × (c ≡ 0 + n) → (c < length node.cells) × ((row : Row) × (cell_at (cells_of (tree_within d (suc m) k)) c ≡ OfRow row))
        by (n, cell, stands, external, number) =
            let same : n ≡ c = omega (arith, number) in
            let few : n < length node.cells = slice_get_within node.cells n cell stands in
            let known : IsExternal d k cell.kind = ((design.components k at.within).cells cell (in_at node.cells n cell stands)).external external in
            subst (λ x. (x < length node.cells) × ((row : Row) × (cell_at (cells_of (tree_within d (suc m) k)) x ≡ OfRow row))) same (few, of_kind n cell stands cell.kind refl known)
          where
            of_kind : (n : ℕ) (cell : PlainCell) → slice_get node.cells n ≡ Some cell → (kind : PlainKind) → cell.kind ≡ kind → IsExternal d k kind → (row : Row) × (cell_at (cells_of (tree_within d (suc m) k)) n ≡ OfRow row)
            of_kind n cell stands (OfPrimitive primitive) is external = (row_of primitive, at_row (tree_within d m) node.cells n cell primitive stands is)
            of_kind n cell stands (OfComponent x) is external = absurd external

    module _ (words : List (List ℕ)) (new : List ℕ) (fits : length words ≡ length (externals_of node)) where
      other_memory : (c : ℕ) → c < length node.cells → c ≡ memory → ⊥
      other_memory c few e = omega (arith, few, e)

      pub start_grown : Grown (tree_within d (suc m) k) none (start (tree_within d (suc m) k) words) (start (tree_within (with_counts d) (suc m) k) (words ++ new ∷ []))
      start_grown =
          node_start m k at (λ e below a b x y. kids_start_grown m e below a b x y) (start (tree_within d (suc m) k) words) (start (tree_within (with_counts d) (suc m) k) (words ++ new ∷ []))
          (λ c row e.
          let few : c < length node.cells = subst (λ n. c < n) (count_for (tree_within d m) node.cells) (row_within (cells_of (tree_within d (suc m) k)) c row e) in
          loaded_there c (other_memory c few) ∙ ap (loaded_at (externals_of node) words c) (rows_start m k at c row e))
          (λ c e path. refl) (λ c e path. refl)
          (λ x own. registers x own)
        where
          counter_number : (x : Counter) → In (counters (tree_within d (suc m) k)) x → (n : ℕ) × (n < length (counters (component_of d k))) × (x.register ≡ length node.cells + 2 * n)
          counter_number x own =
              let listed = subst (λ list. In list x) (own_counters d k) (subst (λ tree. In (counters tree) x) (is_whole d at) own) in
              let r = in_counters (cells_of (component_of d k)) (length node.cells) 0 node.groups x listed in
              (r.0, subst (λ list. r.0 < length list) (sym (own_counters d k)) r.1, r.2)

          loaded_there : (c : ℕ) → (c ≡ memory → ⊥) → start (tree_within (with_counts d) (suc m) k) (words ++ new ∷ []) (c ∷ []) ≡ loaded_at (externals_of node) words c (start_at (tree_within (with_counts d) (suc m) k) (c ∷ []))
          loaded_there c differ =
              ap (λ es. loaded_at es (words ++ new ∷ []) c (start_at (tree_within (with_counts d) (suc m) k) (c ∷ []))) externals_grow
              ∙ loaded_before (externals_of node) words memory new c (start_at (tree_within (with_counts d) (suc m) k) (c ∷ [])) fits differ

          registers : (x : Counter) → In (counters (tree_within d (suc m) k)) x → start (tree_within (with_counts d) (suc m) k) (words ++ new ∷ []) (x.register ∷ []) ≡ Register 0 false
          registers x own =
              let number = counter_number x own in
              let first : x.register ≡ length node.cells + 2 * number.0 = number.2 in
              let few : number.0 < length (counters (component_of d k)) = number.1 in
              loaded_there x.register (λ e. omega (arith, first, few, e))
              ∙ loaded_none (externals_of node) words x.register (start_at (tree_within (with_counts d) (suc m) k) (x.register ∷ [])) (λ f i e. let less : f < length node.cells = (external_row f i).0 in omega (arith, less, first, e))
              ∙ register_start m k at x own

      pub memory_start : cell_at (cells_of (tree_within (with_counts d) (suc m) k)) memory ≡ OfRow (memory_row 64 (length (shown_in (component_of d k)) ∷ []) (address_width (length (shown_in (component_of d k))) ∷ []))
          → start (tree_within (with_counts d) (suc m) k) (words ++ new ∷ []) (memory ∷ []) ≡ Memory new false
      memory_start here =
          ap (λ es. loaded_at es (words ++ new ∷ []) memory (start_at (tree_within (with_counts d) (suc m) k) (memory ∷ []))) externals_grow
          ∙ loaded_last (externals_of node) words memory new (start_at (tree_within (with_counts d) (suc m) k) (memory ∷ [])) fits (λ f i e. let few : f < length node.cells = (external_row f i).0 in omega (arith, few, e))
          ∙ ap (cell_states.with_words new) (start_row (cells_of (tree_within (with_counts d) (suc m) k)) memory (memory_row 64 (length (shown_in (component_of d k)) ∷ []) (address_width (length (shown_in (component_of d k))) ∷ [])) here)
