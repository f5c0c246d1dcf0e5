-- THE EXTERNAL MEMORIES of the shared design are those of the design, and its start stands for the start; no component has a cell more.
use Rattle.std.proofs.Common.{◌≡◌, ℕ, zero, suc, ◌+◌, ◌<◌, ◌≤◌, inl, inr, Bool, true, false, List, [], ◌∷◌, length, map, refl, sym, ap, ◌∙◌, subst, arith}
use Rattle.std.specs.Prelude.{if◌then◌else◌, not}
use Rattle.std.proofs.lemmas.Bool.{both_ways}
use Rattle.cx_text.specs.Members.{In}
use Rattle.cx_text.proofs.ListLaws.{length-map}
use Rattle.cx_prim.specs.CellStates.{CellState, StateShape, NoState, RegisterOf, MemoryOf, SequentialMemoryOf, MultiplierOf, DividerOf, TimerOf}
use Rattle.cx_prim.specs.CellStates as cell_states
use Rattle.cx_prim.specs.Rows.{Row}
use Rattle.cx_prim.specs.Table.{PrimitiveRow, row_of}
use Rattle.cx_meaning.specs.Designs.{PlainKind, OfPrimitive, OfComponent, PlainCell, PlainComponent, PlainDesign, component_at}
use Rattle.cx_meaning.specs.Instances.{Instance, OfRow, cell_at, cells_of, part_of, tree_within, tree_of, Path, State, just, start_at, if_external, externals_from, externals_of, loaded_at, start, words_of}
use Rattle.cx_meaning.proofs.DesignsLemmas.{same_part}
use Rattle.cx_meaning.proofs.InstancesLemmas.{some_cells, at_kind}
use Rattle.cx_rules.specs.Accepted.{IsAccepted}
use Rattle.cx_rules.specs.Externals.{rows_of, external_rows}
use Rattle.cx_rules.specs.Externals as externals
use Rattle.cx_rules.specs.Wellformed.{IsDesign, is_memory, IsExternal}
use Rattle.cx_rewrites.specs.Standing.{holds, renumbered, renumbered_below}
use Rattle.cx_sharing.specs.Uses.{is_stateless, kind_in, is_candidate}
use Rattle.cx_sharing.specs.Giving.{stays, staying, new_cell}
use Rattle.cx_sharing.specs.SharedDesign.{remaining, shared_part, shared_design}
use Rattle.cx_sharing.specs.Following.{has_state, SharedStands}
use Rattle.cx_sharing.proofs.RemainingLemmas.{length_left, cell_is}
use Rattle.cx_sharing.proofs.TwinLemmas.{IsTwin, shared_component, stays_is, other_stays, state_other, own_equal_back}
use Rattle.cx_sharing.proofs.TwinStates.{HoldsAt, itself, in_child, holds_at, held_other, of_path, path_of, root_of, row_path, row_state, child_renumbered, start_state}
use Rattle.cx_sharing.proofs.SharedTrees.{tree_is_twin}

-- EXTERNAL CELLS of a list, the first of which has number c, are in a set
abbrev pub KeepsExternals : (ℕ → Bool) → ℕ → List PlainCell → Type 0
KeepsExternals set c [] = Unit {0}
KeepsExternals set c (cell ∷ cells) = (cell.external ≡ true → set c ≡ true) × KeepsExternals set (suc c) cells

-- they keep their order, by their numbers among those that are left
pub externals-left : (set : ℕ → Bool) (number : ℕ → ℕ) → ((c : ℕ) → set c ≡ true → number c ≡ staying set c) → (c : ℕ) (cells : List PlainCell) → KeepsExternals set c cells
    → externals_from (staying set c) (remaining set c cells) ≡ map number (externals_from c cells)
externals-left set number is c [] kept = refl
externals-left set number is c (cell ∷ cells) (here, rest) = by (set c) refl cell.external refl (externals-left set number is (suc c) cells rest)
  where
    by : (b : Bool) → set c ≡ b → (x : Bool) → cell.external ≡ x → externals_from (if b then suc (staying set c) else staying set c) (remaining set (suc c) cells) ≡ map number (externals_from (suc c) cells)
        → externals_from (staying set c) (if b then cell ∷ remaining set (suc c) cells else remaining set (suc c) cells) ≡ map number (if_external cell.external c (externals_from (suc c) cells))
    by true on true e later =
        ap (λ x. if_external x (staying set c) (externals_from (suc (staying set c)) (remaining set (suc c) cells))) e
        ∙ ap (λ list. staying set c ∷ list) later
        ∙ ap (λ n. n ∷ map number (externals_from (suc c) cells)) (sym (is c on))
        ∙ ap (λ x. map number (if_external x c (externals_from (suc c) cells))) (sym e)
    by true on false e later =
        ap (λ x. if_external x (staying set c) (externals_from (suc (staying set c)) (remaining set (suc c) cells))) e
        ∙ later
        ∙ ap (λ x. map number (if_external x c (externals_from (suc c) cells))) (sym e)
    by false off true e later = absurd (both_ways (set c) off (here e))
    by false off false e later = later ∙ ap (λ x. map number (if_external x c (externals_from (suc c) cells))) (sym e)

-- and their rows
pub rows-left : (set : ℕ → Bool) (c : ℕ) (cells : List PlainCell) → KeepsExternals set c cells → rows_of (remaining set c cells) ≡ rows_of cells
rows-left set c [] kept = refl
rows-left set c (cell ∷ cells) (here, rest) = by (set c) refl cell.external refl (rows-left set (suc c) cells rest)
  where
    by : (b : Bool) → set c ≡ b → (x : Bool) → cell.external ≡ x → rows_of (remaining set (suc c) cells) ≡ rows_of cells
        → rows_of (if b then cell ∷ remaining set (suc c) cells else remaining set (suc c) cells) ≡ externals.if_external cell.external cell (rows_of cells)
    by true on x e later = ap (externals.if_external cell.external cell) later
    by false off true e later = absurd (both_ways (set c) off (here e))
    by false off false e later = later ∙ ap (λ x. externals.if_external x cell (rows_of cells)) (sym e)

-- an external cell, by its number
record IsExternalAt (cells : List PlainCell) (base e : ℕ) : Type 0 where
  place : ℕ
  number : e ≡ base + place
  within : place < length cells
  cell : PlainCell
  stands : In cells cell
  kind : kind_in cells place ≡ cell.kind
  external : cell.external ≡ true

external_at : (base : ℕ) (cells : List PlainCell) (e : ℕ) → In (externals_from base cells) e → IsExternalAt cells base e
external_at base [] e i = absurd i
external_at base (cell ∷ cells) e i = by cell.external refl i (external_at (suc base) cells e)
  where
    later : IsExternalAt cells (suc base) e → IsExternalAt (cell ∷ cells) base e
    later r =
        let number = r.number in let within = r.within in
        record { place = suc r.place; number = omega (arith, number); within = omega (arith, within); cell = r.cell; stands = inr r.stands; kind = r.kind; external = r.external }

    by : (x : Bool) → cell.external ≡ x → In (if_external x base (externals_from (suc base) cells)) e → (In (externals_from (suc base) cells) e → IsExternalAt cells (suc base) e) → IsExternalAt (cell ∷ cells) base e
    by true on (inl same) further = record { place = 0; number = omega (arith, same); within = omega arith; cell = cell; stands = inl refl; kind = refl; external = on }
    by true on (inr k) further = later (further k)
    by false off k further = later (further k)

memory_holds : (shape : StateShape) → is_memory shape ≡ true → is_stateless shape ≡ false
memory_holds NoState e = absurd (cc)
memory_holds (RegisterOf width) e = refl
memory_holds (MemoryOf width count) e = refl
memory_holds (SequentialMemoryOf width count) e = refl
memory_holds (MultiplierOf width latency) e = refl
memory_holds (DividerOf width latency) e = refl
memory_holds (TimerOf length) e = refl

-- what is external is a memory
record IsMemory (kind : PlainKind) : Type 0 where
  primitive : PrimitiveRow
  is : kind ≡ OfPrimitive primitive
  holds_words : is_stateless (row_of primitive).shape ≡ false

external_is : (d : PlainDesign) (k : ℕ) (kind : PlainKind) → IsExternal d k kind → IsMemory kind
external_is d k (OfPrimitive p) h = record { primitive = p; is = refl; holds_words = memory_holds (row_of p).shape h.1 }
external_is d k (OfComponent j) h = absurd h

-- THE EXTERNAL CELLS of a component of a design stay
keeps_all : (part : PlainComponent) (c : ℕ) (cells : List PlainCell) → ((k : ℕ) → k < length cells → kind_in part.cells (c + k) ≡ kind_in cells k)
    → ((cell : PlainCell) → In cells cell → cell.external ≡ true → IsMemory cell.kind) → KeepsExternals (stays part) c cells
keeps_all part c [] kinds memories = tt
keeps_all part c (cell ∷ cells) kinds memories = (
  first,
  keeps_all part (suc c) cells
      (λ k lt. let next : suc c + k ≡ c + suc k = omega arith in ap (kind_in part.cells) next ∙ kinds (suc k) (omega (arith, lt)))
      (λ x i on. memories x (inr i) on),
)
  where
    first : cell.external ≡ true → stays part c ≡ true
    first on =
        let here : c ≡ c + 0 = omega arith in
        let some : 0 < suc (length cells) = omega arith in
        let memory = memories cell (inl refl) on in
        let kind : kind_in part.cells c ≡ OfPrimitive memory.primitive = ap (kind_in part.cells) here ∙ kinds 0 some ∙ memory.is in
        other_stays part c (state_other part c memory.primitive kind memory.holds_words)

module _ (d : PlainDesign) (design : IsDesign d) where
  abbrev main : PlainComponent
  main = component_at d d.main

  memory_of : (cell : PlainCell) → In main.cells cell → cell.external ≡ true → IsMemory cell.kind
  memory_of cell i on = external_is d d.main cell.kind (((design.components d.main design.main_there).cells cell i).external on)

  keeps_main : KeepsExternals (stays main) 0 main.cells
  keeps_main = keeps_all main 0 main.cells (λ k lt. let first : 0 + k ≡ k = omega arith in ap (kind_in main.cells) first) memory_of

  -- THE ROWS of the external memories are the same
  pub rows_shared : external_rows (shared_design d) ≡ external_rows d
  rows_shared = ap (λ (x : PlainComponent). rows_of x.cells) (shared_component d d.main) ∙ rows-left (stays main) 0 main.cells keeps_main

module _ (i j : Instance) (twin : IsTwin i j) (kept : KeepsExternals (stays (part_of i)) 0 (part_of i).cells) where
  pub externals_shared : externals_of (part_of j) ≡ map (new_cell (part_of i)) (externals_of (part_of i))
  externals_shared = ap externals_of twin.part ∙ externals-left (stays (part_of i)) (new_cell (part_of i)) (stays_is (part_of i)) 0 (part_of i).cells kept

  -- THE START stands for the start
  loaded_shared : (es : List ℕ) (words : List (List ℕ)) (c : ℕ) (d : CellState) → is_candidate (part_of i) c ≡ false
      → loaded_at (map (new_cell (part_of i)) es) words (new_cell (part_of i) c) d ≡ loaded_at es words c d
  loaded_shared [] words c d other = refl
  loaded_shared (e ∷ es) [] c d other = refl
  loaded_shared (e ∷ es) (w ∷ ws) c d other =
      ap (λ b. if b then cell_states.with_words w d else loaded_at (map (new_cell (part_of i)) es) ws (new_cell (part_of i) c) d) (own_equal_back (part_of i) e c other)
      ∙ ap (λ x. if just e c then cell_states.with_words w d else x) (loaded_shared es ws c d other)

  row_start_shared : (words : List (List ℕ)) (c : ℕ) (row : Row) → cell_at (cells_of i) c ≡ OfRow row → has_state row ≡ true → holds has_state i (c ∷ []) ≡ true
      → start j words (renumbered new_cell i (c ∷ [])) ≡ start i words (c ∷ [])
  row_start_shared words c row at has on =
      ap (start j words) (row_path i c row at)
      ∙ ap (λ es. loaded_at es words (new_cell (part_of i) c) (start_at j (new_cell (part_of i) c ∷ []))) externals_shared
      ∙ ap (loaded_at (map (new_cell (part_of i)) (externals_of (part_of i))) words (new_cell (part_of i) c)) (ap (start_at j) (sym (row_path i c row at)) ∙ start_state i j twin (c ∷ []) on)
      ∙ loaded_shared (externals_of (part_of i)) words c (start_at i (c ∷ [])) (held_other i j twin c [] (itself row at refl has))

  child_start_shared : (words : List (List ℕ)) (c : ℕ) (path : Path) (child : Instance) → HoldsAt (cells_of i) c path → holds has_state child path ≡ true → holds has_state i (c ∷ path) ≡ true
      → renumbered_below new_cell (cells_of i) c path ≡ renumbered new_cell child path → start j words (renumbered new_cell i (c ∷ path)) ≡ start i words (c ∷ path)
  child_start_shared words c [] child at has on below = absurd (both_ways (holds has_state child []) (root_of child) has)
  child_start_shared words c (e ∷ path) child at has on below =
      let there : renumbered new_cell i (c ∷ e ∷ path) ≡ new_cell (part_of i) c ∷ new_cell (part_of child) e ∷ renumbered_below new_cell (cells_of child) e path =
      path_of i c (e ∷ path) ∙ ap (λ rest. new_cell (part_of i) c ∷ rest) (below ∙ path_of child e path) in
      ap (start j words) there ∙ ap (start_at j) (sym there) ∙ start_state i j twin (c ∷ e ∷ path) on

  pub start_shared : (words : List (List ℕ)) → SharedStands i (start i words) (start j words)
  start_shared words [] on = absurd (both_ways (holds has_state i []) (root_of i) on)
  start_shared words (c ∷ path) on = by (holds_at (cells_of i) c path (sym (of_path i c path) ∙ on))
    where
      by : HoldsAt (cells_of i) c path → start j words (renumbered new_cell i (c ∷ path)) ≡ start i words (c ∷ path)
      by (itself row at root has) =
          ap (λ rest. start j words (renumbered new_cell i (c ∷ rest))) root
          ∙ row_start_shared words c row at has (ap (λ rest. holds has_state i (c ∷ rest)) (sym root) ∙ on)
          ∙ ap (λ rest. start i words (c ∷ rest)) (sym root)
      by (in_child child at has) = child_start_shared words c path child (in_child child at has) has on (child_renumbered (cells_of i) c child path at)

  -- THE WORDS of the external memories, where each of them is a memory
  map_both : {A : Type 0} (f g : ℕ → A) (list : List ℕ) → ((c : ℕ) → In list c → f (new_cell (part_of i) c) ≡ g c) → map f (map (new_cell (part_of i)) list) ≡ map g list
  map_both f g [] same = refl
  map_both f g (c ∷ rest) same = ap (λ x. x ∷ map f (map (new_cell (part_of i)) rest)) (same c (inl refl)) ∙ ap (λ xs. g c ∷ xs) (map_both f g rest (λ e k. same e (inr k)))

  pub words_shared : (s z : State) → SharedStands i s z → ((c : ℕ) → In (externals_of (part_of i)) c → (row : Row) × (cell_at (cells_of i) c ≡ OfRow row) × (has_state row ≡ true)) → words_of j z ≡ words_of i s
  words_shared s z stands memories =
      ap (map (λ c. cell_states.words_of (z (c ∷ [])))) externals_shared
      ∙ map_both (λ c. cell_states.words_of (z (c ∷ []))) (λ c. cell_states.words_of (s (c ∷ []))) (externals_of (part_of i))
      (λ c k. let r = memories c k in ap cell_states.words_of (row_state i s z c r.0 stands r.1 r.2))

module _ (d : PlainDesign) (design : IsDesign d) (accepted : IsAccepted d) where
  -- the tree of the shared design has as many levels
  abbrev twin_tree : Instance
  twin_tree = tree_within (shared_design d) (length d.components) d.main

  pub tree_shared : tree_of (shared_design d) ≡ twin_tree
  tree_shared = ap (λ n. tree_within (shared_design d) n d.main) (length-map shared_part d.components)

  pub twins : IsTwin (tree_of d) twin_tree
  twins = tree_is_twin d design accepted (length d.components) d.main

  pub kept : KeepsExternals (stays (part_of (tree_of d))) 0 (part_of (tree_of d)).cells
  kept = subst (λ (x : PlainComponent). KeepsExternals (stays x) 0 x.cells) (sym (same_part d (length d.components) d.main)) (keeps_main d design)

  pub memories : (c : ℕ) → In (externals_of (part_of (tree_of d))) c → (row : Row) × (cell_at (cells_of (tree_of d)) c ≡ OfRow row) × (has_state row ≡ true)
  memories c i =
      let main : PlainComponent = component_at d d.main in
      let r = external_at 0 main.cells c (subst (λ x. In (externals_of x) c) (same_part d (length d.components) d.main) i) in
      let memory = memory_of d design r.cell r.stands r.external in
      let there = design.main_there in
      let cells = some_cells d (length d.components) d.main (omega (arith, there)) in
      let number = r.number in
      let place : r.place ≡ c = omega (arith, number) in
      let within = r.within in
      let kind : kind_in main.cells c ≡ OfPrimitive memory.primitive = ap (kind_in main.cells) (sym place) ∙ r.kind ∙ memory.is in (
        row_of memory.primitive,
        ap (λ x. cell_at x c) cells.1 ∙ cell_is cells.0 main.cells c (omega (arith, within, place)) ∙ ap (at_kind cells.0) kind,
        ap not memory.holds_words,
      )

-- NO COMPONENT HAS A CELL MORE
pub staying_most : (set : ℕ → Bool) (c : ℕ) → staying set c ≤ c
staying_most set zero = omega arith
staying_most set (suc c) = by (set c) (staying_most set c)
  where
    by : (b : Bool) → staying set c ≤ c → (if b then suc (staying set c) else staying set c) ≤ suc c
    by true le = omega (arith, le)
    by false le = omega (arith, le)

pub fewer_cells : (d : PlainDesign) (k : ℕ) → length (component_at (shared_design d) k).cells ≤ length (component_at d k).cells
fewer_cells d k =
    let part : PlainComponent = component_at d k in
    let same : length (component_at (shared_design d) k).cells ≡ staying (stays part) (length part.cells) = ap (λ (x : PlainComponent). length x.cells) (shared_component d k) ∙ length_left (stays part) part.cells in
    let most = staying_most (stays part) (length part.cells) in
    omega (arith, same, most)
