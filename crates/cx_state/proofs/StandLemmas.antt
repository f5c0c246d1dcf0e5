-- States for which the same rows stand agree on all primitive cells.
use Rattle.std.proofs.Common.{◌≡◌, ℕ, zero, suc, ◌+◌, ◌<◌, List, [], ◌∷◌, ◌++◌, length, get_or, Option, Some, None, option_map, refl, sym, ap, ◌∙◌, subst, arith}
use Rattle.std.specs.List.{slice_get}
use Rattle.std.proofs.lemmas.List.{length-map}
use Rattle.std.proofs.lemmas.Option.{slice_get-map}
use Rattle.cx_prim.specs.CellStates.{CellState}
use Rattle.cx_prim.specs.Rows.{Row}
use Rattle.cx_meaning.specs.Designs.{PlainKind, OfPrimitive, OfComponent, PlainCell, PlainDesign, component_at}
use Rattle.cx_meaning.specs.Instances.{Instance, Node, Cells, no_cells, a_primitive, an_instance, OfRow, add_cell, cells_for, cell_at, cells_of, part_of, Path, State, under, behind, paths_of, paths_below, instance_at, child_at, tree_within, tree_of}
use Rattle.cx_rules.specs.Sizes.{instances_below}
use Rattle.cx_rules.proofs.CircleLemmas.{Reached, a_tree, no_tree, reached}
use Rattle.cx_state.proofs.TreeLemmas.{count_paths}
use Rattle.cx_state.specs.States.{PlainInstance, instance_state, cell_held, StandsFor, HoldsKind, HoldCells, FitsPart, IsStateOf}
use Rattle.cx_state.proofs.AlikeLemmas.{Alike, AlikeBelow}
use Rattle.cx_meaning.proofs.InstancesLemmas.{kind_skip}
use Rattle.cx_text.proofs.ListLaws.{append-front, behind as slice_get-append, there_below}

module _ (child : Instance) (rest : Cells) (k : ℕ) where
  pub size : length (behind k (paths_of child)) ≡ instances_below child
  size = length-map (paths_of child) (λ path. k ∷ path) ∙ count_paths child

  inside : (j : ℕ) (x : Path) → slice_get (paths_of child) j ≡ Some x → slice_get (paths_below (an_instance child rest) k) j ≡ Some ((k + 0) ∷ x)
  inside j x e =
      let lt : j < length (paths_of child) = there_below (paths_of child) j x e in
      let within : j < length (behind k (paths_of child)) = subst (λ n. j < n) (sym (length-map (paths_of child) (λ path. k ∷ path))) lt in
      let same : k ≡ k + 0 = omega arith in
      append-front (behind k (paths_of child)) (paths_below rest (suc k)) j within
      ∙ slice_get-map (λ path. k ∷ path) (paths_of child) j
      ∙ ap (option_map (λ path. k ∷ path)) e
      ∙ ap (λ n. Some (n ∷ x)) same

  pub past : (j : ℕ) → slice_get (paths_below (an_instance child rest) k) (instances_below child + j) ≡ slice_get (paths_below rest (suc k)) j
  past j = slice_get-append (behind k (paths_of child)) (paths_below rest (suc k)) (instances_below child + j) j (omega (arith, size))

pub shift : (k e : ℕ) → suc k + e ≡ k + suc e
shift k e = omega arith

-- what the rows from number n on say of a tree
abbrev pub StandsFrom : Instance → List PlainInstance → ℕ → State → Type 0
StandsFrom i rows n s = (j c : ℕ) (p : Path) (held : CellState) → slice_get (paths_of i) j ≡ Some p → cell_held rows (n + j) c ≡ Some held → s (p ++ c ∷ []) ≡ held

abbrev pub HoldsFrom : Instance → List PlainInstance → ℕ → Type 0
HoldsFrom i rows n = (j c : ℕ) (p : Path) (row : Row) → slice_get (paths_of i) j ≡ Some p → cell_at (cells_of (instance_at i p)) c ≡ OfRow row → (held : CellState) × (cell_held rows (n + j) c ≡ Some held)

-- the same of cells, of which the first has the number k and the first instance the number n
abbrev StandsBelow : Cells → ℕ → List PlainInstance → ℕ → (ℕ → State) → Type 0
StandsBelow cells k rows n s = (j e c : ℕ) (q : Path) (held : CellState) → slice_get (paths_below cells k) j ≡ Some ((k + e) ∷ q) → cell_held rows (n + j) c ≡ Some held → s e (q ++ c ∷ []) ≡ held

abbrev HoldsBelow : Cells → ℕ → List PlainInstance → ℕ → Type 0
HoldsBelow cells k rows n =
    (j e c : ℕ) (q : Path) (row : Row) → slice_get (paths_below cells k) j ≡ Some ((k + e) ∷ q) → cell_at (cells_of (child_at cells e q)) c ≡ OfRow row → (held : CellState) × (cell_held rows (n + j) c ≡ Some held)

later_stands : (one : Instance) (rest : Cells) (k : ℕ) (rows : List PlainInstance) (n : ℕ) (s : ℕ → State) → StandsBelow (an_instance one rest) k rows n s → StandsBelow rest (suc k) rows (n + instances_below one) (λ e. s (suc e))
later_stands one rest k rows n s h j e c q held at is =
    let number : n + instances_below one + j ≡ n + (instances_below one + j) = omega arith in
    h (instances_below one + j) (suc e) c q held (past one rest k j ∙ at ∙ ap (λ m. Some (m ∷ q)) (shift k e)) (ap (λ m. cell_held rows m c) (sym number) ∙ is)

later_holds : (one : Instance) (rest : Cells) (k : ℕ) (rows : List PlainInstance) (n : ℕ) → HoldsBelow (an_instance one rest) k rows n → HoldsBelow rest (suc k) rows (n + instances_below one)
later_holds one rest k rows n h j e c q row at is =
    let number : n + (instances_below one + j) ≡ n + instances_below one + j = omega arith in
    let r = h (instances_below one + j) (suc e) c q row (past one rest k j ∙ at ∙ ap (λ m. Some (m ∷ q)) (shift k e)) is in
    (r.0, ap (λ m. cell_held rows m c) (sym number) ∙ r.1)

pub none_more : (e : ℕ) → 0 + e ≡ e
none_more e = omega arith

pub one_less : (n j : ℕ) → n + suc j ≡ suc n + j
one_less n j = omega arith

mutual
  pub alike : (i : Instance) (rows : List PlainInstance) (n : ℕ) (s t : State) → StandsFrom i rows n s → StandsFrom i rows n t → HoldsFrom i rows n → Alike i s t
  alike (Node part cells) rows n s t hs ht holds =
      alike_below cells 0 rows (suc n) (λ c. under c s) (λ c. under c t)
      (λ e row at. let r = holds 0 e [] row refl at in hs 0 e [] r.0 refl r.1 ∙ sym (ht 0 e [] r.0 refl r.1))
      (λ j e c q held at is. hs (suc j) c (e ∷ q) held (at ∙ ap (λ m. Some (m ∷ q)) (none_more e)) (ap (λ m. cell_held rows m c) (one_less n j) ∙ is))
      (λ j e c q held at is. ht (suc j) c (e ∷ q) held (at ∙ ap (λ m. Some (m ∷ q)) (none_more e)) (ap (λ m. cell_held rows m c) (one_less n j) ∙ is))
      (λ j e c q row at is.
      let r = holds (suc j) c (e ∷ q) row (at ∙ ap (λ m. Some (m ∷ q)) (none_more e)) is in
      (r.0, ap (λ m. cell_held rows m c) (sym (one_less n j)) ∙ r.1))

  alike_below : (cells : Cells) (k : ℕ) (rows : List PlainInstance) (n : ℕ) (s t : ℕ → State) → ((e : ℕ) (row : Row) → cell_at cells e ≡ OfRow row → s e [] ≡ t e []) → StandsBelow cells k rows n s → StandsBelow cells k rows n t
      → HoldsBelow cells k rows n → AlikeBelow cells s t
  alike_below no_cells k rows n s t own hs ht holds = tt
  alike_below (a_primitive row rest) k rows n s t own hs ht holds = (
    own 0 row refl,
    alike_below rest (suc k) rows n (λ e. s (suc e)) (λ e. t (suc e)) (λ e r at. own (suc e) r at)
        (λ j e c q held at is. hs j (suc e) c q held (at ∙ ap (λ m. Some (m ∷ q)) (shift k e)) is)
        (λ j e c q held at is. ht j (suc e) c q held (at ∙ ap (λ m. Some (m ∷ q)) (shift k e)) is)
        (λ j e c q r at is. holds j (suc e) c q r (at ∙ ap (λ m. Some (m ∷ q)) (shift k e)) is),
  )
  alike_below (an_instance child rest) k rows n s t own hs ht holds = (
    alike child rows n (s 0) (t 0)
        (λ j c p held at is. hs j 0 c p held (inside child rest k j p at) is)
        (λ j c p held at is. ht j 0 c p held (inside child rest k j p at) is)
        (λ j c p row at is. holds j 0 c p row (inside child rest k j p at) is),
    alike_below rest (suc k) rows (n + instances_below child) (λ e. s (suc e)) (λ e. t (suc e)) (λ e r at. own (suc e) r at)
        (later_stands child rest k rows n s hs) (later_stands child rest k rows n t ht) (later_holds child rest k rows n holds),
  )

-- a primitive cell of a state of the design holds something
kind_holds : (trees : ℕ → Instance) (kind : PlainKind) (rest : Cells) (row : Row) (h : Option CellState) → HoldsKind kind h → cell_at (add_cell trees kind rest) zero ≡ OfRow row → (held : CellState) × (h ≡ Some held)
kind_holds trees (OfPrimitive p) rest row None k e = absurd k
kind_holds trees (OfPrimitive p) rest row (Some held) k e = (held, refl)
kind_holds trees (OfComponent j) rest row h k e = cc

cells_hold : (trees : ℕ → Instance) (cells : List PlainCell) (hs : List (Option CellState)) (c : ℕ) (row : Row) → HoldCells cells hs → cell_at (cells_for trees cells) c ≡ OfRow row → (held : CellState) × (get_or hs c None ≡ Some held)
cells_hold trees [] hs c row k e = cc
cells_hold trees (x ∷ xs) [] c row k e = absurd k
cells_hold trees (x ∷ xs) (h ∷ hs) zero row k e = kind_holds trees x.kind (cells_for trees xs) row h k.0 e
cells_hold trees (x ∷ xs) (h ∷ hs) (suc c) row k e = cells_hold trees xs hs c row k.1 (sym (kind_skip trees x.kind (cells_for trees xs) c) ∙ e)

reached_holds : (d : PlainDesign) (i : Instance) → Reached d i → (x : PlainInstance) (c : ℕ) (row : Row) → FitsPart (part_of i) x → cell_at (cells_of i) c ≡ OfRow row → (held : CellState) × (get_or x.cells c None ≡ Some held)
reached_holds d i (a_tree zero k) x c row fits e = cc
reached_holds d i (a_tree (suc m) k) x c row fits e = cells_hold (tree_within d m) (component_at d k).cells x.cells c row fits.cells e
reached_holds d i no_tree x c row fits e = cc

holds_from : (d : PlainDesign) (rows : List PlainInstance) → IsStateOf d rows → HoldsFrom (tree_of d) rows 0
holds_from d rows state j c p row at e =
    let zero_and : 0 + j ≡ j = omega arith in
    let r = reached_holds d (instance_at (tree_of d) p) (reached d p (length d.components) d.main) (instance_state rows j) c row (state.fits j p at) e in
    (r.0, ap (λ m. cell_held rows m c) zero_and ∙ r.1)

pub stand_alike : (d : PlainDesign) (rows : List PlainInstance) (s t : State) → IsStateOf d rows → StandsFor (tree_of d) rows s → StandsFor (tree_of d) rows t → Alike (tree_of d) s t
stand_alike d rows s t state hs ht =
    alike (tree_of d) rows 0 s t
    (λ j c p held at is. hs j c p held at (let zero_and : 0 + j ≡ j = omega arith in ap (λ m. cell_held rows m c) (sym zero_and) ∙ is))
    (λ j c p held at is. ht j c p held at (let zero_and : 0 + j ≡ j = omega arith in ap (λ m. cell_held rows m c) (sym zero_and) ∙ is))
    (holds_from d rows state)
