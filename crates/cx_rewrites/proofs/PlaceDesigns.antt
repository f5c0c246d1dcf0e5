-- DESIGNS apart from places: their trees, their starts, and the run of main.
use Rattle.std.proofs.Common.{◌≡◌, ℕ, zero, suc, Bool, true, false, List, [], ◌∷◌, length, map, refl, sym, ap, ◌∙◌, subst}
use Rattle.std.proofs.Math.Path.{fun_ext}
use Rattle.cx_prim.specs.CellStates.{CellState}
use Rattle.cx_prim.specs.CellStates as cell_states
use Rattle.cx_prim.specs.Rows.{Row}
use Rattle.cx_meaning.specs.Designs.{PlainKind, OfPrimitive, OfComponent, PlainCell, PlainComponent, PlainDesign, component_at}
use Rattle.cx_meaning.specs.Instances.{Instance, Node, Cells, no_cells, a_primitive, an_instance, part_of, add_cell, cells_for, tree_within, tree_of, Path, State, start_at, start_below, if_external, externals_from, externals_of, loaded_at, start, words_of}
use Rattle.cx_meaning.specs.Sights.{unheld}
use Rattle.cx_meaning.specs.Running.{run_control, run_main}
use Rattle.cx_rules.specs.Externals.{row_for, rows_of, external_rows}
use Rattle.cx_rules.specs.Externals as externals
use Rattle.cx_rewrites.specs.Places.{unplaced_cell, SamePart, SameDesign}
use Rattle.cx_rewrites.proofs.PlaceLemmas.{SameTree, SameCells, same_parts}
use Rattle.cx_rewrites.proofs.PlaceRuns.{run_control-same}

-- THE START is the same, and the words
mutual
  start_at-same : (i j : Instance) → SameTree i j → (path : Path) → start_at i path ≡ start_at j path
  start_at-same (Node part cells) (Node other more) (h, hs) [] = refl
  start_at-same (Node part cells) (Node other more) (h, hs) (c ∷ path) = start_below-same cells more hs c path

  start_below-same : (cells more : Cells) → SameCells cells more → (c : ℕ) (path : Path) → start_below cells c path ≡ start_below more c path
  start_below-same no_cells no_cells h c path = refl
  start_below-same no_cells (a_primitive twin more) h c path = absurd h
  start_below-same no_cells (an_instance twin more) h c path = absurd h
  start_below-same (a_primitive row rest) no_cells h c path = absurd h
  start_below-same (a_primitive row rest) (a_primitive twin more) (e, h) zero path = ap (λ (r : Row). r.start) e
  start_below-same (a_primitive row rest) (a_primitive twin more) (e, h) (suc c) path = start_below-same rest more h c path
  start_below-same (a_primitive row rest) (an_instance twin more) h c path = absurd h
  start_below-same (an_instance child rest) no_cells h c path = absurd h
  start_below-same (an_instance child rest) (a_primitive twin more) h c path = absurd h
  start_below-same (an_instance child rest) (an_instance twin more) (t, h) zero path = start_at-same child twin t path
  start_below-same (an_instance child rest) (an_instance twin more) (t, h) (suc c) path = start_below-same rest more h c path

externals_from-unplaced : (c : ℕ) (cells : List PlainCell) → externals_from c (map unplaced_cell cells) ≡ externals_from c cells
externals_from-unplaced c [] = refl
externals_from-unplaced c (cell ∷ rest) = ap (if_external cell.external c) (externals_from-unplaced (suc c) rest)

externals_of-same : (part other : PlainComponent) → SamePart part other → externals_of part ≡ externals_of other
externals_of-same part other same = sym (externals_from-unplaced 0 part.cells) ∙ ap (externals_from 0) same.cells ∙ externals_from-unplaced 0 other.cells

pub start-same : (i j : Instance) → SameTree i j → (words : List (List ℕ)) → start i words ≡ start j words
start-same i j t words = fun_ext one
  where
    one : (path : Path) → start i words path ≡ start j words path
    one [] = start_at-same i j t []
    one (c ∷ []) =
        ap (λ es. loaded_at es words c (start_at i (c ∷ []))) (externals_of-same (part_of i) (part_of j) (same_parts i j t)) ∙ ap (loaded_at (externals_of (part_of j)) words c) (start_at-same i j t (c ∷ []))
    one (c ∷ e ∷ path) = start_at-same i j t (c ∷ e ∷ path)

pub words_of-same : (i j : Instance) → SameTree i j → (s : State) → words_of i s ≡ words_of j s
words_of-same i j t s = ap (map (λ c. cell_states.words_of (s (c ∷ [])))) (externals_of-same (part_of i) (part_of j) (same_parts i j t))

-- THE TREES of two designs that are the same
add_cell-same : (f g : ℕ → Instance) → ((k : ℕ) → SameTree (f k) (g k)) → (kind : PlainKind) (rest more : Cells) → SameCells rest more → SameCells (add_cell f kind rest) (add_cell g kind more)
add_cell-same f g h (OfPrimitive p) rest more same = (refl, same)
add_cell-same f g h (OfComponent k) rest more same = (h k, same)

cells_for-same : (f g : ℕ → Instance) → ((k : ℕ) → SameTree (f k) (g k)) → (cells more : List PlainCell) → map unplaced_cell cells ≡ map unplaced_cell more → SameCells (cells_for f cells) (cells_for g more)
cells_for-same f g h [] [] e = tt
cells_for-same f g h [] (x ∷ more) e = absurd (cc)
cells_for-same f g h (c ∷ cells) [] e = absurd (cc)
cells_for-same f g h (c ∷ cells) (x ∷ more) e =
    let first : unplaced_cell c ≡ unplaced_cell x = cc in
    let rest : map unplaced_cell cells ≡ map unplaced_cell more = cc in
    subst (λ kind. SameCells (add_cell f c.kind (cells_for f cells)) (add_cell g kind (cells_for g more))) (ap (λ (y : PlainCell). y.kind) first)
    (add_cell-same f g h c.kind (cells_for f cells) (cells_for g more) (cells_for-same f g h cells more rest))

pub tree_within-same : (d e : PlainDesign) → SameDesign d e → (n k : ℕ) → SameTree (tree_within d n k) (tree_within e n k)
tree_within-same d e same zero k = (same.parts k, tt)
tree_within-same d e same (suc n) k =
    (same.parts k, cells_for-same (tree_within d n) (tree_within e n) (λ m. tree_within-same d e same n m) (component_at d k).cells (component_at e k).cells (same.parts k).cells)

pub tree_of-same : (d e : PlainDesign) → SameDesign d e → SameTree (tree_of d) (tree_of e)
tree_of-same d e same =
    subst (λ n. SameTree (tree_of d) (tree_within e n e.main)) same.count
    (subst (λ k. SameTree (tree_of d) (tree_within e (length d.components) k)) same.main (tree_within-same d e same (length d.components) d.main))

-- THE RUN OF MAIN hangs on no place
pub run_main-same : (d e : PlainDesign) → SameDesign d e → (words : List (List ℕ)) (n : ℕ) → run_main d words n ≡ run_main e words n
run_main-same d e same words n =
    ap (λ s. run_control (tree_of d) unheld s n) (start-same (tree_of d) (tree_of e) (tree_of-same d e same) words)
    ∙ run_control-same (tree_of d) (tree_of e) (tree_of-same d e same) unheld (start (tree_of e) words) n

-- THE EXTERNAL MEMORIES are the same
rows_of-unplaced : (cells : List PlainCell) → rows_of (map unplaced_cell cells) ≡ rows_of cells
rows_of-unplaced [] = refl
rows_of-unplaced (cell ∷ rest) = choice cell.external (rows_of-unplaced rest)
  where
    choice : (b : Bool) → rows_of (map unplaced_cell rest) ≡ rows_of rest → externals.if_external b (unplaced_cell cell) (rows_of (map unplaced_cell rest)) ≡ externals.if_external b cell (rows_of rest)
    choice true e = ap (λ list. row_for cell ∷ list) e
    choice false e = e

pub external_rows-same : (d e : PlainDesign) → SameDesign d e → external_rows d ≡ external_rows e
external_rows-same d e same =
    sym (rows_of-unplaced (component_at d d.main).cells) ∙ ap rows_of (same.parts d.main).cells ∙ rows_of-unplaced (component_at e d.main).cells ∙ ap (λ k. rows_of (component_at e k).cells) same.main
