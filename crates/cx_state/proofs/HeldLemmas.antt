-- What the inputs and the cells of an instance hold in a state of a design.
use Rattle.std.proofs.Common.{◌≡◌, ℕ, zero, suc, ◌+◌, ◌<◌, List, [], ◌∷◌, ◌++◌, length, get_or, append_assoc, Option, Some, None, option_map, refl, sym, ap, ◌∙◌, subst, arith}
use Rattle.std.specs.List.{slice_get}
use Rattle.std.proofs.lemmas.List.{length-map}
use Rattle.std.proofs.lemmas.Option.{slice_get-map}
use Rattle.cx_bits.specs.BitVector.{BitVector}
use Rattle.cx_prim.specs.CellStates.{CellState, IsState}
use Rattle.cx_prim.specs.Rows.{Row}
use Rattle.cx_prim.specs.Table.{row_of}
use Rattle.cx_meaning.specs.declared.sights.Seen.{Seen}
use Rattle.cx_meaning.specs.declared.sights.Seen.TheVariants.{Value, Undefined}
use Rattle.cx_meaning.specs.Designs.{PlainKind, OfPrimitive, OfComponent, PlainCell, PlainDesign, component_at}
use Rattle.cx_meaning.specs.Instances.{Instance, Node, Cells, no_cells, a_primitive, an_instance, OfRow, add_cell, cells_for, cell_at, cells_of, part_of, Path, State, behind, paths_of, paths_below, instance_at, child_at, tree_within, tree_of}
use Rattle.cx_rules.specs.Sizes.{instances_below}
use Rattle.cx_rules.proofs.CircleLemmas.{Reached, a_tree, no_tree, reached}
use Rattle.cx_state.specs.Tables.{IsNumber}
use Rattle.cx_state.specs.States.{PlainInstance, instance_state, inputs_held, StandsFor, HoldsKind, HoldCells, FitsPart, IsStateOf, under_path}
use Rattle.cx_state.proofs.StandLemmas.{past, shift, none_more}
use Rattle.cx_laws.specs.Widths.{HoldsStates, HoldsWidths}
use Rattle.cx_meaning.proofs.InstancesLemmas.{instance_along, kind_skip}
use Rattle.cx_text.proofs.ListLaws.{there_below, append-front}

-- NUMBERS: an instance with a primitive cell has one
inside : (child : Instance) (rest : Cells) (k j : ℕ) (x : Path) → slice_get (paths_of child) j ≡ Some x → slice_get (paths_below (an_instance child rest) k) j ≡ Some ((k + 0) ∷ x)
inside child rest k j x e =
    let lt : j < length (paths_of child) = there_below (paths_of child) j x e in
    let within : j < length (behind k (paths_of child)) = subst (λ n. j < n) (sym (length-map (paths_of child) (λ path. k ∷ path))) lt in
    let same : k ≡ k + 0 = omega arith in
    append-front (behind k (paths_of child)) (paths_below rest (suc k)) j within
    ∙ slice_get-map (λ path. k ∷ path) (paths_of child) j
    ∙ ap (option_map (λ path. k ∷ path)) e
    ∙ ap (λ n. Some (n ∷ x)) same

mutual
  numbered : (i : Instance) (path : Path) (c : ℕ) (row : Row) → cell_at (cells_of (instance_at i path)) c ≡ OfRow row → (n : ℕ) × (slice_get (paths_of i) n ≡ Some path)
  numbered (Node part cells) [] c row e = (0, refl)
  numbered (Node part cells) (x ∷ path) c row e = let r = numbered_below cells 0 x path c row e in (suc r.0, r.1 ∙ ap (λ m. Some (m ∷ path)) (none_more x))

  numbered_below : (cells : Cells) (k x : ℕ) (path : Path) (c : ℕ) (row : Row) → cell_at (cells_of (child_at cells x path)) c ≡ OfRow row → (n : ℕ) × (slice_get (paths_below cells k) n ≡ Some ((k + x) ∷ path))
  numbered_below no_cells k x path c row e = absurd (cc)
  numbered_below (a_primitive one rest) k zero path c row e = absurd (cc)
  numbered_below (a_primitive one rest) k (suc x) path c row e = let r = numbered_below rest (suc k) x path c row e in (r.0, r.1 ∙ ap (λ m. Some (m ∷ path)) (shift k x))
  numbered_below (an_instance child rest) k zero path c row e = let r = numbered child path c row e in (r.0, inside child rest k r.0 path r.1)
  numbered_below (an_instance child rest) k (suc x) path c row e =
      let r = numbered_below rest (suc k) x path c row e in
      (instances_below child + r.0, past child rest k r.0 ∙ r.1 ∙ ap (λ m. Some (m ∷ path)) (shift k x))

-- CELLS: a primitive cell of a state of the design holds a state of its row
pub record Holds (row : Row) (h : Option CellState) : Type 0 where
  pub held : CellState
  pub is : h ≡ Some held
  pub fits : IsState row.shape held

pub kind_holds : (trees : ℕ → Instance) (kind : PlainKind) (rest : Cells) (row : Row) (h : Option CellState) → HoldsKind kind h → cell_at (add_cell trees kind rest) zero ≡ OfRow row → Holds row h
kind_holds trees (OfPrimitive p) rest row None k e = absurd k
kind_holds trees (OfPrimitive p) rest row (Some held) k e = let same : row_of p ≡ row = cc in record { held = held; is = refl; fits = subst (λ (r : Row). IsState r.shape held) same k }
kind_holds trees (OfComponent j) rest row h k e = absurd (cc)

pub cells_hold : (trees : ℕ → Instance) (cells : List PlainCell) (hs : List (Option CellState)) (c : ℕ) (row : Row) → HoldCells cells hs → cell_at (cells_for trees cells) c ≡ OfRow row → Holds row (get_or hs c None)
cells_hold trees [] hs c row k e = absurd (cc)
cells_hold trees (x ∷ xs) [] c row k e = absurd k
cells_hold trees (x ∷ xs) (h ∷ hs) zero row k e = kind_holds trees x.kind (cells_for trees xs) row h k.0 e
cells_hold trees (x ∷ xs) (h ∷ hs) (suc c) row k e = cells_hold trees xs hs c row k.1 (sym (kind_skip trees x.kind (cells_for trees xs) c) ∙ e)

reached_holds : (d : PlainDesign) (i : Instance) → Reached d i → (x : PlainInstance) (c : ℕ) (row : Row) → FitsPart (part_of i) x → cell_at (cells_of i) c ≡ OfRow row → Holds row (get_or x.cells c None)
reached_holds d i (a_tree zero k) x c row fits e = absurd (cc)
reached_holds d i (a_tree (suc m) k) x c row fits e = cells_hold (tree_within d m) (component_at d k).cells x.cells c row fits.cells e
reached_holds d i no_tree x c row fits e = absurd (cc)

module _ (d : PlainDesign) (rows : List PlainInstance) (state : IsStateOf d rows) where
  cell_fits : (s : State) → StandsFor (tree_of d) rows s → (path : Path) (c : ℕ) (row : Row) → cell_at (cells_of (instance_at (tree_of d) path)) c ≡ OfRow row → IsState row.shape (s (path ++ c ∷ []))
  cell_fits s stands path c row e =
      let n = numbered (tree_of d) path c row e in
      let h = reached_holds d (instance_at (tree_of d) path) (reached d path (length d.components) d.main) (instance_state rows n.0) c row (state.fits n.0 path n.1) e in
      subst (IsState row.shape) (sym (stands n.0 c path h.held n.1 h.is)) h.fits

  pub holds_states : (s : State) → StandsFor (tree_of d) rows s → (path : Path) → HoldsStates (instance_at (tree_of d) path) (under_path path s)
  holds_states s stands path below c row e =
      let whole = cell_fits s stands (path ++ below) c row (ap (λ i. cell_at (cells_of i) c) (sym (instance_along (tree_of d) path below)) ∙ e) in
      subst (λ q. IsState row.shape (s q)) (append_assoc path below (c ∷ [])) whole

  held_there : (held : List Seen) (n : ℕ) (b : BitVector) → get_or held n Undefined ≡ Value b → slice_get held n ≡ Some (Value b)
  held_there [] n b e = absurd (cc)
  held_there (x ∷ held) zero b e = ap Some e
  held_there (x ∷ held) (suc n) b e = held_there held n b e

  pub holds_widths : (n : ℕ) (path : Path) → IsNumber d n path → HoldsWidths (part_of (instance_at (tree_of d) path)) (inputs_held rows n)
  holds_widths n path number input b e = (state.fits n path number).widths input b (held_there (instance_state rows n).held input b e)
