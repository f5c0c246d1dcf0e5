-- Every start is settled, with loaded words too.
use Rattle.std.proofs.Common.{◌≡◌, ℕ, zero, suc, Bool, true, false, List, [], ◌∷◌, if◌then◌else◌, refl}
use Rattle.std.specs.Prelude.{length}
use Rattle.cx_prim.specs.CellStates.{CellState, with_words}
use Rattle.cx_prim.specs.Rows.{Row}
use Rattle.cx_prim.specs.Table.{PrimitiveRow, row_of}
use Rattle.cx_prim.proofs.TableCases.{OfEachKind, of_row}
use Rattle.cx_meaning.specs.Rows.{KeepsIdle}
use Rattle.cx_meaning.specs.Designs.{PlainKind, OfPrimitive, OfComponent, PlainCell, PlainDesign, component_at}
use Rattle.cx_meaning.specs.Instances.{Instance, Node, Cells, no_cells, a_primitive, an_instance, add_cell, cells_for, tree_within, tree_of, just, idle_at, idle_below, IsSettled, start_at, start_below, externals_of, loaded_at, start}
use Rattle.cx_meaning.specs.Laws.{AllRows, AllRowsBelow}
use Rattle.cx_meaning.proofs.IdleLemmas.{kept_within}
use Rattle.cx_meaning.proofs.RunningLemmas.{start_idle}

-- an idle edge leaves the start as it is, whatever words it has
record Loads (row : Row) : Type 0 where
  same : (words : List ℕ) → row.idle (with_words words row.start) ≡ with_words words row.start

each_kind_loads : OfEachKind Loads
each_kind_loads = record {
  none = record { same = λ words. refl };
  constant = λ w v fits. record { same = λ words. refl };
  unary = λ operator w v takes. record { same = λ words. refl };
  binary = λ operator w ok. record { same = λ words. refl };
  mux = λ w ok. record { same = λ words. refl };
  register = λ w ok. record { same = λ words. refl };
  memory = λ w sizes address_widths layout. record { same = λ words. refl };
  sequential = λ w sizes address_widths layout. record { same = λ words. refl };
  multiplier = λ w ok. record { same = λ words. refl };
  divider = λ w ok. record { same = λ words. refl };
  timer = λ n some few. record { same = λ words. refl };
}

loads : (p : PrimitiveRow) → Loads (row_of p)
loads p = of_row Loads each_kind_loads p

-- so does every cell of a design's tree
loads_cell : (child : ℕ → Instance) → ((k : ℕ) → AllRows Loads (child k)) → (kind : PlainKind) (rest : Cells) → AllRowsBelow Loads rest → AllRowsBelow Loads (add_cell child kind rest)
loads_cell child h (OfPrimitive p) rest l = (loads p, l)
loads_cell child h (OfComponent k) rest l = (h k, l)

loads_below : (child : ℕ → Instance) → ((k : ℕ) → AllRows Loads (child k)) → (cells : List PlainCell) → AllRowsBelow Loads (cells_for child cells)
loads_below child h [] = tt
loads_below child h (cell ∷ cells) = loads_cell child h cell.kind (cells_for child cells) (loads_below child h cells)

loads_within : (d : PlainDesign) (n k : ℕ) → AllRows Loads (tree_within d n k)
loads_within d zero k = tt
loads_within d (suc n) k = loads_below (tree_within d n) (loads_within d n) (component_at d k).cells

-- a cell of the instance itself, at its start with words
child_words : (child : Instance) (words : List ℕ) → idle_at child [] (with_words words (start_at child [])) ≡ with_words words (start_at child [])
child_words (Node part cells) words = refl

words_idle : (cells : Cells) → AllRowsBelow Loads cells → (c : ℕ) (words : List ℕ) → idle_below cells c [] (with_words words (start_below cells c [])) ≡ with_words words (start_below cells c [])
words_idle no_cells l c words = refl
words_idle (a_primitive row rest) (l, others) zero words = l.same words
words_idle (a_primitive row rest) (l, others) (suc c) words = words_idle rest others c words
words_idle (an_instance child rest) (l, others) zero words = child_words child words
words_idle (an_instance child rest) (l, others) (suc c) words = words_idle rest others c words

-- with the words of the list that stand for it, or none
loaded_idle : (cells : Cells) (c : ℕ) (d : CellState) → idle_below cells c [] d ≡ d → ((words : List ℕ) → idle_below cells c [] (with_words words d) ≡ with_words words d)
    → (names : List ℕ) (words : List (List ℕ)) → idle_below cells c [] (loaded_at names words c d) ≡ loaded_at names words c d
loaded_idle cells c d bare loaded [] words = bare
loaded_idle cells c d bare loaded (e ∷ es) [] = bare
loaded_idle cells c d bare loaded (e ∷ es) (w ∷ ws) = one (just e c) (loaded_idle cells c d bare loaded es ws)
  where
    one : (b : Bool) → idle_below cells c [] (loaded_at es ws c d) ≡ loaded_at es ws c d → idle_below cells c [] (if b then with_words w d else loaded_at es ws c d) ≡ (if b then with_words w d else loaded_at es ws c d)
    one true h = loaded w
    one false h = h

start_settled : (i : Instance) → AllRows KeepsIdle i → AllRows Loads i → (words : List (List ℕ)) → IsSettled i (start i words)
start_settled (Node part cells) keep l words [] = refl
start_settled (Node part cells) keep l words (c ∷ []) = loaded_idle cells c (start_below cells c []) (start_idle (Node part cells) keep (c ∷ [])) (words_idle cells l c) (externals_of part) words
start_settled (Node part cells) keep l words (c ∷ e ∷ path) = start_idle (Node part cells) keep (c ∷ e ∷ path)

pub design_starts_settled : (d : PlainDesign) (words : List (List ℕ)) → IsSettled (tree_of d) (start (tree_of d) words)
design_starts_settled d words = start_settled (tree_of d) (kept_within d (length d.components) d.main) (loads_within d (length d.components) d.main) words
