-- The cells of a net keep the forms of their rows, from the start on and at every edge.
use Rattle.std.proofs.Common.{◌≡◌, ℕ, zero, suc, Bool, true, false, if◌then◌else◌, List, [], ◌∷◌, refl, ap, ◌∙◌, subst}
use Rattle.cx_prim.specs.CellStates.{CellState, with_words, StateShape}
use Rattle.cx_prim.specs.Rows.{Row}
use Rattle.cx_meaning.specs.Designs.{PlainKind, OfPrimitive, OfComponent, PlainCell}
use Rattle.cx_meaning.specs.Instances.{Path, just, loaded_at}
use Rattle.cx_net.specs.Nets.{PlainNet}
use Rattle.cx_net.specs.NetTree.{NetInstance, NetNode, NetCells, no_net_cells, a_row, a_child, ARow, AChild, net_cell_at, add_net_cell, net_cells_for, net_within, net_tree, net_component_at}
use Rattle.cx_net.specs.NetMeaning.{NetState, NetLook}
use Rattle.cx_net.specs.NetEdges.{row_after, cell_after, cell_below}
use Rattle.cx_net.specs.NetRuns.{net_start_at, net_start_below, net_externals, started, Comes, at_reset, at_first, at_next}
use Rattle.cx_control.proofs.InstanceLemmas.{OfTable}
use Rattle.cx_wiring_runs.proofs.StateForms.{has_form, KeepsForm, words_keep, reset_keeps, row_of_forms}

-- THE ROWS of a tree are those of the table
abbrev mutual
  pub TableTree : NetInstance → Type 0
  TableTree (NetNode part cells) = TableCells cells

  pub TableCells : NetCells → Type 0
  TableCells no_net_cells = Unit {0}
  TableCells (a_row row rest) = OfTable row × TableCells rest
  TableCells (a_child child rest) = TableTree child × TableCells rest

module _ (child : ℕ → NetInstance) (each : (k : ℕ) → TableTree (child k)) where
  kind_table : (kind : PlainKind) (rest : NetCells) → TableCells rest → TableCells (add_net_cell child kind rest)
  kind_table (OfPrimitive p) rest h = ((p, refl), h)
  kind_table (OfComponent k) rest h = (each k, h)

  cells_table : (cells : List PlainCell) → TableCells (net_cells_for child cells)
  cells_table [] = tt
  cells_table (cell ∷ cells) = kind_table cell.kind (net_cells_for child cells) (cells_table cells)

within_table : (n : PlainNet) (levels k : ℕ) → TableTree (net_within n levels k)
within_table n zero k = tt
within_table n (suc levels) k = cells_table (net_within n levels) (within_table n levels) (net_component_at n k).cells

pub net_table : (n : PlainNet) → TableTree (net_tree n)
net_table n = within_table n _ n.main

-- STATES of their forms
abbrev mutual
  pub AreForms : NetInstance → (Path → CellState) → Type 0
  AreForms (NetNode part cells) s = FormsBelow cells (λ c path. s (c ∷ path))

  pub FormsBelow : NetCells → (ℕ → Path → CellState) → Type 0
  FormsBelow no_net_cells s = Unit {0}
  FormsBelow (a_row row rest) s = (OfTable row × (has_form row.shape (s 0 []) ≡ true)) × FormsBelow rest (λ c. s (suc c))
  FormsBelow (a_child child rest) s = AreForms child (s 0) × FormsBelow rest (λ c. s (suc c))

table_forms : (row : Row) → OfTable row → KeepsForm row
table_forms row (p, e) = subst KeepsForm e (row_of_forms p)

pub row_forms : (cells : NetCells) (s : ℕ → Path → CellState) → FormsBelow cells s → (c : ℕ) (row : Row) → net_cell_at cells c ≡ ARow row → OfTable row × (has_form row.shape (s c []) ≡ true)
row_forms no_net_cells s h c row is = absurd cc
row_forms (a_row r rest) s h zero row is = let f : r ≡ row = cc in subst (λ z. OfTable z × (has_form (Row.shape z) (s 0 []) ≡ true)) f h.0
row_forms (a_row r rest) s h (suc c) row is = row_forms rest (λ n. s (suc n)) h.1 c row is
row_forms (a_child child rest) s h zero row is = absurd cc
row_forms (a_child child rest) s h (suc c) row is = row_forms rest (λ n. s (suc n)) h.1 c row is

pub child_forms : (cells : NetCells) (s : ℕ → Path → CellState) → FormsBelow cells s → (c : ℕ) (child : NetInstance) → net_cell_at cells c ≡ AChild child → AreForms child (s c)
child_forms no_net_cells s h c child is = absurd cc
child_forms (a_row r rest) s h zero child is = absurd cc
child_forms (a_row r rest) s h (suc c) child is = child_forms rest (λ n. s (suc n)) h.1 c child is
child_forms (a_child kid rest) s h zero child is = let f : kid ≡ child = cc in subst (λ z. AreForms z (s 0)) f h.0
child_forms (a_child kid rest) s h (suc c) child is = child_forms rest (λ n. s (suc n)) h.1 c child is

-- AT AN EDGE
row_form_after : (with_reset : Bool) (look : NetLook) (c : ℕ) (row : Row) (d : CellState) → OfTable row → has_form row.shape d ≡ true → has_form row.shape (row_after with_reset look c row d) ≡ true
row_form_after true look c row d of_table h = reset_keeps row d (table_forms row of_table)
row_form_after false look c row d of_table h = KeepsForm.next (table_forms row of_table) d _ h

mutual
  forms_after : (with_reset : Bool) (tree : NetInstance) (look : NetLook) (s : Path → CellState) → AreForms tree s → AreForms tree (λ path. cell_after with_reset tree look path (s path))
  forms_after with_reset (NetNode part cells) look s h = below_after with_reset cells (λ c. c) look (λ c path. s (c ∷ path)) h

  below_after : (with_reset : Bool) (cells : NetCells) (number : ℕ → ℕ) (look : NetLook) (s : ℕ → Path → CellState) → FormsBelow cells s → FormsBelow cells (λ c path. cell_below with_reset cells c (number c) look path (s c path))
  below_after with_reset no_net_cells number look s h = tt
  below_after with_reset (a_row row rest) number look s h =
      ((h.0.0, row_form_after with_reset look (number 0) row (s 0 []) h.0.0 h.0.1), below_after with_reset rest (λ c. number (suc c)) look (λ c. s (suc c)) h.1)
  below_after with_reset (a_child child rest) number look s h =
      (forms_after with_reset child (λ q. look (number 0 ∷ q)) (s 0) h.0, below_after with_reset rest (λ c. number (suc c)) look (λ c. s (suc c)) h.1)

-- AT THE START
mutual
  forms_start : (tree : NetInstance) → TableTree tree → AreForms tree (net_start_at tree)
  forms_start (NetNode part cells) h = below_start cells h

  below_start : (cells : NetCells) → TableCells cells → FormsBelow cells (λ c path. net_start_below cells c path)
  below_start no_net_cells h = tt
  below_start (a_row row rest) h = ((h.0, KeepsForm.start (table_forms row h.0)), below_start rest h.1)
  below_start (a_child child rest) h = (forms_start child h.0, below_start rest h.1)

loaded_form : (shape : StateShape) (es : List ℕ) (ws : List (List ℕ)) (c : ℕ) (d : CellState) → has_form shape d ≡ true → has_form shape (loaded_at es ws c d) ≡ true
loaded_form shape [] ws c d h = h
loaded_form shape (e ∷ es) [] c d h = h
loaded_form shape (e ∷ es) (w ∷ ws) c d h = choice (just e c) (loaded_form shape es ws c d h)
  where
    choice : (b : Bool) → has_form shape (loaded_at es ws c d) ≡ true → has_form shape (if b then with_words w d else loaded_at es ws c d) ≡ true
    choice true later = words_keep shape w d h
    choice false later = later

mutual
  forms_same : (tree : NetInstance) (s t : Path → CellState) → ((e : ℕ) (path : Path) → t (e ∷ path) ≡ s (e ∷ path)) → AreForms tree s → AreForms tree t
  forms_same (NetNode part cells) s t same h = below_same cells (λ c path. s (c ∷ path)) (λ c path. t (c ∷ path)) same h

  below_same : (cells : NetCells) (s t : ℕ → Path → CellState) → ((c : ℕ) (path : Path) → t c path ≡ s c path) → FormsBelow cells s → FormsBelow cells t
  below_same no_net_cells s t same h = tt
  below_same (a_row row rest) s t same h = ((h.0.0, ap (has_form row.shape) (same 0 []) ∙ h.0.1), below_same rest (λ c. s (suc c)) (λ c. t (suc c)) (λ c. same (suc c)) h.1)
  below_same (a_child child rest) s t same h = (forms_same child (s 0) (t 0) (λ e path. same 0 (e ∷ path)) h.0, below_same rest (λ c. s (suc c)) (λ c. t (suc c)) (λ c. same (suc c)) h.1)

below_loaded : (cells : NetCells) (es : List ℕ) (ws : List (List ℕ)) (number : ℕ → ℕ) (s t : ℕ → Path → CellState) → ((c : ℕ) → t c [] ≡ loaded_at es ws (number c) (s c [])) → ((c e : ℕ) (path : Path) → t c (e ∷ path) ≡ s c (e ∷ path))
    → FormsBelow cells s → FormsBelow cells t
below_loaded no_net_cells es ws number s t first later h = tt
below_loaded (a_row row rest) es ws number s t first later h =
    ((h.0.0, ap (has_form row.shape) (first 0) ∙ loaded_form row.shape es ws (number 0) (s 0 []) h.0.1), below_loaded rest es ws (λ c. number (suc c)) (λ c. s (suc c)) (λ c. t (suc c)) (λ c. first (suc c)) (λ c. later (suc c)) h.1)
below_loaded (a_child child rest) es ws number s t first later h =
    (forms_same child (s 0) (t 0) (later 0) h.0, below_loaded rest es ws (λ c. number (suc c)) (λ c. s (suc c)) (λ c. t (suc c)) (λ c. first (suc c)) (λ c. later (suc c)) h.1)

forms_started : (tree : NetInstance) (words : List (List ℕ)) → TableTree tree → AreForms tree (started tree words)
forms_started (NetNode part cells) words h =
    below_loaded cells (net_externals part) words (λ c. c) (λ c path. net_start_below cells c path) (λ c path. started (NetNode part cells) words (c ∷ path)) (λ c. refl) (λ c e path. refl) (below_start cells h)

-- IN EVERY STATE that comes
pub forms_come : (tree : NetInstance) (loaded : List (List ℕ)) → TableTree tree → (go : Bool) (s : NetState) → Comes tree loaded go s → AreForms tree s.cell
forms_come tree loaded h _ _ at_reset = forms_started tree loaded h
forms_come tree loaded h _ _ (at_first look whole) = forms_after true tree look (started tree loaded) (forms_started tree loaded h)
forms_come tree loaded h _ _ (at_next {s} look comes whole) = forms_after false tree look s.cell (forms_come tree loaded h true s comes)
