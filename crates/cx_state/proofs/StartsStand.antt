-- What instances at their starts stand for.
use Rattle.std.proofs.Common.{◌≡◌, ℕ, zero, suc, ◌+◌, ◌<◌, ◌≤◌, Bool, true, false, ⊎_elim, List, [], ◌∷◌, ◌++◌, length, get_or, replicate, Option, Some, None, refl, sym, ap, ◌∙◌, subst, arith, if◌then◌else◌}
use Rattle.std.specs.List.{slice_get}
use Rattle.std.proofs.lemmas.Bool.{cases_lt}
use Rattle.std.proofs.lemmas.List.{length-replicate, get_or-replicate}
use Rattle.std.proofs.lemmas.Option.{slice_get-get_or}
use Rattle.cx_prim.specs.CellStates.{CellState, with_words}
use Rattle.cx_prim.specs.Rows.{Row}
use Rattle.cx_prim.specs.Table.{row_of}
use Rattle.cx_meaning.specs.declared.sights.Seen.{Seen}
use Rattle.cx_meaning.specs.declared.sights.Seen.TheVariants.{Value, Undefined}
use Rattle.cx_meaning.specs.Designs.{PlainKind, OfPrimitive, OfComponent, PlainCell, PlainDesign, component_at}
use Rattle.cx_meaning.specs.Instances.{Instance, Node, Cells, no_cells, a_primitive, an_instance, OfRow, add_cell, cells_for, cell_at, cells_of, part_of, Path, paths_of, instance_at, child_at, tree_within, tree_of, just, start_at, start_below, start, loaded_at, externals_from, externals_of}
use Rattle.cx_meaning.specs.Instances as meaning
use Rattle.cx_design_sizes.proofs.Places.{slice_get-replicate}
use Rattle.cx_state.specs.declared.tables.InstanceRow.{InstanceRow}
use Rattle.cx_state.specs.Tables.{IsNumber, row_at, IsTable}
use Rattle.cx_state.proofs.PreOrder.{HasParent, stands}
use Rattle.cx_state.specs.States.{PlainInstance, instance_state, cell_held, StandsFor, IsStateOf, IsUnheld}
use Rattle.cx_state.specs.Starts.{words_for, words_past, row_started, kind_started, started, words_of_main, IsStarted, AreStarted}
use Rattle.cx_state.proofs.StartLemmas.{part_is}
use Rattle.cx_state.proofs.Takes.{none_for, none_past}
use Rattle.cx_meaning.proofs.InstancesLemmas.{not_just, main_path, here, some_cells, just_same, kind_skip}
use Rattle.cx_text.proofs.OptionLaws.{none_is_some}
use Rattle.cx_text.proofs.ListLaws.{there_below}
use Rattle.cx_meaning.proofs.CyclesLemmas.{start_row, start_deep}

-- the words for cell c
abbrev words_at : List PlainCell → List (List ℕ) → ℕ → Option (List ℕ)
words_at [] ws c = None
words_at (cell ∷ cells) ws zero = words_for cell.external ws
words_at (cell ∷ cells) ws (suc c) = words_at cells (words_past cell.external ws) c

words_none : (cells : List PlainCell) (c : ℕ) → words_at cells [] c ≡ None
words_none [] c = refl
words_none (cell ∷ cells) zero = none_for cell.external
words_none (cell ∷ cells) (suc c) = ap (λ ws. words_at cells ws c) (none_past cell.external) ∙ words_none cells c

-- A CELL THAT HOLDS SOMETHING is a primitive at its start
record IsAt (trees : ℕ → Instance) (cells : List PlainCell) (ws : List (List ℕ)) (c : ℕ) (held : CellState) : Type 0 where
  row : Row
  stands : cell_at (cells_for trees cells) c ≡ OfRow row
  is : held ≡ row_started row (words_at cells ws c)

kind_at : (trees : ℕ → Instance) (kind : PlainKind) (rest : Cells) (words : Option (List ℕ)) (held : CellState) → kind_started kind words ≡ Some held
    → (row : Row) × (cell_at (add_cell trees kind rest) zero ≡ OfRow row) × (held ≡ row_started row words)
kind_at trees (OfPrimitive p) rest words held e = (row_of p, refl, (let f : Some (row_started (row_of p) words) ≡ Some held = e in cc))
kind_at trees (OfComponent k) rest words held e = absurd (none_is_some held e)

started_at : (trees : ℕ → Instance) (cells : List PlainCell) (ws : List (List ℕ)) (c : ℕ) (held : CellState) → get_or (started cells ws) c None ≡ Some held → IsAt trees cells ws c held
started_at trees [] ws c held e = absurd (none_is_some held e)
started_at trees (x ∷ xs) ws zero held e =
    let k = kind_at trees x.kind (cells_for trees xs) (words_for x.external ws) held e in
    record { row = k.0; stands = k.1; is = k.2 }
started_at trees (x ∷ xs) ws (suc c) held e =
    let r : IsAt trees xs (words_past x.external ws) c held = started_at trees xs (words_past x.external ws) c held e in
    record { row = r.row; stands = kind_skip trees x.kind (cells_for trees xs) c ∙ r.stands; is = r.is }

-- LOADED WORDS
abbrev with_option : Option (List ℕ) → CellState → CellState
with_option None d = d
with_option (Some words) d = with_words words d

row_with : (row : Row) (o : Option (List ℕ)) → row_started row o ≡ with_option o row.start
row_with row None = refl
row_with row (Some words) = refl

skip_one : (es : List ℕ) (k c : ℕ) (w : List ℕ) (ws : List (List ℕ)) (d : CellState) → (c ≡ k → ⊥) → loaded_at (k ∷ es) (w ∷ ws) c d ≡ loaded_at es ws c d
skip_one es k c w ws d h = ap (λ b. if b then with_words w d else loaded_at es ws c d) (not_just k c h)

not_listed : (cells : List PlainCell) (k c : ℕ) (ws : List (List ℕ)) (d : CellState) → c < k → loaded_at (externals_from k cells) ws c d ≡ d
not_listed [] k c ws d lt = refl
not_listed (x ∷ xs) k c ws d lt = by x.external ws (λ vs. not_listed xs (suc k) c vs d (omega arith))
  where
    by : (b : Bool) (vs : List (List ℕ)) → ((us : List (List ℕ)) → loaded_at (externals_from (suc k) xs) us c d ≡ d) → loaded_at (meaning.if_external b k (externals_from (suc k) xs)) vs c d ≡ d
    by false vs h = h vs
    by true [] h = refl
    by true (w ∷ vs) h = skip_one (externals_from (suc k) xs) k c w vs d (λ e. (let f : c ≡ k = e in omega arith)) ∙ h vs

loaded_is : (cells : List PlainCell) (k c : ℕ) (ws : List (List ℕ)) (d : CellState) → loaded_at (externals_from k cells) ws (k + c) d ≡ with_option (words_at cells ws c) d
loaded_is [] k c ws d = refl
loaded_is (x ∷ xs) k zero ws d = by x.external ws
  where
    same : k + 0 ≡ k
    same = omega arith

    by : (b : Bool) (vs : List (List ℕ)) → loaded_at (meaning.if_external b k (externals_from (suc k) xs)) vs (k + 0) d ≡ with_option (words_for b vs) d
    by false vs = not_listed xs (suc k) (k + 0) vs d (omega arith)
    by true [] = refl
    by true (w ∷ vs) = ap (λ b. if b then with_words w d else loaded_at (externals_from (suc k) xs) vs (k + 0) d) (ap (just k) same ∙ just_same k)
loaded_is (x ∷ xs) k (suc c) ws d = by x.external ws (λ vs. ap (λ n. loaded_at (externals_from (suc k) xs) vs n d) next ∙ loaded_is xs (suc k) c vs d)
  where
    next : k + suc c ≡ suc k + c
    next = omega arith

    by : (b : Bool) (vs : List (List ℕ)) → ((us : List (List ℕ)) → loaded_at (externals_from (suc k) xs) us (k + suc c) d ≡ with_option (words_at xs us c) d)
        → loaded_at (meaning.if_external b k (externals_from (suc k) xs)) vs (k + suc c) d ≡ with_option (words_at xs (words_past b vs) c) d
    by false vs h = h vs
    by true [] h = sym (ap (λ o. with_option o d) (words_none xs c))
    by true (w ∷ vs) h = skip_one (externals_from (suc k) xs) k (k + suc c) w vs d (λ e. (let f : k + suc c ≡ k = e in omega arith)) ∙ h vs

-- STARTS at paths

deep_start : (i : Instance) (ws : List (List ℕ)) (above : Path) (x c : ℕ) → start i ws ((above ++ x ∷ []) ++ c ∷ []) ≡ start_at i ((above ++ x ∷ []) ++ c ∷ [])
deep_start i ws [] x c = refl
deep_start i ws (y ∷ []) x c = refl
deep_start i ws (y ∷ z ∷ above) x c = refl

module _ (d : PlainDesign) (rows : List InstanceRow) (children : List ℕ) (ws : List (List ℕ)) (xs : List PlainInstance) (table : IsTable d rows children) (all : AreStarted d ws (length (paths_of (tree_of d))) xs) where
  own_start : (n c : ℕ) (path : Path) (held : CellState) → IsNumber d n path → cell_held xs n c ≡ Some held
      → (row : Row) × (cell_at (cells_of (instance_at (tree_of d) path)) c ≡ OfRow row) × (held ≡ row_started row (words_at (part_of (instance_at (tree_of d) path)).cells (words_of_main n ws) c))
  own_start n c path held at e =
      let lt : n < length (paths_of (tree_of d)) = there_below (paths_of (tree_of d)) n path at in
      let inside : n < length rows = (let count = table.count in omega (arith, count)) in
      let some : 0 < length d.components = (let there = table.there n inside in omega (arith, there)) in
      let one : IsStarted (part_of (instance_at (tree_of d) path)) (words_of_main n ws) (instance_state xs n) = all.each n path lt at in
      let k = some_cells d (length d.components) (row_at rows n).component some in
      let part : part_of (instance_at (tree_of d) path) ≡ component_at d (row_at rows n).component = part_is d rows children n path table at in
      let cells : cells_of (instance_at (tree_of d) path) ≡ cells_for k.0 (part_of (instance_at (tree_of d) path)).cells =
      ap cells_of (table.component n path at) ∙ k.1 ∙ ap (λ p. cells_for k.0 p.cells) (sym part) in
      let r : IsAt k.0 (part_of (instance_at (tree_of d) path)).cells (words_of_main n ws) c held =
      started_at k.0 (part_of (instance_at (tree_of d) path)).cells (words_of_main n ws) c held (ap (λ ys. get_or ys c None) (sym one.cells) ∙ e) in
      (r.row, ap (λ cs. cell_at cs c) cells ∙ r.stands, r.is)

  pub starts_stand : StandsFor (tree_of d) xs (start (tree_of d) ws)
  starts_stand zero c path held at e =
      let own = own_start zero c path held at e in
      let none : path ≡ [] = main_path (tree_of d) path at in
      let self : instance_at (tree_of d) path ≡ tree_of d = ap (instance_at (tree_of d)) none ∙ here (tree_of d) in
      let row_start : start_at (tree_of d) (c ∷ []) ≡ own.0.start = ap (λ p. start_at (tree_of d) (p ++ c ∷ [])) (sym none) ∙ start_deep (tree_of d) path c own.0 own.1 in
      let zero_and : c ≡ 0 + c = omega arith in
      ap (λ p. start (tree_of d) ws (p ++ c ∷ [])) none
      ∙ ap (loaded_at (externals_of (part_of (tree_of d))) ws c) row_start
      ∙ ap (λ n. loaded_at (externals_from 0 (part_of (tree_of d)).cells) ws n own.0.start) zero_and
      ∙ loaded_is (part_of (tree_of d)).cells 0 c ws own.0.start
      ∙ ap (λ i. with_option (words_at (part_of i).cells ws c) own.0.start) (sym self)
      ∙ sym (own.2 ∙ row_with own.0 (words_at (part_of (instance_at (tree_of d) path)).cells ws c))
  starts_stand (suc n) c path held at e =
      let own = own_start (suc n) c path held at e in
      ⊎_elim
      (λ (z : suc n ≡ 0). absurd (omega arith))
      (λ (p : HasParent (tree_of d) (suc n) path).
      ap (λ q. start (tree_of d) ws (q ++ c ∷ [])) p.is ∙ deep_start (tree_of d) ws p.path p.cell c ∙ ap (λ q. start_at (tree_of d) (q ++ c ∷ [])) (sym p.is)
      ∙ start_deep (tree_of d) path c own.0 own.1
      ∙ sym (own.2 ∙ ap (row_started own.0) (words_none (part_of (instance_at (tree_of d) path)).cells c)))
      (stands (tree_of d) (suc n) path at).parent

  pub starts_fit : IsStateOf d xs
  starts_fit = record {
    count = all.count;
    fits = λ n path at.
        let lt : n < length (paths_of (tree_of d)) = there_below (paths_of (tree_of d)) n path at in
        let one : IsStarted (part_of (instance_at (tree_of d) path)) (words_of_main n ws) (instance_state xs n) = all.each n path lt at in
        record {
          cells = one.fits;
          inputs = ap length one.held ∙ length-replicate (length (part_of (instance_at (tree_of d) path)).inputs) Undefined;
          widths = λ m b is.
              let same : Undefined ≡ Value b = slice_get-replicate (length (part_of (instance_at (tree_of d) path)).inputs) m Undefined (Value b) (ap (λ ys. slice_get ys m) (sym one.held) ∙ is) in
              absurd (cc);
        };
  }

  all_undefined : (n m : ℕ) → get_or (replicate n Undefined) m Undefined ≡ Undefined
  all_undefined n m = ⊎_elim (λ lt. get_or-replicate n m Undefined Undefined lt) (λ le. past (replicate n Undefined) m (subst (λ k. k ≤ m) (sym (length-replicate n Undefined)) le)) (cases_lt m n)
    where
      past : (ys : List Seen) (m : ℕ) → length ys ≤ m → get_or ys m Undefined ≡ Undefined
      past [] m le = refl
      past (y ∷ ys) zero le = absurd (omega arith)
      past (y ∷ ys) (suc m) le = past ys m (let h : suc (length ys) ≤ suc m = le in omega arith)

  no_row_held : (ys : List PlainInstance) (n m : ℕ) → length ys ≤ n → get_or (instance_state ys n).held m Undefined ≡ Undefined
  no_row_held [] n m le = refl
  no_row_held (y ∷ ys) zero m le = absurd (omega arith)
  no_row_held (y ∷ ys) (suc n) m le = no_row_held ys n m (let h : suc (length ys) ≤ suc n = le in omega arith)

  pub starts_unheld : IsUnheld xs
  starts_unheld n input =
      ⊎_elim
      (λ lt.
      let at : IsNumber d n (get_or (paths_of (tree_of d)) n []) = slice_get-get_or (paths_of (tree_of d)) n [] lt in
      let one : IsStarted (part_of (instance_at (tree_of d) (get_or (paths_of (tree_of d)) n []))) (words_of_main n ws) (instance_state xs n) = all.each n (get_or (paths_of (tree_of d)) n []) lt at in
      ap (λ ys. get_or ys input Undefined) one.held ∙ all_undefined (length (part_of (instance_at (tree_of d) (get_or (paths_of (tree_of d)) n []))).inputs) input)
      (λ le. no_row_held xs n input (let c = all.count in omega (arith, c)))
      (cases_lt n (length (paths_of (tree_of d))))
