-- What is loaded into a net is loaded into its source.
use Rattle.std.proofs.Common.{◌≡◌, ℕ, zero, suc, ◌+◌, Bool, true, false, List, [], ◌∷◌, ◌++◌, map, All, Some, slice_get, refl, ap, sym, ◌∙◌, subst, if◌then◌else◌, arith}
use Rattle.std.specs.Prelude.{slice_index}
use Rattle.std.proofs.lemmas.List.Elements.{All-head, All-tail}
use Rattle.cx_text.specs.Loading.{PlainMemory, FitsShape, words_loaded}
use Rattle.cx_prim.specs.CellStates.{CellState}
use Rattle.cx_prim.specs.CellStates as cell_states
use Rattle.cx_meaning.specs.Designs.{PlainCell}
use Rattle.cx_meaning.specs.Instances.{just, if_external, externals_from, loaded_at}
use Rattle.cx_vtree.specs.Plain.{PlainExternal}
use Rattle.cx_vtree.specs.PlainParts.{row_of, rows_of}
use Rattle.cx_vtree.specs.InstanceTree.{Placed}
use Rattle.cx_vtree.specs.SimRun.{is_memory, loaded_word}
use Rattle.cx_emit.specs.Numbered.{lists_from}
use Rattle.cx_emit.specs.Sources.{external_of, cell_externals}
use Rattle.cx_meaning.proofs.InstancesLemmas.{just_same, just_other}

-- c is the number of a cell, j that of its instance, and `array` the name of its array
module _ (tree : List Placed) (j c : ℕ) (array : List ℕ) (d : CellState) where
  -- no other external cell is that instance
  abbrev Others : List PlainCell → ℕ → Type 0
  Others cs b = (t : ℕ) (cell : PlainCell) → slice_get cs t ≡ Some cell → cell.external ≡ true → (b + t ≡ c → ⊥) → (name : List ℕ) → is_memory tree (external_of (b + t) cell) j name ≡ false

  others-tail : (x : PlainCell) (cs : List PlainCell) (b : ℕ) → Others (x ∷ cs) b → Others cs (suc b)
  others-tail x cs b h t cell at is other name =
      let place : b + suc t ≡ suc b + t = omega arith in
      subst (λ n. is_memory tree (external_of n cell) j name ≡ false) place (h (suc t) cell at is (λ e. other (sym place ∙ e)) name)

  others-head : (x : PlainCell) (cs : List PlainCell) (b : ℕ) → Others (x ∷ cs) b → x.external ≡ true → (b ≡ c → ⊥) → (name : List ℕ) → is_memory tree (external_of b x) j name ≡ false
  others-head x cs b h is other name =
      let place : b + 0 ≡ b = omega arith in
      subst (λ n. is_memory tree (external_of n x) j name ≡ false) place (h 0 x refl is (λ e. other (sym place ∙ e)) name)

  abbrev front : Bool → ℕ → PlainCell → List PlainExternal → List PlainExternal
  front e b x rest = (if e then external_of b x ∷ [] else []) ++ rest

  -- nothing is loaded into what is no external cell
  pub none_loaded : (cs : List PlainCell) (b : ℕ) (ws : List (List ℕ)) → ((t : ℕ) (cell : PlainCell) → slice_get cs t ≡ Some cell → cell.external ≡ true → b + t ≡ c → ⊥) → Others cs b
      → (loaded_at (externals_from b cs) ws c d ≡ d) × ((name : List ℕ) (k : ℕ) → loaded_word tree (lists_from cell_externals b cs) ws j name k ≡ 0)
  none_loaded [] b ws no_such others = (refl, λ name k. refl)
  none_loaded (x ∷ cs) b ws no_such others = go x.external refl ws (λ ws. none_loaded cs (suc b) ws tail_none (others-tail x cs b others)) where
    tail_none : (t : ℕ) (cell : PlainCell) → slice_get cs t ≡ Some cell → cell.external ≡ true → suc b + t ≡ c → ⊥
    tail_none t cell at is e = let place : b + suc t ≡ suc b + t = omega arith in no_such (suc t) cell at is (place ∙ e)

    go : (e : Bool) → x.external ≡ e → (ws : List (List ℕ))
        → ((ws : List (List ℕ)) → (loaded_at (externals_from (suc b) cs) ws c d ≡ d) × ((name : List ℕ) (k : ℕ) → loaded_word tree (lists_from cell_externals (suc b) cs) ws j name k ≡ 0))
        → (loaded_at (if_external x.external b (externals_from (suc b) cs)) ws c d ≡ d) × ((name : List ℕ) (k : ℕ) → loaded_word tree (front x.external b x (lists_from cell_externals (suc b) cs)) ws j name k ≡ 0)
    go false is ws later =
        let r = later ws in (
          ap (λ e. loaded_at (if_external e b (externals_from (suc b) cs)) ws c d) is ∙ r.0,
          λ name k. ap (λ e. loaded_word tree (front e b x (lists_from cell_externals (suc b) cs)) ws j name k) is ∙ r.1 name k,
        )
    go true is [] later = (ap (λ e. loaded_at (if_external e b (externals_from (suc b) cs)) [] c d) is, λ name k. ap (λ e. loaded_word tree (front e b x (lists_from cell_externals (suc b) cs)) [] j name k) is)
    go true is (w ∷ ws) later =
        let r = later ws in
        let other : b ≡ c → ⊥ = λ e. (let place : b + 0 ≡ b = omega arith in no_such 0 x refl is (place ∙ e)) in (
          ap (λ e. loaded_at (if_external e b (externals_from (suc b) cs)) (w ∷ ws) c d) is
              ∙ ap (λ e. if e then cell_states.with_words w d else loaded_at (externals_from (suc b) cs) ws c d) (just_other b c other) ∙ r.0,
          λ name k. ap (λ e. loaded_word tree (front e b x (lists_from cell_externals (suc b) cs)) (w ∷ ws) j name k) is
              ∙ ap (λ e. if e then slice_index w k else loaded_word tree (lists_from cell_externals (suc b) cs) ws j name k) (others-head x cs b others is other name) ∙ r.1 name k,
        )

  -- what an external cell is loaded with
  pub record IsLoaded (cs : List PlainCell) (b : ℕ) (cell : PlainCell) (ms : List PlainMemory) : Type 0 where
    pub memory : PlainMemory
    pub shape : memory.shape ≡ row_of (external_of c cell)
    pub fits : FitsShape memory
    pub state : loaded_at (externals_from b cs) (words_loaded ms) c d ≡ cell_states.with_words memory.words d
    pub words : (k : ℕ) → loaded_word tree (lists_from cell_externals b cs) (words_loaded ms) j array k ≡ slice_index memory.words k

  pub one_loaded : (cs : List PlainCell) (b : ℕ) (ms : List PlainMemory) (t : ℕ) (cell : PlainCell) → slice_get cs t ≡ Some cell → cell.external ≡ true → b + t ≡ c → Others cs b
      → is_memory tree (external_of c cell) j array ≡ true → map (λ m. m.shape) ms ≡ rows_of (lists_from cell_externals b cs) → All FitsShape ms → IsLoaded cs b cell ms
  one_loaded [] b ms t cell at is place others own rows fits = absurd (cc)
  one_loaded (x ∷ cs) b ms zero cell at is place others own rows fits = go ms (rows ∙ ap (λ e. rows_of (front e b x (lists_from cell_externals (suc b) cs))) is_here) fits where
    same : x ≡ cell
    same = cc

    is_here : x.external ≡ true
    is_here = ap (λ (y : PlainCell). y.external) same ∙ is

    here : b ≡ c
    here = let first : b ≡ b + 0 = omega arith in first ∙ place

    own_here : is_memory tree (external_of b x) j array ≡ true
    own_here = ap (λ n. is_memory tree (external_of n x) j array) here ∙ ap (λ (y : PlainCell). is_memory tree (external_of c y) j array) same ∙ own

    go : (ms : List PlainMemory) → map (λ (m : PlainMemory). m.shape) ms ≡ row_of (external_of b x) ∷ rows_of (lists_from cell_externals (suc b) cs) → All FitsShape ms → IsLoaded (x ∷ cs) b cell ms
    go [] rows fits = absurd (cc)
    go (m ∷ ms) rows fits =
        let shape : m.shape ≡ row_of (external_of b x) = cc in
        record {
          memory = m;
          shape = shape ∙ ap (λ n. row_of (external_of n x)) here ∙ ap (λ (y : PlainCell). row_of (external_of c y)) same;
          fits = All-head FitsShape m ms fits;
          state = ap (λ e. loaded_at (if_external e b (externals_from (suc b) cs)) (m.words ∷ words_loaded ms) c d) is_here
              ∙ ap (λ e. if e then cell_states.with_words m.words d else loaded_at (externals_from (suc b) cs) (words_loaded ms) c d) (ap (just b) (sym here) ∙ just_same b);
          words = λ k. ap (λ e. loaded_word tree (front e b x (lists_from cell_externals (suc b) cs)) (m.words ∷ words_loaded ms) j array k) is_here
              ∙ ap (λ e. if e then slice_index m.words k else loaded_word tree (lists_from cell_externals (suc b) cs) (words_loaded ms) j array k) own_here;
        }
  one_loaded (x ∷ cs) b ms (suc t) cell at is place others own rows fits = go x.external refl ms rows fits (λ ms rows fits. one_loaded cs (suc b) ms t cell at is later (others-tail x cs b others) own rows fits) where
    later : suc b + t ≡ c
    later = let next : suc b + t ≡ b + suc t = omega arith in next ∙ place

    other : b ≡ c → ⊥
    other e = let wrong : b ≡ b + suc t = e ∙ sym place in absurd (omega arith)

    go : (e : Bool) → x.external ≡ e → (ms : List PlainMemory) → map (λ (m : PlainMemory). m.shape) ms ≡ rows_of (front x.external b x (lists_from cell_externals (suc b) cs)) → All FitsShape ms
        → ((ms : List PlainMemory) → map (λ (m : PlainMemory). m.shape) ms ≡ rows_of (lists_from cell_externals (suc b) cs) → All FitsShape ms → IsLoaded cs (suc b) cell ms) → IsLoaded (x ∷ cs) b cell ms
    go false is_x ms rows fits rest =
        let r = rest ms (rows ∙ ap (λ e. rows_of (front e b x (lists_from cell_externals (suc b) cs))) is_x) fits in
        record {
          memory = r.memory;
          shape = r.shape;
          fits = r.fits;
          state = ap (λ e. loaded_at (if_external e b (externals_from (suc b) cs)) (words_loaded ms) c d) is_x ∙ r.state;
          words = λ k. ap (λ e. loaded_word tree (front e b x (lists_from cell_externals (suc b) cs)) (words_loaded ms) j array k) is_x ∙ r.words k;
        }
    go true is_x [] rows fits rest =
        absurd (let wrong : [] ≡ row_of (external_of b x) ∷ rows_of (lists_from cell_externals (suc b) cs) = rows ∙ ap (λ e. rows_of (front e b x (lists_from cell_externals (suc b) cs))) is_x in cc)
    go true is_x (m ∷ ms) rows fits rest =
        let all : m.shape ∷ map (λ (m : PlainMemory). m.shape) ms ≡ row_of (external_of b x) ∷ rows_of (lists_from cell_externals (suc b) cs) = rows ∙ ap (λ e. rows_of (front e b x (lists_from cell_externals (suc b) cs))) is_x in
        let r = rest ms (cc) (All-tail FitsShape m ms fits) in
        record {
          memory = r.memory;
          shape = r.shape;
          fits = r.fits;
          state = ap (λ e. loaded_at (if_external e b (externals_from (suc b) cs)) (m.words ∷ words_loaded ms) c d) is_x
              ∙ ap (λ e. if e then cell_states.with_words m.words d else loaded_at (externals_from (suc b) cs) (words_loaded ms) c d) (just_other b c other) ∙ r.state;
          words = λ k. ap (λ e. loaded_word tree (front e b x (lists_from cell_externals (suc b) cs)) (m.words ∷ words_loaded ms) j array k) is_x
              ∙ ap (λ e. if e then slice_index m.words k else loaded_word tree (lists_from cell_externals (suc b) cs) (words_loaded ms) j array k) (others-head x cs b others is_x other array) ∙ r.words k;
        }
