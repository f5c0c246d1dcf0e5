-- The external memories of main can be read in a state of the design, and their words are those of its meaning.
use Rattle.std.proofs.Common.{◌≡◌, ℕ, zero, suc, ◌+◌, ◌^◌, ◌<◌, ◌≤◌, Bool, true, false, inl, inr, List, [], ◌∷◌, length, map, get_or, All, Option, Some, None, refl, sym, ap, ◌∙◌, subst, arith}
use Rattle.std.proofs.Math.Logic.{∥∥₁_elim}
use Rattle.std.proofs.lemmas.List.{length-map, get_or-map}
use Rattle.std.proofs.lemmas.List.Elements.{All-nil, All-cons, All-head, All-tail}
use denote.Struct.Props.{props}
use Rattle.cx_text.specs.Loading.{PlainMemory, FitsShape, FitsRows, word_count, with_words}
use Rattle.cx_prim.specs.CellStates.{CellState, StateShape, AreWords, IsState, TakesWords, words_of}
use Rattle.cx_prim.specs.Table.{row_of}
use Rattle.cx_meaning.specs.Designs.{PlainKind, OfPrimitive, OfComponent, PlainCell, PlainDesign, component_at}
use Rattle.cx_meaning.specs.Instances.{State, part_of, instance_at, tree_of, if_external, externals_from}
use Rattle.cx_meaning.specs.Instances as meaning
use Rattle.cx_text.specs.Members.{In}
use Rattle.cx_rules.specs.Wellformed.{IsDesign, IsExternal, first_number}
use Rattle.cx_rules.specs.Externals.{sizes_in, numbers_of, row_for, rows_of, external_rows}
use Rattle.cx_rules.specs.Externals as externals
use Rattle.cx_state.specs.declared.states.InstanceState.{InstanceState}
use Rattle.cx_state.specs.States.{PlainInstance, plain_instance, no_instance, instance_state, HoldsKind, HoldCells, IsStateOf, StandsFor}
use Rattle.cx_state.proofs.Shapes.{IsMemoryOf, memory_shape}
use Rattle.cx_state.specs.Reading.{words_held, words_before, words_among, CanRead, ReadsNext, AreReadable}
use Rattle.cx_state.proofs.WriteLemmas.{with_word}
use Rattle.cx_prim.proofs.CellStatesLemmas.{words_fit, sequential_words_fit}
use Rattle.cx_meaning.proofs.InstancesLemmas.{main_there, main_first, here as instance_self}
use Rattle.cx_text.proofs.LoadingLemmas.{same_shapes}
use Rattle.cx_meaning.proofs.DesignsLemmas.{same_part}

are_words : (shape : StateShape) (width count : ℕ) (held : CellState) → IsMemoryOf shape width count → IsState shape held → AreWords width count (words_of held)
are_words shape width count held (inl e) k = words_fit width count held (subst (λ s. IsState s held) e k)
are_words shape width count held (inr e) k = sequential_words_fit width count held (subst (λ s. IsState s held) e k)

pub takes_shape : (shape : StateShape) (width count : ℕ) (words : List ℕ) → IsMemoryOf shape width count → AreWords width count words → width ≤ 64 → TakesWords shape words
takes_shape shape width count words (inl e) fit small = subst (λ s. TakesWords s words) (sym e) (fit, small)
takes_shape shape width count words (inr e) fit small = subst (λ s. TakesWords s words) (sym e) (fit, small)

-- AN EXTERNAL CELL can be read, and its words fit
cell_reads : (d : PlainDesign) (k : ℕ) (cell : PlainCell) (kind : PlainKind) (h : Option CellState) (m : PlainMemory) → cell.kind ≡ kind → IsExternal d k kind → HoldsKind kind h → m.shape ≡ row_for cell → FitsShape m
    → CanRead kind h m.words × FitsShape (with_word m (words_held h))
cell_reads d k cell (OfComponent j) h m is external holds same fit = absurd external
cell_reads d k cell (OfPrimitive p) None m is external holds same fit = absurd holds
cell_reads d k cell (OfPrimitive p) (Some held) m is external holds same fit =
    let numbers : numbers_of cell.kind ≡ p.numbers = ap numbers_of is in
    let width : m.shape.width ≡ first_number p.numbers = ap (λ r. r.width) same ∙ ap first_number numbers in
    let sizes : m.shape.sizes ≡ sizes_in p.numbers = ap (λ r. r.sizes) same ∙ ap sizes_in numbers in
    let shape : IsMemoryOf (row_of p).shape (first_number p.numbers) (word_count (sizes_in p.numbers)) = memory_shape p external.1 in
    let words : AreWords (first_number p.numbers) (word_count (sizes_in p.numbers)) (words_of held) = are_words (row_of p).shape (first_number p.numbers) (word_count (sizes_in p.numbers)) held shape holds in (
      (
        holds,
        takes_shape (row_of p).shape (first_number p.numbers) (word_count (sizes_in p.numbers)) (words_of held) shape words external.2,
        fit.count ∙ ap word_count sizes ∙ sym words.length,
      ),
      record {
        count = words.length ∙ ap word_count (sym sizes);
        in_range = subst (λ w. All (λ word. word < 2 ^ w) (words_of held)) (sym width) words.in_range;
      },
    )

abbrev pub AreExternal : PlainDesign → ℕ → List PlainCell → Type 0
AreExternal d k cells = (cell : PlainCell) → In cells cell → cell.external ≡ true → IsExternal d k cell.kind

record Read (cells : List PlainCell) (hs : List (Option CellState)) (ms : List PlainMemory) : Type 0 where
  readable : AreReadable cells hs ms
  whole : All FitsShape (with_words ms (words_among cells hs))

abbrev AreRead : List PlainCell → List (Option CellState) → Type 0
AreRead cells hs = (ms : List PlainMemory) → map (λ (m : PlainMemory). m.shape) ms ≡ rows_of cells → All FitsShape ms → Read cells hs ms

-- ALL EXTERNAL CELLS can be read
all_read : (d : PlainDesign) (k : ℕ) (cells : List PlainCell) (hs : List (Option CellState)) (ms : List PlainMemory) → AreExternal d k cells → HoldCells cells hs → map (λ (m : PlainMemory). m.shape) ms ≡ rows_of cells → All FitsShape ms
    → Read cells hs ms
all_read d k [] hs [] external holds same fit = record { readable = refl; whole = All-nil FitsShape }
all_read d k [] hs (m ∷ ms) external holds same fit = absurd (cc)
all_read d k (cell ∷ cells) [] ms external holds same fit = absurd holds
all_read d k (cell ∷ cells) (h ∷ hs) ms external holds same fit = by (λ ms e f. all_read d k cells hs ms (λ x i e. external x (inr i) e) holds.1 e f) cell.external refl ms same fit
  where
    by : AreRead cells hs → (b : Bool) → cell.external ≡ b → (ms : List PlainMemory) → map (λ (m : PlainMemory). m.shape) ms ≡ externals.if_external cell.external cell (rows_of cells) → All FitsShape ms → Read (cell ∷ cells) (h ∷ hs) ms
    by later false is ms same fit =
        let r = later ms (same ∙ ap (λ b. externals.if_external b cell (rows_of cells)) is) fit in
        record {
          readable = subst (λ b. ReadsNext b cell.kind h (AreReadable cells hs) ms) (sym is) r.readable;
          whole = subst (λ b. All FitsShape (with_words ms (words_before b h (words_among cells hs)))) (sym is) r.whole;
        }
    by later true is [] same fit = absurd (let e : [] ≡ row_for cell ∷ rows_of cells = same ∙ ap (λ b. externals.if_external b cell (rows_of cells)) is in cc)
    by later true is (m ∷ ms) same fit =
        let e : m.shape ∷ map (λ (m : PlainMemory). m.shape) ms ≡ row_for cell ∷ rows_of cells = same ∙ ap (λ b. externals.if_external b cell (rows_of cells)) is in
        let one = cell_reads d k cell cell.kind h m refl (external cell (inl refl) is) holds.0 (cc) (All-head FitsShape m ms fit) in
        let r = later ms (cc) (All-tail FitsShape m ms fit) in
        record {
          readable = subst (λ b. ReadsNext b cell.kind h (AreReadable cells hs) (m ∷ ms)) (sym is) (one.0, r.readable);
          whole = subst (λ b. All FitsShape (with_words (m ∷ ms) (words_before b h (words_among cells hs)))) (sym is) (All-cons FitsShape (with_word m (words_held h)) (with_words ms (words_among cells hs)) one.1 r.whole);
        }

-- THE WORDS, as the meaning has them
held_words : (kind : PlainKind) (h : Option CellState) (words : List ℕ) (x : CellState) → CanRead kind h words → ((held : CellState) → h ≡ Some held → x ≡ held) → words_held h ≡ words_of x
held_words (OfComponent j) h words x can at = absurd can
held_words (OfPrimitive p) None words x can at = absurd can
held_words (OfPrimitive p) (Some held) words x can at = ap words_of (sym (at held refl))

words_mean : (cells : List PlainCell) (hs : List (Option CellState)) (ms : List PlainMemory) (x : ℕ → CellState) (k : ℕ) → AreReadable cells hs ms
    → ((c : ℕ) (held : CellState) → get_or hs c None ≡ Some held → x (k + c) ≡ held) → words_among cells hs ≡ map (λ c. words_of (x c)) (externals_from k cells)
words_mean [] hs ms x k r at = refl
words_mean (cell ∷ cells) [] ms x k r at = absurd r
words_mean (cell ∷ cells) (h ∷ hs) ms x k r at = by (λ ms r. words_mean cells hs ms x (suc k) r later) cell.external ms r
  where
    later : (c : ℕ) (held : CellState) → get_or hs c None ≡ Some held → x (suc k + c) ≡ held
    later c held e = ap x (let s : suc k + c ≡ k + suc c = omega arith in s) ∙ at (suc c) held e

    here : (held : CellState) → h ≡ Some held → x k ≡ held
    here held e = ap x (let s : k ≡ k + zero = omega arith in s) ∙ at zero held e

    by : ((ms : List PlainMemory) → AreReadable cells hs ms → words_among cells hs ≡ map (λ c. words_of (x c)) (externals_from (suc k) cells)) → (b : Bool) (ms : List PlainMemory) → ReadsNext b cell.kind h (AreReadable cells hs) ms → words_before b h (words_among cells hs) ≡ map (λ c. words_of (x c)) (if_external b k (externals_from (suc k) cells))
    by rest false ms r = rest ms r
    by rest true [] r = absurd r
    by rest true (m ∷ ms) r =
        ap (λ w. w ∷ words_among cells hs) (held_words cell.kind h m.words (x k) r.0 here)
        ∙ ap (λ ws. words_of (x k) ∷ ws) (rest ms r.1)

pub external_kind : (d : PlainDesign) → ∥ IsDesign d ∥₁ → (cell : PlainCell) (kind : PlainKind) → cell.kind ≡ kind → In (component_at d d.main).cells cell → cell.external ≡ true → IsExternal d d.main kind
external_kind d keeps cell (OfPrimitive p) e i x = ∥∥₁_elim keeps (hlevel props) (λ k. subst (IsExternal d d.main) e (((k.components d.main k.main_there).cells cell i).external x))
external_kind d keeps cell (OfComponent j) e i x = ∥∥₁_elim keeps (hlevel props) (λ k. subst (IsExternal d d.main) e (((k.components d.main k.main_there).cells cell i).external x))

pub first_there : (d : PlainDesign) (rows : List PlainInstance) → IsStateOf d rows → 0 < length rows
first_there d rows k = subst (λ n. 0 < n) (sym k.count) (main_there (tree_of d))

pub first_index : (items : List InstanceState) → 0 < length (map plain_instance items) → 0 < length items
first_index items lt = subst (λ n. 0 < n) (length-map items plain_instance) lt

-- what its cells hold
pub first_cells : (items : List InstanceState) (x : InstanceState) → 0 < length items → x ≡ get_or items 0 x → x.cells.items ≡ (instance_state (map plain_instance items) 0).cells
first_cells items x lt e = sym (ap (λ (i : PlainInstance). i.cells) (get_or-map plain_instance items 0 x no_instance lt ∙ ap plain_instance (sym e)))

module _ (d : PlainDesign) (rows : List PlainInstance) (ms : List PlainMemory) (keeps : ∥ IsDesign d ∥₁) (state : IsStateOf d rows) (fits : FitsRows (external_rows d) ms) where
  main_cells : (part_of (instance_at (tree_of d) [])).cells ≡ (component_at d d.main).cells
  main_cells = ap (λ i. (part_of i).cells) (instance_self (tree_of d)) ∙ ap (λ p. p.cells) (same_part d (length d.components) d.main)

  holds : HoldCells (component_at d d.main).cells (instance_state rows 0).cells
  holds = subst (λ cells. HoldCells cells (instance_state rows 0).cells) main_cells (state.fits 0 [] (main_first (tree_of d))).cells

  main_read : Read (component_at d d.main).cells (instance_state rows 0).cells ms
  main_read = all_read d d.main (component_at d d.main).cells (instance_state rows 0).cells ms (λ cell i e. external_kind d keeps cell cell.kind refl i e) holds fits.same_rows fits.whole

  pub main_readable : AreReadable (component_at d d.main).cells (instance_state rows 0).cells ms
  main_readable = main_read.readable

  pub main_fits : FitsRows (external_rows d) (with_words ms (words_among (component_at d d.main).cells (instance_state rows 0).cells))
  main_fits = record { same_rows = same_shapes ms (words_among (component_at d d.main).cells (instance_state rows 0).cells) ∙ fits.same_rows; whole = main_read.whole }

  pub main_words : (s : State) → StandsFor (tree_of d) rows s → words_among (component_at d d.main).cells (instance_state rows 0).cells ≡ meaning.words_of (tree_of d) s
  main_words s stands =
      words_mean (component_at d d.main).cells (instance_state rows 0).cells ms (λ c. s (c ∷ [])) 0 main_read.readable
      (λ c held e. ap (λ n. s (n ∷ [])) (let z : 0 + c ≡ c = omega arith in z) ∙ stands 0 c [] held (main_first (tree_of d)) e)
      ∙ ap (λ cells. map (λ c. words_of (s (c ∷ []))) (externals_from 0 cells)) (ap (λ p. p.cells) (sym (same_part d (length d.components) d.main)))

-- what is read alike is written alike
pub reads_alike : (cs cells : List PlainCell) (hs held : List (Option CellState)) (ns ms : List PlainMemory) → cs ≡ cells → hs ≡ held → ns ≡ ms → AreReadable cells held ms → AreReadable cs hs ns
reads_alike cs cells hs held ns ms e f g r = subst (λ x. AreReadable x hs ns) (sym e) (subst (λ x. AreReadable cells x ns) (sym f) (subst (AreReadable cells held) (sym g) r))

pub writes_alike : (cs cells : List PlainCell) (hs held : List (Option CellState)) (ns ms : List PlainMemory) → cs ≡ cells → hs ≡ held → ns ≡ ms → with_words ns (words_among cs hs) ≡ with_words ms (words_among cells held)
writes_alike cs cells hs held ns ms e f g = ap (λ x. with_words x (words_among cs hs)) g ∙ ap (λ x. with_words ms (words_among x hs)) e ∙ ap (λ x. with_words ms (words_among cells x)) f
