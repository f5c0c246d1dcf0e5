-- Loaded words that fit the external memories are taken by them.
use Rattle.std.proofs.Common.{◌≡◌, ℕ, ◌^◌, ◌<◌, Bool, true, false, inl, inr, List, [], ◌∷◌, map, All, Some, None, refl, sym, ap, ◌∙◌, subst}
use Rattle.std.proofs.lemmas.List.Elements.{All-head, All-tail}
use Rattle.cx_text.specs.Loading.{PlainMemory, FitsShape, FitsRows, word_count, plain_memory, words_loaded}
use Rattle.cx_text.specs.declared.loading.LoadedMemory.{LoadedMemory}
use Rattle.cx_prim.specs.Table.{row_of}
use Rattle.cx_meaning.specs.Designs.{PlainKind, OfPrimitive, OfComponent, PlainCell, PlainDesign, component_at}
use Rattle.cx_rules.specs.Wellformed.{IsDesign, IsExternal, first_number}
use Rattle.cx_rules.specs.Externals.{sizes_in, numbers_of, row_for, if_external, rows_of, external_rows}
use Rattle.cx_state.specs.States.{words_in}
use Rattle.cx_state.specs.Starts.{words_for, words_past, KindTakes, TakeWords}
use Rattle.cx_state.proofs.Shapes.{memory_shape}
use Rattle.cx_state.proofs.MainLemmas.{takes_shape, AreExternal, external_kind}

-- without words nothing is taken
kind_none : (kind : PlainKind) → KindTakes kind None
kind_none (OfPrimitive p) = tt
kind_none (OfComponent k) = tt

pub none_for : (b : Bool) → words_for b [] ≡ None
none_for true = refl
none_for false = refl

pub none_past : (b : Bool) → words_past b [] ≡ []
none_past true = refl
none_past false = refl

pub take_none : (cells : List PlainCell) → TakeWords cells []
take_none [] = tt
take_none (cell ∷ cells) = (subst (KindTakes cell.kind) (sym (none_for cell.external)) (kind_none cell.kind), subst (TakeWords cells) (sym (none_past cell.external)) (take_none cells))

-- an external cell takes the words of a memory of its row
kind_takes : (d : PlainDesign) (k : ℕ) (cell : PlainCell) (kind : PlainKind) (m : PlainMemory) → cell.kind ≡ kind → IsExternal d k kind → m.shape ≡ row_for cell → FitsShape m → KindTakes kind (Some m.words)
kind_takes d k cell (OfComponent j) m is external same fit = tt
kind_takes d k cell (OfPrimitive p) m is external same fit =
    let numbers : numbers_of cell.kind ≡ p.numbers = ap numbers_of is in
    let width : m.shape.width ≡ first_number p.numbers = ap (λ r. r.width) same ∙ ap first_number numbers in
    let sizes : m.shape.sizes ≡ sizes_in p.numbers = ap (λ r. r.sizes) same ∙ ap sizes_in numbers in
    takes_shape (row_of p).shape (first_number p.numbers) (word_count (sizes_in p.numbers)) m.words (memory_shape p external.1)
    (record { length = fit.count ∙ ap word_count sizes; in_range = subst (λ w. All (λ word. word < 2 ^ w) m.words) width fit.in_range }) external.2

cell_takes : (d : PlainDesign) (k : ℕ) (cell : PlainCell) (cells : List PlainCell) (b : Bool) (memories : List PlainMemory) → cell.external ≡ b → (b ≡ true → IsExternal d k cell.kind)
    → ((rest : List PlainMemory) → map (λ (m : PlainMemory). m.shape) rest ≡ rows_of cells → All FitsShape rest → TakeWords cells (words_loaded rest))
    → map (λ (m : PlainMemory). m.shape) memories ≡ if_external b cell (rows_of cells) → All FitsShape memories
    → KindTakes cell.kind (words_for b (words_loaded memories)) × TakeWords cells (words_past b (words_loaded memories))
cell_takes d k cell cells false memories is external later same fit = (kind_none cell.kind, later memories same fit)
cell_takes d k cell cells true [] is external later same fit = (kind_none cell.kind, take_none cells)
cell_takes d k cell cells true (m ∷ ms) is external later same fit = (
  kind_takes d k cell cell.kind m refl (external refl) (cc) (All-head FitsShape m ms fit),
  later ms (cc) (All-tail FitsShape m ms fit),
)

all_take : (d : PlainDesign) (k : ℕ) (cells : List PlainCell) (memories : List PlainMemory) → AreExternal d k cells → map (λ (m : PlainMemory). m.shape) memories ≡ rows_of cells → All FitsShape memories
    → TakeWords cells (words_loaded memories)
all_take d k [] memories external same fit = tt
all_take d k (cell ∷ cells) memories external same fit =
    cell_takes d k cell cells cell.external memories refl (external cell (inl refl)) (λ rest e f. all_take d k cells rest (λ x i e. external x (inr i) e) e f) same fit

words_plain : (memories : List LoadedMemory) → words_loaded (map plain_memory memories) ≡ words_in memories
words_plain [] = refl
words_plain (m ∷ ms) = ap (λ ws. m.words.items ∷ ws) (words_plain ms)

-- the cells of main take what is loaded
pub design_takes : (d : PlainDesign) → ∥ IsDesign d ∥₁ → (memories : List LoadedMemory) → FitsRows (external_rows d) (map plain_memory memories) → TakeWords (component_at d d.main).cells (words_in memories)
design_takes d keeps memories fits =
    subst (TakeWords (component_at d d.main).cells) (words_plain memories)
    (all_take d d.main (component_at d d.main).cells (map plain_memory memories) (λ cell i e. external_kind d keeps cell cell.kind refl i e) fits.same_rows fits.whole)
