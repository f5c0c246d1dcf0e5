-- Memories over which the words of cells are written one after the other.
use Rattle.std.proofs.Common.{◌≡◌, ℕ, zero, suc, ◌+◌, ◌<◌, ◌≤◌, true, false, List, [], ◌∷◌, length, drop, get_or, set, map, Option, refl, sym, ap, ◌∙◌, subst, arith}
use Rattle.std.proofs.Math.Seq.{drop-cons}
use Rattle.std.proofs.Math.ListN.{drop_of_length-le}
use Rattle.std.proofs.lemmas.List.{drop-set-lt, length-map, get_or-map, map-set}
use Rattle.cx_text.specs.declared.loading.LoadedMemory.{LoadedMemory}
use Rattle.cx_text.specs.Loading.{PlainMemory, plain_memory, with_words}
use Rattle.cx_prim.specs.CellStates.{CellState}
use Rattle.cx_meaning.specs.Designs.{PlainCell}
use Rattle.cx_design.specs.declared.cells.Cell.{Cell}
use Rattle.cx_design.specs.PlainForms.{plain_cell}
use Rattle.cx_state.specs.Reading.{words_held, words_before, words_among, CanRead, ReadsNext, AreReadable}

abbrev pub with_word : PlainMemory → List ℕ → PlainMemory
with_word m ws = record { shape = m.shape; signed = m.signed; words = ws }

-- the memories from a number on with these words
abbrev pub put_words : ℕ → List (List ℕ) → List PlainMemory → List PlainMemory
put_words zero words ms = with_words ms words
put_words (suc k) words [] = []
put_words (suc k) words (m ∷ ms) = m ∷ put_words k words ms

put_next : (k : ℕ) (ms : List PlainMemory) (m : PlainMemory) (ws : List ℕ) (words : List (List ℕ)) → k < length ms → get_or ms k m ≡ m
    → put_words (suc k) words (set ms k (with_word m ws)) ≡ put_words k (ws ∷ words) ms
put_next k [] m ws words lt e = absurd (omega arith)
put_next zero (x ∷ xs) m ws words lt e = ap (λ y. with_word y ws ∷ with_words xs words) (sym e)
put_next (suc k) (x ∷ xs) m ws words lt e = ap (λ ys. x ∷ ys) (put_next k xs m ws words (let h : suc k < suc (length xs) = lt in omega arith) e)

put_none : (k : ℕ) (ms : List PlainMemory) → put_words k [] ms ≡ ms
put_none zero [] = refl
put_none zero (m ∷ ms) = refl
put_none (suc k) [] = refl
put_none (suc k) (m ∷ ms) = ap (λ ys. m ∷ ys) (put_none k ms)

-- a list from n on begins with x
record Opens {A : Type 0} (xs : List A) (n : ℕ) (x : A) (rest : List A) : Type 0 where
  there : n < length xs
  first : (d : A) → get_or xs n d ≡ x
  later : drop (suc n) xs ≡ rest

opens : {A : Type 0} (xs : List A) (n : ℕ) (x : A) (rest : List A) → drop n xs ≡ x ∷ rest → Opens xs n x rest
opens [] zero x rest e = absurd (cc)
opens [] (suc n) x rest e = absurd (cc)
opens (y ∷ ys) zero x rest e = record { there = omega arith; first = λ d. cc; later = cc }
opens (y ∷ ys) (suc n) x rest e =
    let o = opens ys n x rest e in
    record { there = (let h = o.there in omega (arith, h)); first = λ d. o.first d; later = o.later }

-- what the next cell finds
record Pieces (cell : PlainCell) (cells : List PlainCell) (hs : List (Option CellState)) (ms : List PlainMemory) : Type 0 where
  h : Option CellState
  rest : List (Option CellState)
  m : PlainMemory
  others : List PlainMemory
  held : hs ≡ h ∷ rest
  memories : ms ≡ m ∷ others
  can : CanRead cell.kind h m.words
  readable : AreReadable cells rest others

pieces : (cell : PlainCell) (cells : List PlainCell) (hs : List (Option CellState)) (ms : List PlainMemory) → cell.external ≡ true → AreReadable (cell ∷ cells) hs ms → Pieces cell cells hs ms
pieces cell cells [] ms e r = absurd r
pieces cell cells (h ∷ hs) ms e r = by ms (subst (λ b. ReadsNext b cell.kind h (AreReadable cells hs) ms) e r)
  where
    by : (ms : List PlainMemory) → ReadsNext true cell.kind h (AreReadable cells hs) ms → Pieces cell cells (h ∷ hs) ms
    by [] r = absurd r
    by (m ∷ ms) r = record { h = h; rest = hs; m = m; others = ms; held = refl; memories = refl; can = r.0; readable = r.1 }

-- what is passed over
record Passed (cell : PlainCell) (cells : List PlainCell) (hs : List (Option CellState)) (ms : List PlainMemory) : Type 0 where
  h : Option CellState
  rest : List (Option CellState)
  held : hs ≡ h ∷ rest
  readable : AreReadable cells rest ms

passed : (cell : PlainCell) (cells : List PlainCell) (hs : List (Option CellState)) (ms : List PlainMemory) → cell.external ≡ false → AreReadable (cell ∷ cells) hs ms → Passed cell cells hs ms
passed cell cells [] ms e r = absurd r
passed cell cells (h ∷ hs) ms e r = record { h = h; rest = hs; held = refl; readable = subst (λ b. ReadsNext b cell.kind h (AreReadable cells hs) ms) e r }

-- AFTER n CELLS, where the words are written of the memories before `next`
pub record AreWritten (cells : List PlainCell) (hs : List (Option CellState)) (old ms : List PlainMemory) (n next : ℕ) : Type 0 where
  pub readable : AreReadable (drop n cells) (drop n hs) (drop next ms)
  pub value : put_words next (words_among (drop n cells) (drop n hs)) ms ≡ with_words old (words_among cells hs)

pub written_begin : (cells : List PlainCell) (hs : List (Option CellState)) (old : List PlainMemory) → AreReadable cells hs old → AreWritten cells hs old old 0 0
written_begin cells hs old r = record { readable = r; value = refl }

module _ (cells : List PlainCell) (hs : List (Option CellState)) (old ms : List PlainMemory) (n next : ℕ) (cell : PlainCell) (far : AreWritten cells hs old ms n next) (lt : n < length cells) (is : get_or cells n cell ≡ cell) where
  split : drop n cells ≡ cell ∷ drop (suc n) cells
  split = drop-cons cells n cell lt ∙ ap (λ c. c ∷ drop (suc n) cells) is

  reads : AreReadable (cell ∷ drop (suc n) cells) (drop n hs) (drop next ms)
  reads = subst (λ cs. AreReadable cs (drop n hs) (drop next ms)) split far.readable

  -- the next cell is there, and a memory for it where it is external
  pub held_there : cell.external ≡ true → n < length hs
  held_there e = let p = pieces cell (drop (suc n) cells) (drop n hs) (drop next ms) e reads in (opens hs n p.h p.rest p.held).there

  pub memory_there : cell.external ≡ true → next < length ms
  memory_there e = let p = pieces cell (drop (suc n) cells) (drop n hs) (drop next ms) e reads in (opens ms next p.m p.others p.memories).there

  pub reads_next : cell.external ≡ true → (h : Option CellState) (m : PlainMemory) → get_or hs n h ≡ h → get_or ms next m ≡ m → CanRead cell.kind h m.words
  reads_next e h m first second =
      let p = pieces cell (drop (suc n) cells) (drop n hs) (drop next ms) e reads in
      let same : p.h ≡ h = sym ((opens hs n p.h p.rest p.held).first h) ∙ first in
      let alike : p.m ≡ m = sym ((opens ms next p.m p.others p.memories).first m) ∙ second in
      subst (λ x. CanRead cell.kind x m.words) same (subst (λ (x : PlainMemory). CanRead cell.kind p.h x.words) alike p.can)

  pub written_on : cell.external ≡ true → (h : Option CellState) (m : PlainMemory) → get_or hs n h ≡ h → get_or ms next m ≡ m → AreWritten cells hs old (set ms next (with_word m (words_held h))) (n + 1) (next + 1)
  written_on e h m first second =
      let p = pieces cell (drop (suc n) cells) (drop n hs) (drop next ms) e reads in
      let o = opens hs n p.h p.rest p.held in
      let q = opens ms next p.m p.others p.memories in
      let same : p.h ≡ h = sym (o.first h) ∙ first in
      let kept : drop (suc next) (set ms next (with_word m (words_held h))) ≡ p.others = drop-set-lt (suc next) ms next (with_word m (words_held h)) (omega arith) ∙ q.later in
      let words : words_among (cell ∷ drop (suc n) cells) (drop n hs) ≡ words_held h ∷ words_among (drop (suc n) cells) (drop (suc n) hs) =
      ap (words_among (cell ∷ drop (suc n) cells)) p.held ∙ ap (λ b. words_before b p.h (words_among (drop (suc n) cells) p.rest)) e
      ∙ ap (λ x. words_held x ∷ words_among (drop (suc n) cells) p.rest) same ∙ ap (λ xs. words_held h ∷ words_among (drop (suc n) cells) xs) (sym o.later) in
      subst (λ k. AreWritten cells hs old (set ms next (with_word m (words_held h))) k (next + 1)) (let s : suc n ≡ n + 1 = omega arith in s)
      (subst (AreWritten cells hs old (set ms next (with_word m (words_held h))) (suc n)) (let s : suc next ≡ next + 1 = omega arith in s)
      (record {
        readable =
            subst (AreReadable (drop (suc n) cells) (drop (suc n) hs)) (sym kept)
            (subst (λ xs. AreReadable (drop (suc n) cells) xs p.others) (sym o.later) p.readable);
        value =
            put_next next ms m (words_held h) (words_among (drop (suc n) cells) (drop (suc n) hs)) q.there second
            ∙ ap (λ ws. put_words next ws ms) (sym words)
            ∙ ap (λ cs. put_words next (words_among cs (drop n hs)) ms) (sym split)
            ∙ far.value;
      }))

  pub written_past : cell.external ≡ false → AreWritten cells hs old ms (n + 1) next
  written_past e =
      let p = passed cell (drop (suc n) cells) (drop n hs) (drop next ms) e reads in
      let o = opens hs n p.h p.rest p.held in
      let words : words_among (cell ∷ drop (suc n) cells) (drop n hs) ≡ words_among (drop (suc n) cells) (drop (suc n) hs) =
      ap (words_among (cell ∷ drop (suc n) cells)) p.held ∙ ap (λ b. words_before b p.h (words_among (drop (suc n) cells) p.rest)) e
      ∙ ap (words_among (drop (suc n) cells)) (sym o.later) in
      subst (λ k. AreWritten cells hs old ms k next) (let s : suc n ≡ n + 1 = omega arith in s)
      (record {
        readable = subst (λ xs. AreReadable (drop (suc n) cells) xs (drop next ms)) (sym o.later) p.readable;
        value = ap (λ ws. put_words next ws ms) (sym words) ∙ ap (λ cs. put_words next (words_among cs (drop n hs)) ms) (sym split) ∙ far.value;
      })

pub written_end : (cells : List PlainCell) (hs : List (Option CellState)) (old ms : List PlainMemory) (n next : ℕ) → AreWritten cells hs old ms n next → length cells ≤ n → ms ≡ with_words old (words_among cells hs)
written_end cells hs old ms n next far le =
    sym (put_none next ms) ∙ ap (λ cs. put_words next (words_among cs (drop n hs)) ms) (sym (drop_of_length-le cells le)) ∙ far.value

-- CELLS AND MEMORIES as they stand in memory
pub cell_at : (cells : List Cell) (n : ℕ) (x : Cell) → n < length cells → x ≡ get_or cells n x → get_or (map plain_cell cells) n (plain_cell x) ≡ plain_cell x
cell_at cells n x lt e = get_or-map plain_cell cells n x (plain_cell x) lt ∙ ap plain_cell (sym e)

pub cell_there : (cells : List Cell) (n : ℕ) → n < length cells → n < length (map plain_cell cells)
cell_there cells n lt = subst (λ k. n < k) (sym (length-map cells plain_cell)) lt

pub memory_at : (ms : List LoadedMemory) (n : ℕ) (x : LoadedMemory) → n < length ms → x ≡ get_or ms n x → get_or (map plain_memory ms) n (plain_memory x) ≡ plain_memory x
memory_at ms n x lt e = get_or-map plain_memory ms n x (plain_memory x) lt ∙ ap plain_memory (sym e)

pub memory_back : (ms : List LoadedMemory) (n : ℕ) → n < length (map plain_memory ms) → n < length ms
memory_back ms n lt = subst (λ k. n < k) (length-map ms plain_memory) lt

pub memory_set : (ms : List LoadedMemory) (n : ℕ) (m x : LoadedMemory) (ws : List ℕ) → plain_memory x ≡ with_word (plain_memory m) ws → map plain_memory (set ms n x) ≡ set (map plain_memory ms) n (with_word (plain_memory m) ws)
memory_set ms n m x ws e = map-set plain_memory ms n x ∙ ap (set (map plain_memory ms) n) e

pub all_written : (cells : List Cell) (hs : List (Option CellState)) (old ms : List PlainMemory) (n next : ℕ) → AreWritten (map plain_cell cells) hs old ms n next → length cells ≤ n → ms ≡ with_words old (words_among (map plain_cell cells) hs)
all_written cells hs old ms n next far le = written_end (map plain_cell cells) hs old ms n next far (subst (λ k. k ≤ n) (sym (length-map cells plain_cell)) le)
