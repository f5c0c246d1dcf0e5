-- The words of the external ones among cells.
use Rattle.std.specs.Prelude.{◌≡◌, ℕ, Bool, true, false, List, [], ◌∷◌, Option, Some, None, length}
use Rattle.cx_text.specs.Loading.{PlainMemory}
use Rattle.cx_prim.specs.CellStates.{CellState, IsState, TakesWords, words_of}
use Rattle.cx_prim.specs.Table.{row_of}
use Rattle.cx_meaning.specs.Designs.{PlainKind, OfPrimitive, OfComponent, PlainCell}

-- the words that a cell holds; a component's cell holds none
abbrev pub words_held : Option CellState → List ℕ
words_held None = []
words_held (Some held) = words_of held

-- those of the external ones among cells, in cell order
abbrev pub words_before : Bool → Option CellState → List (List ℕ) → List (List ℕ)
words_before true h rest = words_held h ∷ rest
words_before false h rest = rest

abbrev pub words_among : List PlainCell → List (Option CellState) → List (List ℕ)
words_among [] hs = []
words_among (cell ∷ cells) [] = []
words_among (cell ∷ cells) (h ∷ hs) = words_before cell.external h (words_among cells hs)

-- a cell is a memory that has as many words as there are here
abbrev pub CanRead : PlainKind → Option CellState → List ℕ → Type 0
CanRead (OfPrimitive p) None words = ⊥
CanRead (OfPrimitive p) (Some held) words =
    IsState (row_of p).shape held × TakesWords (row_of p).shape (words_of held)
    × (length words ≡ length (words_of held))
CanRead (OfComponent k) held words = ⊥

-- so is each external cell, with one memory for each of them
abbrev pub ReadsNext : Bool → PlainKind → Option CellState → (List PlainMemory → Type 0) → List PlainMemory → Type 0
ReadsNext false kind h Later ms = Later ms
ReadsNext true kind h Later [] = ⊥
ReadsNext true kind h Later (m ∷ ms) = CanRead kind h m.words × Later ms

abbrev pub AreReadable : List PlainCell → List (Option CellState) → List PlainMemory → Type 0
AreReadable [] hs ms = ms ≡ []
AreReadable (cell ∷ cells) [] ms = ⊥
AreReadable (cell ∷ cells) (h ∷ hs) ms = ReadsNext cell.external cell.kind h (AreReadable cells hs) ms
