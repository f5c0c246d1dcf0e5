-- External memories and their words as plain data: what `MemoryRow` and `Loaded` stand for, without where they lie in memory.
use Rattle.std.specs.Prelude.{◌≡◌, ℕ, ◌*◌, ◌^◌, ◌<◌, List, [], ◌∷◌, Bool, length, map, All}
use Rattle.cx_text.specs.declared.loading.MemoryRow.{MemoryRow}
use Rattle.cx_text.specs.declared.loading.LoadedMemory.{LoadedMemory}
use Rattle.cx_text.specs.declared.loading.Loaded.{Loaded}

-- an external memory: its name, the width of a word in bits, its sizes with the outermost first
pub record PlainRow : Type 0 where
  pub name : List ℕ
  pub width : ℕ
  pub sizes : List ℕ

-- the words of an external memory, row-major, a negative one as its two's complement
pub record PlainMemory : Type 0 where
  pub shape : PlainRow
  pub signed : Bool
  pub words : List ℕ

abbrev pub plain_row : MemoryRow → PlainRow
plain_row m = record { name = m.name; width = m.width; sizes = m.sizes.items }

abbrev pub plain_rows : List MemoryRow → List PlainRow
plain_rows rows = map plain_row rows

abbrev pub plain_memory : LoadedMemory → PlainMemory
plain_memory m = record { shape = plain_row m.row; signed = m.signed; words = m.words.items }

abbrev pub plain_loaded : Loaded → List PlainMemory
plain_loaded l = map plain_memory l.memories.items

-- how many words a memory of these sizes has
abbrev pub word_count : List ℕ → ℕ
word_count [] = 1
word_count (size ∷ sizes) = size * word_count sizes

-- a memory has as many words as its sizes say, each below two to its width
pub record FitsShape (memory : PlainMemory) : Type 0 where
  pub count : length memory.words ≡ word_count memory.shape.sizes
  pub in_range : All (λ word. word < 2 ^ memory.shape.width) memory.words

-- one memory for each row, in their order, each of its row and whole
pub record FitsRows (rows : List PlainRow) (memories : List PlainMemory) : Type 0 where
  pub same_rows : map (λ m. m.shape) memories ≡ rows
  pub whole : All FitsShape memories

-- the words of the memories that a data file gives
abbrev pub words_loaded : List PlainMemory → List (List ℕ)
words_loaded ms = map (λ m. m.words) ms

-- the memories with these words in place of theirs, one list for each
abbrev pub with_words : List PlainMemory → List (List ℕ) → List PlainMemory
with_words [] words = []
with_words (m ∷ ms) [] = m ∷ ms
with_words (m ∷ ms) (ws ∷ words) = record { shape = m.shape; signed = m.signed; words = ws } ∷ with_words ms words
