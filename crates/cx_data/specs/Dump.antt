-- The text of the dump, over the words of the external memories as plain data.
use Rattle.std.specs.Prelude.{ℕ, zero, suc, ◌+◌, ◌-◌, ◌^◌, Bool, ◌&&◌, nat_lt, nat_le, if◌then◌else◌, List, [], ◌∷◌, ◌++◌, map, take, drop, slice_index, codes, decimal}
use Rattle.std.specs.Cmp.Lexicographic.{slice_cmp}
use Rattle.std.specs.Ordering.{nat_cmp, is_lt}
use Rattle.cx_text.specs.Loading.{PlainMemory, word_count}

-- a word in decimal; the upper half of a signed memory's words stands for negative numbers, by two's complement
abbrev pub number_text : Bool → ℕ → ℕ → List ℕ
number_text signed width word =
    if signed && nat_le (2 ^ (width - 1)) word then 45 ∷ decimal (2 ^ width - word) else decimal word

-- a comma stands before each text but the first
abbrev pub comma_before : ℕ → List ℕ
comma_before index = if nat_lt 0 index then 44 ∷ [] else []

-- the texts from this index on, with their commas
abbrev pub joined : ℕ → List (List ℕ) → List ℕ
joined index [] = []
joined index (text ∷ texts) = comma_before index ++ (text ++ joined (index + 1) texts)

-- the first `count` pieces of `size` words each
abbrev pub pieces : ℕ → ℕ → List ℕ → List (List ℕ)
pieces zero size words = []
pieces (suc count) size words = take size words ∷ pieces count size (drop size words)

-- row-major words as lists within lists, the outermost by the first size
abbrev pub nested_text : (ℕ → List ℕ) → List ℕ → List ℕ → List ℕ
nested_text number [] words = number (slice_index words 0)
nested_text number (size ∷ sizes) words =
    91 ∷ (joined 0 (map (nested_text number sizes) (pieces size (word_count sizes) words)) ++ 93 ∷ [])

-- a name and the lists of its words
abbrev pub memory_text : PlainMemory → List ℕ
memory_text m = 34 ∷ (m.shape.name ++ (codes "\":" ++ nested_text (number_text m.signed m.shape.width) m.shape.sizes m.words))

-- one more memory, after those whose names are not greater
abbrev pub insert_by_name : PlainMemory → List PlainMemory → List PlainMemory
insert_by_name m [] = m ∷ []
insert_by_name m (other ∷ others) =
    if is_lt (slice_cmp nat_cmp m.shape.name other.shape.name) then m ∷ other ∷ others
    else other ∷ insert_by_name m others

abbrev pub inserted_by_name : List PlainMemory → List PlainMemory → List PlainMemory
inserted_by_name ordered [] = ordered
inserted_by_name ordered (m ∷ ms) = inserted_by_name (insert_by_name m ordered) ms

-- in the order of the bytes of their names, those of one name in their own order
abbrev pub by_name : List PlainMemory → List PlainMemory
by_name ms = inserted_by_name [] ms

-- the dump of a run of so many cycles
abbrev pub dump_text : ℕ → List PlainMemory → List ℕ
dump_text cycles memories =
    codes "{\"cycles\":" ++ (decimal cycles ++
    (codes ",\"memories\":{" ++ (joined 0 (map memory_text (by_name memories)) ++ codes "}}\n")))
