-- The numbers in nested arrays, and the words that they give.
use Rattle.std.specs.Prelude.{ℕ, ◌+◌, ◌-◌, ◌^◌, ◌==◌, ℤ, pos, negsuc, Bool, true, false, nat_lt, if◌then◌else◌, List, [], ◌∷◌, ◌++◌, Option, Some, None, option_map, option_and_then, Result, Ok, Err}
use Rattle.std.specs.Result.{result_map_both}
use Rattle.serde_json.specs.Data.{Num, Data, Items, no_items, item}
use Rattle.serde_json.specs.Events.{items_len}
use Rattle.serde_json.specs.Find.{as_array, as_integer, as_number}

-- the numbers of each item, one after another, where each item has them
abbrev pub numbers_of_each : (Data → Option (List Num)) → Items → Option (List Num)
numbers_of_each numbers no_items = Some []
numbers_of_each numbers (item d ds) =
    option_and_then (λ ns. option_map (λ more. ns ++ more) (numbers_of_each numbers ds)) (numbers d)

-- the numbers in row-major order, where arrays nest and have lengths by the sizes, outermost first
abbrev pub numbers_of : List ℕ → Data → Option (List Num)
numbers_of [] d = option_map (λ n. n ∷ []) (as_number d)
numbers_of (size ∷ sizes) d =
    option_and_then
    (λ items. if items_len items == size then numbers_of_each (numbers_of sizes) items else None)
    (as_array d)

-- the word of an integer in range; `negsuc n` is the integer -(n + 1), whose word is its two's complement
abbrev pub word_of_integer : Bool → ℕ → ℤ → Option ℕ
word_of_integer false width (pos n) = if nat_lt n (2 ^ width) then Some n else None
word_of_integer false width (negsuc n) = None
word_of_integer true width (pos n) = if nat_lt n (2 ^ (width - 1)) then Some n else None
word_of_integer true width (negsuc n) = if nat_lt n (2 ^ (width - 1)) then Some (2 ^ width - (n + 1)) else None

-- a number that is no integer of 64 bits gives no word
abbrev pub word_of : Bool → ℕ → Num → Option ℕ
word_of signed width number = option_and_then (word_of_integer signed width) (as_integer number)

abbrev pub before_words : Option ℕ → ℕ → Result (List ℕ) ℕ → Result (List ℕ) ℕ
before_words None index more = Err index
before_words (Some word) index more = result_map_both (λ words. word ∷ words) (λ later. later) more

-- the words of numbers from this index on, or the index of the first number that gives none
abbrev pub words_of : (Num → Option ℕ) → ℕ → List Num → Result (List ℕ) ℕ
words_of word index [] = Ok []
words_of word index (n ∷ ns) = before_words (word n) index (words_of word (index + 1) ns)
