-- Worked values of the definitions, by hand.
use Rattle.std.proofs.Common.{◌≡◌, negsuc, true, false, [], ◌∷◌, Some, None, Ok, Err, codes, refl}
use Rattle.std.specs.Fmt.{digits}
use Rattle.serde_json.specs.Data.{unsigned, negative, number, array, no_items, item}
use Rattle.cx_data.specs.Dump.{dump_text}
use Rattle.cx_data.specs.Numbers.{numbers_of, word_of, words_of}
use Rattle.cx_text.specs.Loading.{PlainMemory}

abbrev pub table : PlainMemory
table = record { shape = record { name = codes "t"; width = 8; sizes = 2 ∷ 3 ∷ [] }; signed = false; words = 1 ∷ 2 ∷ 3 ∷ 4 ∷ 5 ∷ 6 ∷ [] }

abbrev pub source : PlainMemory
source = record { shape = record { name = codes "src"; width = 8; sizes = 3 ∷ [] }; signed = true; words = 128 ∷ 127 ∷ 255 ∷ [] }

-- rows of a table, the last index running fastest
pub known_table : dump_text 1 (table ∷ []) ≡ codes "{\"cycles\":1,\"memories\":{\"t\":[[1,2,3],[4,5,6]]}}\n"
unfolding digits
known_table = refl

-- the order of the names, and signed words
pub known_order : dump_text 20 (table ∷ source ∷ []) ≡ codes "{\"cycles\":20,\"memories\":{\"src\":[-128,127,-1],\"t\":[[1,2,3],[4,5,6]]}}\n"
unfolding digits
known_order = refl

-- no external memory
pub known_none : dump_text 1 [] ≡ codes "{\"cycles\":1,\"memories\":{}}\n"
unfolding digits
known_none = refl

-- signed words of 8 bits
pub known_words : words_of (word_of true 8) 0 (negative (negsuc 127) ∷ unsigned 127 ∷ negative (negsuc 0) ∷ []) ≡ Ok (128 ∷ 127 ∷ 255 ∷ [])
known_words = refl

-- the second number is the first that is out of range
pub known_index : words_of (word_of false 4) 0 (unsigned 15 ∷ unsigned 16 ∷ negative (negsuc 0) ∷ []) ≡ Err 1
known_index = refl

-- two lists of one number each, and the same as one list of two
pub known_numbers : numbers_of (2 ∷ 1 ∷ []) (array (item (array (item (number (unsigned 7)) no_items)) (item (array (item (number (unsigned 8)) no_items)) no_items))) ≡ Some (unsigned 7 ∷ unsigned 8 ∷ [])
known_numbers = refl

pub known_shape : numbers_of (2 ∷ 1 ∷ []) (array (item (number (unsigned 7)) (item (number (unsigned 8)) no_items))) ≡ None
known_shape = refl
