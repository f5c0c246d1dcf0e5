-- What a data file gives the external memories, over the value that the crate `serde_json` reads.
use Rattle.std.specs.Prelude.{ℕ, ◌==◌, Bool, false, if◌then◌else◌, List, [], ◌∷◌, Option, Some, None, is_some, option_and_then, Result, Ok, Err, codes, bytes_eq}
use Rattle.std.specs.Result.{result_map_both}
use Rattle.std.specs.Str.{is_utf8}
use Rattle.serde_json.specs.Data.{Num, unsigned, negative, float, Data}
use Rattle.serde_json.specs.Find.{as_bool, as_number, as_object, as_str, get}
use Rattle.serde_json.specs.Read.{read}
use Rattle.cx_text.specs.Loading.{PlainRow, PlainMemory}
use Rattle.cx_data.specs.Numbers.{numbers_of, word_of, words_of}
use Rattle.cx_data.specs.declared.faults.DataFault.{DataFault}
use Rattle.cx_data.specs.declared.faults.DataFault.TheVariants.{NotJson, Missing, BadFormat, WidthDiffers, BadShape, OutOfRange}

-- what the member of a memory says
pub record PlainEntry : Type 0 where
  pub signed : Bool
  pub width : Num
  pub numbers : Data

abbrev pub plain_entry : Bool → Num → Data → PlainEntry
plain_entry signed width numbers = record { signed = signed; width = width; numbers = numbers }

-- it has `data`, and a `format` with the three keys of the right kinds and `bitnum`; further keys say nothing
abbrev pub entry_of : Data → Option PlainEntry
entry_of d =
    option_and_then (λ numbers.
    option_and_then (λ format.
    option_and_then (λ kind.
    option_and_then (λ signed.
    option_and_then (λ width.
    if bytes_eq kind (codes "bitnum") then Some (plain_entry signed width numbers) else None)
    (option_and_then as_number (get (codes "width") format)))
    (option_and_then as_bool (get (codes "is_signed") format)))
    (option_and_then as_str (get (codes "numeric_type") format)))
    (get (codes "format") d))
    (get (codes "data") d)

-- the width as an integer of 64 bits
abbrev pub is_width : ℕ → Num → Bool
is_width width (unsigned n) = n == width
is_width width (negative z) = false
is_width width (float x) = false

-- last, the number at the least index that gives no word is out of range
abbrev pub from_words : PlainRow → Bool → Result (List ℕ) ℕ → Result PlainMemory DataFault
from_words shape signed (Ok words) = Ok (record { shape = shape; signed = signed; words = words })
from_words shape signed (Err index) = Err (OutOfRange shape.name index)

-- before that, nesting and lengths
abbrev pub from_numbers : PlainRow → Bool → Option (List Num) → Result PlainMemory DataFault
from_numbers shape signed None = Err (BadShape shape.name)
from_numbers shape signed (Some numbers) = from_words shape signed (words_of (word_of signed shape.width) 0 numbers)

-- before that, the format and then the width
abbrev pub from_entry : PlainRow → Option PlainEntry → Result PlainMemory DataFault
from_entry shape None = Err (BadFormat shape.name)
from_entry shape (Some entry) =
    if is_width shape.width entry.width
    then from_numbers shape entry.signed (numbers_of shape.sizes entry.numbers)
    else Err (WidthDiffers shape.name)

-- first, whether there is a member of the name
abbrev pub from_member : PlainRow → Option Data → Result PlainMemory DataFault
from_member shape None = Err (Missing shape.name)
from_member shape (Some member) = from_entry shape (entry_of member)

-- a key of JSON is UTF-8, so a name that is not is no key
abbrev pub member_of : List ℕ → Data → Option Data
member_of name top = if is_utf8 name then get name top else None

abbrev pub memory_of : Data → PlainRow → Result PlainMemory DataFault
memory_of top shape = from_member shape (member_of shape.name top)

abbrev pub before_memories : Result PlainMemory DataFault → Result (List PlainMemory) DataFault
    → Result (List PlainMemory) DataFault
before_memories (Err fault) more = Err fault
before_memories (Ok m) more = result_map_both (λ ms. m ∷ ms) (λ fault. fault) more

-- each memory in the order of the rows, or the fault of the first that has one
abbrev pub memories_of : Data → List PlainRow → Result (List PlainMemory) DataFault
memories_of top [] = Ok []
memories_of top (shape ∷ shapes) = before_memories (memory_of top shape) (memories_of top shapes)

-- the value of the bytes, where they are a JSON text whose top is an object; a text is UTF-8
abbrev pub top_of : List ℕ → Option Data
top_of json =
    if is_utf8 json then option_and_then (λ d. if is_some (as_object d) then Some d else None) (read json)
    else None

abbrev pub from_top : Option Data → List PlainRow → Result (List PlainMemory) DataFault
from_top None shapes = Err NotJson
from_top (Some top) shapes = memories_of top shapes

-- the words of a data file, or its first fault
abbrev pub load_of : List ℕ → List PlainRow → Result (List PlainMemory) DataFault
load_of json shapes = from_top (top_of json) shapes
