-- What the definition of a load gives: bytes that are a text or none, and memories that fit their rows.
use Rattle.std.proofs.Common.{◌≡◌, ◌∙◌, ℕ, suc, ◌+◌, ◌-◌, ◌*◌, ◌^◌, ◌<◌, ◌≤◌, ℤ, pos, negsuc, Bool, true, false, List, [], ◌∷◌, ◌++◌, length, map, All, Option, Some, None, option_map, option_and_then, is_some, Result, Ok, Err, IsUtf8, eqb, ltb, suc-mul, length-append, refl, sym, ap, subst, arith}
use Rattle.std.proofs.Math.Pow.{pow_mono, pow-sub-lt}
use Rattle.std.proofs.lemmas.Bool.{eqb-true, ltb-true}
use Rattle.std.specs.Prelude.{if◌then◌else◌}
use Rattle.std.specs.Str.{is_utf8}
use Rattle.std.proofs.lemmas.Str.{IsUtf8-from_is_utf8, is_utf8-from_IsUtf8}
use Rattle.std.proofs.lemmas.List.Elements.{All-nil, All-cons}
use Rattle.serde_json.specs.Data.{Num, unsigned, negative, float, Data, Items, no_items, item}
use Rattle.serde_json.specs.Events.{items_len}
use Rattle.serde_json.specs.Find.{as_array, as_number, as_object, get}
use Rattle.serde_json.specs.Read.{read}
use Rattle.cx_text.specs.Loading.{PlainRow, PlainMemory, FitsShape, FitsRows, word_count}
use Rattle.cx_data.specs.Numbers.{numbers_of, numbers_of_each, word_of, word_of_integer, words_of, before_words}
use Rattle.cx_data.specs.Load.{PlainEntry, entry_of, is_width, from_words, from_numbers, from_entry, from_member, member_of, memory_of, before_memories, memories_of, top_of}
use Rattle.cx_data.specs.declared.faults.DataFault.{DataFault}
use Rattle.cx_data.specs.declared.faults.DataFault.TheVariants.{WidthDiffers}

not_utf8 : (bs : List ℕ) → (IsUtf8 bs → ⊥) → is_utf8 bs ≡ false
not_utf8 bs none =
    let cases : (b : Bool) → is_utf8 bs ≡ b → is_utf8 bs ≡ false = λ b. elim b as (λ v. is_utf8 bs ≡ v → is_utf8 bs ≡ false) [
      | true ↦ λ e. absurd (none (IsUtf8-from_is_utf8 bs e))
      | false ↦ λ e. e
    ] in cases (is_utf8 bs) refl

pub member_of-utf8 : (name : List ℕ) (top : Data) → IsUtf8 name → member_of name top ≡ get name top
member_of-utf8 name top text = rw (is_utf8-from_IsUtf8 name text)

pub member_of-other : (name : List ℕ) (top : Data) → (IsUtf8 name → ⊥) → member_of name top ≡ None
member_of-other name top none = rw (not_utf8 name none)

pub top_of-object : (json : List ℕ) (d : Data) → IsUtf8 json → read json ≡ Some d → is_some (as_object d) ≡ true → top_of json ≡ Some d
top_of-object json d text is whole = rw (is_utf8-from_IsUtf8 json text, is, whole)

pub top_of-none : (json : List ℕ) → (IsUtf8 json → read json ≡ None) → top_of json ≡ None
top_of-none json none =
    let cases : (b : Bool) → is_utf8 json ≡ b → top_of json ≡ None = λ b. elim b as (λ v. is_utf8 json ≡ v → top_of json ≡ None) [
      | true ↦ λ e. rw (e, none (IsUtf8-from_is_utf8 json e))
      | false ↦ λ e. rw e
    ] in cases (is_utf8 json) refl

-- ---- a word is in range

half_below : (width n : ℕ) → n < 2 ^ (width - 1) → n < 2 ^ width
half_below width n lt = let up : 2 ^ (width - 1) ≤ 2 ^ width = pow_mono (omega arith) in omega arith

if_some : {A P : Type 0} (b : Bool) (o : Option A) (y : A) → (if b then o else None) ≡ Some y → (b ≡ true → o ≡ Some y → P) → P
if_some true o y is use_it = use_it refl is
if_some false o y is use_it = absurd (cc)

pub word_of_integer-bound : (signed : Bool) (width : ℕ) (z : ℤ) (word : ℕ) → word_of_integer signed width z ≡ Some word → word < 2 ^ width
word_of_integer-bound false width (pos n) word is =
    if_some (ltb n (2 ^ width)) (Some n) word is (λ low e. let same : n ≡ word = cc in subst (λ (w : ℕ). w < 2 ^ width) same (ltb-true n (2 ^ width) low))
word_of_integer-bound false width (negsuc n) word is = absurd (cc)
word_of_integer-bound true width (pos n) word is =
    if_some (ltb n (2 ^ (width - 1))) (Some n) word is
    (λ low e. let same : n ≡ word = cc in subst (λ (w : ℕ). w < 2 ^ width) same (half_below width n (ltb-true n (2 ^ (width - 1)) low)))
word_of_integer-bound true width (negsuc n) word is =
    if_some (ltb n (2 ^ (width - 1))) (Some (2 ^ width - (n + 1))) word is
    (λ low e. let same : 2 ^ width - (n + 1) ≡ word = cc in subst (λ (w : ℕ). w < 2 ^ width) same (pow-sub-lt width (omega arith)))

pub word_of-bound : (signed : Bool) (width : ℕ) (n : Num) (word : ℕ) → word_of signed width n ≡ Some word → word < 2 ^ width
word_of-bound signed width (unsigned n) word is = word_of_integer-bound signed width (pos n) word is
word_of-bound signed width (negative z) word is = word_of_integer-bound signed width z word is
word_of-bound signed width (float x) word is = absurd (cc)

-- ---- as many numbers as the sizes say

and_then_some : {A B P : Type 0} (o : Option A) (f : A → Option B) (y : B) → option_and_then f o ≡ Some y → ((x : A) → o ≡ Some x → f x ≡ Some y → P) → P
and_then_some None f y is use_it = absurd (cc)
and_then_some (Some x) f y is use_it = use_it x refl is

map_some : {A B P : Type 0} (o : Option A) (f : A → B) (y : B) → option_map f o ≡ Some y → ((x : A) → o ≡ Some x → f x ≡ y → P) → P
map_some None f y is use_it = absurd (cc)
map_some (Some x) f y is use_it = use_it x refl (cc)

numbers_of_each-count : (numbers : Data → Option (List Num)) (size : ℕ) → ((d : Data) (ns : List Num) → numbers d ≡ Some ns → length ns ≡ size)
    → (ds : Items) (ns : List Num) → numbers_of_each numbers ds ≡ Some ns → length ns ≡ items_len ds * size
numbers_of_each-count numbers size each no_items ns is =
    let none : [] ≡ ns = cc in omega (arith, ap length none)
numbers_of_each-count numbers size each (item d ds) ns is =
    and_then_some (numbers d) (λ first. option_map (λ more. first ++ more) (numbers_of_each numbers ds)) ns is
    (λ first e f. map_some (numbers_of_each numbers ds) (λ more. first ++ more) ns f
    (λ more g h.
    let whole : length ns ≡ length first + length more = ap length (sym h) ∙ length-append first more in
    let one : length first ≡ size = each d first e in
    let rest : length more ≡ items_len ds * size = numbers_of_each-count numbers size each ds more g in
    rw suc-mul (omega arith)))

pub numbers_of-count : (sizes : List ℕ) (d : Data) (ns : List Num) → numbers_of sizes d ≡ Some ns → length ns ≡ word_count sizes
numbers_of-count [] d ns is = map_some (as_number d) (λ n. n ∷ []) ns is (λ n e f. ap length (sym f))
numbers_of-count (size ∷ sizes) d ns is =
    and_then_some (as_array d) (λ items. if eqb (items_len items) size then numbers_of_each (numbers_of sizes) items else None) ns is
    (λ items e f. if_some (eqb (items_len items) size) (numbers_of_each (numbers_of sizes) items) ns f
    (λ many g. numbers_of_each-count (numbers_of sizes) (word_count sizes) (numbers_of-count sizes) items ns g
    ∙ ap (λ (n : ℕ). n * word_count sizes) (eqb-true (items_len items) size many)))

-- ---- one word for each number

before_words-ok : {P : Type 0} (word : Option ℕ) (index : ℕ) (more : Result (List ℕ) ℕ) (words : List ℕ) → before_words word index more ≡ Ok words
    → ((first : ℕ) (rest : List ℕ) → word ≡ Some first → more ≡ Ok rest → first ∷ rest ≡ words → P) → P
before_words-ok None index more words is use_it = absurd (cc)
before_words-ok (Some first) index (Err later) words is use_it = absurd (cc)
before_words-ok (Some first) index (Ok rest) words is use_it = use_it first rest refl refl (cc)

words_of-fit : (word : Num → Option ℕ) (P : ℕ → Type 0) → ((n : Num) (w : ℕ) → word n ≡ Some w → P w)
    → (index : ℕ) (ns : List Num) (words : List ℕ) → words_of word index ns ≡ Ok words → (length words ≡ length ns) × All P words
words_of-fit word P each index [] words is =
    let none : [] ≡ words = cc in (ap length (sym none), subst (All P) none (All-nil P))
words_of-fit word P each index (n ∷ ns) words is =
    before_words-ok (word n) index (words_of word (index + 1) ns) words is
    (λ first rest e f h.
    let fit : (length rest ≡ length ns) × All P rest = words_of-fit word P each (index + 1) ns rest f in
    (ap length (sym h) ∙ ap suc fit.0, subst (All P) h (All-cons P first rest (each n first e) fit.1)))

-- ---- each memory is of its row and whole

record IsOfRow (shape : PlainRow) (m : PlainMemory) : Type 0 where
  same : m.shape ≡ shape
  whole : FitsShape m

from_words-fit : (shape : PlainRow) (signed : Bool) (words : Result (List ℕ) ℕ) (m : PlainMemory)
    → ((ws : List ℕ) → words ≡ Ok ws → (length ws ≡ word_count shape.sizes) × All (λ word. word < 2 ^ shape.width) ws)
    → from_words shape signed words ≡ Ok m → IsOfRow shape m
from_words-fit shape signed (Err index) m fit is = absurd (cc)
from_words-fit shape signed (Ok ws) m fit is =
    let whole : (length ws ≡ word_count shape.sizes) × All (λ word. word < 2 ^ shape.width) ws = fit ws refl in
    let made : PlainMemory = record { shape = shape; signed = signed; words = ws } in
    let e : made ≡ m = cc in
    subst (IsOfRow shape) e (record { same = refl; whole = record { count = whole.0; in_range = whole.1 } })

from_numbers-fit : (shape : PlainRow) (signed : Bool) (numbers : Option (List Num)) (m : PlainMemory)
    → ((ns : List Num) → numbers ≡ Some ns → length ns ≡ word_count shape.sizes)
    → from_numbers shape signed numbers ≡ Ok m → IsOfRow shape m
from_numbers-fit shape signed None m many is = absurd (cc)
from_numbers-fit shape signed (Some ns) m many is =
    from_words-fit shape signed (words_of (word_of signed shape.width) 0 ns) m
    (λ ws e.
    let fit : (length ws ≡ length ns) × All (λ word. word < 2 ^ shape.width) ws =
    words_of-fit (word_of signed shape.width) (λ word. word < 2 ^ shape.width) (word_of-bound signed shape.width) 0 ns ws e in
    (fit.0 ∙ many ns refl, fit.1))
    is

ok_if : {A E P : Type 0} (b : Bool) (r : Result A E) (fault : E) (y : A) → (if b then r else Err fault) ≡ Ok y → (r ≡ Ok y → P) → P
ok_if true r fault y is use_it = use_it is
ok_if false r fault y is use_it = absurd (cc)

from_entry-fit : (shape : PlainRow) (entry : Option PlainEntry) (m : PlainMemory) → from_entry shape entry ≡ Ok m → IsOfRow shape m
from_entry-fit shape None m is = absurd (cc)
from_entry-fit shape (Some entry) m is =
    ok_if (is_width shape.width entry.width) (from_numbers shape entry.signed (numbers_of shape.sizes entry.numbers)) (WidthDiffers shape.name) m is
    (λ e. from_numbers-fit shape entry.signed (numbers_of shape.sizes entry.numbers) m (numbers_of-count shape.sizes entry.numbers) e)

from_member-fit : (shape : PlainRow) (member : Option Data) (m : PlainMemory) → from_member shape member ≡ Ok m → IsOfRow shape m
from_member-fit shape None m is = absurd (cc)
from_member-fit shape (Some member) m is = from_entry-fit shape (entry_of member) m is

before_memories-ok : {P : Type 0} (first : Result PlainMemory DataFault) (more : Result (List PlainMemory) DataFault) (ms : List PlainMemory)
    → before_memories first more ≡ Ok ms
    → ((m : PlainMemory) (rest : List PlainMemory) → first ≡ Ok m → more ≡ Ok rest → m ∷ rest ≡ ms → P) → P
before_memories-ok (Err fault) more ms is use_it = absurd (cc)
before_memories-ok (Ok m) (Err fault) ms is use_it = absurd (cc)
before_memories-ok (Ok m) (Ok rest) ms is use_it = use_it m rest refl refl (cc)

-- what is loaded fits the rows
pub memories_of-fit : (top : Data) (shapes : List PlainRow) (ms : List PlainMemory) → memories_of top shapes ≡ Ok ms → FitsRows shapes ms
memories_of-fit top [] ms is =
    let none : [] ≡ ms = cc in
    subst (FitsRows []) none (record { same_rows = refl; whole = All-nil FitsShape })
memories_of-fit top (shape ∷ shapes) ms is =
    before_memories-ok (memory_of top shape) (memories_of top shapes) ms is
    (λ m rest e f h.
    let one : IsOfRow shape m = from_member-fit shape (member_of shape.name top) m e in
    let more : FitsRows shapes rest = memories_of-fit top shapes rest f in
    let rows : m.shape ∷ map (λ (p : PlainMemory). p.shape) rest ≡ shape ∷ shapes = rw (one.same, more.same_rows) in
    subst (FitsRows (shape ∷ shapes)) h (record { same_rows = rows; whole = All-cons FitsShape m rest one.whole more.whole }))
