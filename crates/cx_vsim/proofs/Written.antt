-- What words that are written into arrays leave of each.
use Rattle.std.proofs.Common.{◌≡◌, ℕ, zero, suc, ◌+◌, ◌<◌, ⊎_elim, List, [], ◌∷◌, Option, Some, None, All, option_map, get_or, map, take, length, slice_get, slice_set, refl, ap, sym, ◌∙◌, subst, ◌^◌, arith}
use Rattle.std.proofs.lemmas.Bool.{cases_eq}
use Rattle.std.proofs.lemmas.List.{length-set, length-map, map-set}
use Rattle.std.proofs.lemmas.Option.{same_Some, slice_get-map, slice_get-get_or, slice_get_read, get_or_from_slice_get, slice_get_within}
use Rattle.std.specs.Option.{option_map_or}
use Rattle.cx_text.specs.declared.loading.LoadedMemory.{LoadedMemory}
use Rattle.cx_text.specs.Loading.{PlainMemory, plain_memory, words_loaded}
use Rattle.cx_bits.specs.BitVector.{BitVector}
use Rattle.cx_vnets.specs.declared.arrays.Words.{Words}
use Rattle.cx_vnets.specs.Stores.{PlainWords, plain_words}
use Rattle.cx_vsim.specs.WordNumbers.{words_of_width}
use Rattle.cx_vnets.proofs.FlatSetSteps.{get_set_other}
use Rattle.cx_vsim.specs.Stands.{words_at, words_by}
use Rattle.cx_vsim.specs.Arrays.{rewritten, with_array, with_arrays, Takes, CanTake}
use Rattle.cx_text.proofs.OptionLaws.{map_some}
use Rattle.cx_text.proofs.ListLaws.{get_set_same}

-- the numbers of words of a width are those that they were made of
pub values_of : (w : ℕ) (ns : List ℕ) → map (λ (b : BitVector). b.value) (words_of_width w ns) ≡ ns
values_of w [] = refl
values_of w (n ∷ ns) = ap (λ l. n ∷ l) (values_of w ns)

pub with_array_there : (arrays : List PlainWords) (a : ℕ) (words : List ℕ) (x : PlainWords) → slice_get arrays a ≡ Some x → with_array a words arrays ≡ slice_set arrays a (rewritten x words)
with_array_there arrays a words x at = ap (λ o. option_map_or (λ y. slice_set arrays a (rewritten y words)) o arrays) at

pub with_array_same : (arrays : List PlainWords) (a : ℕ) (words : List ℕ) (x : PlainWords) → slice_get arrays a ≡ Some x → slice_get (with_array a words arrays) a ≡ Some (rewritten x words)
with_array_same arrays a words x at =
    ap (λ l. slice_get l a) (with_array_there arrays a words x at) ∙ get_set_same arrays a (rewritten x words) (slice_get_within arrays a x at)

pub with_array_other : (arrays : List PlainWords) (a f : ℕ) (words : List ℕ) → (a ≡ f → ⊥) → slice_get (with_array a words arrays) f ≡ slice_get arrays f
with_array_other arrays a f words ne = go (slice_get arrays a)
  where
    go : (o : Option PlainWords) → slice_get (option_map_or (λ x. slice_set arrays a (rewritten x words)) o arrays) f ≡ slice_get arrays f
    go None = refl
    go (Some x) = get_set_other arrays a f (rewritten x words) ne

length-with_array : (arrays : List PlainWords) (a : ℕ) (words : List ℕ) → length (with_array a words arrays) ≡ length arrays
length-with_array arrays a words = go (slice_get arrays a)
  where
    go : (o : Option PlainWords) → length (option_map_or (λ x. slice_set arrays a (rewritten x words)) o arrays) ≡ length arrays
    go None = refl
    go (Some x) = length-set arrays a (rewritten x words)

pub length-with_arrays : (ns : List ℕ) (ms : List PlainMemory) (arrays : List PlainWords) → length (with_arrays ns ms arrays) ≡ length arrays
length-with_arrays [] ms arrays = refl
length-with_arrays (n ∷ ns) [] arrays = refl
length-with_arrays (n ∷ ns) (m ∷ ms) arrays = length-with_arrays ns ms (with_array n m.words arrays) ∙ length-with_array arrays n m.words

-- an array that none of the numbers names stays
pub with_arrays_other : (ns : List ℕ) (ms : List PlainMemory) (arrays : List PlainWords) (f : ℕ) → ((k : ℕ) → slice_get ns k ≡ Some f → ⊥)
    → slice_get (with_arrays ns ms arrays) f ≡ slice_get arrays f
with_arrays_other [] ms arrays f none = refl
with_arrays_other (n ∷ ns) [] arrays f none = refl
with_arrays_other (n ∷ ns) (m ∷ ms) arrays f none =
    with_arrays_other ns ms (with_array n m.words arrays) f (λ k at. none (suc k) at)
    ∙ with_array_other arrays n f m.words (λ e. none zero (ap Some e))

-- an array that one number names, and no other, takes the words of the memory there
pub with_arrays_same : (ns : List ℕ) (ms : List PlainMemory) (arrays : List PlainWords) (f k : ℕ) (m : PlainMemory) (x : PlainWords)
    → ((j : ℕ) → slice_get ns j ≡ Some f → j ≡ k) → slice_get ns k ≡ Some f → slice_get ms k ≡ Some m → slice_get arrays f ≡ Some x
    → slice_get (with_arrays ns ms arrays) f ≡ Some (rewritten x m.words)
with_arrays_same [] ms arrays f k m x once here there at = absurd (cc)
with_arrays_same (n ∷ ns) [] arrays f k m x once here there at = absurd (cc)
with_arrays_same (n ∷ ns) (p ∷ ms) arrays f zero m x once here there at =
    let number : n ≡ f = same_Some n f here in
    let memory : p ≡ m = same_Some p m there in
    with_arrays_other ns ms (with_array n p.words arrays) f (λ j is. let none : suc j ≡ 0 = once (suc j) is in omega arith)
    ∙ ap (λ a. slice_get (with_array a p.words arrays) f) number
    ∙ with_array_same arrays f p.words x at
    ∙ ap (λ (q : PlainMemory). Some (rewritten x q.words)) memory
with_arrays_same (n ∷ ns) (p ∷ ms) arrays f (suc k) m x once here there at =
    with_arrays_same ns ms (with_array n p.words arrays) f k m x (λ j is. let next : suc j ≡ suc k = once (suc j) is in omega arith) here there
    (with_array_other arrays n f p.words (λ e. let first : 0 ≡ suc k = once zero (ap Some e) in omega arith) ∙ at)

-- the words of arrays that hold those of memories
pub words_by_loaded : (ns : List ℕ) (ms : List PlainMemory) (arrays : List PlainWords) → length ns ≡ length ms
    → ((k a : ℕ) (m : PlainMemory) → slice_get ns k ≡ Some a → slice_get ms k ≡ Some m → words_at arrays a ≡ m.words) → words_by ns arrays ≡ words_loaded ms
words_by_loaded [] [] arrays same each = refl
words_by_loaded [] (m ∷ ms) arrays same each = absurd (let g : 0 ≡ suc (length ms) = same in omega arith)
words_by_loaded (n ∷ ns) [] arrays same each = absurd (let g : suc (length ns) ≡ 0 = same in omega arith)
words_by_loaded (n ∷ ns) (m ∷ ms) arrays same each =
    let sized : length ns ≡ length ms = (let g : suc (length ns) ≡ suc (length ms) = same in omega arith) in
    ap (λ w. w ∷ words_by ns arrays) (each zero n m refl refl) ∙ ap (λ l. m.words ∷ l) (words_by_loaded ns ms arrays sized (λ k a q is at. each (suc k) a q is at))

-- an array that is written over, among arrays
pub set_written : (arrays : List Words) (n : ℕ) (x y : Words) (words : List ℕ) → slice_get arrays n ≡ Some x → plain_words y ≡ rewritten (plain_words x) words
    → map plain_words (slice_set arrays n y) ≡ with_array n words (map plain_words arrays)
set_written arrays n x y words at same =
    map-set plain_words arrays n y
    ∙ ap (slice_set (map plain_words arrays) n) same
    ∙ sym (with_array_there (map plain_words arrays) n words (plain_words x) (slice_get-map plain_words arrays n ∙ ap (option_map plain_words) at))

-- the words of one memory more
pub with_arrays_more : (ns : List ℕ) (ms : List PlainMemory) (arrays : List PlainWords) (i a : ℕ) (m : PlainMemory) → slice_get ns i ≡ Some a → slice_get ms i ≡ Some m
    → with_arrays (take (i + 1) ns) (take (i + 1) ms) arrays ≡ with_array a m.words (with_arrays (take i ns) (take i ms) arrays)
with_arrays_more ns ms arrays i a m here there =
    let next : i + 1 ≡ suc i = omega arith in
    ap (λ k. with_arrays (take k ns) (take k ms) arrays) next ∙ go ns ms arrays i here there
  where
    go : (ns : List ℕ) (ms : List PlainMemory) (arrays : List PlainWords) (i : ℕ) → slice_get ns i ≡ Some a → slice_get ms i ≡ Some m
        → with_arrays (take (suc i) ns) (take (suc i) ms) arrays ≡ with_array a m.words (with_arrays (take i ns) (take i ms) arrays)
    go [] ms arrays i here there = absurd (cc)
    go (n ∷ ns) [] arrays i here there = absurd (cc)
    go (n ∷ ns) (p ∷ ms) arrays zero here there =
        ap (λ k. with_array k p.words arrays) (same_Some n a here) ∙ ap (λ (q : PlainMemory). with_array a q.words arrays) (same_Some p m there)
    go (n ∷ ns) (p ∷ ms) arrays (suc i) here there = go ns ms (with_array n p.words arrays) i here there

-- an array that can take the words of a memory still can when words are written into it or another
takes_still : (arrays : List PlainWords) (a b : ℕ) (m p : PlainMemory) → Takes arrays a m → Takes arrays b p → Takes (with_array b p.words arrays) a m
takes_still arrays a b m p t u = ⊎_elim
    (λ same.
    let at : slice_get arrays b ≡ Some t.array = ap (slice_get arrays) same ∙ t.there in
    let one : u.array ≡ t.array = same_Some u.array t.array (sym u.there ∙ at) in
    record {
      array = rewritten t.array p.words;
      there = ap (slice_get (with_array b p.words arrays)) (sym same) ∙ with_array_same arrays b p.words t.array at;
      size = t.size ∙ ap (λ (x : PlainWords). length x.words) (sym one) ∙ sym u.size ∙ sym (length-map p.words (λ n. record { width = t.array.zero.width; value = n }));
      below = t.below;
    })
    (λ other. record { array = t.array; there = with_array_other arrays b a p.words other ∙ t.there; size = t.size; below = t.below })
    (cases_eq b a)

pub can_still : (ns : List ℕ) (arrays : List PlainWords) (ms : List PlainMemory) (b : ℕ) (p : PlainMemory) → CanTake ns arrays ms → Takes arrays b p → CanTake ns (with_array b p.words arrays) ms
can_still ns arrays ms b p can u = record { count = can.count; each = λ k a m here there. takes_still arrays a b m p (can.each k a m here there) u }

-- the memory of a number that has an array
pub memory_there : (items : List LoadedMemory) (i count : ℕ) (m : LoadedMemory) → count ≡ length (map plain_memory items) → i < count → m ≡ get_or items i m
    → slice_get (map plain_memory items) i ≡ Some (plain_memory m)
memory_there items i count m same lt is =
    let long = length-map items plain_memory in
    let inside : i < length items = omega (arith, same, lt, long) in
    slice_get-map plain_memory items i ∙ ap (option_map plain_memory) (slice_get_read items (length items) i m refl inside is)

-- one memory more is loaded
module _ (ns : List ℕ) (arrays : List Words) (ms : List PlainMemory) (i : ℕ) (m : PlainMemory) (can : CanTake ns (map plain_words arrays) ms) (lt : i < length ns) (there : slice_get ms i ≡ Some m) where
  abbrev number : ℕ
  number = get_or ns i 0

  taken : Takes (map plain_words arrays) number m
  taken = can.each i number m (slice_get-get_or ns i 0 lt) there

  array : (x : Words) × (slice_get arrays number ≡ Some x) × (plain_words x ≡ taken.array)
  array = map_some plain_words (slice_get arrays number) taken.array (sym (slice_get-map plain_words arrays number) ∙ taken.there)

  pub taken_within : get_or ns i 0 < length arrays
  taken_within = slice_get_within arrays number array.0 array.1

  array_is : (d : Words) → plain_words (get_or arrays number d) ≡ taken.array
  array_is d = ap plain_words (get_or_from_slice_get arrays number array.0 d array.1) ∙ array.2

  pub taken_long : (d : Words) → length m.words ≡ length (get_or arrays (get_or ns i 0) d).words.items
  taken_long d = taken.size ∙ sym (ap (λ (q : PlainWords). length q.words) (array_is d))

  pub taken_below : (d : Words) → All (λ k. k < 2 ^ (get_or arrays (get_or ns i 0) d).zero.width) m.words
  taken_below d = subst (λ v. All (λ k. k < 2 ^ v) m.words) (sym (ap (λ (q : PlainWords). q.zero.width) (array_is d))) taken.below

  module _ (d y : Words) (is : plain_words y ≡ rewritten (plain_words (get_or arrays (get_or ns i 0) d)) m.words) where
    set_is : map plain_words (slice_set arrays number y) ≡ with_array number m.words (map plain_words arrays)
    set_is = set_written arrays number (get_or arrays number d) y m.words (slice_get-get_or arrays number d taken_within) is

    pub taken_more : (old : List PlainWords) → map plain_words arrays ≡ with_arrays (take i ns) (take i ms) old
        → map plain_words (slice_set arrays (get_or ns i 0) y) ≡ with_arrays (take (i + 1) ns) (take (i + 1) ms) old
    taken_more old far = set_is ∙ ap (with_array number m.words) far ∙ sym (with_arrays_more ns ms old i number m (slice_get-get_or ns i 0 lt) there)

    pub taken_can : CanTake ns (map plain_words (slice_set arrays (get_or ns i 0) y)) ms
    taken_can = subst (λ l. CanTake ns l ms) (sym set_is) (can_still ns (map plain_words arrays) ms number m can taken)
