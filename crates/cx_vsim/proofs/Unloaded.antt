-- Memories that take the words of one array after another.
use Rattle.std.proofs.Common.{◌≡◌, ℕ, zero, suc, ◌+◌, ◌<◌, ◌⊎◌, inl, inr, ⊎_elim, List, [], ◌∷◌, ◌++◌, Some, All, option_map, get_or, map, take, length, slice_get, slice_set, refl, ap, sym, ◌∙◌, subst, arith}
use Rattle.std.proofs.lemmas.Bool.{cases_eq}
use Rattle.std.proofs.lemmas.List.{length-set, length-map}
use Rattle.std.proofs.lemmas.Option.{same_Some, slice_get-map, slice_get-get_or, get_or_from_slice_get, slice_get_within}
use Rattle.std.specs.Option.{option_map_or}
use Rattle.cx_bits.specs.BitVector.{BitVector, Fits}
use Rattle.cx_text.specs.Loading.{PlainMemory, with_words}
use Rattle.cx_vnets.specs.declared.arrays.Words.{Words}
use Rattle.cx_vnets.specs.Stores.{PlainWords, plain_words}
use Rattle.cx_vsim.specs.WordNumbers.{AreNarrow}
use Rattle.cx_vnets.proofs.FlatSetSteps.{get_set_other}
use Rattle.cx_vsim.specs.Stands.{words_at, words_by}
use Rattle.cx_vsim.specs.Arrays.{Gives, CanGive, AllGivenFit}
use Rattle.cx_text.proofs.ListLaws.{there_at, get_set_same}
use Rattle.cx_text.proofs.OptionLaws.{map_some}

abbrev pub with_these : PlainMemory → List ℕ → PlainMemory
with_these m words = record { shape = m.shape; signed = m.signed; words = words }

words_by_more : (ns : List ℕ) (arrays : List PlainWords) (i n : ℕ) → slice_get ns i ≡ Some n → words_by (take (suc i) ns) arrays ≡ words_by (take i ns) arrays ++ words_at arrays n ∷ []
words_by_more [] arrays i n at = absurd (cc)
words_by_more (m ∷ ns) arrays zero n at = ap (λ k. words_at arrays k ∷ []) (same_Some m n at)
words_by_more (m ∷ ns) arrays (suc i) n at = ap (λ l. words_at arrays m ∷ l) (words_by_more ns arrays i n at)

words_by_long : (ns : List ℕ) (arrays : List PlainWords) (i n : ℕ) → slice_get ns i ≡ Some n → length (words_by (take i ns) arrays) ≡ i
words_by_long [] arrays i n at = absurd (cc)
words_by_long (m ∷ ns) arrays zero n at = refl
words_by_long (m ∷ ns) arrays (suc i) n at = ap suc (words_by_long ns arrays i n at)

-- no words change nothing
pub with_no_words : (ms : List PlainMemory) → with_words ms [] ≡ ms
with_no_words [] = refl
with_no_words (m ∷ ms) = refl

with_words_more : (ms : List PlainMemory) (ws : List (List ℕ)) (w : List ℕ) (i : ℕ) (m : PlainMemory) → length ws ≡ i → slice_get (with_words ms ws) i ≡ Some m
    → with_words ms (ws ++ w ∷ []) ≡ slice_set (with_words ms ws) i (with_these m w)
with_words_more [] ws w i m long at = absurd (cc)
with_words_more (p ∷ ms) [] w zero m long at =
    ap (λ q. with_these q w ∷ with_words ms []) (same_Some p m at) ∙ ap (λ l. with_these m w ∷ l) (with_no_words ms)
with_words_more (p ∷ ms) [] w (suc i) m long at = absurd (let g : 0 ≡ suc i = long in omega arith)
with_words_more (p ∷ ms) (v ∷ ws) w zero m long at = absurd (let g : suc (length ws) ≡ 0 = long in omega arith)
with_words_more (p ∷ ms) (v ∷ ws) w (suc i) m long at =
    ap (λ l. with_these p v ∷ l) (with_words_more ms ws w i m (let g : suc (length ws) ≡ suc i = long in omega arith) at)

-- one memory more has taken the words of its array
pub far_more : (ns : List ℕ) (arrays : List PlainWords) (old now : List PlainMemory) (i n : ℕ) (x : PlainWords) (m : PlainMemory) (w : List ℕ)
    → now ≡ with_words old (words_by (take i ns) arrays) → slice_get ns i ≡ Some n → slice_get arrays n ≡ Some x → slice_get now i ≡ Some m → w ≡ map (λ b. b.value) x.words
    → slice_set now i (with_these m w) ≡ with_words old (words_by (take (i + 1) ns) arrays)
far_more ns arrays old now i n x m w far here there at is =
    let next : i + 1 ≡ suc i = omega arith in
    let words : words_at arrays n ≡ w = ap (λ o. option_map_or (λ (y : PlainWords). map (λ b. b.value) y.words) o []) there ∙ sym is in
    ap (λ l. slice_set l i (with_these m w)) far
    ∙ sym (with_words_more old (words_by (take i ns) arrays) w i m (words_by_long ns arrays i n here) (ap (λ l. slice_get l i) (sym far) ∙ at))
    ∙ ap (λ u. with_words old (words_by (take i ns) arrays ++ u ∷ [])) (sym words)
    ∙ ap (with_words old) (sym (words_by_more ns arrays i n here))
    ∙ ap (λ k. with_words old (words_by (take k ns) arrays)) (sym next)

taken : (ns : List ℕ) (i k a : ℕ) → slice_get (take (suc i) ns) k ≡ Some a → (slice_get (take i ns) k ≡ Some a) ⊎ (slice_get ns i ≡ Some a)
taken [] i k a at = absurd (cc)
taken (m ∷ ns) zero zero a at = inr at
taken (m ∷ ns) zero (suc k) a at = absurd (cc)
taken (m ∷ ns) (suc i) zero a at = inl at
taken (m ∷ ns) (suc i) (suc k) a at = taken ns i k a at

-- the words of one array more fit
pub fit_more : (ns : List ℕ) (arrays : List PlainWords) (i n : ℕ) (x : PlainWords) → AllGivenFit (take i ns) arrays → slice_get ns i ≡ Some n → slice_get arrays n ≡ Some x
    → All Fits x.words → AllGivenFit (take (i + 1) ns) arrays
fit_more ns arrays i n x fit here there all k a y at is =
    let next : i + 1 ≡ suc i = omega arith in
    ⊎_elim
    (λ before. fit k a y before is)
    (λ last.
    let one : n ≡ a = same_Some n a (sym here ∙ last) in
    let same : x ≡ y = same_Some x y (sym there ∙ ap (slice_get arrays) one ∙ is) in
    subst (λ (z : PlainWords). All Fits z.words) same all)
    (taken ns i k a (ap (λ j. slice_get (take j ns) k) (sym next) ∙ at))

pub can_give_still : (ns : List ℕ) (arrays : List PlainWords) (ms : List PlainMemory) (i : ℕ) (p q : PlainMemory) → CanGive ns arrays ms → slice_get ms i ≡ Some p → length q.words ≡ length p.words
    → CanGive ns arrays (slice_set ms i q)
can_give_still ns arrays ms i p q can at long = record { count = can.count ∙ sym (length-set ms i q); each = each }
  where
    each : (k a : ℕ) (m : PlainMemory) → slice_get ns k ≡ Some a → slice_get (slice_set ms i q) k ≡ Some m → Gives arrays a m
    each k a m here there = ⊎_elim
        (λ same.
        let g = can.each k a p here (ap (slice_get ms) (sym same) ∙ at) in
        let one : q ≡ m = same_Some q m (sym (get_set_same ms i q (slice_get_within ms i p at)) ∙ ap (slice_get (slice_set ms i q)) same ∙ there) in
        record { array = g.array; there = g.there; size = ap (λ (z : PlainMemory). length z.words) (sym one) ∙ long ∙ g.size; narrow = g.narrow })
        (λ other. can.each k a m here (sym (get_set_other ms i k q other) ∙ there))
        (cases_eq i k)

-- one array more is read
module _ (ns : List ℕ) (arrays : List Words) (ms : List PlainMemory) (i : ℕ) (can : CanGive ns (map plain_words arrays) ms) (lt : i < length ns) where
  abbrev number : ℕ
  number = get_or ns i 0

  pub memory_given : (m : PlainMemory) × (slice_get ms i ≡ Some m)
  memory_given = let count = can.count in there_at ms i (omega (arith, lt, count))

  given : Gives (map plain_words arrays) number memory_given.0
  given = can.each i number memory_given.0 (slice_get-get_or ns i 0 lt) memory_given.1

  array : (x : Words) × (slice_get arrays number ≡ Some x) × (plain_words x ≡ given.array)
  array = map_some plain_words (slice_get arrays number) given.array (sym (slice_get-map plain_words arrays number) ∙ given.there)

  pub given_within : get_or ns i 0 < length arrays
  given_within = slice_get_within arrays number array.0 array.1

  pub given_at : (d : Words) → slice_get (map plain_words arrays) (get_or ns i 0) ≡ Some (plain_words (get_or arrays (get_or ns i 0) d))
  given_at d = slice_get-map plain_words arrays number ∙ ap (option_map plain_words) (slice_get-get_or arrays number d given_within)

  array_is : (d : Words) → plain_words (get_or arrays number d) ≡ given.array
  array_is d = ap plain_words (get_or_from_slice_get arrays number array.0 d array.1) ∙ array.2

  -- the memory that takes its words
  module _ (m : PlainMemory) (there : slice_get ms i ≡ Some m) (x : Words) (is : x ≡ get_or arrays (get_or ns i 0) x) where
    array_of_it : plain_words x ≡ given.array
    array_of_it = ap plain_words is ∙ array_is x

    pub read_long : length m.words ≡ length x.words.items
    read_long =
        ap (λ (q : PlainMemory). length q.words) (same_Some m memory_given.0 (sym there ∙ memory_given.1))
        ∙ given.size
        ∙ sym (ap (λ (q : PlainWords). length q.words) array_of_it)

    pub read_narrow : AreNarrow x.words.items
    read_narrow = subst AreNarrow (sym (ap (λ (q : PlainWords). q.words) array_of_it)) given.narrow

    array_at : slice_get (map plain_words arrays) number ≡ Some (plain_words x)
    array_at = given_at x ∙ ap (λ (y : Words). Some (plain_words y)) (sym is)

    pub read_fit : AllGivenFit (take i ns) (map plain_words arrays) → All Fits x.words.items → AllGivenFit (take (i + 1) ns) (map plain_words arrays)
    read_fit fit all = fit_more ns (map plain_words arrays) i number (plain_words x) fit (slice_get-get_or ns i 0 lt) array_at all

    module _ (w : List ℕ) (same : w ≡ map (λ (b : BitVector). b.value) x.words.items) where
      pub read_far : (old : List PlainMemory) → ms ≡ with_words old (words_by (take i ns) (map plain_words arrays))
          → slice_set ms i (with_these m w) ≡ with_words old (words_by (take (i + 1) ns) (map plain_words arrays))
      read_far old far = far_more ns (map plain_words arrays) old ms i number (plain_words x) m w far (slice_get-get_or ns i 0 lt) array_at there same

      pub read_can : CanGive ns (map plain_words arrays) (slice_set ms i (with_these m w))
      read_can = can_give_still ns (map plain_words arrays) ms i m (with_these m w) can there (ap length same ∙ length-map x.words.items (λ (b : BitVector). b.value) ∙ sym read_long)
