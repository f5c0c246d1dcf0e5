-- The writes of an edge, one after another.
use Rattle.std.proofs.Common.{◌≡◌, ℕ, zero, suc, ◌+◌, ◌<◌, ◌⊎◌, ⊎_elim, inl, inr, Bool, true, false, ◌==◌, if◌then◌else◌, List, [], ◌∷◌, Option, Some, None, is_some, option_and_then, option_map, get_or, map, drop, drop-cons, add-one, length, slice_get, slice_set, refl, ap, ◌∙◌, sym, subst, arith}
use Rattle.std.specs.Option.{option_map_or}
use Rattle.std.proofs.lemmas.Option.{slice_get_read, slice_get-map}
use Rattle.cx_bits.specs.BitVector.{BitVector}
use Rattle.cx_vnets.specs.declared.arrays.Words.{Words}
use Rattle.cx_vnets.specs.declared.stores.Store.{Store}
use Rattle.cx_vnets.specs.declared.stores.Write.{Write}
use Rattle.cx_vnets.specs.Arrays.{IsEven, array_width}
use Rattle.cx_vnets.specs.declared.codes.Code.{Code}
use Rattle.cx_vnets.specs.Edges.{code_of, width_of, numbered}
use Rattle.cx_vnets.specs.Stores.{PlainWords, plain_words, guarded, write_of, written, write_word, after_writes, StoresFit, WritesFit}
use Rattle.cx_vnets.proofs.Widths.{array_there, the_some}
use Rattle.cx_vnets.proofs.CodeWidths.{code_has_width}

-- what is read past the last store
abbrev pub no_store : Store
no_store = record { array = 0; guard = 0; index = 0; value = 0; place = record { nets = 0; arrays = 0 } }

map-set : {A B : Type 0} (f : A → B) (xs : List A) (i : ℕ) (y : A) → map f (slice_set xs i y) ≡ slice_set (map f xs) i (f y)
map-set f [] i y = refl
map-set f (x ∷ xs) zero y = refl
map-set f (x ∷ xs) (suc i) y = ap (λ l. f x ∷ l) (map-set f xs i y)

-- an element after a write is the one that was written, or stood there
set-cases : {A : Type 0} (xs : List A) (i j : ℕ) (y z : A) → slice_get (slice_set xs i y) j ≡ Some z → ((j ≡ i) × (y ≡ z)) ⊎ (slice_get xs j ≡ Some z)
set-cases [] i j y z e = inr e
set-cases (x ∷ xs) zero zero y z e = let same : y ≡ z = cc in inl (refl, same)
set-cases (x ∷ xs) zero (suc j) y z e = inr e
set-cases (x ∷ xs) (suc i) zero y z e = inr e
set-cases (x ∷ xs) (suc i) (suc j) y z e = ⊎_elim (λ p. inl (ap suc p.0, p.1)) (λ p. inr p) (set-cases xs i j y z e)

-- the same width where an element of the same width was written
map-set-same : (xs : List Words) (i : ℕ) (y : Words) → array_width xs i ≡ Some y.zero.width → (a : ℕ) → array_width (slice_set xs i y) a ≡ array_width xs a
map-set-same [] i y e a = refl
map-set-same (x ∷ xs) zero y e zero = sym e
map-set-same (x ∷ xs) zero y e (suc a) = refl
map-set-same (x ∷ xs) (suc i) y e zero = refl
map-set-same (x ∷ xs) (suc i) y e (suc a) = map-set-same xs i y e a

module _ (arrays : List Words) (a : ℕ) (x y : Words) (w : Write) (even : IsEven arrays) (fits : array_width arrays a ≡ Some w.value.width)
    (read : x ≡ get_or arrays a x) (put : plain_words y ≡ written (plain_words x) w) where
  here : slice_get arrays a ≡ Some x
  here = slice_get_read arrays (length arrays) a x refl (array_there arrays a (ap is_some fits)) read

  zero-same : y.zero ≡ x.zero
  zero-same = ap (λ (p : PlainWords). p.zero) put

  wide : x.zero.width ≡ w.value.width
  wide = let e : Some x.zero.width ≡ Some w.value.width = sym (ap (option_map (λ (z : Words). z.zero.width)) here) ∙ fits in cc

  pub put-value : map plain_words (slice_set arrays a y) ≡ write_word a (Some w) (map plain_words arrays)
  put-value =
      map-set plain_words arrays a y ∙ ap (slice_set (map plain_words arrays) a) put
      ∙ sym (ap (λ o. option_map_or (λ z. slice_set (map plain_words arrays) a (written z w)) o (map plain_words arrays)) (slice_get-map plain_words arrays a ∙ ap (option_map plain_words) here))

  pub put-widths : (b : ℕ) → array_width (slice_set arrays a y) b ≡ array_width arrays b
  put-widths = map-set-same arrays a y (fits ∙ ap Some (sym wide ∙ ap (λ (z : BitVector). z.width) (sym zero-same)))

  word-even : (k : ℕ) (b : BitVector) → slice_get y.words.items k ≡ Some b → b.width ≡ y.zero.width
  word-even k b e =
      ⊎_elim
      (λ p. ap (λ (z : BitVector). z.width) (sym p.1) ∙ sym wide ∙ ap (λ (z : BitVector). z.width) (sym zero-same))
      (λ p. even a x k b here p ∙ ap (λ (z : BitVector). z.width) (sym zero-same))
      (set-cases x.words.items w.index k w.value b (sym (ap (λ (p : PlainWords). slice_get p.words k) put) ∙ e))

  pub put-even : IsEven (slice_set arrays a y)
  put-even = λ b z k bits is e.
      ⊎_elim
      (λ p. subst (λ (v : Words). bits.width ≡ v.zero.width) p.1 (word-even k bits (ap (λ (v : Words). slice_get v.words.items k) p.1 ∙ e)))
      (λ p. even b z k bits p e)
      (set-cases arrays a b y z is)

-- the writes of the stores that are left
pub write-step : (stores : List Store) (writes : List (Option Write)) (i : ℕ) (d : Store) (o : Option Write) (arrays after whole : List PlainWords) → i < length stores → length writes ≡ length stores
    → after ≡ write_word (get_or stores i d).array (get_or writes i o) arrays
    → after_writes (drop i stores) (drop i writes) arrays ≡ whole → after_writes (drop (i + 1) stores) (drop (i + 1) writes) after ≡ whole
write-step stores writes i d o arrays after whole lt long is e =
    let within : i < length writes = omega arith in
    let rest : drop i stores ≡ (get_or stores i d ∷ drop (i + 1) stores) = drop-cons stores i d lt ∙ ap (λ k. get_or stores i d ∷ drop k stores) (sym (add-one i)) in
    let rest' : drop i writes ≡ (get_or writes i o ∷ drop (i + 1) writes) = drop-cons writes i o within ∙ ap (λ k. get_or writes i o ∷ drop k writes) (sym (add-one i)) in
    ap (after_writes (drop (i + 1) stores) (drop (i + 1) writes)) is
    ∙ sym (ap (λ l. after_writes l (drop i writes) arrays) rest ∙ ap (λ l. after_writes (get_or stores i d ∷ drop (i + 1) stores) l arrays) rest') ∙ e

guarded_value : (t : Bool) (g i v : BitVector) (w : Write) → (if t then None else Some (record { index = i.value; value = v })) ≡ Some w → v ≡ w.value
guarded_value true g i v w e = cc
guarded_value false g i v w e = let same : record { index = i.value; value = v } ≡ w = cc in ap (λ (x : Write). x.value) same

guarded_is : (g i v : Option BitVector) (w : Write) → guarded g i v ≡ Some w → v ≡ Some w.value
guarded_is None i v w e = cc
guarded_is (Some g) None v w e = cc
guarded_is (Some g) (Some i) None w e = cc
guarded_is (Some g) (Some i) (Some v) w e = ap Some (guarded_value (g.value == 0) g i v w e)

-- what stores write has the widths of their arrays
pub writes-fit : (values : List BitVector) (arrays : List Words) (codes : List Code) (stores : List Store) (writes : List (Option Write)) → IsEven arrays
    → StoresFit codes values arrays stores → writes ≡ map (write_of codes values arrays) stores → WritesFit arrays stores writes
writes-fit values arrays codes stores writes even fits is = λ j x w there e.
    let f = fits j x there in
    let at : Some (write_of codes values arrays x) ≡ Some (Some w) =
    sym (ap (option_map (write_of codes values arrays)) there) ∙ sym (slice_get-map (write_of codes values arrays) stores j) ∙ sym (ap (λ (l : List (Option Write)). slice_get l j) is) ∙ e in
    let given : write_of codes values arrays x ≡ Some w = cc in
    let value = guarded_is (numbered codes values arrays x.place x.guard) (numbered codes values arrays x.place x.index) (numbered codes values arrays x.place x.value) w given in
    let code : code_of values arrays x.place f.value.0 ≡ Some w.value = sym (ap (option_and_then (code_of values arrays x.place)) f.value.1) ∙ value in
    let u = the_some (width_of values arrays x.place f.value.0) f.value.2 in
    let width : w.value.width ≡ u.0 = code_has_width values arrays x.place f.value.0 u.0 w.value even u.1 code in
    sym (f.wide f.value.0 f.value.1) ∙ u.1 ∙ ap Some (sym width)
