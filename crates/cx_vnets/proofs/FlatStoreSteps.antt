-- What stores leave of an array.
use Rattle.std.proofs.Common.{◌≡◌, ℕ, zero, suc, ⊎_elim, List, [], ◌∷◌, map, Option, Some, None, length, slice_get, slice_set, refl, ap, ◌∙◌}
use Rattle.std.specs.Option.{option_map_or}
use Rattle.std.proofs.lemmas.Bool.{cases_eq}
use Rattle.std.proofs.lemmas.List.{length-set, set-set}
use Rattle.std.proofs.lemmas.Option.{slice_get_within}
use Rattle.cx_vnets.specs.declared.stores.Store.{Store}
use Rattle.cx_vnets.specs.declared.stores.Write.{Write}
use Rattle.cx_vnets.specs.Stores.{PlainWords, written, write_word, after_writes}
use Rattle.cx_vnets.proofs.FlatSetSteps.{get_set_other}
use Rattle.cx_text.proofs.ListLaws.{get_set_same}

-- a write twice is a write once
written_twice : (x : PlainWords) (w : Write) → written (written x w) w ≡ written x w
written_twice x w = ap (λ ws. record { zero = x.zero; words = ws }) (set-set x.words w.index w.value w.value)

module _ (a : ℕ) (w : Write) (arrays : List PlainWords) where
  abbrev put : Option PlainWords → List PlainWords
  put o = option_map_or (λ x. slice_set arrays a (written x w)) o arrays

  put_other : (f : ℕ) → (a ≡ f → ⊥) → (o : Option PlainWords) → slice_get (put o) f ≡ slice_get arrays f
  put_other f ne None = refl
  put_other f ne (Some x) = get_set_other arrays a f (written x w) ne

  put_long : (o : Option PlainWords) → length (put o) ≡ length arrays
  put_long None = refl
  put_long (Some x) = length-set arrays a (written x w)

  put_here : (f : ℕ) (x : PlainWords) → a ≡ f → slice_get arrays f ≡ Some x → slice_get (put (slice_get arrays a)) f ≡ Some (written x w)
  put_here f x is at =
      ap (λ o. slice_get (put o) f) (ap (slice_get arrays) is ∙ at)
      ∙ ap (λ k. slice_get (slice_set arrays k (written x w)) f) is
      ∙ get_set_same arrays f (written x w) (slice_get_within arrays f x at)

word_other : (a f : ℕ) (o : Option Write) (arrays : List PlainWords) → (a ≡ f → o ≡ None) → slice_get (write_word a o arrays) f ≡ slice_get arrays f
word_other a f None arrays h = refl
word_other a f (Some w) arrays h = put_other a w arrays f (λ e. let never = h e in cc) (slice_get arrays a)

word_here : (a f : ℕ) (o : Option Write) (arrays : List PlainWords) (w : Write) (x : PlainWords) → a ≡ f → o ≡ Some w → slice_get arrays f ≡ Some x
    → slice_get (write_word a o arrays) f ≡ Some (written x w)
word_here a f o arrays w x is gives at = ap (λ z. slice_get (write_word a z arrays) f) gives ∙ put_here a w arrays f x is at

word_long : (a : ℕ) (o : Option Write) (arrays : List PlainWords) → length (write_word a o arrays) ≡ length arrays
word_long a None arrays = refl
word_long a (Some w) arrays = put_long a w arrays (slice_get arrays a)

module _ (write : Store → Option Write) where
  pub stores_long : (xs : List Store) (arrays : List PlainWords) → length (after_writes xs (map write xs) arrays) ≡ length arrays
  stores_long [] arrays = refl
  stores_long (x ∷ xs) arrays = stores_long xs (write_word x.array (write x) arrays) ∙ word_long x.array (write x) arrays

  -- an array that no store writes to keeps its words
  pub stores_keep : (xs : List Store) (arrays : List PlainWords) (f : ℕ) → ((h : ℕ) (x : Store) → slice_get xs h ≡ Some x → x.array ≡ f → write x ≡ None)
      → slice_get (after_writes xs (map write xs) arrays) f ≡ slice_get arrays f
  stores_keep [] arrays f none = refl
  stores_keep (x ∷ xs) arrays f none =
      stores_keep xs (write_word x.array (write x) arrays) f (λ h y at. none (suc h) y at)
      ∙ word_other x.array f (write x) arrays (none zero x refl)

  stores_stay : (xs : List Store) (arrays : List PlainWords) (f : ℕ) (w : Write) (x : PlainWords) → ((h : ℕ) (y : Store) → slice_get xs h ≡ Some y → y.array ≡ f → write y ≡ Some w)
      → slice_get arrays f ≡ Some (written x w) → slice_get (after_writes xs (map write xs) arrays) f ≡ Some (written x w)
  stores_stay [] arrays f w x same has = has
  stores_stay (y ∷ xs) arrays f w x same has =
      stores_stay xs (write_word y.array (write y) arrays) f w x (λ h z at. same (suc h) z at)
      (⊎_elim
      (λ is. word_here y.array f (write y) arrays w (written x w) is (same zero y refl is) has ∙ ap Some (written_twice x w))
      (λ other. word_other y.array f (write y) arrays (λ is. absurd (other is)) ∙ has)
      (cases_eq y.array f))

  -- where all stores into an array write one word, that word alone changes
  pub stores_give : (xs : List Store) (arrays : List PlainWords) (f h : ℕ) (y : Store) (w : Write) (x : PlainWords)
      → ((h : ℕ) (y : Store) → slice_get xs h ≡ Some y → y.array ≡ f → write y ≡ Some w)
      → slice_get arrays f ≡ Some x → slice_get xs h ≡ Some y → y.array ≡ f → slice_get (after_writes xs (map write xs) arrays) f ≡ Some (written x w)
  stores_give [] arrays f h y w x same has at is = absurd (cc)
  stores_give (z ∷ xs) arrays f zero y w x same has at is =
      let first : z ≡ y = cc in
      let net : z.array ≡ f = ap (λ u. u.array) first ∙ is in
      stores_stay xs (write_word z.array (write z) arrays) f w x (λ h u at. same (suc h) u at) (word_here z.array f (write z) arrays w x net (same zero z refl net) has)
  stores_give (z ∷ xs) arrays f (suc h) y w x same has at is = ⊎_elim
      (λ net. stores_stay xs (write_word z.array (write z) arrays) f w x (λ k u at. same (suc k) u at) (word_here z.array f (write z) arrays w x net (same zero z refl net) has))
      (λ other. stores_give xs (write_word z.array (write z) arrays) f h y w x (λ k u at. same (suc k) u at) (word_other z.array f (write z) arrays (λ is. absurd (other is)) ∙ has) at is)
      (cases_eq z.array f)
