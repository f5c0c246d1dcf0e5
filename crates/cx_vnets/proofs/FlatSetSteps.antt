-- What sets leave of a net.
use Rattle.std.proofs.Common.{◌≡◌, ℕ, zero, suc, ◌<◌, ⊎_elim, List, [], ◌∷◌, Option, Some, None, length, slice_get, slice_set, refl, ap, ◌∙◌, sym, subst}
use Rattle.std.specs.Option.{option_map_or}
use Rattle.std.proofs.lemmas.Bool.{cases_eq}
use Rattle.std.proofs.lemmas.List.{length-set}
use Rattle.cx_bits.specs.BitVector.{BitVector}
use Rattle.cx_vnets.specs.declared.arrays.Words.{Words}
use Rattle.cx_vnets.specs.declared.codes.Code.{Code}
use Rattle.cx_vnets.specs.declared.edges.Set.{Set}
use Rattle.cx_vnets.specs.Edges.{numbered, after_sets}
use Rattle.cx_text.proofs.ListLaws.{get_set_same}

pub get_set_other : {A : Type 0} (xs : List A) (i j : ℕ) (v : A) → (i ≡ j → ⊥) → slice_get (slice_set xs i v) j ≡ slice_get xs j
get_set_other [] i j v ne = refl
get_set_other (x ∷ xs) zero zero v ne = absurd (ne refl)
get_set_other (x ∷ xs) zero (suc j) v ne = refl
get_set_other (x ∷ xs) (suc i) zero v ne = refl
get_set_other (x ∷ xs) (suc i) (suc j) v ne = get_set_other xs i j v (λ e. ne (ap suc e))

module _ (table : List Code) (values : List BitVector) (arrays : List Words) where
  abbrev pub number : Set → Option BitVector
  number x = numbered table values arrays x.place x.code

  abbrev put : Set → Option BitVector → List BitVector → List BitVector
  put x o registers = option_map_or (λ v. slice_set registers x.net v) o registers

  put_other : (x : Set) (o : Option BitVector) (registers : List BitVector) (f : ℕ) → (x.net ≡ f → o ≡ None) → slice_get (put x o registers) f ≡ slice_get registers f
  put_other x None registers f h = refl
  put_other x (Some v) registers f h = get_set_other registers x.net f v (λ e. let never = h e in cc)

  put_long : (x : Set) (o : Option BitVector) (registers : List BitVector) → length (put x o registers) ≡ length registers
  put_long x None registers = refl
  put_long x (Some v) registers = length-set registers x.net v

  put_here : (x : Set) (o : Option BitVector) (registers : List BitVector) (f : ℕ) (v : BitVector) → x.net ≡ f → o ≡ Some v → f < length registers → slice_get (put x o registers) f ≡ Some v
  put_here x o registers f v is gives lt =
      ap (λ z. slice_get (put x z registers) f) gives
      ∙ ap (λ k. slice_get (slice_set registers k v) f) is
      ∙ get_set_same registers f v lt

  -- a net that no set gives a value keeps its own
  pub sets_keep : (xs : List Set) (registers : List BitVector) (f : ℕ) → ((h : ℕ) (x : Set) → slice_get xs h ≡ Some x → x.net ≡ f → number x ≡ None)
      → slice_get (after_sets table values arrays xs registers) f ≡ slice_get registers f
  sets_keep [] registers f none = refl
  sets_keep (x ∷ xs) registers f none =
      sets_keep xs (put x (number x) registers) f (λ h y at. none (suc h) y at)
      ∙ put_other x (number x) registers f (none zero x refl)

  -- where all sets of a net give it one value it has that, if it has it before or some set does so
  pub sets_stay : (xs : List Set) (registers : List BitVector) (f : ℕ) (v : BitVector) → ((h : ℕ) (x : Set) → slice_get xs h ≡ Some x → x.net ≡ f → number x ≡ Some v)
      → f < length registers → slice_get registers f ≡ Some v → slice_get (after_sets table values arrays xs registers) f ≡ Some v
  sets_stay [] registers f v same lt has = has
  sets_stay (x ∷ xs) registers f v same lt has =
      sets_stay xs (put x (number x) registers) f v (λ h y at. same (suc h) y at)
      (subst (λ k. f < k) (sym (put_long x (number x) registers)) lt)
      (⊎_elim
      (λ is. put_here x (number x) registers f v is (same zero x refl is) lt)
      (λ other. put_other x (number x) registers f (λ is. absurd (other is)) ∙ has)
      (cases_eq x.net f))

  pub sets_give : (xs : List Set) (registers : List BitVector) (f h : ℕ) (x : Set) (v : BitVector) → ((h : ℕ) (x : Set) → slice_get xs h ≡ Some x → x.net ≡ f → number x ≡ Some v)
      → f < length registers → slice_get xs h ≡ Some x → x.net ≡ f → slice_get (after_sets table values arrays xs registers) f ≡ Some v
  sets_give [] registers f h x v same lt at is = absurd (cc)
  sets_give (y ∷ xs) registers f zero x v same lt at is =
      let first : y ≡ x = cc in
      sets_stay xs (put y (number y) registers) f v (λ h z at. same (suc h) z at)
      (subst (λ k. f < k) (sym (put_long y (number y) registers)) lt)
      (put_here y (number y) registers f v (ap (λ z. z.net) first ∙ is) (same zero y refl (ap (λ z. z.net) first ∙ is)) lt)
  sets_give (y ∷ xs) registers f (suc h) x v same lt at is =
      sets_give xs (put y (number y) registers) f h x v (λ k z at. same (suc k) z at)
      (subst (λ k. f < k) (sym (put_long y (number y) registers)) lt) at is
