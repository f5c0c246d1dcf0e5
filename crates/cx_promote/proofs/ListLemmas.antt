-- Lists that begin with what a function gives of the items of another.
use Rattle.std.proofs.Common.{◌≡◌, ℕ, zero, suc, ◌<◌, ◌+◌, ◌-◌, arith, List, [], ◌∷◌, ◌++◌, length, map, drop, get_or, Option, Some, None, refl, sym, ap, ◌∙◌, subst, add-one}
use Rattle.std.specs.Prelude.{slice_get}
use Rattle.cx_text.proofs.ListLaws.{there_below, item_at, length-map}
use Rattle.cx_promote.specs.Lengths.{Begins}
use Rattle.cx_text.proofs.OptionLaws.{same_some, none_or_some}

pub drop_head : {A : Type 0} (xs : List A) (n : ℕ) (x : A) (rest : List A) → drop n xs ≡ x ∷ rest → slice_get xs n ≡ Some x
drop_head [] zero x rest e = absurd cc
drop_head [] (suc n) x rest e = absurd cc
drop_head (y ∷ ys) zero x rest e = let f : y ≡ x = cc in ap Some f
drop_head (y ∷ ys) (suc n) x rest e = drop_head ys n x rest e

drop_tail : {A : Type 0} (xs : List A) (n : ℕ) (x : A) (rest : List A) → drop n xs ≡ x ∷ rest → drop (suc n) xs ≡ rest
drop_tail [] zero x rest e = absurd cc
drop_tail [] (suc n) x rest e = absurd cc
drop_tail (y ∷ ys) zero x rest e = let f : ys ≡ rest = cc in f
drop_tail (y ∷ ys) (suc n) x rest e = drop_tail ys n x rest e

module _ {A B : Type 0} (f : A → B) (found : List B) (n : ℕ) (item : A) (items : List A) where
  pub begins_item : Begins f (drop n found) (item ∷ items) → slice_get found n ≡ Some (f item)
  begins_item (rest, e) = drop_head found n (f item) (map f items ++ rest) e

  pub begins_within : Begins f (drop n found) (item ∷ items) → n < length found
  begins_within b = there_below found n (f item) (begins_item b)

  pub begins_next : Begins f (drop n found) (item ∷ items) → Begins f (drop (n + 1) found) items
  begins_next (rest, e) = (rest, ap (λ k. drop k found) (add-one n) ∙ drop_tail found n (f item) (map f items ++ rest) e)

-- one function after another
pub map-map : {A B C : Type 0} (g : B → C) (f : A → B) (xs : List A) → map g (map f xs) ≡ map (λ x. g (f x)) xs
map-map g f [] = refl
map-map g f (x ∷ xs) = ap (λ ys. g (f x) ∷ ys) (map-map g f xs)

pub map_joined : {A B : Type 0} (g : A → B) (xs ys : List A) → map g (xs ++ ys) ≡ map g xs ++ map g ys
map_joined g [] ys = refl
map_joined g (x ∷ xs) ys = ap (λ zs. g x ∷ zs) (map_joined g xs ys)

pub begins_map : {A B C : Type 0} (g : B → C) (f : A → B) (found : List B) (items : List A) → Begins f found items → Begins (λ x. g (f x)) (map g found) items
begins_map g f found items (rest, e) =
    (map g rest, ap (map g) e ∙ map_joined g (map f items) rest ∙ ap (λ xs. xs ++ map g rest) (map-map g f items))

-- what stands at a number
pub begins_at : {A B : Type 0} (f : A → B) (found : List B) (items : List A) (n : ℕ) (item : A) → Begins f found items → slice_get items n ≡ Some item → slice_get found n ≡ Some (f item)
begins_at f found [] n item b at = absurd cc
begins_at f [] (x ∷ items) n item (rest, e) at = absurd cc
begins_at f (y ∷ found) (x ∷ items) zero item (rest, e) at =
    let head : y ≡ f x = cc in let same : x ≡ item = cc in ap Some (head ∙ ap f same)
begins_at f (y ∷ found) (x ∷ items) (suc n) item (rest, e) at =
    begins_at f found items n item (rest, let tail : found ≡ map f items ++ rest = cc in tail) at

-- what is put behind a list
pub mapped_push : {A B : Type 0} (f : A → B) (new old : List A) (x : A) → new ≡ old ++ x ∷ [] → map f new ≡ map f old ++ f x ∷ []
mapped_push f new old x e = ap (map f) e ∙ map_joined f old (x ∷ [])

pub same_at : {A : Type 0} (xs : List A) (n : ℕ) (x y : A) → slice_get xs n ≡ Some x → slice_get xs n ≡ Some y → x ≡ y
same_at xs n x y a b = same_some x y (sym a ∙ b)

pub found_at : {A B C : Type 0} (f : A → C) (g : B → C) (xs : List A) (ys : List B) (n : ℕ) (x : A) (y : B) → map f xs ≡ map g ys
    → x ≡ get_or xs n x → n < length ys → y ≡ get_or ys n y → f x ≡ g y
found_at f g xs ys n x y e at inside here =
    let within : n < length xs = subst (λ k. n < k) (sym (length-map g ys) ∙ sym (ap length e) ∙ length-map f xs) inside in
    same_at (map f xs) n (f x) (g y) (item_at f xs n x within at) (ap (λ zs. slice_get zs n) e ∙ item_at g ys n y inside here)

pub read_got : {A : Type 0} (xs : List A) (n : ℕ) (x d : A) → slice_get xs n ≡ Some x → get_or xs n d ≡ x
read_got [] n x d e = absurd cc
read_got (y ∷ xs) zero x d e = same_some y x e
read_got (y ∷ xs) (suc n) x d e = read_got xs n x d e

pub no_last : {A : Type 0} (xs : List A) (n : ℕ) (o : Option A) → n ≡ length xs → o ≡ None → ((d : A) → 0 < n → o ≡ Some (get_or xs (n - 1) d)) → xs ≡ []
no_last [] n o len e value = refl
no_last (x ∷ xs) n o len e value =
    let some : 0 < n = omega (arith, len) in
    absurd (none_or_some o (get_or (x ∷ xs) (n - 1) x) e (value x some))
