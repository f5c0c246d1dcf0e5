-- The ports of a module, one after another.
use Rattle.std.specs.Prelude.{◌≡◌, ℕ, ◌+◌, List, [], ◌∷◌, ◌++◌, Some, ◌≤◌, map, take, length, slice_get}
use Rattle.std.proofs.Common.{ap, sym, ◌∙◌}
use Rattle.std.proofs.lemmas.List.{map_more, take_all}
use Rattle.std.proofs.lemmas.Option.{slice_get_within, get_or_from_slice_get}

-- behind two elements, one more of a list
pub one_more : {Y Z : Type 0} (g : Y → Z) (a b : Z) (before after : List Z) (ys : List Y) (n : ℕ) (y : Y)
    → before ≡ a ∷ b ∷ map g (take n ys) → slice_get ys n ≡ Some y → after ≡ before ++ g y ∷ [] → after ≡ a ∷ b ∷ map g (take (n + 1) ys)
one_more g a b before after ys n y first at same =
    let within = slice_get_within ys n y at in
    let more : map g (take (n + 1) ys) ≡ map g (take n ys) ++ g y ∷ [] = map_more g ys n y within ∙ ap (λ z. map g (take n ys) ++ g z ∷ []) (get_or_from_slice_get ys n y y at) in
    same ∙ ap (λ zs. zs ++ g y ∷ []) first ∙ sym (ap (λ zs. a ∷ b ∷ zs) more)

-- behind two elements, the whole list
pub all_taken : {Y Z : Type 0} (g : Y → Z) (a b : Z) (all : List Z) (ys : List Y) (n : ℕ) → all ≡ a ∷ b ∷ map g (take n ys) → length ys ≤ n → all ≡ a ∷ b ∷ map g ys
all_taken g a b all ys n first whole = first ∙ ap (λ zs. a ∷ b ∷ map g zs) (take_all n ys whole)
