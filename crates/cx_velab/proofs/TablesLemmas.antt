-- Facts of what `Tables` defines, that several crates above take.
use Rattle.std.proofs.Common.{◌≡◌, ℕ, zero, suc, List, [], ◌∷◌, length, refl, arith, length-append}
use Rattle.cx_vtree.specs.InstanceTree.{Placed}
use Rattle.cx_vnets.specs.Numbers.{place_of}
use Rattle.cx_velab.specs.Tables.{all_places}

pub places_length : (tree : List Placed) (n : ℕ) → length (all_places tree n) ≡ n
places_length tree zero = refl
places_length tree (suc n) = let e = places_length tree n in let f = length-append (all_places tree n) (place_of tree n ∷ []) in let g : length (place_of tree n ∷ []) ≡ 1 = refl in omega (arith, e, f, g)
