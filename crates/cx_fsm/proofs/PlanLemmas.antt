-- The first wires of islands.
use Rattle.std.proofs.Common.{◌≡◌, ℕ, zero, suc, ◌+◌, ◌<◌, ◌≤◌, List, [], ◌∷◌, length, map, take, get_or, Some, None, option_map, slice_get, refl, ap, ◌∙◌, arith}
use Rattle.std.proofs.lemmas.List.{length-map}
use Rattle.std.proofs.lemmas.Option.{slice_get_past, slice_get-map, slice_get_read}
use Rattle.cx_static.specs.Islands.{PlainIsland}
use Rattle.cx_static.specs.PlainLowered.{plain_island}
use Rattle.cx_static.specs.declared.islands.Island.{Island}
use Rattle.cx_wiring.specs.IslandDrivers.{wires_of_island, island_wires}
use Rattle.cx_fsm.specs.PlainStands.{firsts_from}

-- the first wire of an island comes behind those of the islands before it
pub first_at : (wire : ℕ) (islands : List PlainIsland) (k d : ℕ) → k < length islands → get_or (firsts_from wire islands) k d ≡ wire + island_wires (take k islands)
first_at wire [] k d h = absurd (omega arith)
first_at wire (i ∷ is) zero d h = omega arith
first_at wire (i ∷ is) (suc k) d h =
    let within : k < length is = omega arith in
    let rest : get_or (firsts_from (wire + wires_of_island i) is) k d ≡ (wire + wires_of_island i) + island_wires (take k is) = first_at (wire + wires_of_island i) is k d within in
    omega arith

pub length_firsts : (wire : ℕ) (islands : List PlainIsland) → length (firsts_from wire islands) ≡ length islands
length_firsts wire [] = omega arith
length_firsts wire (i ∷ is) = ap suc (length_firsts (wire + wires_of_island i) is)

-- an island that is not there
pub no_island : (islands : List Island) (k : ℕ) → length islands ≤ k → slice_get (map plain_island islands) k ≡ None
no_island islands k past = let all : length (map plain_island islands) ≤ k = omega (arith, length-map islands plain_island) in slice_get_past (map plain_island islands) k all

-- an island that is there
pub an_island : (islands : List Island) (k : ℕ) (i : Island) → k < length islands → i ≡ get_or islands k i → slice_get (map plain_island islands) k ≡ Some (plain_island i)
an_island islands k i within at = slice_get-map plain_island islands k ∙ ap (option_map plain_island) (slice_get_read islands (length islands) k i refl within at)
