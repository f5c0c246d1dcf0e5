-- Names that no port, cell or group of a component has.
use Rattle.std.specs.Prelude.{ℕ, ◌+◌, not, List, ◌++◌, length, map, filter, take, codes, decimal}
use Rattle.std.specs.List.{range_with_len}
use Rattle.cx_meaning.specs.Designs.{PlainComponent}
use Rattle.cx_numbering.specs.Names.{is_among}

abbrev pub profile_name : ℕ → List ℕ
profile_name n = codes "profile_" ++ decimal n

-- the first k of profile_0, profile_1, and so on, that are not taken. Of the first k and as many as are taken at least k are free
abbrev pub free_names : List (List ℕ) → ℕ → List (List ℕ)
free_names taken k =
    take k
    (filter (λ name. not (is_among name taken)) (map profile_name (range_with_len 0 (k + length taken))))

abbrev pub names_of : PlainComponent → List (List ℕ)
names_of part =
    map (λ port. port.name) (part.inputs ++ part.outputs)
    ++ (map (λ cell. cell.name) part.cells ++ map (λ group. group.name) part.groups)
