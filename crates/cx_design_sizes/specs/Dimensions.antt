-- The dimensions of memories, and their words by their numbers.
use Rattle.std.specs.Prelude.{ℕ, nat_lt, nat_le, ◌&&◌, List, [], ◌∷◌, take, length, if◌then◌else◌}
use Rattle.cx_text.specs.Loading.{word_count}
use Rattle.cx_prim.specs.declared.names.PrimitiveName.{PrimitiveName}
use Rattle.cx_prim.specs.declared.names.PrimitiveName.TheVariants.{StdMemD1, StdMemD2, StdMemD3, StdMemD4, CombMemD1, CombMemD2, CombMemD3, CombMemD4, SeqMemD1, SeqMemD2, SeqMemD3, SeqMemD4}
use Rattle.cx_design_sizes.specs.Capped.{capped}

abbrev pub dimensions_of : PrimitiveName → ℕ
dimensions_of StdMemD1 = 1
dimensions_of CombMemD1 = 1
dimensions_of SeqMemD1 = 1
dimensions_of StdMemD2 = 2
dimensions_of CombMemD2 = 2
dimensions_of SeqMemD2 = 2
dimensions_of StdMemD3 = 3
dimensions_of CombMemD3 = 3
dimensions_of SeqMemD3 = 3
dimensions_of StdMemD4 = 4
dimensions_of CombMemD4 = 4
dimensions_of SeqMemD4 = 4
dimensions_of _ = 0

-- the numbers are the width, the sizes, and the address widths
abbrev pub memory_words : ℕ → List ℕ → ℕ
memory_words dimensions [] = 0
memory_words dimensions (width ∷ rest) =
    if nat_lt 0 dimensions && nat_le dimensions (length rest)
    then capped (word_count (take dimensions rest)) else 0
