-- Addresses out of range, by the name and the numbers of a primitive.
use Rattle.std.specs.Prelude.{◌≡◌, ℕ, List, [], ◌∷◌, take, Option, None, if◌then◌else◌}
use Rattle.cx_prim.specs.declared.names.PrimitiveName.{PrimitiveName}
use Rattle.cx_prim.specs.declared.names.PrimitiveName.TheVariants.{StdMemD1, StdMemD2, StdMemD3, StdMemD4, CombMemD1, CombMemD2, CombMemD3, CombMemD4, SeqMemD1, SeqMemD2, SeqMemD3, SeqMemD4}
use Rattle.cx_prim.specs.Rows.{Inputs, is_on}
use Rattle.cx_prim.specs.MemoryRows.{first_beyond}
use Rattle.cx_prim.specs.Table.{PrimitiveRow, row_of}
use Rattle.cx_eval_cycle.specs.declared.ranges.Addresses.{Addresses}

-- the port that makes an edge look at the addresses
abbrev pub enable_of : PrimitiveName → ℕ
enable_of SeqMemD1 = 1
enable_of StdMemD1 = 2
enable_of CombMemD1 = 2
enable_of SeqMemD2 = 2
enable_of StdMemD2 = 3
enable_of CombMemD2 = 3
enable_of SeqMemD3 = 3
enable_of StdMemD3 = 4
enable_of CombMemD3 = 4
enable_of SeqMemD4 = 4
enable_of StdMemD4 = 5
enable_of CombMemD4 = 5
enable_of _ = 0

-- the numbers are the width, the sizes, and the address widths
abbrev pub out_by : ℕ → ℕ → List ℕ → Inputs → Option ℕ
out_by dimensions enable [] inputs = None
out_by dimensions enable (width ∷ rest) inputs =
    if is_on inputs enable then first_beyond (take dimensions rest) 0 inputs else None

-- the first of some addresses that is out of range, where they are compared
abbrev pub beyond_of : Addresses → Inputs → Option ℕ
beyond_of addresses inputs = if is_on inputs addresses.enable then first_beyond addresses.sizes.now 0 inputs else None

-- they are those of a primitive
abbrev pub AreAddressesOf : PrimitiveRow → Addresses → Type 0
AreAddressesOf p addresses = (inputs : Inputs) → beyond_of addresses inputs ≡ (row_of p).out_of_range inputs
