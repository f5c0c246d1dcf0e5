-- Names in the text: `cx_`, letters and numbers.
use Rattle.std.specs.Prelude.{ℕ, ◌==◌, List, [], ◌∷◌, ◌++◌, if◌then◌else◌, codes, decimal}
use Rattle.cx_prim.specs.PrimitiveNames.{name_text}
use Rattle.cx_prim.specs.Table.{PrimitiveRow}

abbrev pub numbered : List ℕ → ℕ → List ℕ
numbered letters n = codes "cx_" ++ letters ++ decimal n

abbrev pub twice_numbered : List ℕ → ℕ → ℕ → List ℕ
twice_numbered letters n m = codes "cx_" ++ letters ++ decimal n ++ codes "_" ++ decimal m

-- ports of the signature
abbrev pub input_name : ℕ → List ℕ
input_name n = numbered (codes "in") n

abbrev pub output_name : ℕ → List ℕ
output_name n = numbered (codes "out") n

-- the wire at a port of a cell
abbrev pub cell_port_name : ℕ → ℕ → List ℕ
cell_port_name c p = twice_numbered (codes "c") c p

abbrev pub wire_name : ℕ → List ℕ
wire_name n = numbered (codes "w") n

abbrev pub register_name : ℕ → List ℕ
register_name n = numbered (codes "r") n

-- declared in no module
abbrev pub undeclared_name : List ℕ
undeclared_name = codes "cx_none"

-- the instance of a cell
abbrev pub instance_name : ℕ → List ℕ
instance_name c = numbered (codes "i") c

-- the module of a component; main has that name
abbrev pub module_name : ℕ → ℕ → List ℕ
module_name main k = if k == main then codes "main" else numbered (codes "m") k

-- numbers, each behind `_`
abbrev pub joined_numbers : List ℕ → List ℕ
joined_numbers [] = []
joined_numbers (n ∷ ns) = codes "_" ++ decimal n ++ joined_numbers ns

-- the module of a primitive: its name as designs write it, and its numbers
abbrev pub primitive_name : PrimitiveRow → List ℕ
primitive_name p = codes "cx_" ++ name_text p.name ++ joined_numbers p.numbers
