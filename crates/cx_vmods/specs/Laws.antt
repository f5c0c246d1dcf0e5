-- THE LAW of the modules.
use Rattle.std.specs.Prelude.{ℕ, List, slice_index}
use Rattle.cx_prim.specs.Table.{PrimitiveRow, HasRow, row_of}
use Rattle.cx_vmods.specs.Modules.{module_of}
use Rattle.cx_vmods.specs.Stands.{StandsFor}
use Rattle.cx_vmods.specs.Built.{IsBuilt}

-- under each name the module of each primitive of the table does what its row says
abbrev pub EachIsBuilt : Type 0
EachIsBuilt =
    (p : PrimitiveRow) (name : List ℕ) → HasRow p
    → IsBuilt (module_of p name) (row_of p) (StandsFor (slice_index p.numbers 0))
