-- What the meaning of a design asks of a primitive's row. Nothing here or above knows a particular primitive.
use Rattle.std.specs.Prelude.{◌≡◌, ℕ, zero, suc, List, [], ◌∷◌}
use Rattle.cx_prim.specs.declared.ports.PortRow.{PortRow}
use Rattle.cx_prim.specs.declared.ports.Side.{Side}
use Rattle.cx_prim.specs.declared.ports.Side.TheVariants.{Registered}
use Rattle.cx_prim.specs.Rows.{Row, IdlesOnce}

abbrev pub side_from : List PortRow → ℕ → Side
side_from [] p = Registered
side_from (port ∷ ports) zero = port.side
side_from (port ∷ ports) (suc p) = side_from ports p

-- what port p of a row is to its primitive
abbrev pub side_of : Row → ℕ → Side
side_of row p = side_from row.ports p

-- what every row keeps: two idle edges are one, and an idle edge leaves the start as it is
pub record KeepsIdle (row : Row) : Type 0 where
  pub once : IdlesOnce row
  pub starts_settled : row.idle row.start ≡ row.start
