-- A primitive by its name and numbers, and by its kind.
use Rattle.std.specs.Prelude.{◌≡◌, ℕ, ◌≤◌, List, take, Option, Some, unwrap_or, refl}
use Rattle.std.proofs.Common.{ap}
use Rattle.cx_prim.specs.Rows.{Row}
use Rattle.cx_prim.specs.Table.{PrimitiveRow, row_at, no_row, row_of}
use Rattle.cx_cells.specs.declared.kinds.Kind.{Kind}
use Rattle.cx_cells.specs.Kinds.{kind_row}

-- the numbers keep the row of the name, which is that of the kind
pub record IsOfKind (p : PrimitiveRow) (kind : Kind) (count : ℕ) : Type 0 where
  pub found : row_at p.name p.numbers ≡ Some (kind_row kind)
  pub few : count ≤ 9

pub row_of-kind : (p : PrimitiveRow) (kind : Kind) (count : ℕ) → IsOfKind p kind count → row_of p ≡ kind_row kind
row_of-kind p kind count is_kind = ap (λ (o : Option Row). unwrap_or o no_row) is_kind.found
