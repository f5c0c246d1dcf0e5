-- Facts of what `Rows` defines, that several crates above take.
use Rattle.std.proofs.Common.{◌≡◌, Bool, true, false, Some, None, refl, if◌then◌else◌}
use Rattle.std.specs.Prelude.{IsSome, unwrap_or}
use Rattle.cx_prim.specs.Rows.{Row}
use Rattle.cx_prim.specs.Table.{no_row}

pub where_true : (P : Row → Type 0) (b : Bool) (row : Row) → IsSome (if b then Some row else None) → (b ≡ true → P row) → P (unwrap_or (if b then Some row else None) no_row)
where_true P true row there each = each refl
where_true P false row there each = absurd (let wrong : false ≡ true = there in cc)
