-- The numbers of copies of enabled groups, by a list that has for each number how many are enabled below it.
use Rattle.std.specs.Prelude.{ℕ, ◌+◌, List, Option, Some, None, slice_get}
use Rattle.cx_flat.specs.declared.enabled.Enabled.{Enabled}

abbrev pub or_count : Option ℕ → ℕ → ℕ
or_count None count = count
or_count (Some below) count = below

abbrev pub below_by : List ℕ → ℕ → ℕ → ℕ
below_by below count g = or_count (slice_get below g) count

abbrev pub copy_by : ℕ → Enabled → ℕ → ℕ
copy_by first enabled g = first + below_by enabled.below.items enabled.count g
