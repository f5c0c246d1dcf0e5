-- Which groups are counted, by the cells of their component.
use Rattle.std.specs.Prelude.{ℕ, suc, Bool, true, false, not, ◌&&◌, ◌||◌, List, [], ◌∷◌, Option, Some, None, slice_get, if◌then◌else◌}
use Rattle.cx_meaning.specs.declared.ports.PortRef.{PortRef}
use Rattle.cx_meaning.specs.declared.ports.PortRef.TheVariants as ports
use Rattle.cx_meaning.specs.declared.kinds.GroupKind.{GroupKind}
use Rattle.cx_meaning.specs.declared.kinds.GroupKind.TheVariants as kinds
use Rattle.cx_meaning.specs.Designs.{PlainAssign, PlainGroup, PlainKind, OfPrimitive, OfComponent, PlainCell}
use Rattle.cx_profiling.specs.Counters.{has_name}

abbrev pub is_part : PlainKind → Bool
is_part (OfPrimitive primitive) = false
is_part (OfComponent k) = true

abbrev pub is_part_cell : Option PlainCell → Bool
is_part_cell None = false
is_part_cell (Some cell) = is_part cell.kind

-- a port of a component's cell
abbrev pub is_part_port : List PlainCell → PortRef → Bool
is_part_port cells (ports.Cell c p) = is_part_cell (slice_get cells c)
is_part_port cells (ports.Input n) = false
is_part_port cells (ports.Output n) = false
is_part_port cells (ports.Done g) = false
is_part_port cells (ports.Literal w v) = false

abbrev pub calls : List PlainCell → List PlainAssign → Bool
calls cells [] = false
calls cells (a ∷ rest) = is_part_port cells a.target || calls cells rest

abbrev pub counts_kind : List PlainCell → List PlainAssign → GroupKind → Bool
counts_kind cells assigns kinds.Plain = not (calls cells assigns)
counts_kind cells assigns kinds.Comb = false
counts_kind cells assigns (kinds.Timed length) = true

abbrev pub counts_group : List PlainCell → PlainGroup → Bool
counts_group cells g = has_name g.name && counts_kind cells g.assigns g.kind

abbrev pub counted_among : List PlainCell → List PlainGroup → ℕ
counted_among cells [] = 0
counted_among cells (g ∷ gs) = if counts_group cells g then suc (counted_among cells gs) else counted_among cells gs
