-- Counted groups by the cells of their component, and by the cells of an instance.
use Rattle.std.proofs.Common.{◌≡◌, ℕ, zero, suc, Bool, true, false, not, ◌&&◌, ◌||◌, List, [], ◌∷◌, length, Option, refl, ap, ◌∙◌}
use Rattle.std.specs.Prelude.{is_none, if◌then◌else◌}
use Rattle.std.specs.List.{slice_get}
use Rattle.cx_meaning.specs.declared.ports.PortRef.{PortRef}
use Rattle.cx_meaning.specs.declared.ports.PortRef.TheVariants as ports
use Rattle.cx_meaning.specs.declared.kinds.GroupKind.{GroupKind}
use Rattle.cx_meaning.specs.declared.kinds.GroupKind.TheVariants as kinds
use Rattle.cx_meaning.specs.Designs.{PlainAssign, PlainGroup, PlainKind, OfPrimitive, OfComponent, PlainCell}
use Rattle.cx_meaning.specs.Instances.{Instance, add_cell, cells_for, cell_at}
use Rattle.cx_meaning.specs.Calls.{if_instance, called_by, called_in}
use Rattle.cx_profiling.specs.Counters.{has_name, is_counted_kind, is_counted, counters_from}
use Rattle.cx_profile.specs.Counted.{is_part, is_part_cell, is_part_port, calls, counts_kind, counts_group, counted_among}

module _ (child : ℕ → Instance) where
  -- a port of a component's cell is one that calls
  cell_calls : (cells : List PlainCell) (c at : ℕ) (later : Option ℕ) (b : Bool) → is_none later ≡ not b
      → is_none (if_instance (cell_at (cells_for child cells) c) at later) ≡ not (is_part_cell (slice_get cells c) || b)
  cell_calls [] c at later b h = h
  cell_calls (cell ∷ cells) zero at later b h = by cell.kind
    where
      by : (kind : PlainKind) → is_none (if_instance (cell_at (add_cell child kind (cells_for child cells)) zero) at later) ≡ not (is_part kind || b)
      by (OfPrimitive primitive) = h
      by (OfComponent k) = refl
  cell_calls (cell ∷ cells) (suc c) at later b h = by cell.kind (cell_calls cells c at later b h)
    where
      by : (kind : PlainKind) → is_none (if_instance (cell_at (cells_for child cells) c) at later) ≡ not (is_part_cell (slice_get cells c) || b)
          → is_none (if_instance (cell_at (add_cell child kind (cells_for child cells)) (suc c)) at later) ≡ not (is_part_cell (slice_get cells c) || b)
      by (OfPrimitive primitive) e = e
      by (OfComponent k) e = e

  port_calls : (cells : List PlainCell) (p : PortRef) (later : Option ℕ) (b : Bool) → is_none later ≡ not b → is_none (called_by (cells_for child cells) p later) ≡ not (is_part_port cells p || b)
  port_calls cells (ports.Cell c p) later b h = cell_calls cells c c later b h
  port_calls cells (ports.Input n) later b h = h
  port_calls cells (ports.Output n) later b h = h
  port_calls cells (ports.Done g) later b h = h
  port_calls cells (ports.Literal w v) later b h = h

  calls-none : (cells : List PlainCell) (assigns : List PlainAssign) → is_none (called_in (cells_for child cells) assigns) ≡ not (calls cells assigns)
  calls-none cells [] = refl
  calls-none cells (a ∷ rest) = port_calls cells a.target (called_in (cells_for child cells) rest) (calls cells rest) (calls-none cells rest)

  kind_counts : (cells : List PlainCell) (assigns : List PlainAssign) (kind : GroupKind) → is_counted_kind (cells_for child cells) assigns kind ≡ counts_kind cells assigns kind
  kind_counts cells assigns kinds.Plain = calls-none cells assigns
  kind_counts cells assigns kinds.Comb = refl
  kind_counts cells assigns (kinds.Timed length) = refl

  -- A COUNTED GROUP by the cells of the component
  pub group_counts : (cells : List PlainCell) (g : PlainGroup) → is_counted (cells_for child cells) g ≡ counts_group cells g
  group_counts cells g = ap (λ b. has_name g.name && b) (kind_counts cells g.assigns g.kind)

  -- so many counters
  pub counted_among-counters : (cells : List PlainCell) (c g : ℕ) (gs : List PlainGroup) → length (counters_from (cells_for child cells) c g gs) ≡ counted_among cells gs
  counted_among-counters cells c g [] = refl
  counted_among-counters cells c g (x ∷ gs) =
      ap (λ b. length (if b then record { group = g; register = c } ∷ counters_from (cells_for child cells) (suc (suc c)) (suc g) gs else counters_from (cells_for child cells) c (suc g) gs)) (group_counts cells x)
      ∙ by (counts_group cells x) (counted_among-counters cells (suc (suc c)) (suc g) gs) (counted_among-counters cells c (suc g) gs)
    where
      by : (b : Bool) → length (counters_from (cells_for child cells) (suc (suc c)) (suc g) gs) ≡ counted_among cells gs → length (counters_from (cells_for child cells) c (suc g) gs) ≡ counted_among cells gs
          → length (if b then record { group = g; register = c } ∷ counters_from (cells_for child cells) (suc (suc c)) (suc g) gs else counters_from (cells_for child cells) c (suc g) gs)
          ≡ (if b then suc (counted_among cells gs) else counted_among cells gs)
      by true counted plain = ap suc counted
      by false counted plain = plain
