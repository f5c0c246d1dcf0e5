-- Ports of cells that get new numbers.
use Rattle.std.specs.Prelude.{◌≡◌, ℕ, ◌+◌, ◌<◌, nat_eq, List, [], ◌∷◌, Option, Some, None, length, map, slice_get, if◌then◌else◌}
use Rattle.cx_meaning.specs.declared.ports.PortRef.{PortRef}
use Rattle.cx_meaning.specs.declared.ports.PortRef.TheVariants as ports
use Rattle.cx_meaning.specs.Designs.{PlainKind, OfPrimitive, OfComponent, PlainCell, PlainInvoke, PlainDesign, component_at}
use Rattle.cx_rewrites.specs.Moving.{moved_assign}
use Rattle.cx_profiling.specs.Counters.{first_gained}
use Rattle.cx_profiling.specs.Instrumented.{gained}
use Rattle.cx_profile.specs.declared.renumbering.NewDone.{NewDone}

abbrev pub renumbered_number : Option NewDone → ℕ → ℕ
renumbered_number None p = p
renumbered_number (Some cell) p = if nat_eq cell.old p then cell.new else p

abbrev pub renumber : List NewDone → PortRef → PortRef
renumber cells (ports.Cell c p) = ports.Cell c (renumbered_number (slice_get cells c) p)
renumber cells (ports.Input n) = ports.Input n
renumber cells (ports.Output n) = ports.Output n
renumber cells (ports.Done g) = ports.Done g
renumber cells (ports.Literal w v) = ports.Literal w v

-- the number of a cell's done, and the new one
abbrev pub done_of : PlainDesign → PlainKind → NewDone
done_of d (OfPrimitive primitive) = record { old = 0; new = 0 }
done_of d (OfComponent k) =
    record { old = first_gained (component_at d k); new = first_gained (component_at d k) + gained d k }

abbrev pub dones_of : PlainDesign → List PlainCell → List NewDone
dones_of d cells = map (λ cell. done_of d cell.kind) cells

abbrev pub renumbered_invoke : List NewDone → PlainInvoke → PlainInvoke
renumbered_invoke cells v =
    record {
      cell = v.cell;
      written = v.written;
      length = v.length;
      latency = v.latency;
      inputs = map (moved_assign (renumber cells)) v.inputs;
      captures = v.captures;
    }

-- the components of cells are there
abbrev pub IsThereKind : ℕ → PlainKind → Type 0
IsThereKind n (OfPrimitive primitive) = Unit {0}
IsThereKind n (OfComponent k) = k < n

abbrev pub AreThere : ℕ → List PlainCell → Type 0
AreThere n [] = Unit {0}
AreThere n (cell ∷ cells) = IsThereKind n cell.kind × AreThere n cells

-- of each component the outputs that it gains
abbrev pub AreGained : PlainDesign → List ℕ → Type 0
AreGained d counts = (k : ℕ) → k < length d.components → slice_get counts k ≡ Some (gained d k)
