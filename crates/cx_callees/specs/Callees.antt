-- The component cells whose ports a group drives.
use Rattle.std.specs.Prelude.{ℕ, suc, ◌+◌, nat_eq, Bool, false, List, [], ◌∷◌, Option, Some, None, length, if◌then◌else◌}
use Rattle.cx_meaning.specs.declared.ports.PortRef.{PortRef}
use Rattle.cx_meaning.specs.declared.ports.PortRef.TheVariants as ports
use Rattle.cx_meaning.specs.Designs.{PlainAssign, PlainComponent}
use Rattle.cx_meaning.specs.Instances.{Instance, At, Nothing, OfRow, OfInstance, part_of, cells_of, cell_at}
use Rattle.cx_design.specs.PlainForms.{plain_component}
use Rattle.cx_callees.specs.declared.callees.Callee.{Callee}

-- a component cell, and its component
pub record PlainCallee : Type 0 where
  pub cell : ℕ
  pub part : PlainComponent

abbrev pub plain_callee : Callee → PlainCallee
plain_callee k = record { cell = k.cell; part = plain_component k.part.now }

-- the done of a component cell
abbrev pub done_of : PlainCallee → PortRef
done_of k = ports.Cell k.cell (suc (length k.part.inputs + length k.part.outputs))

-- the component cell of which a port is one
abbrev pub callee_at : ℕ → At → Option PlainCallee
callee_at c Nothing = None
callee_at c (OfRow row) = None
callee_at c (OfInstance child) = Some (record { cell = c; part = part_of child })

abbrev pub callee_of : Instance → PortRef → Option PlainCallee
callee_of i (ports.Cell c p) = callee_at c (cell_at (cells_of i) c)
callee_of i (ports.Input n) = None
callee_of i (ports.Output n) = None
callee_of i (ports.Done g) = None
callee_of i (ports.Literal w v) = None

-- one that a group calls is a cell of a component that is not static
abbrev pub if_dynamic : Option ℕ → PlainCallee → Option PlainCallee
if_dynamic None k = Some k
if_dynamic (Some latency) k = None

abbrev pub callable : Option PlainCallee → Option PlainCallee
callable None = None
callable (Some k) = if_dynamic k.part.latency k

abbrev pub callable_of : Instance → PortRef → Option PlainCallee
callable_of i port = callable (callee_of i port)

-- those of the targets of assignments, in their order
abbrev pub and_then : Option PlainCallee → List PlainCallee → List PlainCallee
and_then None rest = rest
and_then (Some k) rest = k ∷ rest

abbrev pub callees_of : Instance → List PlainAssign → List PlainCallee
callees_of i [] = []
callees_of i (a ∷ rest) = and_then (callable_of i a.target) (callees_of i rest)

abbrev pub is_cell : Option ℕ → ℕ → Bool
is_cell None c = false
is_cell (Some d) c = nat_eq d c

-- none twice in a row, where the cell before the first is this one
abbrev pub apart : Option ℕ → List PlainCallee → List PlainCallee
apart last [] = []
apart last (k ∷ ks) = if is_cell last k.cell then apart last ks else k ∷ apart (Some k.cell) ks

-- THE CALLED CELLS of a group's assignments
abbrev pub called_of : Instance → List PlainAssign → List PlainCallee
called_of i assigns = apart None (callees_of i assigns)
