-- RULE call-shape, of cells of static components: invokes alone run them.
use Rattle.std.specs.Prelude.{◌≡◌, ℕ, suc, ◌<◌, Bool, true, false, is_some, Option, Some, None, length}
use Rattle.cx_meaning.specs.declared.ports.PortRef.{PortRef}
use Rattle.cx_meaning.specs.declared.ports.PortRef.TheVariants as ports
use Rattle.cx_meaning.specs.Designs.{PlainAssign, PlainInvoke, PlainComponent, Timed}
use Rattle.cx_meaning.specs.Instances.{Instance, At, Nothing, OfRow, OfInstance, part_of, cells_of, cell_at}
use Rattle.cx_meaning.specs.Active.{same_port}
use Rattle.cx_text.specs.Members.{In}
use Rattle.cx_rules.specs.Ports.{path_of, cell_name}
use Rattle.cx_rules.specs.Footprints.{AssignNames, Rests}
use Rattle.cx_rules.specs.ShapeRules.{some_target}
use Rattle.cx_rules.specs.Invokes.{invoke_at}
use Rattle.cx_rules.specs.Spots.{Tells, AssignRule, StatementRule}

-- the latency of a cell's component
abbrev pub latency_at : At → Option ℕ
latency_at Nothing = None
latency_at (OfRow row) = None
latency_at (OfInstance child) = (part_of child).latency

-- a port of a cell of a static component
abbrev pub is_static_port : Instance → PortRef → Bool
is_static_port i (ports.Cell c p) = is_some (latency_at (cell_at (cells_of i) c))
is_static_port i (ports.Input n) = false
is_static_port i (ports.Output n) = false
is_static_port i (ports.Done g) = false
is_static_port i (ports.Literal w v) = false

-- an assignment that drives a port of a cell of a static component
abbrev pub BreaksStaticCell : AssignRule
BreaksStaticCell i a place name =
    (is_static_port i a.assign.target ≡ true) × Tells place name a.assign.place (path_of i a.assign.target)

-- cell e leads to cell c: it is that cell, or a continuous assignment that drives a port of a cell to which e leads names c
pub data LeadsToCell (part : PlainComponent) (e : ℕ) : ℕ → Type 0 where
  itself : LeadsToCell part e e
  through : {c : ℕ} (m p q : ℕ) (a : PlainAssign) → LeadsToCell part e m → In part.always a
      → a.target ≡ ports.Cell m p → AssignNames a (ports.Cell c q)
      → LeadsToCell part e c

-- the input n of the cell of a static component is its port n + 1, behind its go
abbrev pub input_port : ℕ → ℕ → PortRef
input_port c n = ports.Cell c (suc n)

-- what is wrong with a static invoke: its cell is of another kind; it leaves an input unbound; a source does not rest on state; or a
-- source names a cell that leads to the invoked one
pub data InvokeBreak (i : Instance) (w : PlainInvoke) : Type 0 where
  another_kind : w.latency ≡ None → InvokeBreak i w
  unbound : (child : Instance) (n : ℕ) → cell_at (cells_of i) w.cell ≡ OfInstance child
      → n < length (part_of child).inputs
      → some_target (same_port (input_port w.cell n)) w.inputs ≡ false → InvokeBreak i w
  restless : (a : PlainAssign) (q : PortRef) → In w.inputs a → AssignNames a q → (Rests i q → ⊥) → InvokeBreak i w
  fed_back : (a : PlainAssign) (e p : ℕ) → In w.inputs a → AssignNames a (ports.Cell e p)
      → LeadsToCell (part_of i) e w.cell → InvokeBreak i w

abbrev pub BreaksInvoke : StatementRule
BreaksInvoke i v place name =
    (k : ℕ) × (w : PlainInvoke) × (v.form ≡ Timed k) × (invoke_at (part_of i) k ≡ Some w) × InvokeBreak i w
    × Tells place name v.place (cell_name (part_of i).cells w.cell)
