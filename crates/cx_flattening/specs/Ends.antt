-- The done of a cell of a static component: no text names it, since nothing calls the cell.
use Rattle.std.specs.Prelude.{◌≡◌, ℕ, ◌<◌, Bool, false, ◌&&◌, Some, length}
use Rattle.cx_text.specs.Members.{In}
use Rattle.cx_meaning.specs.declared.ports.PortRef.{PortRef}
use Rattle.cx_meaning.specs.declared.ports.PortRef.TheVariants as ports
use Rattle.cx_meaning.specs.declared.ports.PlacedPort.{PlacedPort}
use Rattle.cx_meaning.specs.Designs.{PlainAssign, PlainInvoke, PlainDesign}
use Rattle.cx_meaning.specs.Instances.{Instance, At, Nothing, OfRow, OfInstance, part_of, cells_of, cell_at}
use Rattle.cx_meaning.specs.Sights.{part_port}
use Rattle.cx_rules.specs.Ports.{component_of, is_part_done}
use Rattle.cx_rules.specs.Items.{Visited, statements_in, test_in}
use Rattle.cx_rules.specs.Footprints.{AssignNames}
use Rattle.cx_flattening.specs.Whole.{is_static}
use Rattle.cx_flattening.specs.Fair.{IsAssignOf}

abbrev pub is_done_at : At → ℕ → Bool
is_done_at Nothing p = false
is_done_at (OfRow row) p = false
is_done_at (OfInstance child) p = is_static child && is_part_done (part_port (part_of child) p)

abbrev pub is_static_done : Instance → PortRef → Bool
is_static_done i (ports.Cell c p) = is_done_at (cell_at (cells_of i) c) p
is_static_done i (ports.Input n) = false
is_static_done i (ports.Output n) = false
is_static_done i (ports.Done g) = false
is_static_done i (ports.Literal w v) = false

-- nothing of a component looks at one
pub record NamesNoDone (i : Instance) : Type 0 where
  pub assigns : (a : PlainAssign) (q : PortRef) → IsAssignOf (part_of i) a → AssignNames a q
      → is_static_done i q ≡ false
  pub inputs : (v : PlainInvoke) (a : PlainAssign) → In (part_of i).invokes v → In v.inputs a
      → is_static_done i a.source.port ≡ false
  pub tests : (v : Visited) (p : PlacedPort) → In (statements_in (part_of i)) v → test_in v.form ≡ Some p
      → is_static_done i p.port ≡ false

-- NO COMPONENT OF A DESIGN looks at one, as in the design of a text
abbrev pub NoneNamesDone : PlainDesign → Type 0
NoneNamesDone d = (k : ℕ) → k < length d.components → NamesNoDone (component_of d k)
