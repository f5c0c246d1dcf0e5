-- Designs in which a place tells a port.
use Rattle.std.specs.Prelude.{◌≡◌, ℕ, true, Some, slice_get}
use Rattle.cx_meaning.specs.declared.ports.PlacedPort.{PlacedPort}
use Rattle.cx_meaning.specs.Designs.{PlainAssign, PlainDesign, component_at}
use Rattle.cx_meaning.specs.Active.{Owned, source_order}
use Rattle.cx_text.specs.Members.{In}
use Rattle.cx_rules.specs.Items.{sources_of}
use Rattle.cx_rules.specs.Spots.{binds_in}
use Rattle.cx_rules.specs.Ports.{component_of, is_target_only}

-- of the source and the operands of an assignment, or of an input that a static invoke binds, two that are no sources
-- and stand at one place are of one port, as in the design of a text
pub record IsPlaced (d : PlainDesign) : Type 0 where
  pub assigns : (k n : ℕ) (o : Owned) (p q : PlacedPort) → slice_get (source_order (component_at d k)) n ≡ Some o
      → In (sources_of o.assign) p → In (sources_of o.assign) q
      → is_target_only (component_of d k) p.port ≡ true → is_target_only (component_of d k) q.port ≡ true
      → p.place ≡ q.place → p.port ≡ q.port
  pub binds : (k n : ℕ) (a : PlainAssign) (p q : PlacedPort) → slice_get (binds_in (component_at d k)) n ≡ Some a
      → In (sources_of a) p → In (sources_of a) q
      → is_target_only (component_of d k) p.port ≡ true → is_target_only (component_of d k) q.port ≡ true
      → p.place ≡ q.place → p.port ≡ q.port
