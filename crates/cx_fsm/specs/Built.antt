-- Which lowered designs have a net, and what the net of a design owes to it.
use Rattle.std.specs.Prelude.{◌≡◌, ℕ, ◌<◌, length, Some, IsSome, slice_get}
use Rattle.cx_meaning.specs.Designs.{PlainDesign}
use Rattle.cx_rules.specs.Accepted.{IsAccepted}
use Rattle.cx_rules.specs.Externals.{rows_of, external_rows}
use Rattle.cx_rules.specs.Flat.{IsFlat}
use Rattle.cx_rules.specs.Wellformed.{IsDesign}
use Rattle.cx_net.specs.Nets.{PlainNetDriver, PlainNet}
use Rattle.cx_net.specs.NetTree.{net_component_at, net_tree}
use Rattle.cx_net.specs.NetFits.{target_width, IsFit}
use Rattle.cx_static.specs.Islands.{PlainLowereds}
use Rattle.cx_static.specs.Lowering.{lowered_of}
use Rattle.cx_wiring.specs.InNet.{RealisesInNet}

-- LOWERED: an accepted design without static components is lowered to this
pub record IsLowered (lowered : PlainLowereds) : Type 0 where
  pub design : PlainDesign
  pub rules : IsDesign design
  pub flat : IsFlat design
  pub accepted : IsAccepted design
  pub is : lowered ≡ lowered_of design

-- A NET OF A DESIGN: it does what the design means, it fits, the target of each driver is there, and it has the design's external
-- memories, in their order
pub record IsNetFor (d : PlainDesign) (net : PlainNet) : Type 0 where
  pub realises : RealisesInNet d (net_tree net)
  pub fits : IsFit net
  pub targets : (k : ℕ) → k < length net.components → (m : ℕ) (driver : PlainNetDriver)
      → slice_get (net_component_at net k).drivers m ≡ Some driver
      → IsSome (target_width net (net_component_at net k) driver.target)
  pub rows : rows_of (net_component_at net net.main).cells ≡ external_rows d
