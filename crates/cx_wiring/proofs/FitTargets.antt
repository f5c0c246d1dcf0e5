-- Of each driver of the net of an accepted design the target is there.
use Rattle.std.proofs.Common.{◌≡◌, ℕ, ◌<◌, length, Option, Some, IsSome, slice_get, refl, sym, subst}
use Rattle.cx_text.proofs.MemberLaws.{in_at}
use Rattle.cx_meaning.specs.Designs.{PlainDesign, component_at}
use Rattle.cx_rules.specs.Flat.{IsFlat}
use Rattle.cx_rules.specs.Accepted.{IsAccepted}
use Rattle.cx_rules.specs.Wellformed.{IsDesign}
use Rattle.cx_net.specs.Nets.{PlainNetDriver, PlainNetComponent}
use Rattle.cx_net.specs.NetTree.{net_component_at}
use Rattle.cx_net.specs.NetFits as fits
use Rattle.cx_static.specs.Lowering.{lowered_of}
use Rattle.cx_wiring.specs.Reached.{order}
use Rattle.cx_wiring.specs.Wiring.{net_of}
use Rattle.cx_wiring.specs.PartNets.{wired_in}
use Rattle.cx_wiring.specs.Fitting.{Drives}
use Rattle.cx_wiring.proofs.NumberLemmas.{in_number}
use Rattle.cx_wiring.proofs.WayLemmas.{net_long}
use Rattle.cx_wiring.proofs.FitLemmas.{are_at}
use Rattle.cx_wiring.proofs.OrderHeights.{stands_at}
use Rattle.cx_wiring.proofs.FitNets.{component_drives}
use Rattle.cx_text.proofs.ListLaws.{there_at}

is_some : (o : Option ℕ) (w : ℕ) → o ≡ Some w → IsSome o
is_some o w e = subst IsSome (sym e) refl

module _ (d : PlainDesign) (rules : IsDesign d) (flat : IsFlat d) (accepted : IsAccepted d) where
  component_targets : (n k : ℕ) → slice_get (order (lowered_of d)) n ≡ Some k → (m : ℕ) (driver : PlainNetDriver) → slice_get (net_component_at (net_of (lowered_of d)) n).drivers m ≡ Some driver
      → IsSome (fits.target_width (net_of (lowered_of d)) (net_component_at (net_of (lowered_of d)) n) driver.target)
  component_targets n k is =
      let here = in_number k (order (lowered_of d)) (in_at (order (lowered_of d)) n k is) in
      let same = stands_at d rules n k is in
      subst (λ (c : PlainNetComponent). (m : ℕ) (driver : PlainNetDriver) → slice_get c.drivers m ≡ Some driver → IsSome (fits.target_width (net_of (lowered_of d)) c driver.target)) (sym same)
      (λ m driver e.
      let a = are_at (Drives (net_of (lowered_of d)) (wired_in d (component_at d k))) (wired_in d (component_at d k)).drivers (component_drives d rules flat accepted k here) m driver e in
      is_some (fits.target_width (net_of (lowered_of d)) (wired_in d (component_at d k)) driver.target) a.width a.target)

  pub targets_there : (n : ℕ) → n < length (net_of (lowered_of d)).components → (m : ℕ) (driver : PlainNetDriver) → slice_get (net_component_at (net_of (lowered_of d)) n).drivers m ≡ Some driver
      → IsSome (fits.target_width (net_of (lowered_of d)) (net_component_at (net_of (lowered_of d)) n) driver.target)
  targets_there n less =
      let r = there_at (order (lowered_of d)) n (subst (λ m. n < m) (net_long d rules) less) in
      component_targets n r.0 r.1
