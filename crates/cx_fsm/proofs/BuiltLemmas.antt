-- The net of what an accepted design is lowered to, by the laws of its definition.
use Rattle.std.proofs.Common.{◌≡◌, ◌∙◌, ℕ, List, Result, Ok, Err, IfOk, ap, ap₂, sym, subst}
use Rattle.std.proofs.lemmas.Grind.{merely}
use Rattle.cx_meaning.specs.Designs.{PlainDesign}
use Rattle.cx_rules.specs.Accepted.{IsAccepted}
use Rattle.cx_rules.specs.Flat.{IsFlat}
use Rattle.cx_rules.specs.Wellformed.{IsDesign}
use Rattle.cx_net.specs.Nets.{PlainNetComponent, PlainNet}
use Rattle.cx_net.specs.NetFits.{IsNet}
use Rattle.cx_net.specs.NetLimits.{IsWritable}
use Rattle.cx_net.specs.NetTree.{net_tree}
use Rattle.cx_net.proofs.NetsLemmas.{net_in}
use Rattle.cx_static.specs.Islands.{PlainLowereds}
use Rattle.cx_static.specs.Lowering.{lowered_of}
use Rattle.cx_wiring.specs.InNet.{RealisesInNet}
use Rattle.cx_wiring.specs.Wiring.{net_of}
use Rattle.cx_wiring.proofs.FitNets.{net_fits}
use Rattle.cx_wiring.proofs.FitTargets.{targets_there}
use Rattle.cx_wiring.proofs.MainLaws.{rows_of-net_of}
use Rattle.cx_wiring.proofs.WritableNets.{CanBeWritten, net_writable}
use Rattle.cx_fsm.specs.Built.{IsLowered, IsNetFor}

-- the net of a lowered design is a net
pub made_net : (lowered : PlainLowereds) → IsLowered lowered → (components : List PlainNetComponent) (main : ℕ) → components ≡ (net_of lowered).components → main ≡ (net_of lowered).main → ∥ IsNet (net_in components main) ∥₁
made_net lowered own components main same there =
    let d = own.design in
    let net : IsNet (net_of (lowered_of d)) = record { fits = net_fits d own.rules own.flat own.accepted; targets = targets_there d own.rules own.flat own.accepted } in
    merely (subst IsNet (sym (ap₂ net_in same there ∙ ap net_of own.is)) net)

net_owes : (d : PlainDesign) → IsDesign d → IsFlat d → IsAccepted d → RealisesInNet d (net_tree (net_of (lowered_of d))) → IsNetFor d (net_of (lowered_of d))
net_owes d rules flat accepted realises = record {
  realises = realises;
  fits = net_fits d rules flat accepted;
  targets = targets_there d rules flat accepted;
  rows = rows_of-net_of d rules.main_there;
}

module _ {X F : Type 0} (net : X → PlainNet) (d : PlainDesign) (lowered : PlainLowereds) (rules : IsDesign d) (flat : IsFlat d) (accepted : IsAccepted d) (same : lowered ≡ lowered_of d) where
  -- a net that is the one of the definition owes what that one does
  pub built_owes : (r : Result X F) → RealisesInNet d (net_tree (net_of (lowered_of d))) → IfOk r (λ x. net x ≡ net_of lowered) → IfOk r (λ x. IsNetFor d (net x))
  built_owes (Ok x) realises is = subst (IsNetFor d) (sym (is ∙ ap net_of same)) (net_owes d rules flat accepted realises)
  built_owes (Err fault) realises is = tt

  -- and can be written where that one can
  pub built_writable : (r : Result X F) → CanBeWritten d → IfOk r (λ x. net x ≡ net_of lowered) → IfOk r (λ x. IsWritable (net x))
  built_writable (Ok x) can is = subst IsWritable (sym (is ∙ ap net_of same)) (net_writable d rules flat accepted can)
  built_writable (Err fault) can is = tt
