-- A net that fits names wires and holes that are there, where the targets of its drivers are there.
use Rattle.std.proofs.Common.{◌≡◌, ℕ, suc, ◌<◌, Bool, true, false, if◌then◌else◌, List, [], ◌∷◌, length, get_or, Some, None, IsSome, slice_get, nat_lt, true≢false, refl, sym, arith}
use Rattle.std.proofs.lemmas.Bool.{ltb-true}
use Rattle.std.proofs.lemmas.Option.{slice_get_within}
use Rattle.cx_net.specs.Nets.{PlainNetExpr, OfPort, OfRegister, OfWire, OfHole, OfGo, Fixed, Inverse, AllOf, AnyOf, Sum, Compares, PlainNetExprs, no_exprs, an_expr, PlainNetTarget, ToPort, ToRegister, ToWire, ToHole, ToDone, PlainNetDriver, PlainNetComponent, PlainNet}
use Rattle.cx_net.specs.NetTree.{no_net_component, net_component_at}
use Rattle.cx_net.specs.NetFits.{HasWidth, AreBits, target_width, IsFitDriver, IsFit, HasTargets}
use Rattle.cx_holes.specs.Names.{ExprNames, ExprsName, TargetNames, DriverNames, DriversName, ComponentNames, ComponentsName, NetNames}
use Rattle.cx_text.proofs.OptionLaws.{some_value}

hole_within : (n holes : ℕ) → IsSome {T = ℕ} (if nat_lt n holes then Some 1 else None) → n < holes
hole_within n holes h = choice (nat_lt n holes) refl h
  where
    choice : (b : Bool) → nat_lt n holes ≡ b → IsSome {T = ℕ} (if b then Some 1 else None) → n < holes
    choice true is h = ltb-true n holes is
    choice false is h = absurd (true≢false (sym h))

module _ (net : PlainNet) (part : PlainNetComponent) where
  mutual
    expr_names : (e : PlainNetExpr) (w : ℕ) → HasWidth net part e w → ExprNames (length part.wires) part.holes e
    expr_names (OfPort p) w h = tt
    expr_names (OfRegister n) w h = tt
    expr_names (OfWire n) w h = slice_get_within part.wires n w h
    expr_names (OfHole n) w h = h.0
    expr_names OfGo w h = tt
    expr_names (Fixed b) w h = tt
    expr_names (Inverse e) w h = expr_names e w h
    expr_names (AllOf es) w h = exprs_name es h.1
    expr_names (AnyOf es) w h = exprs_name es h.1
    expr_names (Sum a b) w h = (expr_names a w h.0, expr_names b w h.1)
    expr_names (Compares c a b) w h = (expr_names a h.1.0 h.1.1, expr_names b h.1.0 h.1.2)

    exprs_name : (es : PlainNetExprs) → AreBits net part es → ExprsName (length part.wires) part.holes es
    exprs_name no_exprs h = tt
    exprs_name (an_expr e es) h = (expr_names e 1 h.0, exprs_name es h.1)

  target_names : (t : PlainNetTarget) → IsSome (target_width net part t) → TargetNames (length part.wires) part.holes t
  target_names (ToPort p) h = tt
  target_names (ToRegister n) h = tt
  target_names (ToWire n) h = let w = some_value (slice_get part.wires n) h in slice_get_within part.wires n w.0 w.1
  target_names (ToHole n) h = hole_within n part.holes h
  target_names ToDone h = tt

  driver_names : (d : PlainNetDriver) → IsFitDriver net part d → IsSome (target_width net part d.target) → DriverNames (length part.wires) part.holes d
  driver_names d h there =
      let w = some_value (target_width net part d.target) there in
      record { target = target_names d.target there; guard = expr_names d.guard 1 h.guard; source = expr_names d.source w.0 (h.source w.0 w.1) }

drivers_name : (wires holes : ℕ) (ds : List PlainNetDriver) → ((n : ℕ) (d : PlainNetDriver) → slice_get ds n ≡ Some d → DriverNames wires holes d) → DriversName wires holes ds
drivers_name wires holes [] h = tt
drivers_name wires holes (d ∷ ds) h = (h 0 d refl, drivers_name wires holes ds (λ n e is. h (suc n) e is))

components_name : (cs : List PlainNetComponent) → ((k : ℕ) → k < length cs → ComponentNames (get_or cs k no_net_component)) → ComponentsName cs
components_name [] h = tt
components_name (c ∷ cs) h = (h 0 (omega arith), components_name cs (λ k less. h (suc k) (let l : k < length cs = less in omega arith)))

pub fit_names : (net : PlainNet) → IsFit net → HasTargets net → NetNames net
fit_names net fits there =
    components_name net.components
    (λ k less.
    let part = net_component_at net k in
    drivers_name (length part.wires) part.holes part.drivers (λ n d is. driver_names net part d ((fits.components k less).drivers n d is) (there k less n d is)))
