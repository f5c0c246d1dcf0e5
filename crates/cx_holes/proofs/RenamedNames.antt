-- A net without holes names wires that are there.
use Rattle.std.proofs.Common.{◌≡◌, ℕ, ◌+◌, ◌<◌, List, [], ◌∷◌, ◌++◌, length, map, replicate, sym, ap, ◌∙◌, subst, arith, length-append}
use Rattle.std.proofs.lemmas.List.{length-replicate}
use Rattle.cx_net.specs.Nets.{PlainNetExpr, OfPort, OfRegister, OfWire, OfHole, OfGo, Fixed, Inverse, AllOf, AnyOf, Sum, Compares, PlainNetExprs, no_exprs, an_expr, PlainNetTarget, ToPort, ToRegister, ToWire, ToHole, ToDone, PlainNetDriver, PlainNetComponent, PlainNet}
use Rattle.cx_holes.specs.Inlining.{inlined_expr, inlined_exprs, inlined_target, inlined_driver, inlined_component, inlined}
use Rattle.cx_holes.specs.Names.{ExprNames, ExprsName, TargetNames, DriversName, ComponentNames, ComponentsName, NetNames}

module _ (wires holes : ℕ) where
  mutual
    expr_names : (e : PlainNetExpr) → ExprNames wires holes e → ExprNames (wires + holes) 0 (inlined_expr wires e)
    expr_names (OfPort p) h = tt
    expr_names (OfRegister n) h = tt
    expr_names (OfWire n) h = let k : n < wires = h in omega arith
    expr_names (OfHole n) h = let k : n < holes = h in omega arith
    expr_names OfGo h = tt
    expr_names (Fixed b) h = tt
    expr_names (Inverse e) h = expr_names e h
    expr_names (AllOf es) h = exprs_name es h
    expr_names (AnyOf es) h = exprs_name es h
    expr_names (Sum a b) h = (expr_names a h.0, expr_names b h.1)
    expr_names (Compares c a b) h = (expr_names a h.0, expr_names b h.1)

    exprs_name : (es : PlainNetExprs) → ExprsName wires holes es → ExprsName (wires + holes) 0 (inlined_exprs wires es)
    exprs_name no_exprs h = tt
    exprs_name (an_expr e es) h = (expr_names e h.0, exprs_name es h.1)

  target_names : (t : PlainNetTarget) → TargetNames wires holes t → TargetNames (wires + holes) 0 (inlined_target wires t)
  target_names (ToPort p) h = tt
  target_names (ToRegister n) h = tt
  target_names (ToWire n) h = let k : n < wires = h in omega arith
  target_names (ToHole n) h = let k : n < holes = h in omega arith
  target_names ToDone h = tt

  drivers_name : (ds : List PlainNetDriver) → DriversName wires holes ds → DriversName (wires + holes) 0 (map (inlined_driver wires) ds)
  drivers_name [] h = tt
  drivers_name (d ∷ ds) h =
      (record { target = target_names d.target h.0.target; guard = expr_names d.guard h.0.guard; source = expr_names d.source h.0.source }, drivers_name ds h.1)

component_names : (c : PlainNetComponent) → ComponentNames c → ComponentNames (inlined_component c)
component_names c h =
    let all : length (c.wires ++ replicate c.holes 1) ≡ length c.wires + c.holes = length-append c.wires (replicate c.holes 1) ∙ ap (λ n. length c.wires + n) (length-replicate c.holes 1) in
    subst (λ n. DriversName n 0 (map (inlined_driver (length c.wires)) c.drivers)) (sym all) (drivers_name (length c.wires) c.holes c.drivers h)

components_name : (cs : List PlainNetComponent) → ComponentsName cs → ComponentsName (map inlined_component cs)
components_name [] h = tt
components_name (c ∷ cs) h = (component_names c h.0, components_name cs h.1)

-- the net without holes has names of wires alone
pub inlined_names : (n : PlainNet) → NetNames n → NetNames (inlined n)
inlined_names n h = components_name n.components h
