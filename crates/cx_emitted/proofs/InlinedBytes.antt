-- A net without holes costs what the one with holes costs.
use Rattle.std.proofs.Common.{◌≡◌, ℕ, List, [], ◌∷◌, map, refl, arith}
use Rattle.cx_net.specs.Nets.{PlainNetExpr, OfPort, OfRegister, OfWire, OfHole, OfGo, Fixed, Inverse, AllOf, AnyOf, Sum, Compares, PlainNetExprs, no_exprs, an_expr, PlainNetDriver}
use Rattle.cx_holes.specs.Inlining.{inlined_expr, inlined_exprs, inlined_driver}
use Rattle.cx_emitted.proofs.NetBytes.{expr_cost, exprs_cost}
use Rattle.cx_emitted.proofs.TreeBytes.{bare_costs}

module _ (first : ℕ) where
  mutual
    expr_same : (e : PlainNetExpr) → expr_cost (inlined_expr first e) ≡ expr_cost e
    expr_same (OfPort p) = refl
    expr_same (OfRegister n) = refl
    expr_same (OfWire n) = refl
    expr_same (OfHole n) = refl
    expr_same OfGo = refl
    expr_same (Fixed b) = refl
    expr_same (Inverse e) = let h : expr_cost (inlined_expr first e) ≡ expr_cost e = expr_same e in omega (arith, h)
    expr_same (AllOf no_exprs) = refl
    expr_same (AllOf (an_expr e es)) =
        let h : expr_cost (inlined_expr first e) ≡ expr_cost e = expr_same e in
        let k : exprs_cost (inlined_exprs first es) ≡ exprs_cost es = exprs_same es in
        omega (arith, h, k)
    expr_same (AnyOf no_exprs) = refl
    expr_same (AnyOf (an_expr e es)) =
        let h : expr_cost (inlined_expr first e) ≡ expr_cost e = expr_same e in
        let k : exprs_cost (inlined_exprs first es) ≡ exprs_cost es = exprs_same es in
        omega (arith, h, k)
    expr_same (Sum a b) =
        let h : expr_cost (inlined_expr first a) ≡ expr_cost a = expr_same a in
        let k : expr_cost (inlined_expr first b) ≡ expr_cost b = expr_same b in
        omega (arith, h, k)
    expr_same (Compares c a b) =
        let h : expr_cost (inlined_expr first a) ≡ expr_cost a = expr_same a in
        let k : expr_cost (inlined_expr first b) ≡ expr_cost b = expr_same b in
        omega (arith, h, k)

    exprs_same : (es : PlainNetExprs) → exprs_cost (inlined_exprs first es) ≡ exprs_cost es
    exprs_same no_exprs = refl
    exprs_same (an_expr e es) =
        let h : expr_cost (inlined_expr first e) ≡ expr_cost e = expr_same e in
        let k : exprs_cost (inlined_exprs first es) ≡ exprs_cost es = exprs_same es in
        omega (arith, h, k)

  pub drivers_same : (ds : List PlainNetDriver) → bare_costs (map (inlined_driver first) ds) ≡ bare_costs ds
  drivers_same [] = refl
  drivers_same (d ∷ ds) =
      let h : expr_cost (inlined_expr first d.guard) ≡ expr_cost d.guard = expr_same d.guard in
      let k : expr_cost (inlined_expr first d.source) ≡ expr_cost d.source = expr_same d.source in
      let rest : bare_costs (map (inlined_driver first) ds) ≡ bare_costs ds = drivers_same ds in
      omega (arith, h, k, rest)
