-- Lists of expressions without holes.
use Rattle.std.proofs.Common.{◌≡◌, ℕ, List, [], ◌∷◌, ◌∙◌, map, refl, ap}
use Rattle.cx_net.specs.Nets.{PlainNetExpr, AllOf, AnyOf, an_expr, exprs_of}
use Rattle.cx_holes.specs.Inlining.{inlined_expr, inlined_exprs}

-- a list without holes, part by part
pub exprs_of_inlined : (first : ℕ) (es : List PlainNetExpr) → exprs_of (map (inlined_expr first) es) ≡ inlined_exprs first (exprs_of es)
exprs_of_inlined first [] = refl
exprs_of_inlined first (e ∷ es) = ap (an_expr (inlined_expr first e)) (exprs_of_inlined first es)

-- a conjunction, and a disjunction
pub all_inlined : (first : ℕ) (es made : List PlainNetExpr) → made ≡ map (inlined_expr first) es → AllOf (exprs_of made) ≡ inlined_expr first (AllOf (exprs_of es))
all_inlined first es made h = ap (λ parts. AllOf (exprs_of parts)) h ∙ ap AllOf (exprs_of_inlined first es)

pub any_inlined : (first : ℕ) (es made : List PlainNetExpr) → made ≡ map (inlined_expr first) es → AnyOf (exprs_of made) ≡ inlined_expr first (AnyOf (exprs_of es))
any_inlined first es made h = ap (λ parts. AnyOf (exprs_of parts)) h ∙ ap AnyOf (exprs_of_inlined first es)
