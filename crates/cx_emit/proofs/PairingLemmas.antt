-- Many parts under one operator, pair by pair.
use Rattle.std.proofs.Common.{◌≡◌, ℕ, zero, suc, ◌+◌, Bool, true, false, if◌then◌else◌, List, [], ◌∷◌, ◌++◌, Option, Some, None, length, map, nat_lt, refl, ap, sym, ◌∙◌, arith}
use Rattle.std.proofs.lemmas.List.{map_push, length-map}
use Rattle.cx_vtree.specs.declared.operators.Operator.{Operator}
use Rattle.cx_vtree.specs.declared.exprs.Expr.{Expr}
use Rattle.cx_vtree.specs.Plain.{PlainExpr, Applied}
use Rattle.cx_vtree.specs.PlainParts.{plain_expr}
use Rattle.cx_emit.specs.Exprs.{paired, paired_often, to_the_right, joined}

-- what waits for a neighbour stands before the rest
abbrev pub with_waiting : Option Expr → List PlainExpr → List PlainExpr
with_waiting None es = es
with_waiting (Some e) es = plain_expr e ∷ es

-- the last two under the operator
to_the_right-last : (op : Operator) (a : PlainExpr) (es : List PlainExpr) (b c : PlainExpr)
    → to_the_right op a (es ++ Applied op b c ∷ []) ≡ to_the_right op a ((es ++ b ∷ []) ++ c ∷ [])
to_the_right-last op a [] b c = refl
to_the_right-last op a (e ∷ es) b c = ap (Applied op a) (to_the_right-last op e es b c)

joined-last : (op : Operator) (none : PlainExpr) (es : List PlainExpr) (b c : PlainExpr)
    → joined op none (es ++ Applied op b c ∷ []) ≡ joined op none ((es ++ b ∷ []) ++ c ∷ [])
joined-last op none [] b c = refl
joined-last op none (e ∷ es) b c = to_the_right-last op e es b c

-- the last part joins the whole of those behind it
pub joined_popped : (op : Operator) (none : PlainExpr) (parts left : List Expr) (part whole made : Expr) (all : PlainExpr) → parts ≡ left ++ part ∷ []
    → plain_expr made ≡ Applied op (plain_expr part) (plain_expr whole) → joined op none (map plain_expr parts ++ plain_expr whole ∷ []) ≡ all
    → joined op none (map plain_expr left ++ plain_expr made ∷ []) ≡ all
joined_popped op none parts left part whole made all were is h =
    ap (λ e. joined op none (map plain_expr left ++ e ∷ [])) is
    ∙ joined-last op none (map plain_expr left) (plain_expr part) (plain_expr whole)
    ∙ ap (λ es. joined op none (es ++ plain_expr whole ∷ [])) (sym (ap (map plain_expr) were ∙ map_push plain_expr left part))
    ∙ h

-- where there is one part at most, no round changes anything
few_stay : (n : ℕ) (op : Operator) (es : List PlainExpr) → nat_lt 1 (length es) ≡ false → paired_often n op es ≡ es
few_stay zero op es few = refl
few_stay (suc n) op es few = ap (λ b. if b then paired_often n op (paired op es) else es) few

first_round : (n : ℕ) (op : Operator) (es : List PlainExpr) (b : Bool) → nat_lt 1 (length es) ≡ b → paired_often n op (if b then paired op es else es) ≡ (if b then paired_often n op (paired op es) else es)
first_round n op es true is = refl
first_round n op es false is = few_stay n op es is

-- one round, and then the others
pub round_made : (n m : ℕ) (op : Operator) (parts made : List Expr) (all : List PlainExpr) → n ≡ m + 1
    → map plain_expr made ≡ (if nat_lt 1 (length parts) then paired op (map plain_expr parts) else map plain_expr parts)
    → paired_often n op (map plain_expr parts) ≡ all → paired_often m op (map plain_expr made) ≡ all
round_made n m op parts made all is round h =
    let es : List PlainExpr = map plain_expr parts in
    let more : n ≡ suc m = omega (arith, is) in
    ap (paired_often m op) (round ∙ ap (λ k. if nat_lt 1 k then paired op es else es) (sym (length-map parts plain_expr)))
    ∙ first_round m op es (nat_lt 1 (length es)) refl
    ∙ ap (λ k. paired_often k op es) (sym more)
    ∙ h
