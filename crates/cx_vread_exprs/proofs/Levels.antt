-- One level of nesting.
use Rattle.std.proofs.Common.{◌≡◌, ℕ, ◌+◌, ◌-◌, ◌<◌, zero, suc, refl, ap, ◌∙◌, arith, add-one}
use Rattle.cx_vtree.specs.Plain.{PlainExpr, Inverted}
use Rattle.cx_vread_exprs.specs.Places.{Place}
use Rattle.cx_vread_exprs.specs.Deep.{inverted, most_brackets}
use Rattle.cx_vread_exprs.specs.Exprs.{most_levels, by_first, named_by, brackets_by, expr_at, inner_at, nested_at}

-- an expression is what its first byte says, with one level fewer within
pub expr_at_is : (levels : ℕ) (p : Place) → expr_at levels p ≡ by_first (nested_at levels) (named_by (inner_at levels)) p
expr_at_is zero p = refl
expr_at_is (suc levels) p = refl

pub nested_at-suc : (levels fewer : ℕ) (p : Place) → levels ≡ fewer + 1 → nested_at levels p ≡ brackets_by (expr_at fewer) p
nested_at-suc levels fewer p e = ap (λ n. nested_at n p) (e ∙ add-one fewer)

pub levels_are : most_levels ≡ 128
unfolding most_levels
levels_are = refl

pub brackets_are : most_brackets ≡ 65
unfolding most_brackets
brackets_are = refl

-- one bracket more within is one more around
pub inverted_within : (n : ℕ) (e : PlainExpr) → inverted n (Inverted e) ≡ Inverted (inverted n e)
inverted_within zero e = refl
inverted_within (suc n) e = ap Inverted (inverted_within n e)

pub inverted_next : (n : ℕ) (e : PlainExpr) → 0 < n → inverted (n - 1) (Inverted e) ≡ inverted n e
inverted_next n e some = let fewer : suc (n - 1) ≡ n = omega arith in inverted_within (n - 1) e ∙ ap (λ k. inverted k e) fewer

pub inverted_none : (n : ℕ) (e : PlainExpr) → n ≡ 0 → inverted n e ≡ e
inverted_none n e none = ap (λ k. inverted k e) none
