-- What the expressions and drivers of a net cost in bytes: an expression at most as many as it costs, with five to spare. A driver costs its
-- guard once more, since a bundle looks at it twice, and a little for the bundles above.
use Rattle.std.proofs.Common.{◌≡◌, ℕ, ◌+◌, ◌≤◌, List, [], ◌∷◌, ◌++◌, arith}
use Rattle.cx_net.specs.Nets.{PlainNetExpr, OfPort, OfRegister, OfWire, OfHole, OfGo, Fixed, Inverse, AllOf, AnyOf, Sum, Compares, PlainNetExprs, no_exprs, an_expr, PlainNetDriver}

-- names of wires have 11 bytes at most, those of ports and numbers 37
abbrev mutual
  pub expr_cost : PlainNetExpr → ℕ
  expr_cost (OfPort p) = 42
  expr_cost (OfRegister n) = 16
  expr_cost (OfWire n) = 16
  expr_cost (OfHole n) = 16
  expr_cost OfGo = 16
  expr_cost (Fixed b) = 42
  expr_cost (Inverse e) = 3 + expr_cost e
  expr_cost (AllOf no_exprs) = 42
  expr_cost (AllOf (an_expr e es)) = expr_cost e + exprs_cost es
  expr_cost (AnyOf no_exprs) = 42
  expr_cost (AnyOf (an_expr e es)) = expr_cost e + exprs_cost es
  expr_cost (Sum a b) = expr_cost a + expr_cost b
  expr_cost (Compares c a b) = 1 + (expr_cost a + expr_cost b)

  pub exprs_cost : PlainNetExprs → ℕ
  exprs_cost no_exprs = 0
  exprs_cost (an_expr e es) = expr_cost e + exprs_cost es

pub all_few : (es : PlainNetExprs) → expr_cost (AllOf es) ≤ 42 + exprs_cost es
all_few no_exprs = omega arith
all_few (an_expr e es) = omega arith

pub any_few : (es : PlainNetExprs) → expr_cost (AnyOf es) ≤ 42 + exprs_cost es
any_few no_exprs = omega arith
any_few (an_expr e es) = omega arith

abbrev pub driver_cost : PlainNetDriver → ℕ
driver_cost d = expr_cost d.guard + (expr_cost d.guard + (expr_cost d.source + 81))

abbrev pub drivers_cost : List PlainNetDriver → ℕ
drivers_cost [] = 0
drivers_cost (d ∷ ds) = driver_cost d + drivers_cost ds

pub drivers_cost-append : (xs ys : List PlainNetDriver) → drivers_cost (xs ++ ys) ≡ drivers_cost xs + drivers_cost ys
drivers_cost-append [] ys = omega arith
drivers_cost-append (x ∷ xs) ys = let h : drivers_cost (xs ++ ys) ≡ drivers_cost xs + drivers_cost ys = drivers_cost-append xs ys in omega arith

-- lists that are put together
pub one_more : (d : PlainNetDriver) (ds : List PlainNetDriver) (n m : ℕ) → driver_cost d ≤ n → drivers_cost ds ≤ m → drivers_cost (d ∷ ds) ≤ n + m
one_more d ds n m h k = omega arith

pub both_cost : (xs ys : List PlainNetDriver) (n m : ℕ) → drivers_cost xs ≤ n → drivers_cost ys ≤ m → drivers_cost (xs ++ ys) ≤ n + m
both_cost xs ys n m h k = omega (arith, drivers_cost-append xs ys)

pub no_cost : drivers_cost [] ≤ 0
no_cost = omega arith
