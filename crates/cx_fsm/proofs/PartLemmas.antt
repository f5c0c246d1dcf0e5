-- The parts of a guard, one after the other.
use Rattle.std.proofs.Common.{◌≡◌, ℕ, ◌+◌, List, [], ◌∷◌, ◌++◌, refl, ap, ap₂, ◌∙◌, append_assoc, arith}
use Rattle.cx_meaning.specs.Designs.{PlainGuard, PlainGuards, a_guard}
use Rattle.cx_net.specs.Nets.{PlainNetExpr, PlainNetExprs, no_exprs, an_expr, exprs_of, PlainNetDriver}
use Rattle.cx_wiring.specs.Guards.{part_wires, parts_wires, part_expr, parts_exprs, part_drivers, parts_drivers}

-- expressions before others
abbrev pub joined : List PlainNetExpr → PlainNetExprs → PlainNetExprs
joined [] rest = rest
joined (e ∷ es) rest = an_expr e (joined es rest)

-- nothing behind them
pub joined_none : (es : List PlainNetExpr) → joined es no_exprs ≡ exprs_of es
joined_none [] = refl
joined_none (e ∷ es) = ap (an_expr e) (joined_none es)

-- one more before the others
joined_more : (es : List PlainNetExpr) (e : PlainNetExpr) (rest : PlainNetExprs) → joined (es ++ e ∷ []) rest ≡ joined es (an_expr e rest)
joined_more [] e rest = refl
joined_more (f ∷ es) e rest = ap (an_expr f) (joined_more es e rest)

module _ (wire behind : ℕ) (g : PlainGuard) (gs : PlainGuards) (is : behind ≡ wire + part_wires g) where
  -- one more part
  pub next_expr : (es : List PlainNetExpr) (e : PlainNetExpr) (whole : PlainNetExprs) → e ≡ part_expr wire g → joined es (parts_exprs wire (a_guard g gs)) ≡ whole
      → joined (es ++ e ∷ []) (parts_exprs behind gs) ≡ whole
  next_expr es e whole same h =
      joined_more es e (parts_exprs behind gs) ∙ ap₂ (λ x k. joined es (an_expr x (parts_exprs k gs))) same is ∙ h

  pub next_wires : (whole : ℕ) → wire + parts_wires (a_guard g gs) ≡ whole → behind + parts_wires gs ≡ whole
  next_wires whole h = omega arith

  pub next_drivers : (offset : PlainNetExpr) (d d₁ whole : List PlainNetDriver) → d₁ ≡ d ++ part_drivers offset wire g → d ++ parts_drivers offset wire (a_guard g gs) ≡ whole
      → d₁ ++ parts_drivers offset behind gs ≡ whole
  next_drivers offset d d₁ whole e h =
      ap₂ (λ l k. l ++ parts_drivers offset k gs) e is ∙ append_assoc d (part_drivers offset wire g) (parts_drivers offset (wire + part_wires g) gs) ∙ h
