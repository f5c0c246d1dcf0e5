-- Expressions that may stand in a module, and their widths.
use Rattle.std.specs.Prelude.{◌≡◌, ℕ, List, Some, false}
use Rattle.cx_vtree.specs.Plain.{PlainExpr}
use Rattle.cx_vtree.specs.InstanceTree.{Placed, ports_at, decls_at}
use Rattle.cx_vtree.specs.Sound.{Scope, meant_in, misnames, fitting_width, too_deep}

-- what each name stands for in an instance
abbrev pub scope_at : List Placed → ℕ → Scope
scope_at tree i = meant_in (ports_at tree i) (decls_at tree i)

-- the expression names what is there, its literals fit, its widths fit and give the width `w`, and it is at most 64 levels deep
pub record IsExpression (scope : Scope) (e : PlainExpr) (w : ℕ) : Type 0 where
  pub named : misnames scope e ≡ false
  pub width : fitting_width scope e ≡ Some w
  pub shallow : too_deep e ≡ false
