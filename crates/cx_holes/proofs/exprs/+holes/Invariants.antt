use Rattle.std.proofs.Common.{◌≡◌, ◌++◌, drop, map}
use Rattle.cx_net.specs.PlainNets.{plain_net_expr}
use Rattle.cx_holes.specs.Inlining.{inlined_expr}
use Rattle.cx_holes.proofs.exprs.+holes.Given as goal

-- the expressions so far, and those that are left, are all
abbrev pub invariant-all_without_holes-loop-expr : goal.invariant-all_without_holes-loop-expr
invariant-all_without_holes-loop-expr l =
    map plain_net_expr l.list.items ++ map (inlined_expr l.first) (map plain_net_expr (drop l.expr-index l.exprs))
    ≡ map (inlined_expr l.first) (map plain_net_expr l.exprs)
