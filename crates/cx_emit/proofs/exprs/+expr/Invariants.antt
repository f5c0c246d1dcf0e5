use Rattle.std.proofs.Common.{◌≡◌, ◌++◌, drop, map}
use Rattle.cx_vtree.specs.PlainParts.{plain_expr}
use Rattle.cx_net.specs.Nets.{exprs_of}
use Rattle.cx_net.specs.PlainNets.{plain_net_expr}
use Rattle.cx_emit.specs.Exprs.{exprs_to}
use Rattle.cx_emit.proofs.exprs.+expr.Given as goal

-- those so far, and those of the parts that are left, are all
abbrev pub invariant-exprs-loop-part : goal.invariant-exprs-loop-part
invariant-exprs-loop-part l =
    map plain_expr l.made.items ++ exprs_to (exprs_of (map plain_net_expr (drop l.part-index l.parts))) ≡ exprs_to (exprs_of (map plain_net_expr l.parts))
