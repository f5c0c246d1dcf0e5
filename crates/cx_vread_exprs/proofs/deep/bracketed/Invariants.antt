use Rattle.std.proofs.Common.{◌≡◌}
use Rattle.cx_vtree.specs.PlainParts.{plain_expr}
use Rattle.cx_vread_exprs.specs.Deep.{inverted, most_brackets}
use Rattle.cx_vread_exprs.proofs.deep.bracketed.Given as goal

abbrev pub invariant-loop-left : goal.invariant-loop-left
invariant-loop-left l = inverted l.left (plain_expr l.e) ≡ inverted most_brackets (plain_expr l.fn.inner)

abbrev pub decreases-loop-left : goal.decreases-loop-left
decreases-loop-left l = l.left
