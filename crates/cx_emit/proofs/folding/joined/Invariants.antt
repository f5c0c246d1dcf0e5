use Rattle.std.proofs.Common.{◌≡◌, [], ◌∷◌, ◌++◌, length, map}
use Rattle.cx_vtree.specs.PlainParts.{plain_expr}
use Rattle.cx_emit.specs.Exprs.{joined}
use Rattle.cx_emit.proofs.folding.joined.Given as goal

-- the parts that are left, and the whole of those behind them, are all
abbrev pub invariant-loop-part : goal.invariant-loop-part
invariant-loop-part l =
    joined l.operator (plain_expr l.fn.none) (map plain_expr l.parts.items ++ plain_expr l.whole ∷ []) ≡ joined l.operator (plain_expr l.fn.none) (map plain_expr l.fn.parts.items)

abbrev pub decreases-loop-part : goal.decreases-loop-part
decreases-loop-part l = length l.parts.items
