use Rattle.std.proofs.Common.{◌≡◌, ◌-◌, map}
use Rattle.cx_vtree.specs.PlainParts.{plain_expr}
use Rattle.cx_emit.specs.Exprs.{paired_often, rounds}
use Rattle.cx_emit.proofs.folding.paired_often.Given as goal

-- the rounds that are left give what all give
abbrev pub invariant-loop : goal.invariant-loop
invariant-loop l = paired_often (rounds - l.counter) l.operator (map plain_expr l.parts.items) ≡ paired_often rounds l.operator (map plain_expr l.fn.parts.items)
