use Rattle.std.proofs.Common.{◌≡◌, [], drop}
use Rattle.cx_ast.specs.PlainStatements.{plain_statements, statements_of}
use Rattle.cx_promotion.specs.Rewriting.{cut, promote_all}
use Rattle.cx_promote.specs.Cutting.{before, cut_with}
use Rattle.cx_promote.specs.Lengths.{long_in}
use Rattle.cx_promote.proofs.control.+control.Given as goal

-- what is cut so far, with what is left
abbrev pub invariant-cut_statements-loop-item : goal.invariant-cut_statements-loop-item
invariant-cut_statements-loop-item l =
    cut_with (long_in l.lengths) l.pieces (promote_all (long_in l.lengths) l.below (statements_of (plain_statements (drop l.item-index l.items))))
    ≡ cut (long_in l.lengths) [] 0 (promote_all (long_in l.lengths) l.below (statements_of (plain_statements l.items)))

-- what is made so far, and what is left
abbrev pub invariant-promoted_statements-loop-item : goal.invariant-promoted_statements-loop-item
invariant-promoted_statements-loop-item l =
    before (plain_statements l.promoted.items) (promote_all (long_in l.lengths) l.below (statements_of (plain_statements (drop l.item-index l.items))))
    ≡ promote_all (long_in l.lengths) l.below (statements_of (plain_statements l.items))
