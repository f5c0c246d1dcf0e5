use Rattle.std.proofs.Common.{◌≡◌, drop}
use Rattle.cx_ast.specs.PlainStatements.{plain_statements, statements_of}
use Rattle.cx_print.specs.Pieces.{add_statements}
use Rattle.cx_print.proofs.control.+control.Given as goal

abbrev pub invariant-block-loop-item : goal.invariant-block-loop-item
invariant-block-loop-item l = add_statements (statements_of (plain_statements (drop l.item-index l.item-items))) l.out.items ≡ add_statements (statements_of (plain_statements l.item-items)) l.initial.out.items
