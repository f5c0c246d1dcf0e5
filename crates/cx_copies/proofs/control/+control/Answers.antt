use Rattle.std.proofs.Common.{◌≡◌, [], ◌∙◌, sym, ap, drop, append-nil}
use Rattle.std.proofs.lemmas.List.{drop_all}
use Rattle.cx_ast.specs.PlainStatements.{statements_of, plain_statements}
use Rattle.cx_copies.proofs.NamingLemmas.{statements_named}
use Rattle.cx_copies.proofs.control.+control.Goals as goal

pub named_statements-returns : goal.named_statements-returns
named_statements-returns g t c =
    let none : drop c.loop-statement.statement-index c.args.statements.now ≡ [] = drop_all _ _ c.loop-statement-test.false in
    record {
      value = ap statements_of (sym (append-nil (plain_statements c.loop-statement.named.items)) ∙ (rw none at c.loop-statement.invariant))
          ∙ sym (statements_named (g.N.CellNames.renaming c.args.names.now) (plain_statements c.args.statements.now));
    }
