use Rattle.std.proofs.Common.{◌≡◌, [], ◌∙◌, sym, ap, drop, append-nil}
use Rattle.std.proofs.lemmas.List.{drop_all}
use Rattle.cx_ast.specs.PlainGuards.{guards_of, plain_guards}
use Rattle.cx_copies.proofs.NamingLemmas.{guards_named}
use Rattle.cx_copies.proofs.guards.+guard.Goals as goal

pub named_guards-returns : goal.named_guards-returns
named_guards-returns g t c =
    let none : drop c.loop-guard.guard-index c.args.guards.now ≡ [] = drop_all _ _ c.loop-guard-test.false in
    record {
      value = ap guards_of (sym (append-nil (plain_guards c.loop-guard.named.items)) ∙ (rw none at c.loop-guard.invariant))
          ∙ sym (guards_named (g.N.CellNames.renaming c.args.names.now) (plain_guards c.args.guards.now));
    }
