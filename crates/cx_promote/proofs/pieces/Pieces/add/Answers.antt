use Rattle.std.proofs.Common.{rules, ◌≡◌, [], length, false, sym, ap, ◌∙◌}
use Rattle.cx_ast.specs.PlainStatements.{plain_statement, plain_statements}
use Rattle.cx_promotion.specs.Rewriting.{cut}
use Rattle.cx_promote.specs.Cutting.{before, done_of, open_of}
use Rattle.cx_promote.proofs.ListLemmas.{mapped_push}
use Rattle.cx_promote.proofs.CuttingLemmas.{add_other}
use Rattle.cx_promote.proofs.pieces.Pieces.add.Goals as goal

pub returns-then-not-is_run : goal.returns-then-not-is_run
returns-then-not-is_run c =
    let other : c.args.is_run ≡ false = search rules in
    record {
      value = λ long later is.
          ap (λ piece. before (plain_statements c.push.new.self.items) (cut long piece (length piece) later)) c.in_ok-close.ensures.piece
          ∙ ap (λ done. before done (cut long [] 0 later)) (mapped_push plain_statement c.push.new.self.items c.close.new.self.done.items c.args.statement c.in_ok-push.ensures.items)
          ∙ add_other long (done_of c.args.self.now) (done_of c.close.new.self) (open_of c.args.self.now) (plain_statement c.args.statement) later (sym is ∙ other) (c.in_ok-close.ensures.done long);
    }
