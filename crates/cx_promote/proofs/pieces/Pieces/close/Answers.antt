use Rattle.std.proofs.Common.{rules, ◌≡◌, ◌≤◌, length, ap, ◌∙◌}
use Rattle.cx_ast.specs.PlainStatements.{plain_statements}
use Rattle.cx_promotion.specs.Rewriting.{close as closed}
use Rattle.cx_promote.specs.Cutting.{before, done_of}
use Rattle.cx_promote.proofs.CuttingLemmas.{before_pushed, closed_none, closed_one}
use Rattle.cx_promote.proofs.ListLemmas.{no_last}
use Rattle.cx_promote.proofs.pieces.Pieces.close.Goals.{in-Some+in_ok-push-2, in_default}
use Rattle.cx_promote.proofs.pieces.Pieces.close.Goals as goal

pub returns-then-len-gt1-clause-done : goal.returns-then-len-gt1-clause-done
returns-then-len-gt1-clause-done c long later =
    before_pushed c.push.new.self.items c.args.self.now.done.items c.static_seq.result later c.in_ok-push.ensures.items
    ∙ ap (before (done_of c.args.self.now)) (c.static_seq.ensures.value long later)
    ∙ ap (λ p. before (done_of c.args.self.now) (closed long (plain_statements p.items) later)) c.replace-piece.ensures.value

pub returns-clause-done : goal.returns-clause-done
returns-clause-done c long later =
    let items = c.replace-piece.result.items in
    let done = done_of c.args.self.now in
    let short : length items ≤ 1 = search rules in
    let opened = ap (λ p. before done (closed long (plain_statements p.items) later)) c.replace-piece.ensures.value in
    elim c.match-pop.branch [
      | in-Some+in_ok-push-2 w ↦
          ap (λ p. before (done_of p) later) w.self-is
          ∙ before_pushed w.push-in-Some.new.self.items c.args.self.now.done.items w.in-Some.only later w.in_ok-push-2.ensures.items
          ∙ ap (before done) (closed_one long later items c.pop.new.self.items w.in-Some.only w.in-Some.ensures.items short)
          ∙ opened
      | in_default w ↦
          let count : c.replace-piece.result.len ≡ length items = search rules in
          ap (λ p. before (done_of p) later) w.self-is
          ∙ ap (before done) (closed_none long later items (no_last items c.replace-piece.result.len c.pop.result count w.in_default.is c.pop.ensures.value))
          ∙ opened
    ]
