use Rattle.std.proofs.Common.{◌≡◌, ◌+◌, [], drop, sym, ◌∙◌}
use Rattle.std.proofs.lemmas.List.{drop_all}
use Rattle.cx_text.proofs.ListLaws.{drop_item}
use Rattle.cx_ast.specs.PlainStatements.{NoStatements, plain_statements}
use Rattle.cx_promote.specs.Cutting.{done_of}
use Rattle.cx_promote.specs.Lengths.{long_in}
use Rattle.cx_promote.proofs.CuttingLemmas.{before_none, promoted_push}
use Rattle.cx_promote.proofs.control.+control.Goals as goal

pub cut_statements-returns : goal.cut_statements-returns
cut_statements-returns t c =
    let none : drop c.loop-item.item-index c.args.items.now ≡ [] = drop_all _ _ c.loop-item-test.false in
    record {
      value = sym (before_none (done_of c.close.new.self)) ∙ c.in_ok-close.ensures.done (long_in c.args.lengths.now) NoStatements ∙ (rw none at c.loop-item.invariant);
    }

pub promoted_statements-loop-item-preserved : goal.promoted_statements-loop-item-preserved
promoted_statements-loop-item-preserved t c =
    let items = c.args.items.now in
    let index = c.loop-item.item-index in
    promoted_push (long_in c.args.lengths.now) c.args.below c.push.new.self.items c.loop-item.promoted.items (drop index items) (drop (index + 1) items) c.item-item.result c.in_ok-promoted_statement.field-0 _
    c.in_ok-push.ensures.items c.in_ok-promoted_statement.ensures.value (drop_item items index c.item-item.result c.item-item.is c.loop-item-test.true) c.loop-item.invariant

pub promoted_statements-returns : goal.promoted_statements-returns
promoted_statements-returns t c =
    let none : drop c.loop-item.item-index c.args.items.now ≡ [] = drop_all _ _ c.loop-item-test.false in
    record { value = sym (before_none (plain_statements c.loop-item.promoted.items)) ∙ (rw none at c.loop-item.invariant) }
