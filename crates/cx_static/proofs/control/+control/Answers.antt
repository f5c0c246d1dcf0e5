use Rattle.std.proofs.Common.{◌≡◌, ◌∷◌, ◌+◌, [], ◌∙◌, sym, drop, map}
use Rattle.std.proofs.lemmas.List.{drop_all, map_push}
use Rattle.cx_design.specs.PlainForms.{plain_component, plain_statement, plain_statements}
use Rattle.cx_static.specs.PlainLowered.{plain_lowering}
use Rattle.cx_static.proofs.ControlLemmas.{lowered_more, after_more}
use Rattle.cx_meaning.proofs.DesignsLemmas.{joined_none}
use Rattle.cx_text.proofs.ListLaws.{drop_item}
use Rattle.cx_static.proofs.control.+control.Goals as goal

pub lower_parts-loop-statement-preserved : goal.lower_parts-loop-statement-preserved
lower_parts-loop-statement-preserved t c =
    let part = plain_component c.args.part.now in
    let other : drop c.loop-statement.statement-index c.args.parts.now ≡ c.statement-item.result ∷ drop (c.loop-statement.statement-index + 1) c.args.parts.now = drop_item _ _ _ c.statement-item.is c.loop-statement-test.true in
    let s = plain_statement c.statement-item.result in
    let rest = plain_statements (drop (c.loop-statement.statement-index + 1) c.args.parts.now) in
    let before = plain_lowering c.loop-statement.lowering in
    let made = plain_statement c.in_ok-lower_statement.field-0 in
    let behind = plain_lowering c.lower_statement.new.lowering in
    record {
      value =
          rw (c.in_ok-push.ensures.items, map_push plain_statement c.loop-statement.all.items c.in_ok-lower_statement.field-0)
          (lowered_more part s rest before made behind (map plain_statement c.loop-statement.all.items) _ c.in_ok-lower_statement.ensures.value c.in_ok-lower_statement.ensures.after (rw other at c.loop-statement.invariant.value));
      after = after_more part s rest before made behind _ c.in_ok-lower_statement.ensures.after (rw other at c.loop-statement.invariant.after);
    }

pub lower_parts-returns-clause-value : goal.lower_parts-returns-clause-value
lower_parts-returns-clause-value t c =
    let none : drop c.loop-statement.statement-index c.args.parts.now ≡ [] = drop_all _ _ c.loop-statement-test.false in
    sym (joined_none (map plain_statement c.loop-statement.all.items)) ∙ (rw none at c.loop-statement.invariant.value)
