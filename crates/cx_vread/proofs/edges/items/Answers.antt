use Rattle.std.proofs.Common.{◌∙◌, sym, codes, map}
use Rattle.std.proofs.lemmas.Result.{err_from_is_err_and}
use Rattle.cx_vtree.specs.PlainParts.{plain_item}
use Rattle.cx_vscope.specs.ScopeValues.{scope_by}
use Rattle.cx_vread_exprs.specs.Answers.{place_of}
use Rattle.cx_vread_exprs.specs.Places.{begins}
use Rattle.cx_vread.specs.Parts as parts
use Rattle.cx_vread.proofs.Many.{mapped_next, mapped_end, fails_on}
use Rattle.cx_vread.proofs.edges.items.Goals as goal

pub returns-then-not-begins : goal.returns-then-not-begins
returns-then-not-begins c = mapped_end plain_item (begins (codes "     ")) (parts.item_at (scope_by c.args.scope.now)) c.loop-left.list.items c.loop-left.left (place_of c.loop-left.here) _ c.loop-left.invariant (sym c.begins.ensures ∙ c.if-not-begins.true)

pub loop-left-preserved : goal.loop-left-preserved
loop-left-preserved c =
    mapped_next plain_item (begins (codes "     ")) (parts.item_at (scope_by c.args.scope.now)) c.loop-left.list.items c.push.new.self.items c.in_ok-line.line c.loop-left.left (place_of c.loop-left.here) (place_of c.in_ok-line.after) _ c.loop-left.invariant c.in_ok-push.ensures.items c.loop-left-test.true (sym c.begins.ensures ∙ c.if-not-begins.false) c.in_ok-line.ensures

pub returns-in_err-line : goal.returns-in_err-line
returns-in_err-line c =
    let p = err_from_is_err_and c.from_residual.result c.from_residual.ensures.1 in
    rw (p.1, p.2)
    (fails_on (begins (codes "     ")) (parts.item_at (scope_by c.args.scope.now)) (map plain_item c.loop-left.list.items) c.loop-left.left (place_of c.loop-left.here) c.in_err-line.field-0.0 _ c.loop-left.invariant c.loop-left-test.true (sym c.begins.ensures ∙ c.if-not-begins.false) c.in_err-line.ensures)
