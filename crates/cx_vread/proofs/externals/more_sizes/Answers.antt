use Rattle.std.proofs.Common.{◌∙◌, ◌≡◌, sym, arith, codes}
use Rattle.std.proofs.lemmas.Result.{err_from_is_err_and}
use Rattle.cx_vscope.specs.Drafts.{draft_sizes}
use Rattle.cx_vread_exprs.specs.Answers.{place_of}
use Rattle.cx_vread_exprs.specs.Places.{begins}
use Rattle.cx_vread.specs.Parts as parts
use Rattle.cx_vread.proofs.Many.{mapped_next, mapped_end, many_out, fails_on}
use Rattle.cx_vread.proofs.externals.more_sizes.Goals as goal

pub returns-then-not-begins : goal.returns-then-not-begins
returns-then-not-begins c = mapped_end (λ n. n) (begins (codes " ")) parts.more_size_at c.loop-left.sizes.items c.loop-left.left (place_of c.loop-left.here) _ c.loop-left.invariant (sym c.begins.ensures ∙ c.if-not-begins.true)

pub returns-in_err-size : goal.returns-in_err-size
returns-in_err-size c =
    let p = err_from_is_err_and c.from_residual-in_err-size.result c.from_residual-in_err-size.ensures.1 in
    rw (p.1, p.2)
    (fails_on (begins (codes " ")) parts.more_size_at (draft_sizes c.loop-left.sizes.items) c.loop-left.left (place_of c.loop-left.here) c.in_err-size.field-0.0 _ c.loop-left.invariant c.loop-left-test.true (sym c.begins.ensures ∙ c.if-not-begins.false) c.in_err-size.ensures)

pub loop-left-preserved : goal.loop-left-preserved
loop-left-preserved c =
    mapped_next (λ n. n) (begins (codes " ")) parts.more_size_at c.loop-left.sizes.items _ c.in_ok-size.size c.loop-left.left (place_of c.loop-left.here) (place_of c.in_ok-size.after) _ c.loop-left.invariant c.in_ok-push-2.ensures.items c.loop-left-test.true (sym c.begins.ensures ∙ c.if-not-begins.false) c.in_ok-size.ensures

pub returns : goal.returns
returns c =
    let none : c.loop-left.left ≡ 0 = omega (arith, c.loop-left-test.false) in
    sym c.loop-left.invariant ∙ many_out (begins (codes " ")) parts.more_size_at (draft_sizes c.loop-left.sizes.items) c.loop-left.left (place_of c.loop-left.here) none
