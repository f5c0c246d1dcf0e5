use Rattle.std.proofs.Common.{◌≡◌, true, refl, ◌+◌, ◌∙◌, min, sym, subst, arith}
use Rattle.cx_vread_exprs.specs.Answers.{Fails, place_of}
use Rattle.cx_vread.specs.LineSteps.{line_at}
use Rattle.cx_vread.proofs.AstrayLines.{SoFar, so_far_none, so_far_next, astray_here, none_at_end, some_left, none_left, shorter}
use Rattle.cx_vread.proofs.astray.first_astray.Goals as goal

pub loop-here-init : goal.loop-here-init
loop-here-init c = so_far_none c.args.text.now true refl

pub returns-in-Err-Syntax : goal.returns-in-Err-Syntax
returns-in-Err-Syntax c =
    astray_here c.args.text.now c.loop-here.between (place_of c.loop-here.here) c.loop-here.number c.loop-here.invariant
    (subst (λ f. Fails f (line_at c.loop-here.between (place_of c.loop-here.here))) c.in-Err-Syntax.field-0-is c.in-Err-Syntax.ensures)
    (λ e none. some_left c.loop-here.here.rest.now (sym c.is_empty.ensures ∙ c.loop-here-test.true) none)

pub loop-here-smaller : goal.loop-here-smaller
loop-here-smaller c = shorter c.loop-here.between c.in-Ok.found.0 (place_of c.loop-here.here) (place_of c.in-Ok.found.1) c.in-Ok.ensures c.loop-here.invariant.clear

pub loop-here-preserved : goal.loop-here-preserved
loop-here-preserved c =
    let more : min (c.loop-here.number + 1) 4294967295 ≡ c.saturating_add-number.result = omega (arith, c.saturating_add-number.ensures) in
    subst (λ n. SoFar c.args.text.now c.in-Ok.found.0 (place_of c.in-Ok.found.1) n) more
    (so_far_next c.args.text.now c.loop-here.between c.in-Ok.found.0 (place_of c.loop-here.here) (place_of c.in-Ok.found.1) c.loop-here.number c.loop-here.invariant c.in-Ok.ensures)

pub returns-in_default : goal.returns-in_default
returns-in_default c =
    astray_here c.args.text.now c.loop-here.between (place_of c.loop-here.here) c.loop-here.number c.loop-here.invariant
    (none_at_end c.loop-here.between (place_of c.loop-here.here) (none_left c.loop-here.here.rest.now (sym c.is_empty.ensures ∙ c.loop-here-test.false)))
    (λ e none. c.in_default.not-Modules e)
