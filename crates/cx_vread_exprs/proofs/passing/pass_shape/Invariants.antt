use Rattle.std.proofs.Common.{◌≡◌, reverse}
use Rattle.cx_vscope.specs.ScopeValues.{scope_by}
use Rattle.cx_vread_exprs.specs.Answers.{place_of}
use Rattle.cx_vread_exprs.specs.Passing.{pass_on, shape_at}
use Rattle.cx_vread_exprs.proofs.passing.pass_shape.Given as goal

abbrev pub invariant-loop-left : goal.invariant-loop-left
invariant-loop-left l = pass_on (scope_by l.scope) l.left l.next (reverse l.awaited.items) (place_of l.here) ≡ shape_at (scope_by l.scope) (place_of l.fn.at)

abbrev pub decreases-loop-left : goal.decreases-loop-left
decreases-loop-left l = l.left
