use Rattle.std.proofs.Common.{length}
use Rattle.cx_vread_exprs.specs.Answers.{place_of}
use Rattle.cx_vread.proofs.AstrayLines.{SoFar}
use Rattle.cx_vread.proofs.astray.first_astray.Given as goal

abbrev pub invariant-loop-here : goal.invariant-loop-here
invariant-loop-here l = SoFar l.text l.between (place_of l.here) l.number

abbrev pub decreases-loop-here : goal.decreases-loop-here
decreases-loop-here l = length l.here.rest.now
