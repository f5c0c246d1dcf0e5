use Rattle.cx_holes.proofs.RenamedRuns.{inlined_runs}
use Rattle.cx_holes.proofs.laws.inlining_keeps_runs.Goals as goal

pub returns : goal.returns
returns c = λ n loaded last o names. inlined_runs n names loaded last o
