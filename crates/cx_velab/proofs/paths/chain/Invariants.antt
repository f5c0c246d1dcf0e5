use Rattle.std.proofs.Common.{◌≡◌, ◌-◌, ◌++◌, map}
use Rattle.cx_velab.specs.Paths.{up}
use Rattle.cx_velab.specs.Rows.{placed_of}
use Rattle.cx_velab.proofs.paths.chain.Given as goal

abbrev pub invariant-loop-steps : goal.invariant-loop-steps
invariant-loop-steps l = l.chain.items ++ up (map placed_of l.rows) (l.instance - l.steps) l.at ≡ up (map placed_of l.rows) l.instance l.instance
