use Rattle.std.proofs.Common.{◌≡◌, drop}
use Rattle.cx_prim.specs.MemoryRows as rows
use Rattle.cx_eval_cycle.proofs.ranges.first_beyond.Given as goal

abbrev pub invariant-loop-port : goal.invariant-loop-port
invariant-loop-port l = rows.first_beyond (drop l.port l.sizes) l.port l.inputs ≡ rows.first_beyond l.sizes 0 l.inputs
