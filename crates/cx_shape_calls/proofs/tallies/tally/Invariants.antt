use Rattle.std.proofs.Common.{◌≡◌, ℕ, take}
use Rattle.cx_meaning.specs.declared.ports.PortRef.TheVariants as ports
use Rattle.cx_shape_calls.specs.Forms.{count_of, times}
use Rattle.cx_shape_calls.proofs.tallies.tally.Given as goal

-- each port of a cell is counted among the ports so far
abbrev pub invariant-loop-port : goal.invariant-loop-port
invariant-loop-port l = (c p : ℕ) → times l.tally c p ≡ count_of (ports.Cell c p) (take l.port-index l.ports)
