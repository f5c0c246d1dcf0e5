use Rattle.std.proofs.Common.{take}
use Rattle.cx_meaning.specs.Control.{targets_cell}
use Rattle.cx_share.specs.Marks.{Adds, any_of}
use Rattle.cx_share.proofs.using.add_ports.Given as goal

-- the cells of the ports so far are added
abbrev pub invariant-loop-port : goal.invariant-loop-port
invariant-loop-port l = Adds l.initial.marks l.marks (any_of (λ p. targets_cell p.port) (take l.port-index l.ports))
