use Rattle.std.proofs.Common.{◌≡◌, ◌++◌, map, drop}
use Rattle.cx_vtree.specs.PlainParts.{plain_port}
use Rattle.cx_bits.specs.BitVector.{zero_of}
use Rattle.cx_velab.proofs.zeros.push_ports.Given as goal

abbrev pub invariant-loop-port : goal.invariant-loop-port
invariant-loop-port l =
    l.nets.items ++ map zero_of (map (λ p. p.width) (map plain_port (drop l.port-index l.ports))) ≡ l.fn.nets.items ++ map zero_of (map (λ p. p.width) (map plain_port l.ports))
