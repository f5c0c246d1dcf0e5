use Rattle.std.proofs.Common.{◌≡◌, ◌++◌, map, drop}
use Rattle.cx_vtree.specs.PlainParts.{plain_port}
use Rattle.cx_vsound.proofs.modules.port_names.Given as goal

abbrev pub invariant-loop-p : goal.invariant-loop-p
invariant-loop-p l = l.names ++ map (λ p. p.name) (map plain_port (drop l.p-index l.ports)) ≡ map (λ p. p.name) (map plain_port l.ports)
