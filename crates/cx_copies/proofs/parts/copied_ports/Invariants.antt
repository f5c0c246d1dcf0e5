use Rattle.std.proofs.Common.{◌≡◌, ◌++◌, drop, map}
use Rattle.cx_ast.specs.PlainTree.{plain_port}
use Rattle.cx_copies.proofs.parts.copied_ports.Given as goal

-- the copies so far, and those of what is left, are all
abbrev pub invariant-loop-port : goal.invariant-loop-port
invariant-loop-port l = map plain_port l.copies.items ++ map plain_port (drop l.port-index l.ports) ≡ map plain_port l.ports
