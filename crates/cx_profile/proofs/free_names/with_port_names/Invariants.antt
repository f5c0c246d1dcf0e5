use Rattle.std.proofs.Common.{◌≡◌, ◌++◌, drop, map}
use Rattle.cx_profile.proofs.free_names.with_port_names.Given as goal

-- the names so far, and those of the ports that are left, are all
abbrev pub invariant-loop-port : goal.invariant-loop-port
invariant-loop-port l = l.all.items ++ map (λ port. port.name) (drop l.port-index l.ports) ≡ l.fn.names.items ++ map (λ port. port.name) l.ports
