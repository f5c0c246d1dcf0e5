use Rattle.std.proofs.Common.{◌≡◌, ◌++◌, map, take}
use Rattle.cx_eval_network.specs.Planned.{numbers_of}
use Rattle.cx_eval_network.specs.Plans.{instance_of}
use Rattle.cx_eval_network.proofs.planning.add_numbers.Given as goal

-- those of the ports so far
abbrev pub invariant-loop-port : goal.invariant-loop-port
invariant-loop-port l = l.found.items ≡ l.initial.found.items ++ numbers_of (instance_of l.part) (map (λ q. q.port) (take l.port-index l.ports))
