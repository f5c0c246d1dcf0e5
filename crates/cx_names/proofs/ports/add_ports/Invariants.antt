use Rattle.std.proofs.Common.{◌≡◌, ℕ, List, ◌+◌, ◌≤◌, drop, map, length}
use Rattle.cx_ast.specs.PlainTree.{plain_port}
use Rattle.cx_numbering.specs.Names.{port_names}
use Rattle.cx_names_scopes.specs.Numbered.{number_in, number_from, or_else}
use Rattle.cx_names.proofs.ports.add_ports.Given as goal

-- the names so far, and those of the ports that are left, are all
abbrev pub invariant-loop-port : goal.invariant-loop-port
invariant-loop-port l = record {
  few : l.behind ≤ l.next + l.port-index;
  counted : l.behind + length (port_names (map plain_port (drop l.port-index l.ports))) ≡ l.next + length (port_names (map plain_port l.ports));
  numbered : (n : List ℕ) → or_else (number_in l.numbers n) (number_from l.behind n (port_names (map plain_port (drop l.port-index l.ports)))) ≡ or_else (number_in l.initial.numbers n) (number_from l.next n (port_names (map plain_port l.ports)));
}
