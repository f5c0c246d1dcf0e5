use Rattle.std.proofs.Common.{◌≡◌, ℕ, List, ◌≤◌, drop, map}
use Rattle.cx_ast.specs.PlainTree.{plain_port}
use Rattle.cx_numbering.specs.Names.{number_of, port_names}
use Rattle.cx_names_scopes.specs.Numbered.{number_in, number_from, or_else}
use Rattle.cx_names_scopes.proofs.index.port_numbers.Given as goal

-- the numbers so far, and those that the ports behind will have, are those of all
abbrev pub invariant-loop-port : goal.invariant-loop-port
invariant-loop-port l = record {
  few : l.count ≤ l.port-index;
  numbered : (n : List ℕ) → or_else (number_in l.numbers n) (number_from l.count n (port_names (map plain_port (drop l.port-index l.ports)))) ≡ number_of n (port_names (map plain_port l.ports));
}
