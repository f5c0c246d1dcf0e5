use Rattle.std.proofs.Common.{◌≡◌, ◌++◌, drop, flat_map}
use Rattle.cx_race.specs.Cells.{port_cell}
use Rattle.cx_race.proofs.cells.add_ports.Given as goal

-- what is added so far, and the cells of the ports that are left, are all
abbrev pub invariant-loop-port : goal.invariant-loop-port
invariant-loop-port l = l.cells.items ++ flat_map port_cell (drop l.port-index l.ports) ≡ l.initial.cells.items ++ flat_map port_cell l.ports
