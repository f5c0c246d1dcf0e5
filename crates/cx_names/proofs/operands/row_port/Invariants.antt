use Rattle.std.proofs.Common.{◌≡◌, map, drop, length}
use Rattle.cx_prim.specs.PortNames.{text_of}
use Rattle.cx_prim.specs.Table.{row_of}
use Rattle.cx_numbering.specs.Names.{number_of}
use Rattle.cx_names_scopes.specs.Numbered.{number_from}
use Rattle.cx_names.proofs.operands.row_port.Given as goal

-- the number of the name among the ports behind, counted on, is its number among all
abbrev pub invariant-loop-number : goal.invariant-loop-number
invariant-loop-number l = record {
  end : l.number-end ≡ length (row_of l.primitive).ports;
  behind : number_from l.number l.port (map (λ port. text_of port.name) (drop l.number (row_of l.primitive).ports)) ≡ number_of l.port (map (λ port. text_of port.name) (row_of l.primitive).ports);
}
