use Rattle.std.proofs.Common.{◌≡◌, map, drop, length}
use Rattle.cx_prim.specs.PortNames.{text_of}
use Rattle.cx_prim.specs.Table.{row_of}
use Rattle.cx_numbering.specs.Names.{is_among}
use Rattle.cx_names_scopes.proofs.rows.has_port.Given as goal

-- the name is among the ports behind exactly where it is among all
abbrev pub invariant-loop-number : goal.invariant-loop-number
invariant-loop-number l = record {
  end : l.number-end ≡ length (row_of l.primitive).ports;
  behind : is_among l.name (map (λ port. text_of port.name) (drop l.number (row_of l.primitive).ports)) ≡ is_among l.name (map (λ port. text_of port.name) (row_of l.primitive).ports);
}
