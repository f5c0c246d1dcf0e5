use Rattle.std.proofs.Common.{◌≡◌, drop, length}
use Rattle.cx_prim.specs.Table.{row_of}
use Rattle.cx_numbering.specs.Names.{is_among}
use Rattle.cx_numbering.specs.NameRules.{output_rows}
use Rattle.cx_names_scopes.specs.Scopes.{tree_in, part_in}
use Rattle.cx_names_scopes.proofs.rows.has_output.Given as goal

-- the name is among the outputs behind exactly where it is among all
abbrev pub invariant-loop-number : goal.invariant-loop-number
invariant-loop-number l = record {
  end : l.number-end ≡ length (row_of l.primitive).ports;
  behind : is_among l.name (output_rows (tree_in l.scope) (part_in l.scope) (drop l.number (row_of l.primitive).ports)) ≡ is_among l.name (output_rows (tree_in l.scope) (part_in l.scope) (row_of l.primitive).ports);
}
