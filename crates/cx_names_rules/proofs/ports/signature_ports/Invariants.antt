use Rattle.std.proofs.Common.{◌≡◌, drop, flat_map, map}
use Rattle.cx_ast.specs.PlainTree.{plain_port}
use Rattle.cx_numbering.specs.NameRules.{port_breaks}
use Rattle.cx_names_scopes.specs.Scopes.{tree_in, part_in}
use Rattle.cx_names_rules.specs.Found.{first_of}
use Rattle.cx_names_rules.proofs.ports.signature_ports.Given as goal

-- the first of the breaks so far and of those behind is the first of all
abbrev pub invariant-loop-item : goal.invariant-loop-item
invariant-loop-item l = first_of l.found (flat_map (port_breaks (tree_in l.scope) (part_in l.scope) l.is_input) (map plain_port (drop l.item-index l.ports))) ≡ first_of l.initial.found (flat_map (port_breaks (tree_in l.scope) (part_in l.scope) l.is_input) (map plain_port l.ports))
