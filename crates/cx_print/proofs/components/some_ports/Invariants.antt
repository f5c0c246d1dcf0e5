use Rattle.std.proofs.Common.{◌≡◌, drop, map}
use Rattle.cx_ast.specs.PlainTree.{plain_port}
use Rattle.cx_print.specs.Pieces.{add_port, more_of}
use Rattle.cx_print.proofs.components.some_ports.Given as goal

abbrev pub invariant-loop-item : goal.invariant-loop-item
invariant-loop-item l = more_of add_port (map plain_port (drop l.item-index l.more)) l.out.items ≡ more_of add_port (map plain_port l.more) l.initial.out.items
