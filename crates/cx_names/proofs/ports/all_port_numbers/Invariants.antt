use Rattle.std.proofs.Common.{List, ◌++◌, drop, map}
use Rattle.cx_ast.specs.PlainTree.{plain_component}
use Rattle.cx_names_scopes.specs.declared.numbers.Numbers.{Numbers}
use Rattle.cx_names.specs.Sites.{ArePortNumbers}
use Rattle.cx_names.proofs.ports.all_port_numbers.Given as goal

-- numbers for the components that are left complete the list
abbrev pub invariant-loop-part : goal.invariant-loop-part
invariant-loop-part l = (rest : List Numbers) → ArePortNumbers (map plain_component (drop l.part-index l.parts)) rest → ArePortNumbers (map plain_component l.parts) (l.all.items ++ rest)
