use Rattle.std.proofs.Common.{◌++◌, List, drop, map}
use Rattle.cx_ast.specs.PlainTree.{plain_component}
use Rattle.cx_names_scopes.specs.declared.index.PartIndex.{PartIndex}
use Rattle.cx_names_scopes.specs.Indexed.{ArePartIndexes}
use Rattle.cx_names_scopes.proofs.index.part_indexes.Given as goal

-- indexes of the components behind complete the list
abbrev pub invariant-loop-part : goal.invariant-loop-part
invariant-loop-part l = (rest : List PartIndex) → ArePartIndexes (map plain_component (drop l.part-index l.parts)) rest → ArePartIndexes (map plain_component l.parts) (l.indexes.items ++ rest)
