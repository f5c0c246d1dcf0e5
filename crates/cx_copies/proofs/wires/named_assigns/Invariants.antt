use Rattle.std.proofs.Common.{◌≡◌, ◌++◌, drop, map}
use Rattle.cx_ast.specs.PlainTree.{plain_assign}
use Rattle.cx_copies.specs.Naming.{named_assign}
use Rattle.cx_copies.proofs.wires.named_assigns.Given as goal

-- those so far, and those of what is left, are all
abbrev pub invariant-loop-assign : goal.invariant-loop-assign
invariant-loop-assign g l = map plain_assign l.named.items ++ map (named_assign (g.N.CellNames.renaming l.names)) (map plain_assign (drop l.assign-index l.assigns)) ≡ map (named_assign (g.N.CellNames.renaming l.names)) (map plain_assign l.assigns)
