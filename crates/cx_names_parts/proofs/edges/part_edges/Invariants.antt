use Rattle.std.proofs.Common.{◌≡◌, ◌++◌, drop, map}
use Rattle.cx_ast.specs.PlainTree.{plain_cell}
use Rattle.cx_names_scopes.specs.Scopes.{tree_in}
use Rattle.cx_names_parts.specs.Leading.{numbers_in}
use Rattle.cx_names_parts.proofs.edges.part_edges.Given as goal

-- the numbers so far, with those of the cells behind, are all
abbrev pub invariant-loop-cell : goal.invariant-loop-cell
invariant-loop-cell l = l.edges.items ++ numbers_in (tree_in l.scope) (map plain_cell (drop l.cell-index l.cell-items)) ≡ numbers_in (tree_in l.scope) (map plain_cell l.cell-items)
