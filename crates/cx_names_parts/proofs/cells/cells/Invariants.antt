use Rattle.std.proofs.Common.{◌≡◌, drop, flat_map, map}
use Rattle.cx_ast.specs.PlainTree.{plain_cell}
use Rattle.cx_numbering.specs.NameRules.{cell_breaks}
use Rattle.cx_names_scopes.specs.Scopes.{tree_in, part_in}
use Rattle.cx_names_rules.specs.Found.{first_of}
use Rattle.cx_names_parts.proofs.cells.cells.Given as goal

-- the first of the breaks so far and of those behind is the first of all
abbrev pub invariant-loop-cell : goal.invariant-loop-cell
invariant-loop-cell l = first_of l.found (flat_map (cell_breaks (tree_in l.scope) (part_in l.scope)) (map plain_cell (drop l.cell-index l.cell-items))) ≡ first_of l.initial.found (flat_map (cell_breaks (tree_in l.scope) (part_in l.scope)) (map plain_cell l.cell-items))
