use Rattle.std.proofs.Common.{◌≡◌, ◌++◌, drop, map}
use Rattle.cx_ast.specs.PlainTree as written
use Rattle.cx_design.specs.PlainForms.{plain_cell}
use Rattle.cx_numbering.specs.DesignOf.{plain_cell_of}
use Rattle.cx_names.specs.Sites.{tree_at, part_at}
use Rattle.cx_names.proofs.cells.cells.Given as goal

-- the cells so far, and those of the items that are left, are all
abbrev pub invariant-loop-item : goal.invariant-loop-item
invariant-loop-item l =
    map plain_cell l.all.items ++ map (plain_cell_of (tree_at l.site) (part_at l.site)) (map written.plain_cell (drop l.item-index l.item-items)) ≡ map (plain_cell_of (tree_at l.site) (part_at l.site)) (map written.plain_cell l.item-items)
