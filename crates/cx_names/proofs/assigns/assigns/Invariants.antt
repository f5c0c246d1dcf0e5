use Rattle.std.proofs.Common.{◌≡◌, ◌++◌, drop, map}
use Rattle.cx_ast.specs.PlainTree as written
use Rattle.cx_design.specs.PlainForms.{plain_assigns}
use Rattle.cx_numbering.specs.DesignOf.{assign_of}
use Rattle.cx_names.specs.Sites.{tree_at, part_at}
use Rattle.cx_names.proofs.assigns.assigns.Given as goal

-- the assignments so far, and those of the items that are left, are all
abbrev pub invariant-loop-item : goal.invariant-loop-item
invariant-loop-item l =
    plain_assigns l.all.items ++ map (assign_of (tree_at l.site) (part_at l.site)) (map written.plain_assign (drop l.item-index l.items)) ≡ map (assign_of (tree_at l.site) (part_at l.site)) (map written.plain_assign l.items)
