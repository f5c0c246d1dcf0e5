use Rattle.std.proofs.Common.{◌≡◌, ◌++◌, drop, map}
use Rattle.cx_ast.specs.PlainTree.{plain_wire}
use Rattle.cx_design.specs.PlainForms.{plain_group}
use Rattle.cx_numbering.specs.Names.{groups_in}
use Rattle.cx_numbering.specs.DesignOf.{group_of}
use Rattle.cx_names.specs.Sites.{tree_at, part_at}
use Rattle.cx_names.proofs.groups.groups.Given as goal

-- the groups so far, and those among what is left, are all
abbrev pub invariant-loop-wire : goal.invariant-loop-wire
invariant-loop-wire l =
    map plain_group l.all.items ++ map (group_of (tree_at l.site) (part_at l.site)) (groups_in (map plain_wire (drop l.wire-index l.wires))) ≡ map (group_of (tree_at l.site) (part_at l.site)) (groups_in (map plain_wire l.wires))
