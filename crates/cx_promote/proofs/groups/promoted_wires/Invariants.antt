use Rattle.std.proofs.Common.{◌≡◌, ◌++◌, drop, map}
use Rattle.cx_ast.specs.PlainTree.{plain_wire}
use Rattle.cx_numbering.specs.DesignOf.{group_of}
use Rattle.cx_numbering.specs.Names.{groups_in}
use Rattle.cx_design.specs.PlainForms.{plain_group}
use Rattle.cx_promotion.specs.Rewriting.{length_of, promote_wire}
use Rattle.cx_promote.specs.Lengths.{Begins}
use Rattle.cx_promote.specs.Sites.{instance_at, part_at, tree_at}
use Rattle.cx_promote.proofs.groups.promoted_wires.Given as goal

-- the wires so far, and those that are left; the lengths and the groups from `place` on are those of the groups that are left
abbrev pub invariant-loop-wire : goal.invariant-loop-wire
invariant-loop-wire l =
    let tree = tree_at l.site in
    let part = part_at l.site in
    let i = instance_at l.site in
    let left = map plain_wire (drop l.wire-index l.wire-items) in
    record {
      made : map plain_wire l.promoted.items ++ map (promote_wire tree part i) left ≡ map (promote_wire tree part i) (map plain_wire l.wire-items);
      lengths : Begins (length_of tree part i) (drop l.place l.lengths) (groups_in left);
      groups : Begins (group_of tree part) (drop l.place (map plain_group l.groups)) (groups_in left);
    }
