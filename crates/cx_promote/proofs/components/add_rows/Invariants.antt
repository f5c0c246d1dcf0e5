use Rattle.std.proofs.Common.{◌≡◌, ◌++◌, drop, map}
use Rattle.cx_ast.specs.PlainTree.{plain_wire}
use Rattle.cx_numbering.specs.Names.{groups_in}
use Rattle.cx_promotion.specs.Rewriting.{length_of, rows_in}
use Rattle.cx_promote.specs.Lengths.{Begins}
use Rattle.cx_promote.specs.Sites.{instance_at, part_at, tree_at}
use Rattle.cx_promote.proofs.components.add_rows.Given as goal

-- the rows so far, and those of the groups that are left; the lengths from `place` on are theirs
abbrev pub invariant-loop-wire : goal.invariant-loop-wire
invariant-loop-wire l =
    let tree = tree_at l.site in
    let part = part_at l.site in
    let i = instance_at l.site in
    let left = groups_in (map plain_wire (drop l.wire-index l.wire-items)) in
    record {
      rows : l.rows.items ++ rows_in tree part i left ≡ l.initial.rows.items ++ rows_in tree part i (groups_in (map plain_wire l.wire-items));
      lengths : Begins (length_of tree part i) (drop l.place l.lengths) left;
    }
