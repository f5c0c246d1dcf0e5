use Rattle.std.proofs.Common.{◌≡◌, ◌++◌, length, map, reverse}
use Rattle.cx_vtree.specs.InstanceTree.{below, tree_from}
use Rattle.cx_vtree.specs.PlainParts.{plain_instance, plain_modules}
use Rattle.cx_velab.specs.Trees.{trees, work}
use Rattle.cx_velab.specs.Rows.{placed_of, plain_pending}
use Rattle.cx_velab.proofs.tree.rows.Given as goal

abbrev pub invariant-loop-top : goal.invariant-loop-top
invariant-loop-top l =
    map placed_of l.rows.items ++ trees (reverse (map (plain_pending (plain_modules l.modules)) l.pending.items)) (length l.rows.items)
    ≡ below (tree_from (reverse (plain_modules l.modules))) 0 0 (map plain_instance l.instances)

abbrev pub decreases-loop-top : goal.decreases-loop-top
decreases-loop-top l = work (reverse (map (plain_pending (plain_modules l.modules)) l.pending.items))
