use Rattle.std.proofs.Common.{◌≡◌, ◌++◌, drop, map}
use Rattle.cx_ast.specs.PlainTree.{plain_assign}
use Rattle.cx_promotion.specs.Rewriting.{enables, promote_assigns}
use Rattle.cx_promote.specs.Sites.{instance_at, part_at, tree_at}
use Rattle.cx_promote.proofs.groups.static_assigns.Given as goal

-- the assignments so far, and those that are left
abbrev pub invariant-loop-place : goal.invariant-loop-place
invariant-loop-place l =
    map plain_assign l.kept.items ++ promote_assigns (enables (tree_at l.site) (part_at l.site) (instance_at l.site)) (map plain_assign (drop l.place l.items))
    ≡ promote_assigns (enables (tree_at l.site) (part_at l.site) (instance_at l.site)) (map plain_assign l.items)
