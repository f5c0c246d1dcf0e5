use Rattle.std.proofs.Common.{◌≡◌, ◌++◌, drop, map}
use Rattle.cx_ast.specs.PlainGuards.{plain_guards}
use Rattle.cx_design.specs.PlainForms.{plain_guard}
use Rattle.cx_numbering.specs.DesignOf.{guard_of}
use Rattle.cx_names.specs.Sites.{tree_at, part_at}
use Rattle.cx_names.proofs.guards.+guard.Given as goal

-- the guards so far, and those of the items that are left, are all
abbrev pub invariant-guards-loop-item : goal.invariant-guards-loop-item
invariant-guards-loop-item l = map plain_guard l.all.items ++ map (guard_of (tree_at l.site) (part_at l.site)) (plain_guards (drop l.item-index l.items)) ≡ map (guard_of (tree_at l.site) (part_at l.site)) (plain_guards l.items)
