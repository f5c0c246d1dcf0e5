use Rattle.std.proofs.Common.{◌≡◌, ◌++◌, drop, map}
use Rattle.cx_ast.specs.PlainTree.{plain_component}
use Rattle.cx_copies.proofs.copies.copied_tree.Given as goal

-- the copies so far, and those of what is left, are all
abbrev pub invariant-loop-component : goal.invariant-loop-component
invariant-loop-component l =
    map plain_component l.components.items ++ map plain_component (drop l.component-index l.tree.components.items) ≡ map plain_component l.tree.components.items
