use Rattle.std.proofs.Common.{◌≡◌, Some, drop, flat_map, map}
use Rattle.cx_ast.specs.PlainTree.{plain_assign}
use Rattle.cx_numbering.specs.NameRules.{assign_breaks}
use Rattle.cx_names_scopes.specs.Scopes.{tree_in, part_in}
use Rattle.cx_names_rules.specs.Found.{first_of}
use Rattle.cx_names_rules.proofs.assigns.group_assigns.Given as goal

-- the first of the breaks so far and of those behind is the first of all
abbrev pub invariant-loop-item : goal.invariant-loop-item
invariant-loop-item l = first_of l.found (flat_map (assign_breaks (tree_in l.scope) (part_in l.scope)) (map (λ a. record { group = Some l.group.name; assign = a }) (map plain_assign (drop l.item-index l.item-items)))) ≡ first_of l.initial.found (flat_map (assign_breaks (tree_in l.scope) (part_in l.scope)) (map (λ a. record { group = Some l.group.name; assign = a }) (map plain_assign l.item-items)))
