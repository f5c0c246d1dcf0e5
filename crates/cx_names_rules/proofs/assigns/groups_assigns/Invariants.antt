use Rattle.std.proofs.Common.{◌≡◌, Some, drop, flat_map, map}
use Rattle.cx_ast.specs.PlainTree.{plain_wire}
use Rattle.cx_numbering.specs.Names.{groups_in}
use Rattle.cx_numbering.specs.NameRules.{assign_breaks}
use Rattle.cx_names_scopes.specs.Scopes.{tree_in, part_in}
use Rattle.cx_names_rules.specs.Found.{first_of}
use Rattle.cx_names_rules.proofs.assigns.groups_assigns.Given as goal

-- the first of the breaks so far and of those behind is the first of all
abbrev pub invariant-loop-wire : goal.invariant-loop-wire
invariant-loop-wire l = first_of l.found (flat_map (assign_breaks (tree_in l.scope) (part_in l.scope)) (flat_map (λ g. map (λ a. record { group = Some g.name; assign = a }) g.assigns) (groups_in (map plain_wire (drop l.wire-index l.wires))))) ≡ first_of l.initial.found (flat_map (assign_breaks (tree_in l.scope) (part_in l.scope)) (flat_map (λ g. map (λ a. record { group = Some g.name; assign = a }) g.assigns) (groups_in (map plain_wire l.wires))))
