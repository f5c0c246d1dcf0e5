use Rattle.std.proofs.Common.{◌≡◌, None, drop, flat_map, map}
use Rattle.cx_ast.specs.PlainTree.{plain_wire}
use Rattle.cx_numbering.specs.Names.{always_in}
use Rattle.cx_numbering.specs.NameRules.{assign_breaks}
use Rattle.cx_names_scopes.specs.Scopes.{tree_in, part_in}
use Rattle.cx_names_rules.specs.Found.{first_of}
use Rattle.cx_names_rules.proofs.assigns.always.Given as goal

-- the first of the breaks so far and of those behind is the first of all
abbrev pub invariant-loop-wire : goal.invariant-loop-wire
invariant-loop-wire l = first_of l.found (flat_map (assign_breaks (tree_in l.scope) (part_in l.scope)) (map (λ a. record { group = None; assign = a }) (always_in (map plain_wire (drop l.wire-index l.wires))))) ≡ first_of l.initial.found (flat_map (assign_breaks (tree_in l.scope) (part_in l.scope)) (map (λ a. record { group = None; assign = a }) (always_in (map plain_wire l.wires))))
