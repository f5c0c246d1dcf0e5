use Rattle.std.proofs.Common.{◌≡◌, drop, flat_map, length, map}
use Rattle.cx_ast.specs.PlainTree.{plain_component, plain_tree}
use Rattle.cx_numbering.specs.NameRules.{component_breaks}
use Rattle.cx_names_rules.specs.Found.{first_of}
use Rattle.cx_names_parts.proofs.components.components.Given as goal

-- the first of the breaks so far and of those behind is the first of all
abbrev pub invariant-loop-number : goal.invariant-loop-number
invariant-loop-number l = record {
  end : l.number-end ≡ length l.tree.components.items;
  behind : first_of l.found (flat_map (component_breaks (plain_tree l.tree)) (drop l.number (map plain_component l.tree.components.items))) ≡ first_of l.initial.found (flat_map (component_breaks (plain_tree l.tree)) (map plain_component l.tree.components.items));
}
