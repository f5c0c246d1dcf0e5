use Rattle.std.proofs.Common.{◌≡◌, ◌++◌, drop, length, map}
use Rattle.cx_ast.specs.PlainTree as written
use Rattle.cx_design.specs.PlainForms.{plain_component}
use Rattle.cx_numbering.specs.DesignOf.{component_of}
use Rattle.cx_names.proofs.designs.components.Given as goal

-- the components so far, and those that are left, are all
abbrev pub invariant-loop-number : goal.invariant-loop-number
invariant-loop-number l = record {
  end : l.number-end ≡ length l.tree.components.items;
  all : map plain_component l.all.items ++ map (component_of (written.plain_tree l.tree)) (map written.plain_component (drop l.number l.tree.components.items)) ≡ map (component_of (written.plain_tree l.tree)) (map written.plain_component l.tree.components.items);
}
