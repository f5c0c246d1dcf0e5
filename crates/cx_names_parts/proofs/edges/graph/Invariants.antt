use Rattle.std.proofs.Common.{◌≡◌, ◌++◌, drop, map, length}
use Rattle.cx_ast.specs.PlainTree.{plain_component, plain_tree}
use Rattle.cx_graphs.specs.Graphs.{edges_of}
use Rattle.cx_names_parts.specs.Leading.{numbers_in, component_edges}
use Rattle.cx_names_parts.proofs.edges.graph.Given as goal

-- the edges so far, with those of the components behind, are all
abbrev pub invariant-loop-number : goal.invariant-loop-number
invariant-loop-number l = record {
  end : l.number-end ≡ length l.tree.components.items;
  behind : edges_of l.graph.items ++ map (λ part. numbers_in (plain_tree l.tree) part.cells) (drop l.number (map plain_component l.tree.components.items)) ≡ component_edges (plain_tree l.tree);
}
