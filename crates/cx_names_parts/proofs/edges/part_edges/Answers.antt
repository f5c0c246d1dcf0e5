use Rattle.std.proofs.Common.{◌≡◌, ◌∷◌, ◌+◌, drop, map}
use Rattle.cx_ast.specs.PlainTree.{plain_cell}
use Rattle.cx_names_scopes.specs.Scopes.{tree_in}
use Rattle.cx_names_parts.proofs.Steps.{cell_step}
use Rattle.cx_text.proofs.ListLaws.{drop_item}
use Rattle.cx_names_parts.proofs.edges.part_edges.Goals as goal

pub loop-cell-preserved : goal.loop-cell-preserved
loop-cell-preserved c =
    let cells = c.deref-cell-items.result.now in
    let other : drop c.loop-cell.cell-index cells ≡ c.cell-item.result ∷ drop (c.loop-cell.cell-index + 1) cells = drop_item _ _ _ c.cell-item.is c.loop-cell-test.true in
    cell_step (tree_in c.args.scope.now) _ _ (plain_cell c.cell-item.result) (map plain_cell (drop (c.loop-cell.cell-index + 1) cells)) _ c.in_ok-add_edge.ensures (rw other at c.loop-cell.invariant)
