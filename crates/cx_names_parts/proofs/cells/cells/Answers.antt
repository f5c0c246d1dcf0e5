use Rattle.std.proofs.Common.{◌≡◌, ◌∷◌, ◌+◌, drop, map, subst}
use Rattle.cx_ast.specs.PlainTree.{plain_cell}
use Rattle.cx_numbering.specs.NameRules.{cell_breaks}
use Rattle.cx_names_scopes.specs.Scopes.{tree_in, part_in}
use Rattle.cx_names_parts.specs.Leading.{StandsIn}
use Rattle.cx_names_rules.proofs.FoundLemmas.{item_step}
use Rattle.cx_names_parts.proofs.CellLemmas.{stands_at}
use Rattle.cx_text.proofs.ListLaws.{drop_item}
use Rattle.cx_names_parts.proofs.cells.cells.Goals as goal

pub cell_break-requires-clause-stands : goal.cell_break-requires-clause-stands
cell_break-requires-clause-stands c =
    subst (λ items. StandsIn (map plain_cell items) (plain_cell c.cell-item.result)) c.deref-cell-items.ensures.value
    (stands_at c.deref-cell-items.result.now c.loop-cell.cell-index c.cell-item.result c.cell-item.is c.loop-cell-test.true)

pub loop-cell-preserved : goal.loop-cell-preserved
loop-cell-preserved c =
    let cells = c.deref-cell-items.result.now in
    let other : drop c.loop-cell.cell-index cells ≡ c.cell-item.result ∷ drop (c.loop-cell.cell-index + 1) cells = drop_item _ _ _ c.cell-item.is c.loop-cell-test.true in
    item_step (cell_breaks (tree_in c.args.scope.now) (part_in c.args.scope.now)) (plain_cell c.cell-item.result) (map plain_cell (drop (c.loop-cell.cell-index + 1) cells)) c.loop-cell.found c.cell_break.new.found _
    (rw other at c.loop-cell.invariant) c.in_ok-cell_break.ensures
