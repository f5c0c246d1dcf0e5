use Rattle.std.proofs.Common.{◌≡◌, ◌∷◌, ◌+◌, [], drop, map, refl}
use Rattle.std.proofs.lemmas.List.{drop_all}
use Rattle.cx_ast.specs.PlainTree.{plain_cell}
use Rattle.cx_numbering.specs.NameRules.{named}
use Rattle.cx_names_rules.proofs.FoundLemmas.{sees_start, sees_step}
use Rattle.cx_text.proofs.ListLaws.{drop_item}
use Rattle.cx_names_rules.proofs.duplicates.see_cells.Goals as goal

pub loop-cell-init : goal.loop-cell-init
loop-cell-init c = λ before sees. sees_start _ _ _ _ before sees refl

pub loop-cell-preserved : goal.loop-cell-preserved
loop-cell-preserved c = λ before sees.
    let other : drop c.loop-cell.cell-index c.args.cells.now ≡ c.cell-item.result ∷ drop (c.loop-cell.cell-index + 1) c.args.cells.now = drop_item _ _ _ c.cell-item.is c.loop-cell-test.true in
    sees_step before (map (λ c. named c.name c.place) (map plain_cell c.args.cells.now)) (map (λ c. named c.name c.place) (map plain_cell (drop (c.loop-cell.cell-index + 1) c.args.cells.now))) (named c.cell-item.result.name c.cell-item.result.place) _ c.loop-cell.found c.see.new.found c.loop-cell.seen c.see.new.seen
    (rw other at (c.loop-cell.invariant before sees)) c.in_ok-see.ensures

pub returns : goal.returns
returns c = λ before sees.
    let none : drop c.loop-cell.cell-index c.args.cells.now ≡ [] = drop_all _ _ c.loop-cell-test.false in
    rw none at (c.loop-cell.invariant before sees)
