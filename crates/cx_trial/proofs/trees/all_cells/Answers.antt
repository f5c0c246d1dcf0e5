use Rattle.std.proofs.Common.{◌≡◌, [], ◌∷◌, ◌++◌, map, ap, ◌∙◌, arith}
use Rattle.cx_ast.specs.PlainTree.{plain_cell}
use Rattle.cx_trial.specs.TrialParts.{memory_cell}
use Rattle.cx_trial.proofs.LoopLemmas.{appended, begun, turned}
use Rattle.cx_trial.proofs.trees.all_cells.Goals as goal

pub loop-arm-init : goal.loop-arm-init
loop-arm-init c =
    let made : map plain_cell c.push.new.self.items ≡ map plain_cell c.new-cells.result.items ++ memory_cell ∷ [] =
    appended plain_cell c.new-cells.result.items c.push.new.self.items c.in_ok-memory_cell.field-0 _ c.in_ok-push.ensures.items c.in_ok-memory_cell.ensures in
    (begun _ (memory_cell ∷ []) (map plain_cell c.push.new.self.items) (made ∙ ap (λ xs. map plain_cell xs ++ memory_cell ∷ []) c.new-cells.ensures.items), omega arith)

pub loop-arm-preserved : goal.loop-arm-preserved
loop-arm-preserved c =
    let below = c.loop-arm-test.true in (
      turned _ (memory_cell ∷ []) (map plain_cell c.loop-arm.cells.items) (map plain_cell c.push_arm_cells.new.cells.items) c.loop-arm.arm c.loop-arm.invariant.0 c.in_ok-push_arm_cells.ensures,
      omega (arith, below),
    )
