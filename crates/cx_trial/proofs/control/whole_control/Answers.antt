use Rattle.std.proofs.Common.{◌≡◌, [], ◌∷◌, ◌++◌, codes, List, map, ap, ◌∙◌, arith}
use Rattle.cx_ast.specs.PlainStatements.{PlainStatement, plain_statement}
use Rattle.cx_trial.specs.TrialControl as trial
use Rattle.cx_trial.proofs.LoopLemmas.{appended, begun, pushed}
use Rattle.cx_trial.proofs.control.whole_control.Goals as goal

pub loop-arm-init : goal.loop-arm-init
loop-arm-init c =
    let made : map plain_statement c.push.new.self.items ≡ map plain_statement c.new-parts.result.items ++ trial.all_arms c.args.seed ∷ [] =
    appended plain_statement c.new-parts.result.items c.push.new.self.items c.in_ok-all_arms.field-0 _ c.in_ok-push.ensures.items c.in_ok-all_arms.ensures in
    (begun _ (trial.all_arms c.args.seed ∷ []) (map plain_statement c.push.new.self.items) (made ∙ ap (λ xs. map plain_statement xs ++ trial.all_arms c.args.seed ∷ []) c.new-parts.ensures.items), omega arith)

pub loop-arm-preserved : goal.loop-arm-preserved
loop-arm-preserved c =
    let below = c.loop-arm-test.true in (
      pushed plain_statement _ (trial.all_arms c.args.seed ∷ []) c.loop-arm.parts.items c.push-in-loop-arm.new.self.items c.enable.result c.loop-arm.arm
          c.loop-arm.invariant.0 c.in_ok-push-2.ensures.items (ap (λ s. s ∷ []) (c.enable.ensures ∙ ap trial.enable c.in_ok-indexed.ensures)),
      omega (arith, below),
    )
