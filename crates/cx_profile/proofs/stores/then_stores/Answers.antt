use Rattle.std.proofs.Common.{◌+◌, ◌∷◌, ◌∙◌, [], ap}
use Rattle.cx_meaning.specs.Designs.{Enable, Placed}
use Rattle.cx_design.specs.PlainForms.{plain_statement}
use Rattle.cx_profile.proofs.StepLemmas.{range_seen}
use Rattle.cx_profile.proofs.stores.then_stores.Goals as goal

pub loop-number-preserved : goal.loop-number-preserved
loop-number-preserved c =
    range_seen plain_statement (λ i. Placed (Enable (c.args.first + i)) c.args.place) (plain_statement c.args.statement ∷ []) c.loop-number.parts.items c.push-in-loop-number.new.self.items c.enable.result c.loop-number.number
    c.in_ok-push-2.ensures.items c.loop-number.invariant (c.enable.ensures.value ∙ ap (λ g. Placed (Enable g) c.args.place) c.in_ok-sum.ensures.value)
