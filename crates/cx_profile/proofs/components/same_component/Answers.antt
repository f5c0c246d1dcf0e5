use Rattle.std.proofs.Common.{◌≡◌, ◌∙◌}
use Rattle.std.proofs.lemmas.Result.{IfOk-weaker}
use Rattle.cx_design.specs.PlainForms.{plain_component}
use Rattle.cx_profile.proofs.SameLemmas.{kept_same}
use Rattle.cx_profile.proofs.components.same_component.Goals as goal

pub returns : goal.returns
returns c = record { value = IfOk-weaker c.kept_component.result _ (λ made. plain_component made ≡ plain_component c.args.part.now) (λ made is. is ∙ kept_same (plain_component c.args.part.now)) c.kept_component.ensures.value }
