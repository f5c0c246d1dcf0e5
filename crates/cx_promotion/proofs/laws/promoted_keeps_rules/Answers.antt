use Rattle.cx_promotion.proofs.RulesMade.{design_is_accepted}
use Rattle.cx_promotion.proofs.laws.promoted_keeps_rules.Goals as goal

pub returns : goal.returns
returns c = design_is_accepted
