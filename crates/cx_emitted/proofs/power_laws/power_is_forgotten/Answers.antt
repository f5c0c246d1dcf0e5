use Rattle.std.proofs.Common.{◌∙◌}
use Rattle.cx_emitted.proofs.ResetLemmas.{forgets, word_stays}
use Rattle.cx_emitted.proofs.power_laws.power_is_forgotten.Goals as goal

pub returns-clause-runs : goal.returns-clause-runs
returns-clause-runs c source loaded last o is run none power has = forgets source is loaded run none power has

pub returns-clause-held : goal.returns-clause-held
returns-clause-held c source loaded power go look has i name index = word_stays source go look power i name index ∙ has i name index
