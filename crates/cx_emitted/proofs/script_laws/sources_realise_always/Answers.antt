use Rattle.cx_emitted.proofs.AlwaysLemmas.{realised_always}
use Rattle.cx_emitted.proofs.script_laws.sources_realise_always.Goals as goal

pub returns : goal.returns
returns c d design flat accepted sound =
    realised_always d design flat accepted (λ path. c.instances_keep_rules.ensures.rules d path design flat accepted) (λ path. c.instances_keep_rules.ensures.islands d path flat accepted) sound
