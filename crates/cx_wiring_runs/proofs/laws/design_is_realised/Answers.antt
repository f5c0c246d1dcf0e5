use Rattle.cx_wiring_runs.proofs.DesignNets.{net_realised}
use Rattle.cx_wiring_runs.proofs.laws.design_is_realised.Goals as goal

pub returns : goal.returns
returns c d design flat accepted =
    net_realised d design flat accepted (λ path. c.instances_keep_rules.ensures.rules d path design flat accepted) (λ path. c.instances_keep_rules.ensures.islands d path flat accepted) (λ words. c.loaded_start_is_settled.ensures d words)
