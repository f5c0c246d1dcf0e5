use Rattle.cx_control.proofs.DesignRuns.{design_runs}
use Rattle.cx_control.proofs.laws.machine_runs.Goals as goal

pub returns : goal.returns
returns c d design flat accepted =
    design_runs d (λ path. c.instances_keep_rules.ensures.rules d path design flat accepted) (λ path. c.instances_keep_rules.ensures.islands d path flat accepted) (λ words. c.loaded_start_is_settled.ensures d words)
