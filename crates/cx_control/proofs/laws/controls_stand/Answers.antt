use Rattle.cx_control.proofs.DesignRuns.{codes_at, keeps_at}
use Rattle.cx_control.proofs.laws.controls_stand.Goals as goal

pub returns-clause-codes : goal.returns-clause-codes
returns-clause-codes c = λ d path design flat accepted.
    codes_at d (λ below. c.instances_keep_rules.ensures.rules d below design flat accepted) (λ below. c.instances_keep_rules.ensures.islands d below flat accepted) path

pub returns-clause-keeps : goal.returns-clause-keeps
returns-clause-keeps c = λ d path design flat accepted.
    keeps_at d (λ below. c.instances_keep_rules.ensures.rules d below design flat accepted) (λ below. c.instances_keep_rules.ensures.islands d below flat accepted) path
