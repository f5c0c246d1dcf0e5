use Rattle.cx_meaning.specs.Instances.{instance_at, tree_of}
use Rattle.cx_wiring_runs.proofs.ListedControl.{control_lowers}
use Rattle.cx_wiring_runs.proofs.laws.lowering_keeps_what_runs.Goals as goal

pub returns : goal.returns
returns c = λ d path flat accepted.
    control_lowers (instance_at (tree_of d) path) (c.instances_keep_rules.ensures.islands d path flat accepted) (λ v stands. c.accepted_has_no_empty_if.ensures d path v flat accepted stands)
