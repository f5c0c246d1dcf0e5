use Rattle.cx_meaning.specs.Instances.{tree_of, instance_at}
use Rattle.cx_frames.proofs.NextLemmas.{next_split, next_numbered}
use Rattle.cx_frames.proofs.arm_laws.next_arm.Goals as goal

pub returns-clause-split : goal.returns-clause-split
returns-clause-split c d path held v arms done later arm s cur next n o p design accepted stands form split first second =
    next_split d path held accepted
    (λ w i s1 t k agree. c.runs_agree.ensures d path held w s1 t k design accepted i agree)
    (λ statement s1 a b less. c.grows_with_budget.ensures (instance_at (tree_of d) path) held statement s1 a b less)
    v stands arms done later arm s cur next n o p form split first second

pub returns-clause-numbered : goal.returns-clause-numbered
returns-clause-numbered c d path held v list k arm s cur next n o p design accepted stands form at first second =
    next_numbered d path held accepted
    (λ w i s1 t m agree. c.runs_agree.ensures d path held w s1 t m design accepted i agree)
    (λ statement s1 a b less. c.grows_with_budget.ensures (instance_at (tree_of d) path) held statement s1 a b less)
    v stands list k arm s cur next n o p form at first second
