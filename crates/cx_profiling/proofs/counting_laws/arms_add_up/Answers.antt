use Rattle.std.proofs.Common.{ap}
use Rattle.cx_rewrites.proofs.TallyLemmas.{same_numbers}
use Rattle.cx_profiling.proofs.CountAgreement.{next_adds}
use Rattle.cx_profiling.proofs.counting_laws.arms_add_up.Goals as goal

pub returns : goal.returns
returns c d path held v list k arm s cur n m o design accepted stands form at ran q g =
    ap (λ τ. τ q g)
    (next_adds d path held accepted
    (λ w i s1 t j agree. same_numbers _ _ (λ r h. c.counts_agree.ensures d path held w s1 t j design accepted i agree r h))
    v list k s cur n m o stands form ran arm at)
