use Rattle.cx_meaning.specs.Instances.{tree_of, instance_at}
use Rattle.cx_frames.proofs.EnableLemmas.{instance_rows_lawful, instance_bare}
use Rattle.cx_frames.proofs.RunLemmas.{run_stays}
use Rattle.cx_frames.proofs.apart_laws.runs_keep_the_rest.Goals as goal

pub returns-clause-kept : goal.returns-clause-kept
returns-clause-kept c = λ d path held statement s after n t k accepted ends off settled. (run_stays (instance_at (tree_of d) path) (instance_rows_lawful d path) (instance_bare d accepted path) held statement s after n t ends).1 k (off, settled)

pub returns-clause-root : goal.returns-clause-root
returns-clause-root c = λ d path held statement s after n t accepted ends. (run_stays (instance_at (tree_of d) path) (instance_rows_lawful d path) (instance_bare d accepted path) held statement s after n t ends).0
