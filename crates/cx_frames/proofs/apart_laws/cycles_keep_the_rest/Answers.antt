use Rattle.cx_meaning.specs.Instances.{tree_of, instance_at}
use Rattle.cx_frames.proofs.EnableLemmas.{instance_rows_lawful, instance_bare}
use Rattle.cx_frames.proofs.CycleLemmas.{undriven_idles, cycle_keeps, cycle_faults_elsewhere, cycle_keeps_children, cycle_keeps_root}
use Rattle.cx_frames.proofs.apart_laws.cycles_keep_the_rest.Goals as goal

pub returns-clause-idles : goal.returns-clause-idles
returns-clause-idles c = λ d path held act s k row accepted undriven stands. undriven_idles (instance_at (tree_of d) path) (instance_rows_lawful d path) (instance_bare d accepted path) held act s k undriven row stands

pub returns-clause-kept : goal.returns-clause-kept
returns-clause-kept c = λ d path held act listed s after k accepted undriven settled goes. cycle_keeps (instance_at (tree_of d) path) (instance_rows_lawful d path) (instance_bare d accepted path) held act s k undriven listed after settled goes

pub returns-clause-elsewhere : goal.returns-clause-elsewhere
returns-clause-elsewhere c = λ d path held act listed s k p fault accepted undriven faults there. cycle_faults_elsewhere (instance_at (tree_of d) path) (instance_rows_lawful d path) (instance_bare d accepted path) held act s k undriven listed fault p faults there

pub returns-clause-children : goal.returns-clause-children
returns-clause-children c = λ i child held act listed s after k stands goes. cycle_keeps_children i held act listed s after goes k child stands

pub returns-clause-root : goal.returns-clause-root
returns-clause-root c = λ i held act listed s after goes. cycle_keeps_root i held act listed s after goes
