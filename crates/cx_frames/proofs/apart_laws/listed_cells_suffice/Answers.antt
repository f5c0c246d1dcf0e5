use Rattle.cx_meaning.specs.Instances.{tree_of, instance_at}
use Rattle.cx_frames.proofs.EnableLemmas.{instance_rows_lawful, instance_bare}
use Rattle.cx_frames.proofs.CycleLemmas.{listed_suffice}
use Rattle.cx_frames.proofs.apart_laws.listed_cells_suffice.Goals as goal

pub returns : goal.returns
returns c = λ d path held act listed s accepted undriven settled. listed_suffice (instance_at (tree_of d) path) (instance_rows_lawful d path) (instance_bare d accepted path) held act s listed undriven settled
