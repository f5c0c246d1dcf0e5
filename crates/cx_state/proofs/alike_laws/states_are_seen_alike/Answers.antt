use Rattle.cx_meaning.specs.Instances.{tree_of, instance_at}
use Rattle.cx_state.specs.States.{under_path}
use Rattle.cx_state.proofs.AlikeLemmas.{seen_alike, alike_at}
use Rattle.cx_state.proofs.StandLemmas.{stand_alike}
use Rattle.cx_state.proofs.alike_laws.states_are_seen_alike.Goals as goal

pub returns : goal.returns
returns c d rows s t n path held act p state hs ht at =
    seen_alike (instance_at (tree_of d) path) held act (under_path path s) (under_path path t) (alike_at (tree_of d) path s t (stand_alike d rows s t state hs ht)) p
