use Rattle.cx_meaning.specs.Instances.{tree_of, instance_at}
use Rattle.cx_rules.specs.Items.{Dynamic}
use Rattle.cx_rules.proofs.CircleLemmas.{instance_acyclic, instance_group}
use Rattle.cx_control.proofs.InstanceLemmas.{instance_ports, instance_outputs}
use Rattle.cx_control.proofs.TogetherLemmas.{together_acyclic, groups_acyclic, instance_unshared}
use Rattle.cx_rules.proofs.CirclesLemmas.{own_acyclic}
use Rattle.cx_control.proofs.flow_laws.together_is_acyclic.Goals as goal
use Rattle.cx_rules.proofs.FoundLemmas.{source_in}

pub returns : goal.returns
returns c = λ d path act design accepted together.
    let bare = own_acyclic (instance_at (tree_of d) path) (instance_acyclic d accepted path) in
    together_acyclic (instance_at (tree_of d) path) (instance_ports d design path)
    (λ x i n names. let r = source_in x.assign _ names in instance_outputs d accepted path x i r.0 r.1 n r.2)
    bare (groups_acyclic (instance_at (tree_of d) path) bare (instance_group d accepted path)) together Dynamic (instance_unshared d accepted path)
