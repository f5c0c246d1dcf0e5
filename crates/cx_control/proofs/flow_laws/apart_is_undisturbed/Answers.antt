use Rattle.cx_meaning.specs.Instances.{tree_of, instance_at}
use Rattle.cx_control.proofs.InstanceLemmas.{instance_ports, instance_outputs}
use Rattle.cx_control.proofs.LeadsLemmas.{apart_assigns, apart_holes}
use Rattle.cx_control.proofs.flow_laws.apart_is_undisturbed.Goals as goal
use Rattle.cx_rules.proofs.FoundLemmas.{source_in}

pub returns-clause-assigns : goal.returns-clause-assigns
returns-clause-assigns c = λ d path s act go p cell q o design accepted apart of reaches stands target.
    apart_assigns (instance_at (tree_of d) path) s act go apart (instance_ports d design path)
    (λ x i n names. let r = source_in x.assign _ names in instance_outputs d accepted path x i r.0 r.1 n r.2) p of cell q o reaches stands target

pub returns-clause-holes : goal.returns-clause-holes
returns-clause-holes c = λ d path s act go p g design accepted apart of reaches.
    apart_holes (instance_at (tree_of d) path) s act go apart (instance_ports d design path)
    (λ x i n names. let r = source_in x.assign _ names in instance_outputs d accepted path x i r.0 r.1 n r.2) p of g reaches
