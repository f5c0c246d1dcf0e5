use Rattle.std.proofs.Common.{ap}
use Rattle.cx_meaning.specs.Designs.{PlainComponent, Placed}
use Rattle.cx_meaning.specs.Instances.{Instance, part_of, tree_of, instance_at}
use Rattle.cx_rules.specs.Footprints.{Reads}
use Rattle.cx_rules.proofs.CircleLemmas.{instance_acyclic, instance_group}
use Rattle.cx_frames.proofs.RuleLemmas.{kept_instance}
use Rattle.cx_profiling.proofs.CountAgreement.{statement_agrees}
use Rattle.cx_profiling.proofs.counting_laws.counts_agree.Goals as goal

pub returns : goal.returns
returns c d path held v s t n design accepted stands agree q g =
    let i : Instance = instance_at (tree_of d) path in
    let part : PlainComponent = part_of i in
    ap (λ τ. τ q g)
    (statement_agrees i held (kept_instance d design accepted path) (instance_acyclic d accepted path) (λ h there. instance_group d accepted path h there)
    (λ w h k j. c.accepted_entries_are_acyclic.ensures d path w h k design accepted j) v stands
    (Reads part (Placed v.form v.place)) (c.reads_are_closed.ensures part (Placed v.form v.place)) s t n agree)
