use Rattle.std.proofs.Common.{ap}
use Rattle.cx_meaning.specs.Instances.{Instance, instance_at, tree_of}
use Rattle.cx_rules.specs.Circles.{AreAcyclic}
use Rattle.cx_rules.proofs.CircleLemmas.{instance_acyclic, instance_group}
use Rattle.cx_rules.proofs.CirclesLemmas.{own_acyclic, cells_below}
use Rattle.cx_frames.proofs.CircleFrames.{group_acyclic}
use Rattle.cx_frames.proofs.InputRules.{Owns, owns_instance}
use Rattle.cx_profiling.proofs.CountInputs.{control_counts_own}
use Rattle.cx_profiling.proofs.counting_laws.own_inputs_suffice_for_counts.Goals as goal

pub returns : goal.returns
returns c d path held other s n design accepted same q g =
    let i : Instance = instance_at (tree_of d) path in
    let owns : Owns i = owns_instance d design path in
    let circles : AreAcyclic i = instance_acyclic d accepted path in
    ap (λ τ. τ q g)
    (control_counts_own i held other same owns.sources (cells_below i circles) (own_acyclic i circles)
    (λ h. group_acyclic i circles (λ k there. instance_group d accepted path k there) h)
    (λ v j. record { tests = λ p e. owns.tests v p j e; acyclic = λ h t. c.accepted_entries_are_acyclic.ensures d path v h t design accepted j }) s n)
