use Rattle.cx_meaning.specs.Designs.{Placed}
use Rattle.cx_meaning.specs.Instances.{part_of, tree_of, instance_at}
use Rattle.cx_rules.specs.Footprints.{Reads}
use Rattle.cx_rules.proofs.CircleLemmas.{instance_acyclic, instance_group}
use Rattle.cx_frames.proofs.RuleLemmas.{kept_instance}
use Rattle.cx_frames.proofs.StatementFrames.{statement_frames}
use Rattle.cx_frames.proofs.arm_laws.runs_agree.Goals as goal

pub returns : goal.returns
returns c d path held v s t n design accepted stands agree =
    statement_frames (instance_at (tree_of d) path) held (kept_instance d design accepted path) (instance_acyclic d accepted path) (λ g there. instance_group d accepted path g there)
    (λ w h k i. c.accepted_entries_are_acyclic.ensures d path w h k design accepted i) v stands
    (Reads (part_of (instance_at (tree_of d) path)) (Placed v.form v.place)) (c.reads_are_closed.ensures (part_of (instance_at (tree_of d) path)) (Placed v.form v.place)) s t n agree
