-- The instances of an accepted design are sound.
use Rattle.std.proofs.Common.{ℕ, []}
use Rattle.cx_meaning.specs.Designs.{PlainDesign}
use Rattle.cx_meaning.specs.Instances.{Path, part_of, tree_of, instance_at}
use Rattle.cx_meaning.specs.Active.{entries}
use Rattle.cx_meaning.specs.Islands.{History, form_flat, active_in}
use Rattle.cx_text.specs.Members.{In}
use Rattle.cx_rules.specs.Accepted.{IsAccepted}
use Rattle.cx_rules.specs.Circles.{IsAcyclic}
use Rattle.cx_rules.specs.Items.{Visited, statements_in}
use Rattle.cx_rules.specs.Wellformed.{IsDesign}
use Rattle.cx_rules.proofs.CircleLemmas.{instance_acyclic, instance_group}
use Rattle.cx_frames.proofs.RuleLemmas.{kept_instance}
use Rattle.cx_frames.proofs.ShareLemmas.{none_shared}
use Rattle.cx_orders.proofs.Fits.{AllSound}

pub design_sound : (d : PlainDesign) → IsDesign d → IsAccepted d
    → ((path : Path) (v : Visited) (h : History) (t : ℕ) → In (statements_in (part_of (instance_at (tree_of d) path))) v → IsAcyclic (instance_at (tree_of d) path) (entries (active_in h t (form_flat (part_of (instance_at (tree_of d) path)) v.form 0 []))))
    → AllSound (tree_of d)
design_sound d design accepted acyclic path = record {
  kept = kept_instance d design accepted path;
  circles = instance_acyclic d accepted path;
  groups = λ g there. instance_group d accepted path g there;
  islands = λ v h t j. acyclic path v h t j;
  apart = λ v j c shared. none_shared d accepted path v j c shared;
}
