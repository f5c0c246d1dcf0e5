-- THE TREES of an accepted design and of the shared one stand beside each other, instance by instance; and nothing leads in a circle.
use Rattle.std.proofs.Common.{ℕ, zero, suc, ◌<◌, length, refl, subst}
use Rattle.cx_text.proofs.OptionLaws.{none_some}
use Rattle.cx_meaning.specs.declared.ports.PortRef.TheVariants as ports
use Rattle.cx_meaning.specs.Designs.{PlainDesign}
use Rattle.cx_meaning.specs.Instances.{Instance, Node, cells_of, part_of, tree_within}
use Rattle.cx_meaning.specs.Active.{nothing, group}
use Rattle.cx_meaning.specs.Sights.{unheld}
use Rattle.cx_meaning.proofs.DesignsLemmas.{same_part}
use Rattle.cx_rules.specs.Accepted.{IsAccepted}
use Rattle.cx_rules.specs.Circles.{IsAcyclic, AreAcyclic, AcyclicBelow}
use Rattle.cx_rules.specs.Wellformed.{IsDesign}
use Rattle.cx_rules.proofs.CircleLemmas.{within_acyclic, within_group}
use Rattle.cx_rules.proofs.CirclesLemmas.{own_acyclic}
use Rattle.cx_frames.proofs.CircleFrames.{group_acyclic}
use Rattle.cx_sharing.specs.SharedDesign.{shared_design}
use Rattle.cx_sharing.proofs.UsedLemmas.{Covers, UsedMeet}
use Rattle.cx_sharing.proofs.TwinLemmas.{IsBeside, IsTwin, leaf_twin, tree_twin}
use Rattle.cx_sharing.proofs.TwinStates.{twin_renumbered, start_state}
use Rattle.cx_sharing.proofs.SharedSights.{acyclic_there, sees_there}
use Rattle.cx_sharing.proofs.SharedLeaves.{IsFit}

-- A SHARED INSTANCE stands beside its instance
circles_of : (i : Instance) → IsAcyclic i nothing → AcyclicBelow (cells_of i) → AreAcyclic i
circles_of (Node part cells) bare below = (bare, below)

pub beside_of : (i j : Instance) → IsTwin i j → IsFit i → IsBeside i j
beside_of i j twin fit = record {
  part = twin.part;
  first_circles = circles_of i fit.bare twin.first_below;
  circles = circles_of j (acyclic_there i j twin nothing nothing (λ g. refl) (λ c. ⊥) none_covered none_meet fit.bare) twin.below;
  tree = twin_renumbered i j twin;
  starts = start_state i j twin;
  outputs = λ s z n x stands sees. sees_there i j twin nothing nothing (λ g. refl) (λ c. ⊥) none_covered none_meet unheld s z stands (λ c. refl) fit.bare (ports.Output n) x tt sees;
}
  where
    none_covered : Covers (part_of i) (λ c. ⊥) nothing
    none_covered g k c acts uses = none_some k acts

    none_meet : UsedMeet (part_of i) (λ c. ⊥)
    none_meet x y first second a b = absurd a

-- IN THE TREE OF AN ACCEPTED DESIGN nothing leads in a circle
module _ (d : PlainDesign) (design : IsDesign d) (accepted : IsAccepted d) where
  pub fit_tree : (m k : ℕ) → IsFit (tree_within d m k)
  fit_tree m k =
      let i : Instance = tree_within d m k in
      let circles : AreAcyclic i = within_acyclic d accepted m k in
      let bare : IsAcyclic i nothing = own_acyclic i circles in
      let alone : (g : ℕ) → g < length (part_of i).groups → IsAcyclic i (group g) = λ g there. within_group d accepted m k g (subst (λ part. g < length part.groups) (same_part d m k) there) in
      record {
        bare = bare;
        groups = group_acyclic i circles alone;
      }

  -- THE TREES STAND BESIDE EACH OTHER
  pub tree_beside : (m k : ℕ) → IsBeside (tree_within d m k) (tree_within (shared_design d) m k)
  tree_beside zero k = beside_of (tree_within d zero k) (tree_within (shared_design d) zero k) (leaf_twin d k) (fit_tree zero k)
  tree_beside (suc m) k = beside_of (tree_within d (suc m) k) (tree_within (shared_design d) (suc m) k) (tree_twin d m k (λ n. tree_beside m n)) (fit_tree (suc m) k)

  pub tree_is_twin : (m k : ℕ) → IsTwin (tree_within d m k) (tree_within (shared_design d) m k)
  tree_is_twin zero k = leaf_twin d k
  tree_is_twin (suc m) k = tree_twin d m k (λ n. tree_beside m n)
