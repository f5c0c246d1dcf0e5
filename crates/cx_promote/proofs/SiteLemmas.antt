-- What stands in the design for a component of its tree.
use Rattle.std.proofs.Common.{◌≡◌, ℕ, zero, suc, ◌<◌, List, [], ◌∷◌, get_or, length, map, Option, Some, sym, ap, ◌∙◌, subst}
use Rattle.std.specs.Prelude.{slice_get}
use Rattle.cx_text.proofs.ListLaws.{there_below, length-map}
use Rattle.cx_meaning.specs.Designs.{no_component, component_at}
use Rattle.cx_numbering.specs.Names.{groups_in}
use Rattle.cx_numbering.specs.DesignOf.{component_of, control_invokes, first, group_of, invoke_groups}
use Rattle.cx_design.specs.PlainDesigns.{plain_design}
use Rattle.cx_design.specs.PlainForms as design
use Rattle.cx_promotion.specs.Promotable.{promotable}
use Rattle.cx_promotion.specs.Rewriting.{length_of}
use Rattle.cx_promote.specs.declared.sites.Site.{Site}
use Rattle.cx_promote.specs.Lengths.{Begins}
use Rattle.cx_promote.specs.Sites.{IsSite, instance_at, part_at, tree_at}
use Rattle.cx_promote.proofs.ListLemmas.{begins_map}

got : {A B : Type 0} (f : A → B) (xs : List A) (k : ℕ) (x : A) (d : B) → slice_get xs k ≡ Some x → get_or (map f xs) k d ≡ f x
got f [] k x d e = absurd cc
got f (y ∷ xs) zero x d e = let same : y ≡ x = cc in ap f same
got f (y ∷ xs) (suc k) x d e = got f xs k x d e

module _ (site : Site) (is : IsSite site) where
  pub site_component : component_at (plain_design site.design.now) site.number ≡ component_of (tree_at site) (part_at site)
  site_component = ap (λ d. component_at d site.number) is.its ∙ got (component_of (tree_at site)) (tree_at site).components site.number (part_at site) no_component is.part

  pub site_within : site.number < length site.design.now.components.items
  site_within =
      subst (λ n. site.number < n)
      (sym (length-map (component_of (tree_at site)) (tree_at site).components) ∙ sym (ap (λ d. length d.components) is.its) ∙ length-map design.plain_component site.design.now.components.items)
      (there_below (tree_at site).components site.number (part_at site) is.part)

  -- its groups are those of the wires, and then those of invokes
  pub site_groups : Begins (group_of (tree_at site) (part_at site)) (component_at (plain_design site.design.now) site.number).groups (groups_in (part_at site).wires)
  site_groups =
      (invoke_groups (tree_at site) (part_at site) (first (tree_at site) (part_at site)) (control_invokes (tree_at site) (part_at site) (part_at site).control), ap (λ part. part.groups) site_component)

  pub site_lengths : (lengths : List (Option ℕ)) → lengths ≡ map (promotable (instance_at site)) (component_at (plain_design site.design.now) site.number).groups
      → Begins (length_of (tree_at site) (part_at site) (instance_at site)) lengths (groups_in (part_at site).wires)
  site_lengths lengths e =
      subst (λ ls. Begins (length_of (tree_at site) (part_at site) (instance_at site)) ls (groups_in (part_at site).wires)) (sym e)
      (begins_map (promotable (instance_at site)) (group_of (tree_at site) (part_at site)) (component_at (plain_design site.design.now) site.number).groups (groups_in (part_at site).wires) site_groups)
