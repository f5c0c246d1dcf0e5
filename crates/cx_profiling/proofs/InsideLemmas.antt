-- What the assignments of a design name are ports of their component, and nothing leads from these to another.
use Rattle.std.proofs.Common.{◌≡◌, ℕ, suc, ◌+◌, ◌<◌, ⊎_elim, length, Some, None, sym, ap, ◌∙◌, subst, arith}
use Rattle.cx_meaning.specs.declared.ports.PortRef.{PortRef}
use Rattle.cx_meaning.specs.Designs.{PlainComponent, PlainDesign, component_at}
use Rattle.cx_meaning.specs.Instances.{tree_within}
use Rattle.cx_meaning.specs.Active.{Active, Owned, owned, owned_by_groups}
use Rattle.cx_text.specs.Members.{In}
use Rattle.cx_meaning.proofs.DesignsLemmas.{group_there}
use Rattle.cx_meaning.proofs.InstancesLemmas.{instance_row}
use Rattle.cx_rules.specs.Footprints.{AssignNames, Leads}
use Rattle.cx_rules.specs.Ports.{component_of}
use Rattle.cx_rules.specs.Wellformed.{IsDesign, IsAssign, StandsIn}
use Rattle.cx_rules.proofs.ForeignLemmas.{sorted_among, owned_among, split, groups_among}
use Rattle.cx_rewrites.specs.Driving.{assigns_of}
use Rattle.cx_rewrites.proofs.ClosedLemmas.{is_closed}
use Rattle.cx_profiling.proofs.ListedCells.{at_component}
use Rattle.cx_profiling.proofs.PortLemmas.{IsInside, there_inside}
use Rattle.cx_rules.proofs.FoundLemmas.{source_in}

pub stands_in : (part : PlainComponent) (o : Owned) → In (assigns_of part) o → StandsIn part o.owner o.assign
stands_in part o i =
    ⊎_elim
    (λ j. let r = owned_among None part.always o j in subst (λ x. StandsIn part x o.assign) (sym r.0) r.1)
    (λ j. let r = groups_among 0 part.groups o j in
    let e : 0 + r.number ≡ r.number = omega arith in
    subst (λ x. StandsIn part x o.assign) (sym (r.owner ∙ ap Some e)) (group_there part r.number o.assign r.stands, r.stands))
    (split (owned None part.always) (owned_by_groups 0 part.groups) o i)

module _ (d : PlainDesign) (design : IsDesign d) (k : ℕ) (within : k < length d.components) where
  known : (o : Owned) → In (assigns_of (component_at d k)) o → IsAssign (component_of d k) o.owner o.assign
  known o i = (design.components k within).assigns o.owner o.assign (stands_in (component_at d k) o i)

  pub targets_inside : (o : Owned) → In (assigns_of (component_at d k)) o → IsInside d (component_at d k) o.assign.target
  targets_inside o i = there_inside d k within o.assign.target (known o i).target

  pub names_inside : (o : Owned) → In (assigns_of (component_at d k)) o → (q : PortRef) → AssignNames o.assign q → IsInside d (component_at d k) q
  names_inside o i q n =
      let r = source_in o.assign q n in
      subst (IsInside d (component_at d k)) r.2 (there_inside d k within r.0.port ((known o i).sources r.0 r.1))

  -- NOTHING LEADS OUT, in any tree of the component
  pub inside_closed : (m : ℕ) (act : Active) (p q : PortRef) → IsInside d (component_at d k) p → Leads (tree_within d (suc m) k) act p q → IsInside d (component_at d k) q
  inside_closed m act p q here leads =
      is_closed (tree_within d (suc m) k) act (IsInside d (component_at d k))
      (λ o n r i active target names. names_inside o (sorted_among (assigns_of (component_at d k)) o i) r names)
      (λ c n j row at side reads h. (h.0, λ cell e stands kind. absurd (instance_row (tree_within d m e) row (sym (at_component (tree_within d m) (component_at d k).cells c cell e stands kind) ∙ at))))
      p q here leads
