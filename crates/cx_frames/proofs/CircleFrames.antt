-- Where nothing leads in a circle under one active set, nothing does under another that has the same assignments.
use Rattle.std.proofs.Common.{◌≡◌, ℕ, ◌<◌, ◌≤◌, inl, inr, ⊎_elim, Bool, true, false, Option, Some, None, List, [], ◌∷◌, length, refl, sym, ap, ◌∙◌, subst}
use Rattle.std.specs.Prelude.{if◌then◌else◌, nat_eq}
use Rattle.std.proofs.lemmas.Bool.{cases_lt, eqb-true}
use Rattle.std.proofs.lemmas.List.{get_or_past}
use Rattle.cx_text.specs.Members.{In}
use Rattle.cx_prim.specs.declared.ports.Side.{Side}
use Rattle.cx_prim.specs.declared.ports.Side.TheVariants as sides
use Rattle.cx_prim.specs.Rows.{Row}
use Rattle.cx_meaning.specs.declared.ports.PortRef.{PortRef}
use Rattle.cx_meaning.specs.declared.ports.PortRef.TheVariants as ports
use Rattle.cx_meaning.specs.Rows.{side_of}
use Rattle.cx_meaning.specs.Designs.{PlainAssign, PlainComponent, group_at, no_group}
use Rattle.cx_meaning.specs.Instances.{Instance, At, Nothing, OfRow, OfInstance, cell_at, cells_of, part_of}
use Rattle.cx_meaning.specs.Active.{Active, nothing, group, capture, Owned, source_order, offset_of, if_acting, if_target, acting, same_port, drivers}
use Rattle.cx_meaning.specs.Sights.{PartPort, Go, AnInput, AnOutput, ItsDone, part_port}
use Rattle.cx_rules.specs.Footprints.{Mentions, SideLeads, PartLeads, CellLeads, Leads, Depends, at_once, by_way_of}
use Rattle.cx_rules.specs.Circles.{IsAcyclic, AreAcyclic}
use Rattle.cx_rules.proofs.CirclesLemmas.{own_acyclic}
use Rattle.cx_rules.proofs.ForeignLemmas.{OwnerOf, continuous, of_group, owner_of}

acting_same : (act other : Active) (p : PortRef) (list : List Owned) → ((o : Owned) → In list o → offset_of act o.owner ≡ offset_of other o.owner) → acting other p list ≡ acting act p list
acting_same act other p [] h = refl
acting_same act other p (o ∷ rest) h = one (same_port o.assign.target p) (h o (inl refl)) (acting_same act other p rest (λ x i. h x (inr i)))
  where
    one : (b : Bool) → offset_of act o.owner ≡ offset_of other o.owner → acting other p rest ≡ acting act p rest → if_target b other o (acting other p rest) ≡ if_target b act o (acting act p rest)
    one true e f = ap (λ k. if_acting k o.assign (acting other p rest)) (sym e) ∙ ap (if_acting (offset_of act o.owner) o.assign) f
    one false e f = f

module _ (i : Instance) (act other : Active) (h : (o : Owned) → In (source_order (part_of i)) o → offset_of act o.owner ≡ offset_of other o.owner) where
  same_mentions : (p q : PortRef) → Mentions (drivers (part_of i) other p) q → Mentions (drivers (part_of i) act p) q
  same_mentions p q m = subst (λ x. Mentions x q) (acting_same act other p (source_order (part_of i)) h) m

  side_leads : (c p : ℕ) (q : PortRef) (row : Row) (side : Side) → SideLeads (part_of i) other row c p side q → SideLeads (part_of i) act row c p side q
  side_leads c p q row sides.Enable l = same_mentions (ports.Cell c p) q l
  side_leads c p q row sides.Plain l = same_mentions (ports.Cell c p) q l
  side_leads c p q row sides.Output l = l
  side_leads c p q row sides.Registered l = l

  part_leads : (c p : ℕ) (q : PortRef) (port : PartPort) → PartLeads (part_of i) other c p port q → PartLeads (part_of i) act c p port q
  part_leads c p q Go l = same_mentions (ports.Cell c p) q l
  part_leads c p q (AnInput n) l = same_mentions (ports.Cell c p) q l
  part_leads c p q (AnOutput n) l = l
  part_leads c p q ItsDone l = l

  cell_leads : (c p : ℕ) (q : PortRef) (at : At) → CellLeads (part_of i) other c p at q → CellLeads (part_of i) act c p at q
  cell_leads c p q Nothing l = l
  cell_leads c p q (OfRow row) l = side_leads c p q row (side_of row p) l
  cell_leads c p q (OfInstance child) l = part_leads c p q (part_port (part_of child) p) l

  same_leads : (p q : PortRef) → Leads i other p q → Leads i act p q
  same_leads (ports.Cell c p) q l = cell_leads c p q (cell_at (cells_of i) c) l
  same_leads (ports.Input n) q l = l
  same_leads (ports.Output n) q l = same_mentions (ports.Output n) q l
  same_leads (ports.Done g) q l = same_mentions (ports.Done g) q l
  same_leads (ports.Literal w v) q l = l

  same_depends : {p q : PortRef} → Depends i other p q → Depends i act p q
  same_depends {p} {q} (at_once l) = at_once (same_leads p q l)
  same_depends {p} {q} (by_way_of r l d) = by_way_of r (same_leads p r l) (same_depends d)

  pub same_circles : IsAcyclic i act → IsAcyclic i other
  same_circles acyclic (p, d) = acyclic (p, same_depends d)

-- the capture cycle has the assignments of its group
pub capture_acyclic : (i : Instance) (g c : ℕ) → IsAcyclic i (group g) → IsAcyclic i (capture g c)
capture_acyclic i g c = same_circles i (group g) (capture g c) (λ o j. one o.owner)
  where
    one : (owner : Option ℕ) → offset_of (group g) owner ≡ offset_of (capture g c) owner
    one None = refl
    one (Some h) = refl

-- a group with an assignment is there
group_there : (part : PlainComponent) (g : ℕ) (a : PlainAssign) → length part.groups ≤ g → In (group_at part g).assigns a → ⊥
group_there part g a l i = let none : In no_group.assigns a = subst (λ x. In x.assigns a) (get_or_past part.groups g no_group l) i in none

-- under every group, if it is there or not
pub group_acyclic : (i : Instance) → AreAcyclic i → ((g : ℕ) → g < length (part_of i).groups → IsAcyclic i (group g)) → (g : ℕ) → IsAcyclic i (group g)
group_acyclic i bare each g =
    ⊎_elim
    (λ l. each g l)
    (λ l. same_circles i nothing (group g) (λ o j. of_owner o l (owner_of (part_of i) o j)) (own_acyclic i bare))
    (cases_lt g (length (part_of i).groups))
  where
    none_there : (h : ℕ) → (g ≡ h → ⊥) → (b : Bool) → nat_eq g h ≡ b → ◌≡◌ {A = Option ℕ} None (if b then Some 0 else None)
    none_there h differ true e = absurd (differ (eqb-true g h e))
    none_there h differ false e = refl

    of_owner : (o : Owned) → length (part_of i).groups ≤ g → OwnerOf (part_of i) o → offset_of nothing o.owner ≡ offset_of (group g) o.owner
    of_owner o l (continuous e j) = subst (λ x. offset_of nothing x ≡ offset_of (group g) x) (sym e) refl
    of_owner o l (of_group h e j) = subst (λ x. offset_of nothing x ≡ offset_of (group g) x) (sym e) (none_there h (λ same. group_there (part_of i) g o.assign l (subst (λ x. In (group_at (part_of i) x).assigns o.assign) (sym same) j)) (nat_eq g h) refl)
