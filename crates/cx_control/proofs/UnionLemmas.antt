-- Nothing leads in a circle under two active sets together that are apart: a circle that meets a cell that the one reads stays
-- in what it reads, and any other is one under the other set alone.
use Rattle.std.proofs.Common.{◌≡◌, ℕ, ◌⊎◌, inl, inr, Bool, true, false, List, [], ◌∷◌, Option, Some, None, refl, sym, ap, ◌∙◌, subst}
use Rattle.cx_text.specs.Members.{In}
use Rattle.cx_prim.specs.declared.ports.Side.{Side}
use Rattle.cx_prim.specs.declared.ports.Side.TheVariants as sides
use Rattle.cx_meaning.specs.declared.ports.PortRef.{PortRef}
use Rattle.cx_meaning.specs.declared.ports.PortRef.TheVariants as ports
use Rattle.cx_meaning.specs.Rows.{side_of}
use Rattle.cx_meaning.specs.Designs.{PlainStatement, group_at}
use Rattle.cx_meaning.specs.Instances.{Instance, At, Nothing, OfRow, OfInstance, part_of, cells_of, cell_at}
use Rattle.cx_meaning.specs.Active.{Active, Owned, Acting, source_order, drivers, acting, offset_of, same_port, if_target, if_acting}
use Rattle.cx_meaning.specs.Sights.{IsWanted, PartPort, Go, AnInput, AnOutput, ItsDone, part_port}
use Rattle.cx_meaning.specs.Control.{groups_of}
use Rattle.cx_rules.specs.Footprints.{AssignNames, Reads, driven, Mentions, SideLeads, PartLeads, CellLeads, Leads, Depends, at_once, by_way_of}
use Rattle.cx_rules.specs.Circles.{IsAcyclic}
use Rattle.cx_rules.specs.ShapeRules.{is_hole}
use Rattle.cx_rules.proofs.FoundLemmas.{same_is, source_in}
use Rattle.cx_rules.proofs.ForeignLemmas.{assigns_drive_in, OwnerOf, continuous, of_group, owner_of}
use Rattle.cx_control.specs.Apart.{IsApart}
use Rattle.cx_control.specs.Together.{or_else, union}
use Rattle.cx_control.proofs.InstanceLemmas.{KeepsPorts}
use Rattle.cx_control.proofs.LeadsLemmas.{Stands, acting_stands, leads_by, Inside, leads_inside}
use Rattle.cx_meaning.proofs.ControlLaws.{groups_drive_in}
use Rattle.cx_rules.proofs.FrameLemmas.{acting_alike}

-- an assignment of the list whose owner is active is an active one
pub stands_acting : (act : Active) (p : PortRef) (list : List Owned) (o : Owned) → In list o → same_port o.assign.target p ≡ true → (u : ℕ) → offset_of act o.owner ≡ Some u
    → In (acting act p list) (record { offset = u; assign = o.assign })
stands_acting act p [] o i e u f = absurd i
stands_acting act p (x ∷ rest) o (inl g) e u f =
    subst (λ (y : Owned). In (acting act p (y ∷ rest)) (record { offset = u; assign = o.assign })) (sym g)
    (subst (λ t. In (if_target t act o (acting act p rest)) (record { offset = u; assign = o.assign })) (sym e)
    (subst (λ k. In (if_acting k o.assign (acting act p rest)) (record { offset = u; assign = o.assign })) (sym f) (inl refl)))
stands_acting act p (x ∷ rest) o (inr i) e u f = later (same_port x.assign.target p) (offset_of act x.owner) (stands_acting act p rest o i e u f)
  where
    later : (t : Bool) (k : Option ℕ) → In (acting act p rest) (record { offset = u; assign = o.assign }) → In (if_target t act x (acting act p rest)) (record { offset = u; assign = o.assign })
    later false k j = j
    later true k j = by (offset_of act x.owner)
      where
        by : (k : Option ℕ) → In (if_acting k x.assign (acting act p rest)) (record { offset = u; assign = o.assign })
        by None = j
        by (Some n) = inr j

module _ (i : Instance) (s : PlainStatement) (act other : Active) (apart : IsApart (part_of i) s act (union act other)) (keeps : (o : Owned) → In (source_order (part_of i)) o → KeepsPorts o)
    (no_output : (o : Owned) → In (source_order (part_of i)) o → (n : ℕ) → AssignNames o.assign (ports.Output n) → ⊥) where
  abbrev Both : Active
  Both = union act other

  abbrev Within : PortRef → Type 0
  Within p = Inside i s act Both apart keeps no_output p

  -- within what the statement reads its own set leads where both do
  same_drivers : (c p : ℕ) → Reads (part_of i) s c → drivers (part_of i) Both (ports.Cell c p) ≡ drivers (part_of i) act (ports.Cell c p)
  same_drivers c p read = acting_alike Both act (ports.Cell c p) (source_order (part_of i)) (λ o stands target. by o target (owner_of (part_of i) o stands))
    where
      by : (o : Owned) → o.assign.target ≡ ports.Cell c p → OwnerOf (part_of i) o → offset_of Both o.owner ≡ offset_of act o.owner
      by o target (continuous owner there) = ap (offset_of Both) owner ∙ sym (ap (offset_of act) owner)
      by o target (of_group g owner there) = ap (offset_of Both) owner ∙ sym (apart.same g c read (assigns_drive_in (group_at (part_of i) g).assigns o.assign c p there target)) ∙ sym (ap (offset_of act) owner)

  leads_own : (p q : PortRef) → Within p → Leads i Both p q → Leads i act p q
  leads_own (ports.Cell c p) q read l = leads_by i Both act (ports.Cell c p) (λ r m. subst (λ acts. Mentions acts r) (same_drivers c p read) m) q l
  leads_own (ports.Input n) q read l = absurd l
  leads_own (ports.Output n) q read l = absurd read
  leads_own (ports.Done g) q read l = absurd read
  leads_own (ports.Literal w v) q read l = absurd l

  depends_own : {p q : PortRef} → Within p → Depends i Both p q → Depends i act p q
  depends_own {p} {q} read (at_once l) = at_once (leads_own p q read l)
  depends_own {p} {q} read (by_way_of r l deeper) =
      let step = leads_own p r read l in
      by_way_of r step (depends_own (leads_inside i s act Both apart keeps no_output p r read step) deeper)

  -- nothing leads to a hole
  names_no_hole : (o : Owned) → In (source_order (part_of i)) o → (q : PortRef) → AssignNames o.assign q → is_hole q ≡ false
  names_no_hole o stands q n = let p = source_in o.assign q n in sym (ap is_hole p.2) ∙ (keeps o stands).no_hole p.0 p.1

  mentions_no_hole : (p q : PortRef) → Mentions (drivers (part_of i) Both p) q → is_hole q ≡ false
  mentions_no_hole p q (a, j, n) =
      let it = acting_stands Both p (source_order (part_of i)) a j in
      names_no_hole it.of it.is_in q (subst (λ x. AssignNames x q) it.assign n)

  wanted_no_hole : (c : ℕ) (wanted : ℕ → Bool) (q : PortRef) → IsWanted c wanted q → is_hole q ≡ false
  wanted_no_hole c wanted q (p, w, e) = sym (ap is_hole e)

  cell_no_hole : (c p : ℕ) (at : At) (q : PortRef) → CellLeads (part_of i) Both c p at q → is_hole q ≡ false
  cell_no_hole c p Nothing q l = absurd l
  cell_no_hole c p (OfRow row) q l = by (side_of row p) l
    where
      by : (side : Side) → SideLeads (part_of i) Both row c p side q → is_hole q ≡ false
      by sides.Enable l = mentions_no_hole (ports.Cell c p) q l
      by sides.Plain l = mentions_no_hole (ports.Cell c p) q l
      by sides.Output l = wanted_no_hole c (row.reads p) q l
      by sides.Registered l = absurd l
  cell_no_hole c p (OfInstance child) q l = by (part_port (part_of child) p) l
    where
      by : (port : PartPort) → PartLeads (part_of i) Both c p port q → is_hole q ≡ false
      by Go l = mentions_no_hole (ports.Cell c p) q l
      by (AnInput n) l = mentions_no_hole (ports.Cell c p) q l
      by (AnOutput n) l = absurd l
      by ItsDone l = absurd l

  leads_no_hole : (p q : PortRef) → Leads i Both p q → is_hole q ≡ false
  leads_no_hole (ports.Cell c p) q l = cell_no_hole c p (cell_at (cells_of i) c) q l
  leads_no_hole (ports.Input n) q l = absurd l
  leads_no_hole (ports.Output n) q l = mentions_no_hole (ports.Output n) q l
  leads_no_hole (ports.Done g) q l = mentions_no_hole (ports.Done g) q l
  leads_no_hole (ports.Literal w v) q l = absurd l

  depends_no_hole : {p q : PortRef} → Depends i Both p q → is_hole q ≡ false
  depends_no_hole {p} {q} (at_once l) = leads_no_hole p q l
  depends_no_hole (by_way_of r l deeper) = depends_no_hole deeper

  -- AN EDGE is one of the other set, or begins within
  none_some : (u : ℕ) → ◌≡◌ {A = Option ℕ} None (Some u) → ⊥
  none_some u e = cc

  target_self : (o : Owned) (p : PortRef) (a : Acting) (j : In (acting Both p (source_order (part_of i))) a) → o.assign.target ≡ p → same_port o.assign.target p ≡ true
  target_self o p a j e = ap (λ x. same_port x p) e ∙ found (source_order (part_of i)) j
    where
      found : (list : List Owned) → In (acting Both p list) a → same_port p p ≡ true
      found [] k = absurd k
      found (x ∷ rest) k = by (same_port x.assign.target p) refl k (found rest)
        where
          by : (t : Bool) → same_port x.assign.target p ≡ t → In (if_target t Both x (acting Both p rest)) a → (In (acting Both p rest) a → same_port p p ≡ true) → same_port p p ≡ true
          by false f k deeper = deeper k
          by true f k deeper = ap (λ y. same_port y p) (sym (same_is x.assign.target p f)) ∙ f

  mention_either : (p q : PortRef) → Mentions (drivers (part_of i) Both p) q
      → ((g : ℕ) (o : Owned) → In (groups_of s) g → In (group_at (part_of i) g).assigns o.assign → In (source_order (part_of i)) o → o.owner ≡ Some g → o.assign.target ≡ p → Within p)
      → Mentions (drivers (part_of i) other p) q ⊎ Within p
  mention_either p q (a, j, n) own =
      let it = acting_stands Both p (source_order (part_of i)) a j in
      by it (owner_of (part_of i) it.of it.is_in)
    where
      as_other : (it : Stands Both p (source_order (part_of i)) a) (u : ℕ) → offset_of other it.of.owner ≡ Some u → Mentions (drivers (part_of i) other p) q
      as_other it u e = (record { offset = u; assign = it.of.assign }, stands_acting other p (source_order (part_of i)) it.of it.is_in (target_self it.of p a j it.target) u e, subst (λ x. AssignNames x q) it.assign n)

      by_offset : (it : Stands Both p (source_order (part_of i)) a) (g : ℕ) → it.of.owner ≡ Some g → In (group_at (part_of i) g).assigns it.of.assign → (o : Option ℕ) → act.offset g ≡ o → (u : ℕ) → or_else o (other.offset g) ≡ Some u
          → Mentions (drivers (part_of i) other p) q ⊎ Within p
      by_offset it g owner stands (Some k) e u f = inr (own g it.of (apart.its_own g k e) stands it.is_in owner it.target)
      by_offset it g owner stands None e u f = inl (as_other it u (ap (offset_of other) owner ∙ f))

      by : (it : Stands Both p (source_order (part_of i)) a) → OwnerOf (part_of i) it.of → Mentions (drivers (part_of i) other p) q ⊎ Within p
      by it (continuous owner stands) = inl (as_other it 0 (ap (offset_of other) owner))
      by it (of_group g owner stands) =
          let u = it.active in
          by_offset it g owner stands (act.offset g) refl u.0 (ap (offset_of Both) (sym owner) ∙ u.1)

  cell_own : (c p g : ℕ) (o : Owned) → In (groups_of s) g → In (group_at (part_of i) g).assigns o.assign → o.assign.target ≡ ports.Cell c p → Reads (part_of i) s c
  cell_own c p g o of stands target = driven (groups_drive_in (part_of i) (groups_of s) g c of (assigns_drive_in (group_at (part_of i) g).assigns o.assign c p stands target))

  cell_either : (c p : ℕ) (at : At) (q : PortRef) → CellLeads (part_of i) Both c p at q → CellLeads (part_of i) other c p at q ⊎ Reads (part_of i) s c
  cell_either c p Nothing q l = inl l
  cell_either c p (OfRow row) q l = by (side_of row p) l
    where
      by : (side : Side) → SideLeads (part_of i) Both row c p side q → SideLeads (part_of i) other row c p side q ⊎ Reads (part_of i) s c
      by sides.Enable l = mention_either (ports.Cell c p) q l (λ g o of stands is_in owner target. cell_own c p g o of stands target)
      by sides.Plain l = mention_either (ports.Cell c p) q l (λ g o of stands is_in owner target. cell_own c p g o of stands target)
      by sides.Output l = inl l
      by sides.Registered l = inl l
  cell_either c p (OfInstance child) q l = by (part_port (part_of child) p) l
    where
      by : (port : PartPort) → PartLeads (part_of i) Both c p port q → PartLeads (part_of i) other c p port q ⊎ Reads (part_of i) s c
      by Go l = mention_either (ports.Cell c p) q l (λ g o of stands is_in owner target. cell_own c p g o of stands target)
      by (AnInput n) l = mention_either (ports.Cell c p) q l (λ g o of stands is_in owner target. cell_own c p g o of stands target)
      by (AnOutput n) l = inl l
      by ItsDone l = inl l

  leads_either : (p q : PortRef) → is_hole p ≡ false → Leads i Both p q → Leads i other p q ⊎ Within p
  leads_either (ports.Cell c p) q e l = cell_either c p (cell_at (cells_of i) c) q l
  leads_either (ports.Input n) q e l = inl l
  leads_either (ports.Output n) q e l = mention_either (ports.Output n) q l (λ g o of stands is_in owner target. none_some g (sym ((keeps o is_in).output_outside n target) ∙ owner))
  leads_either (ports.Done g) q e l = absurd (true_false e)
    where
      true_false : true ≡ false → ⊥
      true_false f = cc
  leads_either (ports.Literal w v) q e l = inl l

  -- A CHAIN is one of the other set, or meets a port within
  record MeetsWithin (p q : PortRef) : Type 0 where
    port : PortRef
    within : Within port
    before : (p ≡ port) ⊎ Depends i Both p port
    after : Depends i Both port q

  depends_either : {p q : PortRef} → is_hole p ≡ false → Depends i Both p q → Depends i other p q ⊎ MeetsWithin p q
  depends_either {p} {q} e (at_once l) = by (leads_either p q e l)
    where
      by : Leads i other p q ⊎ Within p → Depends i other p q ⊎ MeetsWithin p q
      by (inl k) = inl (at_once k)
      by (inr w) = inr (record { port = p; within = w; before = inl refl; after = at_once l })
  depends_either {p} {q} e (by_way_of r l deeper) = by (leads_either p r e l) (depends_either (leads_no_hole p r l) deeper)
    where
      further : (it : MeetsWithin r q) → (r ≡ it.port) ⊎ Depends i Both r it.port → Depends i Both p it.port
      further it (inl f) = subst (Depends i Both p) f (at_once l)
      further it (inr d) = by_way_of r l d

      by : Leads i other p r ⊎ Within p → Depends i other r q ⊎ MeetsWithin r q → Depends i other p q ⊎ MeetsWithin p q
      by (inr w) rest = inr (record { port = p; within = w; before = inl refl; after = by_way_of r l deeper })
      by (inl k) (inl d) = inl (by_way_of r k d)
      by (inl k) (inr it) = inr (record { port = it.port; within = it.within; before = inr (further it it.before); after = it.after })

  joined : {p q r : PortRef} → Depends i Both p q → Depends i Both q r → Depends i Both p r
  joined {p} {q} {r} (at_once l) d = by_way_of q l d
  joined (by_way_of t l deeper) d = by_way_of t l (joined deeper d)

  pub union_acyclic : IsAcyclic i act → IsAcyclic i other → IsAcyclic i (union act other)
  union_acyclic one two (p, circle) = by (depends_either (depends_no_hole circle) circle)
    where
      round : (it : MeetsWithin p p) → (p ≡ it.port) ⊎ Depends i Both p it.port → Depends i Both it.port it.port
      round it (inl e) = subst (λ x. Depends i Both it.port x) e it.after
      round it (inr d) = joined it.after d

      by : Depends i other p p ⊎ MeetsWithin p p → ⊥
      by (inl d) = two (p, d)
      by (inr it) = one (it.port, depends_own it.within (round it it.before))
