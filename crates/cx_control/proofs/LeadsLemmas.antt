-- What leads from a port, by assignments that are active: under a smaller set, and within what a statement reads.
use Rattle.std.proofs.Common.{◌≡◌, ℕ, ◌⊎◌, inl, inr, Bool, true, false, List, [], ◌∷◌, Option, Some, None, refl, sym, ap, ◌∙◌, subst}
use Rattle.cx_text.specs.Members.{In}
use Rattle.cx_prim.specs.declared.ports.Side.{Side}
use Rattle.cx_prim.specs.declared.ports.Side.TheVariants as sides
use Rattle.cx_prim.specs.Rows.{Row}
use Rattle.cx_meaning.specs.declared.ports.PortRef.{PortRef}
use Rattle.cx_meaning.specs.declared.ports.PortRef.TheVariants as ports
use Rattle.cx_meaning.specs.Rows.{side_of}
use Rattle.cx_meaning.specs.Designs.{PlainComponent, PlainStatement, group_at}
use Rattle.cx_meaning.specs.Instances.{Instance, At, Nothing, OfRow, OfInstance, part_of, cells_of, cell_at}
use Rattle.cx_meaning.specs.Active.{Active, Owned, Acting, source_order, drivers, acting, offset_of, same_port, if_target, if_acting}
use Rattle.cx_meaning.specs.Sights.{IsWanted, PartPort, Go, AnInput, AnOutput, ItsDone, part_port}
use Rattle.cx_rules.specs.Footprints.{AssignNames, Reads, named, through, Mentions, SideLeads, PartLeads, CellLeads, Leads, Depends, at_once, by_way_of}
use Rattle.cx_rules.specs.Circles.{IsAcyclic}
use Rattle.cx_rules.specs.ShapeRules.{is_hole}
use Rattle.cx_rules.proofs.FoundLemmas.{same_is, source_in}
use Rattle.cx_rules.proofs.ForeignLemmas.{assigns_drive_in, OwnerOf, continuous, of_group, owner_of}
use Rattle.cx_control.specs.Apart.{HasLess, IsApart, IsOf, of_cell, of_done}
use Rattle.cx_control.specs.Flows.{Reaches}
use Rattle.cx_control.proofs.InstanceLemmas.{KeepsPorts}

-- ACTIVE ASSIGNMENTS: each is one of the list, with its owner active
pub record Stands (act : Active) (p : PortRef) (list : List Owned) (a : Acting) : Type 0 where
  pub of : Owned
  pub is_in : In list of
  pub assign : a.assign ≡ of.assign
  pub target : of.assign.target ≡ p
  pub active : (o : ℕ) × (offset_of act of.owner ≡ Some o)

pub acting_stands : (act : Active) (p : PortRef) (list : List Owned) (a : Acting) → In (acting act p list) a → Stands act p list a
acting_stands act p [] a i = absurd i
acting_stands act p (x ∷ rest) a i = by_target (λ j. later (acting_stands act p rest a j)) (same_port x.assign.target p) refl i
  where
    later : Stands act p rest a → Stands act p (x ∷ rest) a
    later it = record { of = it.of; is_in = inr it.is_in; assign = it.assign; target = it.target; active = it.active }

    by_offset : (In (acting act p rest) a → Stands act p (x ∷ rest) a) → x.assign.target ≡ p → (o : Option ℕ) → offset_of act x.owner ≡ o → In (if_acting o x.assign (acting act p rest)) a → Stands act p (x ∷ rest) a
    by_offset deeper e None f i = deeper i
    by_offset deeper e (Some o) f (inl g) = record { of = x; is_in = inl refl; assign = ap (λ (k : Acting). k.assign) (sym g); target = e; active = (o, f) }
    by_offset deeper e (Some o) f (inr i) = deeper i

    by_target : (In (acting act p rest) a → Stands act p (x ∷ rest) a) → (t : Bool) → same_port x.assign.target p ≡ t → In (if_target t act x (acting act p rest)) a → Stands act p (x ∷ rest) a
    by_target deeper true e i = by_offset deeper (same_is x.assign.target p e) (offset_of act x.owner) refl i
    by_target deeper false e i = deeper i

-- what leads from a port is told by what its active assignments mention
module _ (part : PlainComponent) (one other : Active) (c p : ℕ) (mentions : (q : PortRef) → Mentions (drivers part one (ports.Cell c p)) q → Mentions (drivers part other (ports.Cell c p)) q) where
  side_by : (row : Row) (side : Side) (q : PortRef) → SideLeads part one row c p side q → SideLeads part other row c p side q
  side_by row sides.Enable q l = mentions q l
  side_by row sides.Plain q l = mentions q l
  side_by row sides.Output q l = l
  side_by row sides.Registered q l = l

  part_by : (port : PartPort) (q : PortRef) → PartLeads part one c p port q → PartLeads part other c p port q
  part_by Go q l = mentions q l
  part_by (AnInput n) q l = mentions q l
  part_by (AnOutput n) q l = l
  part_by ItsDone q l = l

  cell_by : (at : At) (q : PortRef) → CellLeads part one c p at q → CellLeads part other c p at q
  cell_by Nothing q l = l
  cell_by (OfRow row) q l = side_by row (side_of row p) q l
  cell_by (OfInstance child) q l = part_by (part_port (part_of child) p) q l

pub leads_by : (i : Instance) (one other : Active) (p : PortRef) → ((q : PortRef) → Mentions (drivers (part_of i) one p) q → Mentions (drivers (part_of i) other p) q) → (q : PortRef) → Leads i one p q → Leads i other p q
leads_by i one other (ports.Cell c p) mentions q l = cell_by (part_of i) one other c p mentions (cell_at (cells_of i) c) q l
leads_by i one other (ports.Input n) mentions q l = l
leads_by i one other (ports.Output n) mentions q l = mentions q l
leads_by i one other (ports.Done g) mentions q l = mentions q l
leads_by i one other (ports.Literal w v) mentions q l = l

-- A SMALLER SET leads nowhere else
module _ (less more : Active) (has : HasLess less more) where
  active_too : (owner : Option ℕ) (o : ℕ) → offset_of less owner ≡ Some o → (u : ℕ) × (offset_of more owner ≡ Some u)
  active_too None o e = (0, refl)
  active_too (Some g) o e = has g o e

  record Same (p : PortRef) (list : List Owned) (a : Acting) : Type 0 where
    other : Acting
    is_in : In (acting more p list) other
    assign : other.assign ≡ a.assign

  stays_in : (t : Bool) (p : PortRef) (x : Owned) (rest : List Acting) (a : Acting) → In rest a → In (if_target t more x rest) a
  stays_in false p x rest a i = i
  stays_in true p x rest a i = by (offset_of more x.owner)
    where
      by : (o : Option ℕ) → In (if_acting o x.assign rest) a
      by None = i
      by (Some o) = inr i

  acting_more : (p : PortRef) (list : List Owned) (a : Acting) → In (acting less p list) a → Same p list a
  acting_more p [] a i = absurd i
  acting_more p (x ∷ rest) a i = by_target (λ j. later (acting_more p rest a j)) (same_port x.assign.target p) refl i
    where
      later : Same p rest a → Same p (x ∷ rest) a
      later it = record { other = it.other; is_in = stays_in (same_port x.assign.target p) p x (acting more p rest) it.other it.is_in; assign = it.assign }

      here : same_port x.assign.target p ≡ true → (u : ℕ) → offset_of more x.owner ≡ Some u → In (acting more p (x ∷ rest)) (record { offset = u; assign = x.assign })
      here e u f =
          subst (λ t. In (if_target t more x (acting more p rest)) (record { offset = u; assign = x.assign })) (sym e)
          (subst (λ o. In (if_acting o x.assign (acting more p rest)) (record { offset = u; assign = x.assign })) (sym f) (inl refl))

      by_offset : (In (acting less p rest) a → Same p (x ∷ rest) a) → same_port x.assign.target p ≡ true → (o : Option ℕ) → offset_of less x.owner ≡ o → In (if_acting o x.assign (acting less p rest)) a → Same p (x ∷ rest) a
      by_offset deeper e None f i = deeper i
      by_offset deeper e (Some o) f (inl g) =
          let u = active_too x.owner o f in
          record { other = record { offset = u.0; assign = x.assign }; is_in = here e u.0 u.1; assign = ap (λ (k : Acting). k.assign) g }
      by_offset deeper e (Some o) f (inr i) = deeper i

      by_target : (In (acting less p rest) a → Same p (x ∷ rest) a) → (t : Bool) → same_port x.assign.target p ≡ t → In (if_target t less x (acting less p rest)) a → Same p (x ∷ rest) a
      by_target deeper true e i = by_offset deeper e (offset_of less x.owner) refl i
      by_target deeper false e i = deeper i

  mentions_more : (part : PlainComponent) (p q : PortRef) → Mentions (drivers part less p) q → Mentions (drivers part more p) q
  mentions_more part p q (a, i, n) = let it = acting_more p (source_order part) a i in (it.other, it.is_in, subst (λ x. AssignNames x q) (sym it.assign) n)

  leads_more : (i : Instance) (p q : PortRef) → Leads i less p q → Leads i more p q
  leads_more i p q l = leads_by i less more p (λ r m. mentions_more (part_of i) p r m) q l

  depends_more : (i : Instance) {p q : PortRef} → Depends i less p q → Depends i more p q
  depends_more i {p} {q} (at_once l) = at_once (leads_more i p q l)
  depends_more i {p} {q} (by_way_of r l deeper) = by_way_of r (leads_more i p r l) (depends_more i deeper)

  pub less_acyclic : (i : Instance) → IsAcyclic i more → IsAcyclic i less
  less_acyclic i acyclic (p, circle) = acyclic (p, depends_more i circle)

-- WITHIN WHAT A STATEMENT READS
module _ (i : Instance) (s : PlainStatement) (act go : Active) (apart : IsApart (part_of i) s act go) (keeps : (o : Owned) → In (source_order (part_of i)) o → KeepsPorts o)
    (no_output : (o : Owned) → In (source_order (part_of i)) o → (n : ℕ) → AssignNames o.assign (ports.Output n) → ⊥) where
  -- where what is followed may stand
  abbrev pub Inside : PortRef → Type 0
  Inside (ports.Cell c p) = Reads (part_of i) s c
  Inside (ports.Input n) = Unit {0}
  Inside (ports.Output n) = ⊥
  Inside (ports.Done g) = ⊥
  Inside (ports.Literal w v) = Unit {0}

  no_hole_named : (o : Owned) → In (source_order (part_of i)) o → (g : ℕ) → AssignNames o.assign (ports.Done g) → ⊥
  no_hole_named o stands g n = let p = source_in o.assign (ports.Done g) n in differ (sym ((keeps o stands).no_hole p.0 p.1) ∙ ap is_hole p.2)
    where
      differ : false ≡ true → ⊥
      differ e = cc

  -- what an active assignment names is within, where its target is read or its group is of the statement
  names_inside : (o : Owned) → In (source_order (part_of i)) o → ((c : ℕ) (p : ℕ) → AssignNames o.assign (ports.Cell c p) → Reads (part_of i) s c) → (q : PortRef) → AssignNames o.assign q → Inside q
  names_inside o stands reads (ports.Cell c p) n = reads c p n
  names_inside o stands reads (ports.Input m) n = tt
  names_inside o stands reads (ports.Output m) n = no_output o stands m n
  names_inside o stands reads (ports.Done g) n = no_hole_named o stands g n
  names_inside o stands reads (ports.Literal w v) n = tt

  of_its_group : (o : Owned) (g : ℕ) → In (group_at (part_of i) g).assigns o.assign → (u : ℕ) → act.offset g ≡ Some u → (c p : ℕ) → AssignNames o.assign (ports.Cell c p) → Reads (part_of i) s c
  of_its_group o g stands u e c p n = named p g o.assign (apart.its_own g u e) stands n

  cell_mentions : (c p : ℕ) → Reads (part_of i) s c → (q : PortRef) → Mentions (drivers (part_of i) act (ports.Cell c p)) q → Inside q
  cell_mentions c p read q (a, j, n) =
      let it = acting_stands act (ports.Cell c p) (source_order (part_of i)) a j in
      names_inside it.of it.is_in (λ e m k. by it (owner_of (part_of i) it.of it.is_in) e m k) q (subst (λ x. AssignNames x q) it.assign n)
    where
      by : (it : Stands act (ports.Cell c p) (source_order (part_of i)) a) → OwnerOf (part_of i) it.of → (e m : ℕ) → AssignNames it.of.assign (ports.Cell e m) → Reads (part_of i) s e
      by it (continuous owner stands) e m k = through c p m it.of.assign read stands it.target k
      by it (of_group g owner stands) e m k = let u = it.active in of_its_group it.of g stands u.0 (ap (offset_of act) (sym owner) ∙ u.1) e m k

  done_mentions : (g : ℕ) (q : PortRef) → Mentions (drivers (part_of i) act (ports.Done g)) q → Inside q
  done_mentions g q (a, j, n) =
      let it = acting_stands act (ports.Done g) (source_order (part_of i)) a j in
      names_inside it.of it.is_in (λ e m k. by it (owner_of (part_of i) it.of it.is_in) e m k) q (subst (λ x. AssignNames x q) it.assign n)
    where
      none_some : (h : ℕ) → ◌≡◌ {A = Option ℕ} None (Some h) → ⊥
      none_some h e = cc

      by : (it : Stands act (ports.Done g) (source_order (part_of i)) a) → OwnerOf (part_of i) it.of → (e m : ℕ) → AssignNames it.of.assign (ports.Cell e m) → Reads (part_of i) s e
      by it (continuous owner stands) e m k = absurd (none_some g (sym owner ∙ (keeps it.of it.is_in).own_done g it.target))
      by it (of_group h owner stands) e m k = let u = it.active in of_its_group it.of h stands u.0 (ap (offset_of act) (sym owner) ∙ u.1) e m k

  wanted_inside : (c : ℕ) → Reads (part_of i) s c → (wanted : ℕ → Bool) (q : PortRef) → IsWanted c wanted q → Inside q
  wanted_inside c read wanted q (p, w, e) = subst Inside e read

  side_inside : (row : Row) (c p : ℕ) → Reads (part_of i) s c → (side : Side) (q : PortRef) → SideLeads (part_of i) act row c p side q → Inside q
  side_inside row c p read sides.Enable q l = cell_mentions c p read q l
  side_inside row c p read sides.Plain q l = cell_mentions c p read q l
  side_inside row c p read sides.Output q l = wanted_inside c read (row.reads p) q l
  side_inside row c p read sides.Registered q l = absurd l

  part_inside : (c p : ℕ) → Reads (part_of i) s c → (port : PartPort) (q : PortRef) → PartLeads (part_of i) act c p port q → Inside q
  part_inside c p read Go q l = cell_mentions c p read q l
  part_inside c p read (AnInput n) q l = cell_mentions c p read q l
  part_inside c p read (AnOutput n) q l = absurd l
  part_inside c p read ItsDone q l = absurd l

  cell_inside : (c p : ℕ) → Reads (part_of i) s c → (at : At) (q : PortRef) → CellLeads (part_of i) act c p at q → Inside q
  cell_inside c p read Nothing q l = absurd l
  cell_inside c p read (OfRow row) q l = side_inside row c p read (side_of row p) q l
  cell_inside c p read (OfInstance child) q l = part_inside c p read (part_port (part_of child) p) q l

  pub leads_inside : (p q : PortRef) → Inside p → Leads i act p q → Inside q
  leads_inside (ports.Cell c p) q read l = cell_inside c p read (cell_at (cells_of i) c) q l
  leads_inside (ports.Input n) q read l = absurd l
  leads_inside (ports.Output n) q read l = absurd read
  leads_inside (ports.Done g) q read l = absurd read
  leads_inside (ports.Literal w v) q read l = absurd l

  depends_inside : {p q : PortRef} → Inside p → Depends i act p q → Inside q
  depends_inside {p} {q} read (at_once l) = leads_inside p q read l
  depends_inside {p} {q} read (by_way_of r l deeper) = depends_inside (leads_inside p r read l) deeper

  -- what a port of the statement reaches is itself, or within
  reaches_inside : {p q : PortRef} → IsOf (part_of i) s act p → Reaches i act p q → (p ≡ q) ⊎ Inside q
  reaches_inside of (inl e) = inl e
  reaches_inside (of_cell read) (inr d) = inr (depends_inside read d)
  reaches_inside (of_done {g} e) (inr (at_once {p} {q} l)) = inr (done_mentions g q l)
  reaches_inside (of_done {g} e) (inr (by_way_of r l deeper)) = inr (depends_inside (done_mentions g r l) deeper)

  cell_reached : {p : PortRef} (c q : ℕ) → IsOf (part_of i) s act p → (p ≡ ports.Cell c q) ⊎ Inside (ports.Cell c q) → Reads (part_of i) s c
  cell_reached c q of (inr read) = read
  cell_reached {p} c q of (inl e) = itself (subst (IsOf (part_of i) s act) e of)
    where
      itself : IsOf (part_of i) s act (ports.Cell c q) → Reads (part_of i) s c
      itself (of_cell read) = read

  -- THE FIELDS of an undisturbed port
  pub apart_assigns : (p : PortRef) → IsOf (part_of i) s act p → (c q : ℕ) (o : Owned) → Reaches i act p (ports.Cell c q) → In (source_order (part_of i)) o → o.assign.target ≡ ports.Cell c q
      → offset_of act o.owner ≡ offset_of go o.owner
  apart_assigns p of c q o reaches stands target = by (owner_of (part_of i) o stands)
    where
      by : OwnerOf (part_of i) o → offset_of act o.owner ≡ offset_of go o.owner
      by (continuous owner there) = ap (offset_of act) owner ∙ sym (ap (offset_of go) owner)
      by (of_group g owner there) =
          ap (offset_of act) owner
          ∙ apart.same g c (cell_reached c q of (reaches_inside of reaches)) (assigns_drive_in (group_at (part_of i) g).assigns o.assign c q there target)
          ∙ sym (ap (offset_of go) owner)

  pub apart_holes : (p : PortRef) → IsOf (part_of i) s act p → (g : ℕ) → Reaches i act p (ports.Done g) → act.offset g ≡ Some 0
  apart_holes p of g reaches = by (reaches_inside of reaches)
    where
      itself : IsOf (part_of i) s act (ports.Done g) → act.offset g ≡ Some 0
      itself (of_done e) = e

      by : (p ≡ ports.Done g) ⊎ Inside (ports.Done g) → act.offset g ≡ Some 0
      by (inl e) = itself (subst (IsOf (part_of i) s act) e of)
      by (inr never) = absurd never
