-- WHAT DEPENDS ON WHAT under a group of the component itself: between ports of its own cells it does so in the flat instance as in the tree, since
-- nothing that stands in a block names a port outside.
use Rattle.std.proofs.Common.{◌≡◌, ℕ, zero, suc, ◌+◌, ◌<◌, ◌≤◌, ◌⊎◌, inl, inr, ⊎_elim, Bool, true, false, nat_eq, length, map, Option, Some, None, refl, sym, ap, ◌∙◌, subst, arith}
use Rattle.std.specs.Prelude.{if◌then◌else◌}
use Rattle.std.proofs.lemmas.Bool.{eqb-true}
use Rattle.cx_text.proofs.MemberLaws.{image_in, in_either}
use Rattle.cx_text.specs.Members.{In}
use Rattle.cx_prim.specs.declared.ports.Side.{Side}
use Rattle.cx_prim.specs.declared.ports.Side.TheVariants as sides
use Rattle.cx_prim.specs.Rows.{Row}
use Rattle.cx_meaning.specs.declared.ports.PortRef.{PortRef}
use Rattle.cx_meaning.specs.declared.ports.PortRef.TheVariants as ports
use Rattle.cx_meaning.specs.Rows.{side_of}
use Rattle.cx_meaning.specs.Designs.{PlainAssign, PlainGroup, PlainComponent, group_at}
use Rattle.cx_meaning.specs.Instances.{Instance, Node, Cells, no_cells, a_primitive, an_instance, At, Nothing, OfRow, OfInstance, part_of, cells_of, cell_at}
use Rattle.cx_meaning.specs.Active.{group, Owned, source_order, only_at, offset_of, drivers}
use Rattle.cx_meaning.specs.Sights.{PartPort, Go, AnInput, AnOutput, ItsDone, part_port}
use Rattle.cx_meaning.proofs.InstancesLemmas.{row_instance}
use Rattle.cx_rules.specs.Footprints.{AssignNames, Mentions, SideLeads, PartLeads, CellLeads, Leads, Depends, at_once, by_way_of}
use Rattle.cx_rewrites.specs.Moving.{moved_assign, moved_group}
use Rattle.cx_rewrites.proofs.ClosedLemmas.{mention_of, is_closed}
use Rattle.cx_rewrites.proofs.ReflectLemmas.{names_back, mentions_back}
use Rattle.cx_flattening.specs.Whole.{is_static}
use Rattle.cx_flattening.specs.Flattened.{Kids, kid_at, kept, kept_at, port_if, own_port, child_port, always_from, flat_kids, flat_part}
use Rattle.cx_flattening.specs.Targets.{OwnTarget}
use Rattle.cx_flattening.specs.Embedded.{IsFlattened}
use Rattle.cx_flattening.specs.Fair.{IsNamed, AllFair, AllFairBelow}
use Rattle.cx_flattening.proofs.Placing.{kept_less}
use Rattle.cx_flattening.proofs.PortLemmas.{own-kept}
use Rattle.cx_flattening.proofs.Standing.{embedded_row, embedded_dynamic}
use Rattle.cx_flattening.proofs.FlatDrivers.{own_drivers}
use Rattle.cx_flattening.proofs.LevelSights.{kid-row, kid-static, flat-inputs, flat-outputs}
use Rattle.cx_flattening.proofs.RestingPorts.{OfOne, owner_of}
use Rattle.cx_flattening.proofs.FlatOutputs.{ports_like, drivers_like}
use Rattle.cx_flattening.proofs.FlatSights.{assign_of}
use Rattle.cx_flattening.proofs.FlatBlocks.{IsAlways, kid_always}
use Rattle.cx_flattening.proofs.FlatSafe.{kid_from}
use Rattle.cx_flattening.proofs.FlatCaptures.{cell_alone}

-- CONTINUOUS ASSIGNMENTS of a flat component name no hole
abbrev HoleFree : PlainComponent → Type 0
HoleFree part = (a : PlainAssign) → In part.always a → (h : ℕ) → AssignNames a (ports.Done h) → ⊥

own_hole : (among : Kids) (part : PlainComponent) (q : PortRef) (h : ℕ) → own_port among part q ≡ ports.Done h → q ≡ ports.Done h
own_hole among part (ports.Cell c p) h e = absurd (by (kid_at among c) e)
  where
    by : (k : Option PlainComponent) → port_if among part k c p ≡ ports.Done h → ⊥
    by None e = cc
    by (Some kid) e = cc
own_hole among part (ports.Input n) h e = absurd (cc)
own_hole among part (ports.Output n) h e = absurd (cc)
own_hole among part (ports.Done g) h e = e
own_hole among part (ports.Literal w v) h e = absurd (cc)

child_hole : (among : Kids) (part child : PlainComponent) (c : ℕ) (q : PortRef) (h : ℕ) → child_port among part child c (λ n. ports.Input n) q ≡ ports.Done h → q ≡ ports.Done h
child_hole among part child c (ports.Cell e p) h same = absurd (cc)
child_hole among part child c (ports.Input n) h same = absurd (cc)
child_hole among part child c (ports.Output n) h same = absurd (cc)
child_hole among part child c (ports.Done g) h same = same
child_hole among part child c (ports.Literal w v) h same = absurd (cc)

node_free : (part : PlainComponent) (cells : Cells) → AllFair (Node part cells) → ((c : ℕ) (child : Instance) → cell_at cells c ≡ OfInstance child → HoleFree (flat_part child)) → HoleFree (flat_part (Node part cells))
node_free part cells fair below a i h names =
    ⊎_elim
    (λ j.
    let r = image_in (moved_assign (own_port among part)) part.always a j in
    let n = names_back (own_port among part) r.0 (ports.Done h) (subst (λ (x : PlainAssign). AssignNames x (ports.Done h)) (sym r.2) names) in
    fair.0.names r.0 (ports.Done h) (inl r.1) (subst (AssignNames r.0) (own_hole among part n.0 h n.1) n.2))
    (λ j. of_kid (kid_always among part 0 among a j))
    (in_either (map (moved_assign (own_port among part)) part.always) (always_from among part 0 among) a i)
  where
    among : Kids
    among = flat_kids cells

    of_kid : IsAlways among part 0 among a → ⊥
    of_kid k =
        let c = kid_from cells k.cell k.child k.its in
        let n = names_back (child_port among part k.child (0 + k.cell) (λ m. ports.Input m)) k.assign (ports.Done h) (subst (λ (x : PlainAssign). AssignNames x (ports.Done h)) (sym k.is) names) in
        below k.cell c.0 c.1 k.assign (subst (λ (x : PlainComponent). In x.always k.assign) (sym c.3) k.among) h
        (subst (AssignNames k.assign) (child_hole among part k.child (0 + k.cell) n.0 h n.1) n.2)

mutual
  hole_free : (i : Instance) → AllFair i → HoleFree (flat_part i)
  hole_free (Node part cells) fair = node_free part cells fair (λ c child at. free_below cells fair.1 c child at)

  free_below : (cells : Cells) → AllFairBelow cells → (c : ℕ) (child : Instance) → cell_at cells c ≡ OfInstance child → HoleFree (flat_part child)
  free_below no_cells fair c child at = absurd (cc)
  free_below (a_primitive row rest) fair zero child at = absurd (cc)
  free_below (a_primitive row rest) fair (suc c) child at = free_below rest fair c child at
  free_below (an_instance other rest) fair zero child at = let same : other ≡ child = cc in subst (λ x. HoleFree (flat_part x)) same (hole_free other fair.0)
  free_below (an_instance other rest) fair (suc c) child at = free_below rest fair.1 c child at

only_one : (g h k : ℕ) → only_at g h ≡ Some k → h ≡ g
only_one g h k e = by (nat_eq g h) refl e
  where
    by : (b : Bool) → nat_eq g h ≡ b → (if b then Some 0 else None) ≡ Some k → h ≡ g
    by true same f = sym (eqb-true g h same)
    by false same f = absurd (cc)

module _ (part : PlainComponent) (cells : Cells) (flat : Instance) (flattened : IsFlattened (Node part cells) flat) (fair : AllFair (Node part cells)) (g : ℕ)
    (own_group : group_at (part_of flat) g ≡ moved_group (own_port (flat_kids cells) part) (group_at part g)) (there : (a : PlainAssign) → In (group_at part g).assigns a → OwnTarget (flat_kids cells) part a.target) where
  abbrev kids : Kids
  kids = flat_kids cells

  abbrev i : Instance
  i = Node part cells

  abbrev f : PortRef → PortRef
  f = own_port kids part

  -- A PORT OF A BLOCK, or one that leads on to nothing
  abbrev Outer : PortRef → Type 0
  Outer (ports.Cell e p) = length (kept kids part.cells) ≤ e
  Outer (ports.Input n) = Unit {0}
  Outer (ports.Output n) = ⊥
  Outer (ports.Done h) = ⊥
  Outer (ports.Literal w v) = Unit {0}

  own_inner : (q : PortRef) → OwnTarget kids part q → Outer (f q) → ⊥
  own_inner (ports.Cell c p) own outer =
      let inside = kept_less kids part.cells c own.0 own.1 in
      let past : length (kept kids part.cells) ≤ kept_at kids c = subst Outer (own-kept kids part c p own.1) outer in
      omega (arith, inside, past)
  own_inner (ports.Input n) own outer = own
  own_inner (ports.Output n) own outer = outer
  own_inner (ports.Done h) own outer = outer
  own_inner (ports.Literal w v) own outer = own

  child_outer : (child : PlainComponent) (c : ℕ) (q : PortRef) → ((h : ℕ) → q ≡ ports.Done h → ⊥) → Outer (child_port kids part child c (λ n. ports.Input n) q)
  child_outer child c (ports.Cell e p) none = omega arith
  child_outer child c (ports.Input n) none = tt
  child_outer child c (ports.Output n) none = omega arith
  child_outer child c (ports.Done h) none = absurd (none h refl)
  child_outer child c (ports.Literal w v) none = tt

  -- from a block nothing leads out
  outer_named : (o : Owned) (k : ℕ) (q : PortRef) → In (source_order (part_of flat)) o → offset_of (group g) o.owner ≡ Some k → Outer o.assign.target → AssignNames o.assign q → Outer q
  outer_named o k q j active outer names = ⊎_elim (λ h. of_always (subst (λ l. In l o.assign) flattened.0.always h.1)) of_group (owner_of (part_of flat) o j)
    where
      of_kid : IsAlways kids part 0 kids o.assign → Outer q
      of_kid h =
          let c = kid_from cells h.cell h.child h.its in
          let n = names_back (child_port kids part h.child (0 + h.cell) (λ m. ports.Input m)) h.assign q (subst (λ (x : PlainAssign). AssignNames x q) (sym h.is) names) in
          subst Outer n.1
          (child_outer h.child (0 + h.cell) n.0
          (λ m e. free_below cells fair.1 h.cell c.0 c.1 h.assign (subst (λ (x : PlainComponent). In x.always h.assign) (sym c.3) h.among) m (subst (AssignNames h.assign) e n.2)))

      of_always : In (flat_part i).always o.assign → Outer q
      of_always m =
          ⊎_elim
          (λ l.
          let r = image_in (moved_assign f) part.always o.assign l in
          absurd (own_inner r.0.target (fair.0.targets.always r.0 r.1) (subst (λ (x : PlainAssign). Outer x.target) (sym r.2) outer)))
          (λ l. of_kid (kid_always kids part 0 kids o.assign l))
          (in_either (map (moved_assign f) part.always) (always_from kids part 0 kids) o.assign m)

      of_group : OfOne (part_of flat) o → Outer q
      of_group h =
          let one : h.number ≡ g = only_one g h.number k (ap (offset_of (group g)) (sym h.owner) ∙ active) in
          let stands : In (map (moved_assign f) (group_at part g).assigns) o.assign = subst (λ (x : PlainGroup). In x.assigns o.assign) (ap (group_at (part_of flat)) one ∙ own_group) h.stands in
          let r = image_in (moved_assign f) (group_at part g).assigns o.assign stands in
          absurd (own_inner r.0.target (there r.0 r.1) (subst (λ (x : PlainAssign). Outer x.target) (sym r.2) outer))

  outer_leads : (p q : PortRef) → Outer p → Leads flat (group g) p q → Outer q
  outer_leads p q outer lead = is_closed flat (group g) Outer outer_named (λ c p m row at side reads here. here) p q outer lead

  outer_depends : (p q : PortRef) → Outer p → Depends flat (group g) p q → Outer q
  outer_depends p q outer (at_once lead) = outer_leads p q outer lead
  outer_depends p q outer (by_way_of r lead rest) = outer_depends r q (outer_leads p r outer lead) rest

  -- WHAT A PORT OF THE COMPONENT LEADS TO: what it leads to in the tree
  abbrev Back : (PortRef → Type 0) → PortRef → Type 0
  Back P q = (s : PortRef) × (f s ≡ q) × IsNamed i s × P s

  mentioned : (c p : ℕ) → c < length part.cells → kid_at kids c ≡ None → (q : PortRef) → Mentions (drivers (part_of flat) (group g) (ports.Cell (kept_at kids c) p)) q → Back (Mentions (drivers part (group g) (ports.Cell c p))) q
  mentioned c p less none q m =
      let same = ap (drivers (part_of flat) (group g)) (sym (own-kept kids part c p none))
      ∙ drivers_like (part_of flat) (flat_part i) flattened.0 (group g) (f (ports.Cell c p))
      ∙ own_drivers kids part fair.0.targets (group g) (flat_part i) refl refl (group g) (ports.Cell c p) (less, none) (λ h l. refl) in
      let n = mentions_back f (drivers part (group g) (ports.Cell c p)) q (subst (λ l. Mentions l q) same m) in
      let o = mention_of (group g) (source_order part) (ports.Cell c p) n.0 n.2 in
      (n.0, n.1, fair.0.names o.owned.assign n.0 (assign_of part o.owned o.stands) o.names, n.2)

  side_back : (c p : ℕ) (row : Row) → cell_at cells c ≡ OfRow row → c < length part.cells → (side : Side) → (q : PortRef) → SideLeads (part_of flat) (group g) row (kept_at kids c) p side q
      → Back (SideLeads part (group g) row c p side) q
  side_back c p row at less sides.Enable q lead = mentioned c p less (kid-row cells c row at) q lead
  side_back c p row at less sides.Plain q lead = mentioned c p less (kid-row cells c row at) q lead
  side_back c p row at less sides.Output q lead =
      (ports.Cell c lead.0, own-kept kids part c lead.0 (kid-row cells c row at) ∙ lead.2, (less, λ child e static. absurd (row_instance row child (sym at ∙ e))), (lead.0, lead.1, refl))
  side_back c p row at less sides.Registered q lead = absurd lead

  part_back : (c p : ℕ) → c < length part.cells → kid_at kids c ≡ None → (port : PartPort) → (q : PortRef) → PartLeads (part_of flat) (group g) (kept_at kids c) p port q → Back (PartLeads part (group g) c p port) q
  part_back c p less none Go q lead = mentioned c p less none q lead
  part_back c p less none (AnInput n) q lead = mentioned c p less none q lead
  part_back c p less none (AnOutput n) q lead = absurd lead
  part_back c p less none ItsDone q lead = absurd lead

  zero_plus : (a : ℕ) → 0 + a ≡ a
  zero_plus a = omega arith

  abbrev stood_at : ℕ → At
  stood_at c = cell_at (cells_of flat) (kept_at kids c)

  flat_at : (c : ℕ) (x : At) → cell_at (cells_of flat) (0 + kept_at kids (0 + c)) ≡ x → stood_at c ≡ x
  flat_at c x e = ap (cell_at (cells_of flat)) (sym (zero_plus (kept_at kids c))) ∙ ap (λ k. cell_at (cells_of flat) (0 + kept_at kids k)) (sym (zero_plus c)) ∙ e

  cell_back : (c p : ℕ) → c < length part.cells → kid_at kids c ≡ None → (q : PortRef) → CellLeads (part_of flat) (group g) (kept_at kids c) p (stood_at c) q → Back (CellLeads part (group g) c p (cell_at cells c)) q
  cell_back c p less none q lead = by (cell_at cells c) refl
    where
      by : (x : At) → cell_at cells c ≡ x → Back (CellLeads part (group g) c p x) q
      by Nothing at = absurd (fair.0.counts c less at)
      by (OfRow row) at =
          side_back c p row at less (side_of row p) q
          (subst (λ x. CellLeads (part_of flat) (group g) (kept_at kids c) p x q) (flat_at c (OfRow row) (embedded_row kids part 0 (cells_of flat) cells 0 c row flattened.1 at)) lead)
      by (OfInstance child) at = of_child (is_static child) refl
        where
          of_child : (b : Bool) → is_static child ≡ b → Back (CellLeads part (group g) c p (OfInstance child)) q
          of_child true static = absurd (let not_kept : None ≡ Some (flat_part child) = sym none ∙ kid-static cells c child at static in cc)
          of_child false dynamic =
              let r = embedded_dynamic kids part 0 (cells_of flat) cells 0 c child flattened.1 at dynamic in
              let its : part_port (part_of r.0) p ≡ part_port (part_of child) p = ports_like (part_of r.0) (part_of child) (r.2.inputs ∙ flat-inputs child) (r.2.outputs ∙ flat-outputs child) p in
              part_back c p less none (part_port (part_of child) p) q
              (subst (λ x. PartLeads (part_of flat) (group g) (kept_at kids c) p x q) its
              (subst (λ x. CellLeads (part_of flat) (group g) (kept_at kids c) p x q) (flat_at c (OfInstance r.0) r.1) lead))

  -- one step
  abbrev Step : PortRef → PortRef → Type 0
  Step r q = Back (Leads i (group g) r) q ⊎ Outer q

  step : (r q : PortRef) → IsNamed i r → Leads flat (group g) (f r) q → Step r q
  step (ports.Cell c p) q named lead = by (kid_at kids c) refl
    where
      by : (k : Option PlainComponent) → kid_at kids c ≡ k → Step (ports.Cell c p) q
      by None none = inl (cell_back c p named.0 none q (subst (λ x. Leads flat (group g) x q) (own-kept kids part c p none) lead))
      by (Some kid) its =
          let wire = ap (λ k. port_if kids part k c p) its in
          inr (outer_leads (f (ports.Cell c p)) q (subst Outer (sym wire) (omega arith)) lead)
  step (ports.Input n) q named lead = absurd lead
  step (ports.Output n) q named lead = absurd named
  step (ports.Done h) q named lead = absurd named
  step (ports.Literal w v) q named lead = absurd lead

  -- DEPENDS
  module _ (c n : ℕ) (less : c < length part.cells) (none : kid_at kids c ≡ None) where
    never : (q : PortRef) → Outer q → f (ports.Cell c n) ≡ q → ⊥
    never q outer e = own_inner (ports.Cell c n) (less, none) (subst Outer (sym e) outer)

    pub depends_back : (x y r : PortRef) → IsNamed i r → f r ≡ x → f (ports.Cell c n) ≡ y → Depends flat (group g) x y → Depends i (group g) r (ports.Cell c n)
    depends_back x y r named from to (at_once lead) =
        ⊎_elim
        (λ (b : Back (Leads i (group g) r) y). at_once (subst (Leads i (group g) r) (cell_alone kids part c n less none b.0 (b.1 ∙ sym to)) b.3))
        (λ outer. absurd (never y outer to))
        (step r y named (subst (λ z. Leads flat (group g) z y) (sym from) lead))
    depends_back x y r named from to (by_way_of m lead rest) =
        ⊎_elim
        (λ (b : Back (Leads i (group g) r) m). by_way_of b.0 b.3 (depends_back m y b.0 b.2 b.1 to rest))
        (λ outer. absurd (never y (outer_depends m y outer rest) to))
        (step r m named (subst (λ z. Leads flat (group g) z m) (sym from) lead))
