-- What leads on does so by an assignment of the port, or as a combinational output on an input that it reads.
use Rattle.std.proofs.Common.{◌≡◌, ℕ, ◌+◌, inl, inr, ◌⊎◌, ⊎_elim, Bool, true, false, true≢false, Option, Some, None, List, [], ◌∷◌, ◌++◌, nat_eq, nat_lt, refl, sym, ap, ◌∙◌, subst, arith}
use Rattle.std.specs.Prelude.{if◌then◌else◌}
use Rattle.std.proofs.lemmas.Bool.{eqb-true}
use Rattle.cx_text.specs.Members.{In}
use Rattle.cx_prim.specs.declared.ports.Side.{Side}
use Rattle.cx_prim.specs.declared.ports.Side.TheVariants as sides
use Rattle.cx_prim.specs.Rows.{Row, is_output_side}
use Rattle.cx_meaning.specs.declared.ports.PortRef.{PortRef}
use Rattle.cx_meaning.specs.declared.ports.PortRef.TheVariants as ports
use Rattle.cx_meaning.specs.Rows.{side_of}
use Rattle.cx_meaning.specs.Designs.{PlainAssign, PlainComponent, group_at}
use Rattle.cx_meaning.specs.Instances.{Instance, At, Nothing, OfRow, OfInstance, cell_at, cells_of, part_of}
use Rattle.cx_meaning.specs.Active.{Active, Acting, nothing, group, only_at, Owned, owned, owned_by_groups, source_order, offset_of, if_acting, if_target, acting, same_port, drivers}
use Rattle.cx_meaning.specs.Sights.{PartPort, Go, AnInput, AnOutput, ItsDone, part_port}
use Rattle.cx_rules.specs.Footprints.{AssignNames, Mentions, SideLeads, PartLeads, CellLeads, Leads}
use Rattle.cx_rules.specs.Ports.{is_source_only, is_cell_output, is_part_output}
use Rattle.cx_rules.specs.Wellformed.{port_count}
use Rattle.cx_rules.proofs.FoundLemmas.{same_is}
use Rattle.cx_rules.proofs.ForeignLemmas.{sorted_among, owned_among, split, groups_among}
use Rattle.cx_design_leads.specs.Nodes.{below, node_of}
use Rattle.cx_design_leads.specs.Edges.{LeadsInGroup, ReadsInRow}
use Rattle.cx_meaning.proofs.PortsLemmas.{same_self}
use Rattle.cx_meaning.proofs.ActiveLemmas.{only_self, only_is, acting_has, acting_acts, group_stands, always_stands}
use Rattle.cx_text.proofs.OptionLaws.{none_some}

-- DRIVERS of a port, as what stands in source order and is active
pub record Driver (part : PlainComponent) (act : Active) (p q : PortRef) : Type 0 where
  pub owned : Owned
  pub stands : In (source_order part) owned
  pub target : owned.assign.target ≡ p
  pub offset : ℕ
  pub acts : offset_of act owned.owner ≡ Some offset
  pub names : AssignNames owned.assign q

pub driver_of : (part : PlainComponent) (act : Active) (p q : PortRef) → Mentions (drivers part act p) q → Driver part act p q
driver_of part act p q (b, i, n) =
    let r = acting_acts act p (source_order part) b i in
    record { owned = r.owned; stands = r.stands; target = same_is r.owned.assign.target p r.target; offset = b.offset; acts = r.acts; names = subst (λ a. AssignNames a q) (sym r.same) n }

mentions_of : (part : PlainComponent) (act : Active) (p q : PortRef) (o : Owned) (k : ℕ) → In (source_order part) o → o.assign.target ≡ p → offset_of act o.owner ≡ Some k → AssignNames o.assign q → Mentions (drivers part act p) q
mentions_of part act p q o k i e f n = (record { offset = k; assign = o.assign }, acting_has act p (source_order part) o k i (ap (λ r. same_port r p) e ∙ same_self p) f, n)

-- an assignment of a list drives a port and names another
pub record Drives (list : List PlainAssign) (p q : PortRef) : Type 0 where
  pub assign : PlainAssign
  pub stands : In list assign
  pub target : assign.target ≡ p
  pub names : AssignNames assign q

-- the owner of an assignment: none, or a group
module _ (part : PlainComponent) (p q : PortRef) where
  pub of_owner : (act : Active) (d : Driver part act p q) → ((d.owned.owner ≡ None) × Drives part.always p q) ⊎ ((g : ℕ) × (d.owned.owner ≡ Some g) × Drives (group_at part g).assigns p q)
  of_owner act d =
      ⊎_elim
      (λ j. let r = owned_among None part.always d.owned j in inl (r.0, record { assign = d.owned.assign; stands = r.1; target = d.target; names = d.names }))
      (λ j. let r = groups_among 0 part.groups d.owned j in
      let e : 0 + r.number ≡ r.number = omega arith in
      inr (r.number, r.owner ∙ ap Some e, record { assign = d.owned.assign; stands = r.stands; target = d.target; names = d.names }))
      (split (owned None part.always) (owned_by_groups 0 part.groups) d.owned (sorted_among (owned None part.always ++ owned_by_groups 0 part.groups) d.owned d.stands))

  pub bare_drives : Mentions (drivers part nothing p) q → Drives part.always p q
  bare_drives m =
      let d = driver_of part nothing p q m in
      ⊎_elim (λ l. l.1) (λ r. absurd (none_some d.offset (ap (offset_of nothing) (sym r.1) ∙ d.acts))) (of_owner nothing d)

  pub drives_bare : Drives part.always p q → Mentions (drivers part nothing p) q
  drives_bare d = mentions_of part nothing p q (record { owner = None; assign = d.assign }) 0 (always_stands part d.assign d.stands) d.target refl d.names

  pub group_drives : (g : ℕ) → Mentions (drivers part (group g) p) q → Drives part.always p q ⊎ Drives (group_at part g).assigns p q
  group_drives g m =
      let d = driver_of part (group g) p q m in
      ⊎_elim
      (λ l. inl l.1)
      (λ r. let same : g ≡ r.0 = only_is g r.0 d.offset (ap (offset_of (group g)) (sym r.1) ∙ d.acts) in inr (subst (λ h. Drives (group_at part h).assigns p q) (sym same) r.2))
      (of_owner (group g) d)

  pub always_group : (g : ℕ) → Drives part.always p q → Mentions (drivers part (group g) p) q
  always_group g d = mentions_of part (group g) p q (record { owner = None; assign = d.assign }) 0 (always_stands part d.assign d.stands) d.target refl d.names

  pub drives_group : (g : ℕ) → Drives (group_at part g).assigns p q → Mentions (drivers part (group g) p) q
  drives_group g d = mentions_of part (group g) p q (record { owner = Some g; assign = d.assign }) 0 (group_stands part g d.assign d.stands) d.target (only_self g) d.names

-- A PORT that has a node leads on by its drivers, or through a row
abbrev pub LeadsEither : Instance → Active → PortRef → PortRef → Type 0
LeadsEither i act p q = ((is_source_only i p ≡ false) × Mentions (drivers (part_of i) act p) q) ⊎ ReadsInRow i p q

no_port : (first n m : ℕ) → below 0 first n ≡ Some m → ⊥
no_port first n m e = choice (nat_lt n 0) refl e
  where
    choice : (b : Bool) → nat_lt n 0 ≡ b → (if b then Some (first + n) else None) ≡ Some m → ⊥
    choice true f e = grind arith
    choice false f e = none_some m e

module _ (i : Instance) (act : Active) (c p : ℕ) (q : PortRef) where
  abbrev Drivable : Type 0
  Drivable = Mentions (drivers (part_of i) act (ports.Cell c p)) q

  side_either : (row : Row) → cell_at (cells_of i) c ≡ OfRow row → (side : Side) → side_of row p ≡ side → SideLeads (part_of i) act row c p side q → LeadsEither i act (ports.Cell c p) q
  side_either row e sides.Enable f l = inl (ap (λ at. is_cell_output at p) e ∙ ap is_output_side f, l)
  side_either row e sides.Plain f l = inl (ap (λ at. is_cell_output at p) e ∙ ap is_output_side f, l)
  side_either row e sides.Output f l = inr (record { cell = c; port = p; row = row; is = refl; stands = e; side = f; wanted = l })
  side_either row e sides.Registered f l = absurd l

  part_either : (child : Instance) → cell_at (cells_of i) c ≡ OfInstance child → (port : PartPort) → part_port (part_of child) p ≡ port → PartLeads (part_of i) act c p port q → LeadsEither i act (ports.Cell c p) q
  part_either child e Go f l = inl (ap (λ at. is_cell_output at p) e ∙ ap is_part_output f, l)
  part_either child e (AnInput n) f l = inl (ap (λ at. is_cell_output at p) e ∙ ap is_part_output f, l)
  part_either child e (AnOutput n) f l = absurd l
  part_either child e ItsDone f l = absurd l

  at_either : (at : At) → cell_at (cells_of i) c ≡ at → CellLeads (part_of i) act c p at q → LeadsEither i act (ports.Cell c p) q
  at_either Nothing e l = absurd l
  at_either (OfRow row) e l = side_either row e (side_of row p) refl l
  at_either (OfInstance child) e l = part_either child e (part_port (part_of child) p) refl l

  side_joins : (row : Row) (side : Side) → is_output_side side ≡ false → Drivable → SideLeads (part_of i) act row c p side q
  side_joins row sides.Enable f m = m
  side_joins row sides.Plain f m = m
  side_joins row sides.Output f m = absurd (true≢false f)
  side_joins row sides.Registered f m = absurd (true≢false f)

  part_joins : (port : PartPort) → is_part_output port ≡ false → Drivable → PartLeads (part_of i) act c p port q
  part_joins Go f m = m
  part_joins (AnInput n) f m = m
  part_joins (AnOutput n) f m = absurd (true≢false f)
  part_joins ItsDone f m = absurd (true≢false f)

  at_joins : (at : At) (first m : ℕ) → below (port_count at) first p ≡ Some m → is_cell_output at p ≡ false → Drivable → CellLeads (part_of i) act c p at q
  at_joins Nothing first m e f d = absurd (no_port first p m e)
  at_joins (OfRow row) first m e f d = side_joins row (side_of row p) f d
  at_joins (OfInstance child) first m e f d = part_joins (part_port (part_of child) p) f d

pub leads_either : (i : Instance) (act : Active) (p q : PortRef) → Leads i act p q → LeadsEither i act p q
leads_either i act (ports.Cell c p) q l = at_either i act c p q (cell_at (cells_of i) c) refl l
leads_either i act (ports.Input n) q l = absurd l
leads_either i act (ports.Output n) q l = inl (refl, l)
leads_either i act (ports.Done g) q l = inl (refl, l)
leads_either i act (ports.Literal w v) q l = absurd l

driven_leads : (i : Instance) (act : Active) (p q : PortRef) (m : ℕ) → node_of i p ≡ Some m → is_source_only i p ≡ false → Mentions (drivers (part_of i) act p) q → Leads i act p q
driven_leads i act (ports.Cell c p) q m e f d = at_joins i act c p q (cell_at (cells_of i) c) _ m e f d
driven_leads i act (ports.Input n) q m e f d = absurd (true≢false f)
driven_leads i act (ports.Output n) q m e f d = d
driven_leads i act (ports.Done g) q m e f d = d
driven_leads i act (ports.Literal w v) q m e f d = absurd (none_some m e)

pub row_leads : (i : Instance) (act : Active) (p q : PortRef) → ReadsInRow i p q → Leads i act p q
row_leads i act p q r =
    subst (λ x. Leads i act x q) (sym r.is)
    (subst (λ at. CellLeads (part_of i) act r.cell r.port at q) (sym r.stands)
    (subst (λ side. SideLeads (part_of i) act r.row r.cell r.port side q) (sym r.side) r.wanted))

pub either_leads : (i : Instance) (act : Active) (p q : PortRef) (m : ℕ) → node_of i p ≡ Some m → LeadsEither i act p q → Leads i act p q
either_leads i act p q m e (inl (f, d)) = driven_leads i act p q m e f d
either_leads i act p q m e (inr r) = row_leads i act p q r

-- under a group
pub leads_by_group : (i : Instance) (g : ℕ) (p q : PortRef) (m : ℕ) → node_of i p ≡ Some m → Leads i (group g) p q → Leads i nothing p q ⊎ LeadsInGroup i g p q
leads_by_group i g p q m e l =
    ⊎_elim
    (λ d. ⊎_elim
    (λ a. inl (either_leads i nothing p q m e (inl (d.0, drives_bare (part_of i) p q a))))
    (λ a. inr (record { assign = a.assign; stands = a.stands; target = a.target; drivable = d.0; names = a.names }))
    (group_drives (part_of i) p q g d.1))
    (λ r. inl (row_leads i nothing p q r))
    (leads_either i (group g) p q l)

pub by_group_leads : (i : Instance) (g : ℕ) (p q : PortRef) (m : ℕ) → node_of i p ≡ Some m → Leads i nothing p q ⊎ LeadsInGroup i g p q → Leads i (group g) p q
by_group_leads i g p q m e (inl l) =
    ⊎_elim
    (λ d. either_leads i (group g) p q m e (inl (d.0, always_group (part_of i) p q g (bare_drives (part_of i) p q d.1))))
    (λ r. row_leads i (group g) p q r)
    (leads_either i nothing p q l)
by_group_leads i g p q m e (inr a) = either_leads i (group g) p q m e (inl (a.drivable, drives_group (part_of i) p q g (record { assign = a.assign; stands = a.stands; target = a.target; names = a.names })))
