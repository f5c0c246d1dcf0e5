-- THE PORTS ON WHICH OUTPUTS REST: what they depend on is among them, and no group drives one of them.
use Rattle.std.proofs.Common.{◌≡◌, ℕ, suc, ◌+◌, ◌<◌, ◌⊎◌, inl, inr, ⊎_elim, true, false, List, [], ◌∷◌, ◌++◌, length, get_or, Some, None, refl, sym, ap, ◌∙◌, subst, arith}
use Rattle.cx_text.proofs.MemberLaws.{in_at}
use Rattle.cx_text.specs.Members.{In}
use Rattle.cx_prim.specs.declared.ports.Side.{Side}
use Rattle.cx_prim.specs.declared.ports.Side.TheVariants as sides
use Rattle.cx_prim.specs.Rows.{Row}
use Rattle.cx_meaning.specs.declared.ports.PortRef.{PortRef}
use Rattle.cx_meaning.specs.declared.ports.PortRef.TheVariants as ports
use Rattle.cx_meaning.specs.Rows.{side_of}
use Rattle.cx_meaning.specs.Designs.{PlainAssign, PlainGroup, PlainComponent, group_at, no_group}
use Rattle.cx_meaning.specs.Instances.{Instance, At, Nothing, OfRow, OfInstance, part_of, cells_of, cell_at}
use Rattle.cx_meaning.specs.Active.{Active, nothing, Owned, owned, owned_by_groups, source_order, offset_of, same_port, drivers}
use Rattle.cx_meaning.specs.Sights.{IsWanted, PartPort, Go, AnInput, AnOutput, ItsDone, part_port}
use Rattle.cx_meaning.proofs.DesignsLemmas.{group_there, there_below}
use Rattle.cx_meaning.proofs.ActiveLemmas.{acting_has}
use Rattle.cx_meaning.proofs.PortsLemmas.{same_self}
use Rattle.cx_prim.specs.Rows.{is_output_side}
use Rattle.cx_rules.specs.Ports.{is_part_output, is_cell_output, is_source_only}
use Rattle.cx_meaning.proofs.InstancesLemmas.{row_is, row_instance}
use Rattle.cx_rules.specs.Footprints.{AssignNames, Rests, literal_rests, input_rests, registered_rests, output_rests, done_rests, combinational_rests, Mentions, SideLeads, PartLeads, CellLeads, Leads, at_once, by_way_of}
use Rattle.cx_rules.specs.ShapeRules.{LeadsToInput}
use Rattle.cx_rules.proofs.FoundLemmas.{acting_in}
use Rattle.cx_rules.proofs.FrameLemmas.{acting_alike}
use Rattle.cx_rules.proofs.ForeignLemmas.{sorted_among, owned_among, split, groups_among}
use Rattle.cx_flattening.specs.Flattened.{flat_kids}
use Rattle.cx_flattening.specs.Targets.{OwnTarget}
use Rattle.cx_flattening.specs.Fair.{IsNamed, IsAtRest, IsFair}

pub data Resting (i : Instance) : PortRef → Type 0 where
  an_output : {n : ℕ} → n < length (part_of i).outputs → Resting i (ports.Output n)
  at_rest : {q : PortRef} → IsAtRest i q → (LeadsToInput i q → ⊥) → IsNamed i q → Resting i q
  is_read : {c m : ℕ} (p : ℕ) (row : Row) → cell_at (cells_of i) c ≡ OfRow row → side_of row p ≡ sides.Output → row.reads p m ≡ true → IsAtRest i (ports.Cell c p)
      → (LeadsToInput i (ports.Cell c m) → ⊥) → c < length (part_of i).cells → Resting i (ports.Cell c m)

-- the number of a group
pub group_number : (xs : List PlainGroup) (x : PlainGroup) → In xs x → (g : ℕ) × (get_or xs g no_group ≡ x)
group_number [] x i = absurd i
group_number (y ∷ ys) x (inl e) = (0, e)
group_number (y ∷ ys) x (inr i) = let r = group_number ys x i in (suc r.0, r.1)

-- an assignment among all of a component is a continuous one, or one of a group
pub record OfOne (part : PlainComponent) (o : Owned) : Type 0 where
  pub number : ℕ
  pub owner : o.owner ≡ Some number
  pub is_there : In part.groups (group_at part number)
  pub stands : In (group_at part number).assigns o.assign

pub owner_of : (part : PlainComponent) (o : Owned) → In (source_order part) o → ((o.owner ≡ None) × In part.always o.assign) ⊎ OfOne part o
owner_of part o i =
    ⊎_elim
    (λ j. let r = owned_among None part.always o j in inl (r.0, r.1))
    (λ j. let r = groups_among 0 part.groups o j in
    let e : 0 + r.number ≡ r.number = omega arith in
    inr (record { number = r.number; owner = r.owner ∙ ap Some e; is_there = in_at part.groups r.number (group_at part r.number) (there_below part.groups r.number (group_there part r.number o.assign r.stands)); stands = r.stands }))
    (split (owned None part.always) (owned_by_groups 0 part.groups) o (sorted_among (owned None part.always ++ owned_by_groups 0 part.groups) o i))

module _ (i : Instance) (fair : IsFair i) where
  -- what is at rest is no target
  rests_source : (q : PortRef) → Rests i q → OwnTarget (flat_kids (cells_of i)) (part_of i) q → is_source_only i q ≡ true
  rests_source _ literal_rests own = absurd own
  rests_source _ input_rests own = absurd own
  rests_source _ (registered_rests {p = p} row at side) own = ap (λ x. is_cell_output x p) at ∙ ap is_output_side side
  rests_source _ (output_rests {p = p} n child at port) own = ap (λ x. is_cell_output x p) at ∙ ap is_part_output port
  rests_source _ (done_rests {p = p} child at port) own = ap (λ x. is_cell_output x p) at ∙ ap is_part_output port
  rests_source _ (combinational_rests {p = p} row at side groups always) own = ap (λ x. is_cell_output x p) at ∙ ap is_output_side side

  none_in_group : (c p m : ℕ) (row : Row) → cell_at (cells_of i) c ≡ OfRow row → side_of row p ≡ sides.Output → row.reads p m ≡ true → Rests i (ports.Cell c p)
      → (x : PlainGroup) (a : PlainAssign) → In (part_of i).groups x → In x.assigns a → a.target ≡ ports.Cell c m → ⊥
  none_in_group c p m row at side reads (registered_rests other there registered) x a j k e =
      let same : other ≡ row = row_is other row (sym there ∙ at) in
      absurd (let none : sides.Registered ≡ sides.Output = sym registered ∙ ap (λ r. side_of r p) same ∙ side in cc)
  none_in_group c p m row at side reads (output_rests n child there port) x a j k e = row_instance row child (sym at ∙ there)
  none_in_group c p m row at side reads (done_rests child there port) x a j k e = row_instance row child (sym at ∙ there)
  none_in_group c p m row at side reads (combinational_rests other there its groups always) x a j k e =
      let same : other ≡ row = row_is other row (sym there ∙ at) in
      let r = group_number (part_of i).groups x j in
      groups m r.0 a (ap (λ z. z.reads p m) same ∙ reads) (subst (λ z. In z.assigns a) (sym r.1) k) e

  -- NO GROUP DRIVES IT
  pub none_drives : (q : PortRef) → Resting i q → OwnTarget (flat_kids (cells_of i)) (part_of i) q → (x : PlainGroup) (a : PlainAssign) → In (part_of i).groups x → In x.assigns a → a.target ≡ q → ⊥
  none_drives _ (an_output {n = n} less) own x a j k e = fair.outputs_outside x a n j k e
  none_drives q (at_rest rests leads named) own x a j k e =
      rests (λ r. let none : false ≡ true = sym (fair.not_source a (inr (x, j, k))) ∙ ap (is_source_only i) e ∙ rests_source q r own in cc)
  none_drives _ (is_read {c = c} {m = m} p row at side reads rests leads less) own x a j k e = rests (λ r. none_in_group c p m row at side reads r x a j k e)

  pub resting_drivers : (act : Active) (q : PortRef) → Resting i q → OwnTarget (flat_kids (cells_of i)) (part_of i) q → drivers (part_of i) act q ≡ drivers (part_of i) nothing q
  resting_drivers act q rest own = acting_alike act nothing q (source_order (part_of i)) (λ o j e. one o e (owner_of (part_of i) o j))
    where
      one : (o : Owned) → o.assign.target ≡ q → ((o.owner ≡ None) × In (part_of i).always o.assign) ⊎ OfOne (part_of i) o → offset_of act o.owner ≡ offset_of nothing o.owner
      one o e (inl h) = ap (offset_of act) h.0 ∙ sym (ap (offset_of nothing) h.0)
      one o e (inr h) = absurd (none_drives q rest own (group_at (part_of i) h.number) o.assign h.is_there h.stands e)

  -- WHAT IT DEPENDS ON IS AMONG THEM
  leads_back : (p q : PortRef) → Leads i nothing p q → (LeadsToInput i p → ⊥) → LeadsToInput i q → ⊥
  leads_back p q lead none to = none (to.0, ⊎_elim (λ e. inr (at_once (subst (Leads i nothing p) e lead))) (λ d. inr (by_way_of q lead d)) to.1)

  wanted_closed : (c p : ℕ) (row : Row) (q : PortRef) → cell_at (cells_of i) c ≡ OfRow row → side_of row p ≡ sides.Output → IsAtRest i (ports.Cell c p) → (LeadsToInput i (ports.Cell c p) → ⊥) → c < length (part_of i).cells
      → IsWanted c (row.reads p) q → Resting i q
  wanted_closed c p row q at side rests none less wanted =
      subst (Resting i) wanted.2 (is_read p row at side wanted.1 rests (leads_back (ports.Cell c p) (ports.Cell c wanted.0) (lead wanted.0 wanted.1) none) less)
    where
      lead : (m : ℕ) → row.reads p m ≡ true → Leads i nothing (ports.Cell c p) (ports.Cell c m)
      lead m reads = subst (λ x. CellLeads (part_of i) nothing c p x (ports.Cell c m)) (sym at) (subst (λ x. SideLeads (part_of i) nothing row c p x (ports.Cell c m)) (sym side) (m, reads, refl))

  -- a port at rest is no target, so it leads on only as an output of a row
  not_target : (p : PortRef) → IsAtRest i p → (Rests i p → is_source_only i p ≡ true) → is_source_only i p ≡ false → ⊥
  not_target p rests source target = rests (λ r. let none : false ≡ true = sym target ∙ source r in cc)

  cell_source : (c p : ℕ) → Rests i (ports.Cell c p) → is_source_only i (ports.Cell c p) ≡ true
  cell_source c p (registered_rests row at side) = ap (λ x. is_cell_output x p) at ∙ ap is_output_side side
  cell_source c p (output_rests n child at port) = ap (λ x. is_cell_output x p) at ∙ ap is_part_output port
  cell_source c p (done_rests child at port) = ap (λ x. is_cell_output x p) at ∙ ap is_part_output port
  cell_source c p (combinational_rests row at side groups always) = ap (λ x. is_cell_output x p) at ∙ ap is_output_side side

  side_closed : (act : Active) (c p : ℕ) (row : Row) (q : PortRef) → cell_at (cells_of i) c ≡ OfRow row → IsAtRest i (ports.Cell c p) → (LeadsToInput i (ports.Cell c p) → ⊥) → c < length (part_of i).cells
      → (side : Side) → side_of row p ≡ side → SideLeads (part_of i) act row c p side q → Resting i q
  side_closed act c p row q at rests none less sides.Enable is lead = absurd (not_target (ports.Cell c p) rests (cell_source c p) (ap (λ x. is_cell_output x p) at ∙ ap is_output_side is))
  side_closed act c p row q at rests none less sides.Plain is lead = absurd (not_target (ports.Cell c p) rests (cell_source c p) (ap (λ x. is_cell_output x p) at ∙ ap is_output_side is))
  side_closed act c p row q at rests none less sides.Output is lead = wanted_closed c p row q at is rests none less lead
  side_closed act c p row q at rests none less sides.Registered is lead = absurd lead

  part_closed : (act : Active) (c p : ℕ) (child : Instance) (q : PortRef) → cell_at (cells_of i) c ≡ OfInstance child → IsAtRest i (ports.Cell c p)
      → (port : PartPort) → part_port (part_of child) p ≡ port → PartLeads (part_of i) act c p port q → Resting i q
  part_closed act c p child q at rests Go is lead = absurd (not_target (ports.Cell c p) rests (cell_source c p) (ap (λ x. is_cell_output x p) at ∙ ap is_part_output is))
  part_closed act c p child q at rests (AnInput n) is lead = absurd (not_target (ports.Cell c p) rests (cell_source c p) (ap (λ x. is_cell_output x p) at ∙ ap is_part_output is))
  part_closed act c p child q at rests (AnOutput n) is lead = absurd lead
  part_closed act c p child q at rests ItsDone is lead = absurd lead

  at_closed : (act : Active) (c p : ℕ) (q : PortRef) → IsAtRest i (ports.Cell c p) → (LeadsToInput i (ports.Cell c p) → ⊥) → c < length (part_of i).cells
      → (x : At) → cell_at (cells_of i) c ≡ x → CellLeads (part_of i) act c p x q → Resting i q
  at_closed act c p q rests none less Nothing at lead = absurd lead
  at_closed act c p q rests none less (OfRow row) at lead = side_closed act c p row q at rests none less (side_of row p) refl lead
  at_closed act c p q rests none less (OfInstance child) at lead = part_closed act c p child q at rests (part_port (part_of child) p) refl lead

  rests_closed : (act : Active) (p q : PortRef) → IsAtRest i p → (LeadsToInput i p → ⊥) → IsNamed i p → Leads i act p q → Resting i q
  rests_closed act (ports.Cell c p) q rests none named lead = at_closed act c p q rests none named.0 (cell_at (cells_of i) c) refl lead
  rests_closed act (ports.Input n) q rests none named lead = absurd lead
  rests_closed act (ports.Output n) q rests none named lead = absurd named
  rests_closed act (ports.Done g) q rests none named lead = absurd named
  rests_closed act (ports.Literal w v) q rests none named lead = absurd lead

  -- a continuous assignment of a port leads there whatever acts
  always_mentions : (p q : PortRef) (o : Owned) → In (source_order (part_of i)) o → o.owner ≡ None → o.assign.target ≡ p → AssignNames o.assign q → Mentions (drivers (part_of i) nothing p) q
  always_mentions p q o j owner e names =
      (record { offset = 0; assign = o.assign }, acting_has nothing p (source_order (part_of i)) o 0 j (ap (λ x. same_port x p) e ∙ same_self p) (ap (offset_of nothing) owner), names)

  input_leads : (act : Active) (c m : ℕ) (row : Row) (q : PortRef) → cell_at (cells_of i) c ≡ OfRow row → (side_of row m ≡ sides.Enable) ⊎ (side_of row m ≡ sides.Plain)
      → (Leads i act (ports.Cell c m) q → Mentions (drivers (part_of i) act (ports.Cell c m)) q) × (Mentions (drivers (part_of i) act (ports.Cell c m)) q → Leads i act (ports.Cell c m) q)
  input_leads act c m row q at (inl side) = (
    λ lead. subst (λ x. SideLeads (part_of i) act row c m x q) side (subst (λ x. CellLeads (part_of i) act c m x q) at lead),
    λ h. subst (λ x. CellLeads (part_of i) act c m x q) (sym at) (subst (λ x. SideLeads (part_of i) act row c m x q) (sym side) h),
  )
  input_leads act c m row q at (inr side) = (
    λ lead. subst (λ x. SideLeads (part_of i) act row c m x q) side (subst (λ x. CellLeads (part_of i) act c m x q) at lead),
    λ h. subst (λ x. CellLeads (part_of i) act c m x q) (sym at) (subst (λ x. SideLeads (part_of i) act row c m x q) (sym side) h),
  )

  always_rests : (c p m : ℕ) (row : Row) → cell_at (cells_of i) c ≡ OfRow row → side_of row p ≡ sides.Output → row.reads p m ≡ true → Rests i (ports.Cell c p)
      → (a : PlainAssign) (q : PortRef) → In (part_of i).always a → a.target ≡ ports.Cell c m → AssignNames a q → Rests i q
  always_rests c p m row at side reads (registered_rests other there registered) a q j e names =
      let same : other ≡ row = row_is other row (sym there ∙ at) in
      absurd (let none : sides.Registered ≡ sides.Output = sym registered ∙ ap (λ r. side_of r p) same ∙ side in cc)
  always_rests c p m row at side reads (output_rests n child there port) a q j e names = absurd (row_instance row child (sym at ∙ there))
  always_rests c p m row at side reads (done_rests child there port) a q j e names = absurd (row_instance row child (sym at ∙ there))
  always_rests c p m row at side reads (combinational_rests other there its groups always) a q j e names =
      let same : other ≡ row = row_is other row (sym there ∙ at) in
      always m a q (ap (λ z. z.reads p m) same ∙ reads) j e names

  mention_closed : (act : Active) (p q : PortRef) → Mentions (drivers (part_of i) act p) q
      → ((o : Owned) → In (source_order (part_of i)) o → o.owner ≡ None → In (part_of i).always o.assign → o.assign.target ≡ p → AssignNames o.assign q → Resting i q)
      → ((x : PlainGroup) (a : PlainAssign) → In (part_of i).groups x → In x.assigns a → a.target ≡ p → ⊥) → Resting i q
  mention_closed act p q (acting, among, names) always groups = one (acting_in act p (source_order (part_of i)) acting among)
    where
      one : (o : Owned) × In (source_order (part_of i)) o × (acting.assign ≡ o.assign) × (o.assign.target ≡ p) → Resting i q
      one (o, j, same, e) =
          ⊎_elim
          (λ h. always o j h.0 h.1 e (subst (λ a. AssignNames a q) same names))
          (λ (h : OfOne (part_of i) o). absurd (groups (group_at (part_of i) h.number) o.assign h.is_there h.stands e))
          (owner_of (part_of i) o j)

  pub resting_closed : (act : Active) (p q : PortRef) → Resting i p → Leads i act p q → Resting i q
  resting_closed act _ q (an_output {n = n} less) lead =
      mention_closed act (ports.Output n) q lead
      (λ o j owner always e names. at_rest (fair.outputs_rest n o.assign q always e names) (fair.outputs_lead n o.assign q always e names) (fair.names o.assign q (inl always) names))
      (λ x a j k e. fair.outputs_outside x a n j k e)
  resting_closed act p q (at_rest rests leads named) lead = rests_closed act p q rests leads named lead
  resting_closed act _ q (is_read {c = c} {m = m} p row at side reads rests leads less) lead =
      mention_closed act (ports.Cell c m) q ((input_leads act c m row q at (fair.reads c p m row at reads)).0 lead)
      (λ o j owner always e names. at_rest (λ no. rests (λ r. no (always_rests c p m row at side reads r o.assign q always e names)))
      (leads_back (ports.Cell c m) q ((input_leads nothing c m row q at (fair.reads c p m row at reads)).1 (always_mentions (ports.Cell c m) q o j owner e names)) leads)
      (fair.names o.assign q (inl always) names))
      (λ x a j k e. rests (λ r. none_in_group c p m row at side reads r x a j k e))
