-- WHAT LEADS ON in the new design does so in the old one, and what rests on state in the old design does so in the new one.
use Rattle.std.proofs.Common.{◌≡◌, ℕ, ◌⊎◌, inl, inr, Bool, true, false, List, [], ◌∷◌, refl, sym, ap, ◌∙◌, subst}
use Rattle.std.specs.Prelude.{if◌then◌else◌}
use Rattle.cx_text.specs.Members.{In}
use Rattle.cx_prim.specs.Rows.{Row}
use Rattle.cx_meaning.specs.declared.ports.PortRef.{PortRef}
use Rattle.cx_meaning.specs.Designs.{Always, PlainAssign, PlainGroup, PlainComponent, group_at}
use Rattle.cx_meaning.specs.Instances.{Instance, At, OfRow, OfInstance, part_of, cells_of, cell_at}
use Rattle.cx_meaning.specs.Active.{Active, same_port, offset_of, source_order, drivers}
use Rattle.cx_meaning.specs.Sights.{part_port}
use Rattle.cx_meaning.proofs.ActiveLemmas.{acting_has}
use Rattle.cx_meaning.proofs.PortsLemmas.{same_self}
use Rattle.cx_rules.specs.Footprints.{AssignNames, Mentions, Rests, literal_rests, input_rests, registered_rests, output_rests, done_rests, combinational_rests, Depends}
use Rattle.cx_rules.specs.Ports.{is_primitive_enable}
use Rattle.cx_rules.specs.RaceRule.{HasCycle}
use Rattle.cx_rules.specs.ShapeRules.{is_hole}
use Rattle.cx_promotion.specs.Promotable.{bare_enable, promoted_assigns}
use Rattle.cx_promotion.specs.Made.{IsPromoted, PartMade}
use Rattle.cx_promotion.proofs.Orders.{acting_from, came_from}
use Rattle.cx_promotion.proofs.Twins.{Twins, beside_each, TwinAt, none_there, a_row_there, a_child_there}
use Rattle.cx_promotion.proofs.Members.{group_made}
use Rattle.cx_promotion.proofs.Stays.{depends_back, leads_back}
use Rattle.cx_promotion.proofs.PortsMade.{SameSignature, port_same, kind_is, cells_alike}

-- an assignment of a promoted group has a target of the old group, and names nothing new
pub record Within (list : List PlainAssign) (a : PlainAssign) : Type 0 where
  pub assign : PlainAssign
  pub stands : In list assign
  pub target : assign.target ≡ a.target
  pub names : (q : PortRef) → AssignNames a q → AssignNames assign q

later_within : {list : List PlainAssign} {a : PlainAssign} (b : PlainAssign) → Within list a → Within (b ∷ list) a
later_within b w = record { assign = w.assign; stands = inr w.stands; target = w.target; names = w.names }

module _ (i : Instance) where
  bare_names : (a : PlainAssign) (q : PortRef) → AssignNames (bare_enable i a) q → AssignNames a q
  bare_names a q names = by (is_primitive_enable i a.target) names
    where
      by : (b : Bool) → AssignNames (if b then record a { guard = Always } else a) q → AssignNames a q
      by true (inl n) = absurd n
      by true (inr e) = inr e
      by false n = n

  bare_target : (a : PlainAssign) → a.target ≡ (bare_enable i a).target
  bare_target a = by (is_primitive_enable i a.target)
    where
      by : (b : Bool) → a.target ≡ (if b then record a { guard = Always } else a).target
      by true = refl
      by false = refl

  within_bare : (rest : List PlainAssign) (b a : PlainAssign) → bare_enable i b ≡ a → Within (b ∷ rest) a
  within_bare rest b a e =
      subst (λ x. Within (b ∷ rest) x) e (record { assign = b; stands = inl refl; target = bare_target b; names = bare_names b })

  pub within_promoted : (list : List PlainAssign) (a : PlainAssign) → In (promoted_assigns i list) a → Within list a
  within_promoted [] a j = absurd j
  within_promoted (b ∷ rest) a j = by (is_hole b.target) j (λ k. within_promoted rest a k)
    where
      by : (t : Bool) → In (if t then promoted_assigns i rest else bare_enable i b ∷ promoted_assigns i rest) a → (In (promoted_assigns i rest) a → Within rest a) → Within (b ∷ rest) a
      by true k later = later_within b (later k)
      by false (inl e) later = within_bare rest b a e
      by false (inr k) later = later_within b (later k)

module _ (whole : Instance) (old new : PlainComponent) (made : PartMade whole old new) where
  -- of every group
  pub within_group : (g : ℕ) (a : PlainAssign) → In (group_at new g).assigns a → Within (group_at old g).assigns a
  within_group g a j = by (group_made whole made.groups g)
    where
      by : (group_at new g ≡ group_at old g) ⊎ IsPromoted whole old new g → Within (group_at old g).assigns a
      by (inl stays) = record { assign = a; stands = subst (λ (x : PlainGroup). In x.assigns a) stays j; target = refl; names = λ q n. n }
      by (inr promoted) = within_promoted whole (group_at old g).assigns a (subst (λ (x : PlainGroup). In x.assigns a) promoted.2 j)

  mentions_back : (act : Active) (p q : PortRef) → Mentions (drivers new act p) q → Mentions (drivers old act p) q
  mentions_back act p q (a, inside, names) =
      let f = acting_from act p (source_order new) a inside in
      let m = came_from whole (IsPromoted whole old new) made.order f.owned f.stands in (
        record { offset = a.offset; assign = m.owned.assign },
        acting_has act p (source_order old) m.owned a.offset m.stands (ap (λ r. same_port r p) (m.target ∙ f.target) ∙ same_self p) (ap (offset_of act) m.owner ∙ f.active),
        m.names q (subst (λ (b : PlainAssign). AssignNames b q) f.same names),
      )

module _ (whole i j : Instance) (t : Twins SameSignature i j) (made : PartMade whole (part_of i) (part_of j)) where
  pub depends_made : (act : Active) {p q : PortRef} → Depends j act p q → Depends i act p q
  depends_made act {p} {q} d =
      depends_back i j act act (leads_back i j act act (cells_alike i j t) (mentions_back whole (part_of i) (part_of j) made act)) d

  pub cycle_made : (act : Active) → HasCycle j act → HasCycle i act
  cycle_made act (p, d) = (p, depends_made act d)

  row_there : (at twin : At) (row : Row) → TwinAt SameSignature at twin → at ≡ OfRow row → twin ≡ OfRow row
  row_there at twin row none_there e = e
  row_there at twin row a_row_there e = e
  row_there at twin row (a_child_there below) e = absurd (cc)

  child_there : (at twin : At) (child : Instance) → TwinAt SameSignature at twin → at ≡ OfInstance child → (kid : Instance) × (twin ≡ OfInstance kid) × ((p : ℕ) → part_port (part_of child) p ≡ part_port (part_of kid) p)
  child_there at twin child none_there e = absurd (cc)
  child_there at twin child a_row_there e = absurd (cc)
  child_there at twin child (a_child_there {child = own} {twin = kid} below) e =
      let same : own ≡ child = cc in
      (kid, refl, subst (λ (x : Instance). (p : ℕ) → part_port (part_of x) p ≡ part_port (part_of kid) p) same (port_same own kid (beside_each SameSignature own kid below)))

  -- WHAT RESTS ON STATE
  pub rests_made : {q : PortRef} → Rests i q → Rests j q
  rests_made literal_rests = literal_rests
  rests_made input_rests = input_rests
  rests_made (registered_rests {c = c} row at side) = registered_rests row (row_there (cell_at (cells_of i) c) (cell_at (cells_of j) c) row (kind_is i j t c) at) side
  rests_made (output_rests {c = c} {p = p} n child at port) =
      let r = child_there (cell_at (cells_of i) c) (cell_at (cells_of j) c) child (kind_is i j t c) at in output_rests n r.0 r.1 (sym (r.2 p) ∙ port)
  rests_made (done_rests {c = c} {p = p} child at port) =
      let r = child_there (cell_at (cells_of i) c) (cell_at (cells_of j) c) child (kind_is i j t c) at in done_rests r.0 r.1 (sym (r.2 p) ∙ port)
  rests_made (combinational_rests {c = c} row at side undriven each) =
      combinational_rests row (row_there (cell_at (cells_of i) c) (cell_at (cells_of j) c) row (kind_is i j t c) at) side
      (λ m g a reads stands target. let w = within_group whole (part_of i) (part_of j) made g a stands in undriven m g w.assign reads w.stands (w.target ∙ target))
      (λ m a q reads stands target names. rests_made (each m a q reads (subst (λ list. In list a) (sym made.always) stands) target names))
