-- What rests on state leads to what rests on state, under whatever set: continuous assignments alone drive on the way. So what a done
-- assignment looks at hangs on no group.
use Rattle.std.proofs.Common.{◌≡◌, ℕ, true, false, None, refl, sym, ap, ◌∙◌, subst}
use Rattle.cx_text.specs.Members.{In}
use Rattle.cx_prim.specs.declared.ports.Side.{Side}
use Rattle.cx_prim.specs.declared.ports.Side.TheVariants as sides
use Rattle.cx_prim.specs.Rows.{Row, is_output_side}
use Rattle.cx_meaning.specs.declared.ports.PortRef.{PortRef}
use Rattle.cx_meaning.specs.declared.ports.PortRef.TheVariants as ports
use Rattle.cx_meaning.specs.Rows.{side_of}
use Rattle.cx_meaning.specs.Designs.{PlainAssign, group_at}
use Rattle.cx_meaning.specs.Instances.{Instance, OfRow, OfInstance, part_of, cells_of, cell_at}
use Rattle.cx_meaning.specs.Active.{Active, Owned, source_order}
use Rattle.cx_meaning.specs.Sights.{PartPort, AnOutput, ItsDone, part_port}
use Rattle.cx_rules.specs.Ports.{is_part_output, is_cell_output, is_source_only}
use Rattle.cx_rules.specs.ShapeRules.{is_hole}
use Rattle.cx_rules.specs.Footprints.{AssignNames, Rests, literal_rests, input_rests, registered_rests, output_rests, done_rests, combinational_rests, SideLeads, PartLeads, CellLeads, Leads, Depends, at_once, by_way_of}
use Rattle.cx_control.proofs.LeadsLemmas.{Stands, acting_stands}
use Rattle.cx_rules.proofs.ForeignLemmas.{OwnerOf, continuous, of_group, owner_of}

-- it rests on state, or is an input that an output which rests on state reads
pub data Still (i : Instance) : PortRef → Type 0 where
  resting : {p : PortRef} → Rests i p → Still i p
  beneath : {c m : ℕ} (row : Row) → cell_at (cells_of i) c ≡ OfRow row → side_of row m ≡ sides.Plain → ((g : ℕ) (a : PlainAssign) → In (group_at (part_of i) g).assigns a → a.target ≡ ports.Cell c m → ⊥)
      → ((a : PlainAssign) (q : PortRef) → In (part_of i).always a → a.target ≡ ports.Cell c m → AssignNames a q → Rests i q) → Still i (ports.Cell c m)

module _ (i : Instance) (no_source : (o : Owned) → In (source_order (part_of i)) o → is_source_only i o.assign.target ≡ false)
    (reads_plain : (c : ℕ) (row : Row) → cell_at (cells_of i) c ≡ OfRow row → (n m : ℕ) → row.reads n m ≡ true → side_of row m ≡ sides.Plain) where
  at_row : (act : Active) (c p : ℕ) (q : PortRef) (row : Row) → cell_at (cells_of i) c ≡ OfRow row → (side : Side) → side_of row p ≡ side → Leads i act (ports.Cell c p) q → SideLeads (part_of i) act row c p side q
  at_row act c p q row at side is l = subst (λ k. SideLeads (part_of i) act row c p k q) is (subst (λ k. CellLeads (part_of i) act c p k q) at l)

  at_part : (act : Active) (c p : ℕ) (q : PortRef) (child : Instance) → cell_at (cells_of i) c ≡ OfInstance child → (port : PartPort) → part_port (part_of child) p ≡ port → Leads i act (ports.Cell c p) q → PartLeads (part_of i) act c p port q
  at_part act c p q child at port is l = subst (λ k. PartLeads (part_of i) act c p k q) is (subst (λ k. CellLeads (part_of i) act c p k q) at l)

  rests_lead : (act : Active) {p : PortRef} (q : PortRef) → Rests i p → Leads i act p q → Still i q
  rests_lead act q literal_rests l = absurd l
  rests_lead act q input_rests l = absurd l
  rests_lead act q (registered_rests {c} {p} row at side) l = absurd (at_row act c p q row at sides.Registered side l)
  rests_lead act q (output_rests {c} {p} n child at port) l = absurd (at_part act c p q child at (AnOutput n) port l)
  rests_lead act q (done_rests {c} {p} child at port) l = absurd (at_part act c p q child at ItsDone port l)
  rests_lead act q (combinational_rests {c} {p} row at side none each) l =
      let w = at_row act c p q row at sides.Output side l in
      subst (Still i) w.2 (beneath row at (reads_plain c row at p w.0 w.1) (λ g a j e. none w.0 g a w.1 j e) (λ a r j e names. each w.0 a r w.1 j e names))

  leads_still : (act : Active) (p q : PortRef) → Still i p → Leads i act p q → Still i q
  leads_still act p q (resting rests) l = rests_lead act q rests l
  leads_still act p q (beneath {c} {m} row at side none each) l =
      let it = at_row act c m q row at sides.Plain side l in
      by (acting_stands act (ports.Cell c m) (source_order (part_of i)) it.0 it.1) it.2
    where
      by : {a : _} → Stands act (ports.Cell c m) (source_order (part_of i)) a → AssignNames a.assign q → Still i q
      by it names = by_owner (owner_of (part_of i) it.of it.is_in)
        where
          by_owner : OwnerOf (part_of i) it.of → Still i q
          by_owner (continuous owner stands) = resting (each it.of.assign q stands it.target (subst (λ x. AssignNames x q) it.assign names))
          by_owner (of_group g owner stands) = absurd (none g it.of.assign stands it.target)

  pub depends_still : (act : Active) {p q : PortRef} → Still i p → Depends i act p q → Still i q
  depends_still act {p} {q} still (at_once l) = leads_still act p q still l
  depends_still act {p} {q} still (by_way_of r l deeper) = depends_still act (leads_still act p r still l) deeper

  -- no hole is still
  no_hole_rests : {p : PortRef} → Rests i p → is_hole p ≡ false
  no_hole_rests literal_rests = refl
  no_hole_rests input_rests = refl
  no_hole_rests (registered_rests row at side) = refl
  no_hole_rests (output_rests n child at port) = refl
  no_hole_rests (done_rests child at port) = refl
  no_hole_rests (combinational_rests row at side none each) = refl

  still_no_hole : {p : PortRef} → Still i p → is_hole p ≡ false
  still_no_hole (resting rests) = no_hole_rests rests
  still_no_hole (beneath row at side none each) = refl

  pub hole_moves : (g : ℕ) → Still i (ports.Done g) → ⊥
  hole_moves g still = let no = still_no_hole still in absurd cc

  source_side : (c p : ℕ) → Rests i (ports.Cell c p) → is_cell_output (cell_at (cells_of i) c) p ≡ true
  source_side c p (registered_rests row at side) = ap (λ x. is_cell_output x p) at ∙ ap is_output_side side
  source_side c p (output_rests n child at port) = ap (λ x. is_cell_output x p) at ∙ ap is_part_output port
  source_side c p (done_rests child at port) = ap (λ x. is_cell_output x p) at ∙ ap is_part_output port
  source_side c p (combinational_rests row at side none each) = ap (λ x. is_cell_output x p) at ∙ ap is_output_side side

  -- WHAT DRIVES A STILL PORT is continuous
  pub still_continuous : (c p : ℕ) → Still i (ports.Cell c p) → (o : Owned) → In (source_order (part_of i)) o → o.assign.target ≡ ports.Cell c p → o.owner ≡ None
  still_continuous c p (resting rests) o stands target = let no = sym (no_source o stands) ∙ ap (is_source_only i) target ∙ source_side c p rests in absurd cc
  still_continuous c p (beneath row at side none each) o stands target = by (owner_of (part_of i) o stands)
    where
      by : OwnerOf (part_of i) o → o.owner ≡ None
      by (continuous owner there) = owner
      by (of_group g owner there) = absurd (none g o.assign there target)
