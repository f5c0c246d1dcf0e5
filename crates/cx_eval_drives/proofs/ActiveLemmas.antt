-- Nothing leads in a circle under what can be active.
use Rattle.std.proofs.Common.{◌≡◌, ℕ, [], Option, Some, None, refl, sym, ◌∙◌, subst}
use Rattle.cx_text.specs.Members.{In}
use Rattle.cx_prim.specs.declared.ports.Side.{Side}
use Rattle.cx_prim.specs.declared.ports.Side.TheVariants as sides
use Rattle.cx_prim.specs.Rows.{Row}
use Rattle.cx_meaning.specs.declared.ports.PortRef.{PortRef}
use Rattle.cx_meaning.specs.declared.ports.PortRef.TheVariants as ports
use Rattle.cx_meaning.specs.Rows.{side_of}
use Rattle.cx_meaning.specs.Designs.{PlainDesign}
use Rattle.cx_meaning.specs.Instances.{Instance, At, Nothing, OfRow, OfInstance, Path, part_of, cells_of, cell_at, instance_at, tree_of}
use Rattle.cx_meaning.specs.Active.{Active, group, capture, source_order, offset_of, drivers, entries}
use Rattle.cx_meaning.specs.Calls.{called}
use Rattle.cx_meaning.specs.Sights.{PartPort, Go, AnInput, AnOutput, ItsDone, part_port}
use Rattle.cx_meaning.specs.Islands.{History, active_in, form_flat}
use Rattle.cx_rules.specs.Accepted.{IsAccepted}
use Rattle.cx_rules.specs.Circles.{IsAcyclic}
use Rattle.cx_rules.specs.Footprints.{SideLeads, PartLeads, CellLeads, Leads, Depends, at_once, by_way_of, Mentions}
use Rattle.cx_rules.specs.Items.{Visited, statements_in}
use Rattle.cx_rules.specs.Wellformed.{IsDesign}
use Rattle.cx_rules.proofs.CircleLemmas.{instance_acyclic, instance_group}
use Rattle.cx_design.specs.declared.actives.Active.TheVariants as actives
use Rattle.cx_design.specs.declared.actives.Active as declared
use Rattle.cx_design.specs.PlainActives.{plain_active, capture_of}
use Rattle.cx_eval_drives.specs.Actives.{CanBeActive}
use Rattle.cx_eval_drives.proofs.DriveLemmas.{acting_is}
use Rattle.cx_rules.proofs.CirclesLemmas.{own_acyclic}

-- active sets with the same assignments lead alike
module _ (i : Instance) (act other : Active) (same : (p : PortRef) → drivers (part_of i) act p ≡ drivers (part_of i) other p) where
  mentions_same : (p q : PortRef) → Mentions (drivers (part_of i) act p) q → Mentions (drivers (part_of i) other p) q
  mentions_same p q m = subst (λ acts. Mentions acts q) (same p) m

  side_same : (row : Row) (c p : ℕ) (side : Side) (q : PortRef) → SideLeads (part_of i) act row c p side q → SideLeads (part_of i) other row c p side q
  side_same row c p sides.Enable q l = mentions_same (ports.Cell c p) q l
  side_same row c p sides.Plain q l = mentions_same (ports.Cell c p) q l
  side_same row c p sides.Output q l = l
  side_same row c p sides.Registered q l = l

  part_same : (c p : ℕ) (port : PartPort) (q : PortRef) → PartLeads (part_of i) act c p port q → PartLeads (part_of i) other c p port q
  part_same c p Go q l = mentions_same (ports.Cell c p) q l
  part_same c p (AnInput n) q l = mentions_same (ports.Cell c p) q l
  part_same c p (AnOutput n) q l = l
  part_same c p ItsDone q l = l

  cell_same : (c p : ℕ) (at : At) (q : PortRef) → CellLeads (part_of i) act c p at q → CellLeads (part_of i) other c p at q
  cell_same c p Nothing q l = l
  cell_same c p (OfRow row) q l = side_same row c p (side_of row p) q l
  cell_same c p (OfInstance child) q l = part_same c p (part_port (part_of child) p) q l

  leads_same : (p q : PortRef) → Leads i act p q → Leads i other p q
  leads_same (ports.Cell c p) q l = cell_same c p (cell_at (cells_of i) c) q l
  leads_same (ports.Input n) q l = l
  leads_same (ports.Output n) q l = mentions_same (ports.Output n) q l
  leads_same (ports.Done g) q l = mentions_same (ports.Done g) q l
  leads_same (ports.Literal w v) q l = l

  depends_same : {p q : PortRef} → Depends i act p q → Depends i other p q
  depends_same {p} {q} (at_once l) = at_once (leads_same p q l)
  depends_same {p} {q} (by_way_of r l d) = by_way_of r (leads_same p r l) (depends_same d)

  pub acyclic_same : IsAcyclic i other → IsAcyclic i act
  acyclic_same acyclic h = acyclic (h.0, depends_same h.1)

capture_drives : (i : Instance) (g c : ℕ) (p : PortRef) → drivers (part_of i) (capture g c) p ≡ drivers (part_of i) (group g) p
capture_drives i g c p =
    acting_is (capture g c) (offset_of (group g)) p (source_order (part_of i)) owners ∙ sym (acting_is (group g) (offset_of (group g)) p (source_order (part_of i)) (λ o. refl))
  where
    owners : (o : Option ℕ) → offset_of (capture g c) o ≡ offset_of (group g) o
    owners None = refl
    owners (Some h) = refl

call_end : (i : Instance) (g : ℕ) (o : Option ℕ) → IsAcyclic i (group g) → IsAcyclic i (capture_of g o)
call_end i g None acyclic = acyclic
call_end i g (Some c) acyclic = acyclic_same i (capture g c) (group g) (capture_drives i g c) acyclic

pub active_acyclic : (d : PlainDesign) (path : Path) (active : declared.Active) → IsDesign d → IsAccepted d
    → ((v : Visited) (h : History) (t : ℕ) → In (statements_in (part_of (instance_at (tree_of d) path))) v
    → IsAcyclic (instance_at (tree_of d) path) (entries (active_in h t (form_flat (part_of (instance_at (tree_of d) path)) v.form 0 []))))
    → CanBeActive (instance_at (tree_of d) path) active → IsAcyclic (instance_at (tree_of d) path) (plain_active (instance_at (tree_of d) path) active)
active_acyclic d path actives.Nothing design accepted together can = own_acyclic (instance_at (tree_of d) path) (instance_acyclic d accepted path)
active_acyclic d path (actives.Group g) design accepted together can = instance_group d accepted path g can
active_acyclic d path (actives.CallEnd g) design accepted together can =
    call_end (instance_at (tree_of d) path) g (called (instance_at (tree_of d) path) g) (instance_group d accepted path g can)
active_acyclic d path (actives.Entries es) design accepted together can =
    subst (λ list. IsAcyclic (instance_at (tree_of d) path) (entries list)) (sym can.4) (together can.0 can.1 can.2 can.3)
