-- In a component of a design a port that leads on has a node.
use Rattle.std.proofs.Common.{◌≡◌, ℕ, ◌<◌, ⊎_elim, Option, Some, None, length, sym, ap, ◌∙◌, subst}
use Rattle.cx_meaning.specs.declared.ports.PortRef.{PortRef}
use Rattle.cx_meaning.specs.Designs.{PlainAssign, PlainComponent, PlainDesign, component_at, group_at}
use Rattle.cx_meaning.specs.Instances.{Instance, At, cell_at, cells_of, part_of}
use Rattle.cx_meaning.specs.Active.{Active}
use Rattle.cx_text.specs.Members.{In}
use Rattle.cx_rules.specs.Footprints.{Leads}
use Rattle.cx_rules.specs.Ports.{component_of}
use Rattle.cx_rules.specs.Wellformed.{IsDesign, StandsIn, port_count}
use Rattle.cx_design_leads.specs.Nodes.{node_of, ports_before}
use Rattle.cx_design_leads.specs.Edges.{ReadsInRow}
use Rattle.cx_design_leads.proofs.NodeLemmas.{below_is, has_node}
use Rattle.cx_design_leads.proofs.DriverLemmas.{driver_of, of_owner, leads_either}
use Rattle.cx_meaning.proofs.DesignsLemmas.{group_there}
use Rattle.cx_rules.proofs.PortsLemmas.{part_is}
use Rattle.cx_meaning.proofs.RowsLemmas.{side_below}

row_node : (i : Instance) (p q : PortRef) → ReadsInRow i p q → (m : ℕ) × (node_of i p ≡ Some m)
row_node i p q r =
    let count : r.port < port_count (cell_at (cells_of i) r.cell) = subst (λ (at : At). r.port < port_count at) (sym r.stands) (side_below r.row.ports r.port r.side) in
    (_, ap (node_of i) r.is ∙ below_is (port_count (cell_at (cells_of i) r.cell)) (ports_before (cells_of i) r.cell) r.port count)

module _ (d : PlainDesign) (k : ℕ) (design : IsDesign d) (within : k < length d.components) where
  assign_node : (owner : Option ℕ) (a : PlainAssign) → StandsIn (component_at d k) owner a → (m : ℕ) × (node_of (component_of d k) a.target ≡ Some m)
  assign_node owner a stands = let is = (design.components k within).assigns owner a stands in has_node (component_of d k) a.target is.target is.no_literal

  pub leads_there : (act : Active) (p q : PortRef) → Leads (component_of d k) act p q → (m : ℕ) × (node_of (component_of d k) p ≡ Some m)
  leads_there act p q l =
      let i = component_of d k in
      ⊎_elim
      (λ e. ⊎_elim
      (λ o. let a = o.1 in
      let n = assign_node None a.assign (subst (λ (part : PlainComponent). In part.always a.assign) (part_is d k) a.stands) in
      (n.0, ap (node_of i) (sym a.target) ∙ n.1))
      (λ o. let a = o.2 in
      let s : In (group_at (component_at d k) o.0).assigns a.assign = subst (λ (part : PlainComponent). In (group_at part o.0).assigns a.assign) (part_is d k) a.stands in
      let n = assign_node (Some o.0) a.assign (group_there (component_at d k) o.0 a.assign s, s) in
      (n.0, ap (node_of i) (sym a.target) ∙ n.1))
      (of_owner (part_of i) p q act (driver_of (part_of i) act p q e.1)))
      (λ r. row_node i p q r)
      (leads_either i act p q l)
