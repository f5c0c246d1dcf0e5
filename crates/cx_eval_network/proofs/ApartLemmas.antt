-- Ports that depend on no other of their instance.
use Rattle.std.proofs.Common.{◌≡◌, ℕ, ◌⊎◌, ⊎_elim, Option, Some, None, List, refl, sym, ap, ◌∙◌, subst}
use Rattle.cx_prim.specs.declared.ports.Side.{Side}
use Rattle.cx_prim.specs.declared.ports.Side.TheVariants as sides
use Rattle.cx_prim.specs.Rows.{Row}
use Rattle.cx_meaning.specs.declared.ports.PortRef.{PortRef}
use Rattle.cx_meaning.specs.declared.ports.PortRef.TheVariants as ports
use Rattle.cx_meaning.specs.Designs.{PlainComponent}
use Rattle.cx_meaning.specs.Instances.{Instance, OfInstance, OfRow, cell_at, cells_of, part_of}
use Rattle.cx_meaning.specs.Rows.{side_of}
use Rattle.cx_meaning.specs.Sights.{AnInput, AnOutput, Go, ItsDone, PartPort, bit_of, is_done_cell, part_port, part_step}
use Rattle.cx_design.specs.declared.actives.Active.{Active}
use Rattle.cx_design.specs.PlainActives.{capture_of, plain_active}
use Rattle.cx_design_parts.specs.Cells.{plain_part_port}
use Rattle.cx_design_parts.specs.declared.parts.PartPort as code
use Rattle.cx_design_parts.specs.declared.parts.PartPort.TheVariants as code_ports
use Rattle.cx_eval_network.specs.declared.asking.Asking.{Asking}
use Rattle.cx_eval_network.specs.declared.marks.NodeMark.{NodeMark}
use Rattle.cx_eval_network.specs.declared.network.Found.{Found}
use Rattle.cx_eval_network.specs.declared.numbering.NodePort.{NodePort}
use Rattle.cx_eval_network.specs.Asked.{CanAsk, active_in}
use Rattle.cx_eval_network.specs.Askings.{IsFound, asked_of, decided_by}
use Rattle.cx_eval_network.specs.Below.{PartStands, child_seen}
use Rattle.cx_eval_network.specs.Demands.{Looked}
use Rattle.cx_eval_network.specs.LeadPorts.{lead_ports}
use Rattle.cx_eval_network.specs.Networks.{Asked, active_at, below_nodes, child_node, instance_of, leads_of, nodes_of, output_node, seen_at}
use Rattle.cx_eval_network.specs.Nodes.{part_at}
use Rattle.cx_eval_network.specs.Plans.{Apart, cell_decides, decides, part_decides, side_decides}
use Rattle.cx_eval_network.proofs.AskLemmas.{active_there}
use Rattle.cx_eval_network.proofs.OwnLemmas.{cell_seen, looked_right, output_below, own_below, own_cell, own_state}

pub capture_done : (g : ℕ) (o : Option ℕ) → (capture_of g o).done_cell ≡ o
capture_done g None = refl
capture_done g (Some c) = refl

side_driven : (i : Instance) (q : PortRef) (row : Row) (side : Side) → side_decides i q row side ≡ Apart → ⊥
side_driven i q row sides.Enable e = absurd (cc)
side_driven i q row sides.Plain e = absurd (cc)
side_driven i q row sides.Output e = absurd (cc)
side_driven i q row sides.Registered e = absurd (cc)

module _ (asking : Asking) (can : CanAsk (asked_of asking) asking.nodes.now) (found : NodePort) (f : IsFound (asked_of asking) found) where
  abbrev a : Asked
  a = asked_of asking

  abbrev k : ℕ
  k = found.instance

  abbrev i : Instance
  i = part_at a.design a.rows k

  pub done_is : (active : Active) → active ≡ active_in a.instance asking.active.now k → (active_at a k).done_cell ≡ (plain_active (instance_of a k) active).done_cell
  done_is active act = ap (λ x. x.done_cell) (sym (ap (plain_active (instance_of a k)) act ∙ active_there a asking.active.now k refl (instance_of a k) refl))

  module _ (c p : ℕ) where
    pub of_primitive : (row : Row) → found.port ≡ ports.Cell c p → decided_by a found ≡ Apart → cell_at (cells_of i) c ≡ OfRow row → ⊥
    of_primitive row port apart at =
        side_driven i (ports.Cell c p) row (side_of row p) (sym (ap (cell_decides i (ports.Cell c p) p) at) ∙ sym (ap (decides i) port) ∙ apart)

    module _ (part : PlainComponent) (port : found.port ≡ ports.Cell c p) (stands : PartStands i c part) where
      pub part_port_is : (x : PartPort) → x ≡ part_port part p → part_port (part_of (stands.0)) p ≡ x
      part_port_is x e = ap (λ y. part_port y p) stands.2 ∙ sym e

      part_decided : (x : PartPort) → x ≡ part_port part p → decided_by a found ≡ part_decides i (ports.Cell c p) x
      part_decided x e = ap (decides i) port ∙ ap (cell_decides i (ports.Cell c p) p) stands.1 ∙ ap (part_decides i (ports.Cell c p)) (part_port_is x e)

      pub driven_part : decided_by a found ≡ Apart → (x : code.PartPort) → plain_part_port x ≡ part_port part p → (x ≡ code_ports.Go) ⊎ ((n : ℕ) × (x ≡ code_ports.Input n)) → ⊥
      driven_part apart x e kind = ⊎_elim
          (λ (g : x ≡ code_ports.Go). no_go (sym (part_decided Go (sym (ap plain_part_port g) ∙ e)) ∙ apart))
          (λ (g : (n : ℕ) × (x ≡ code_ports.Input n)). no_input g.0 (sym (part_decided (AnInput g.0) (sym (ap plain_part_port g.1) ∙ e)) ∙ apart)) kind
        where
          no_go : part_decides i (ports.Cell c p) Go ≡ Apart → ⊥
          no_go h = cc

          no_input : (n : ℕ) → part_decides i (ports.Cell c p) (AnInput n) ≡ Apart → ⊥
          no_input n h = cc

      part_seen : (x : PartPort) → x ≡ part_port part p
          → part_step (part_of (instance_of a k)) (active_at a k) (own_state asking can found f) (seen_at a k) (own_below asking can found f) c p x ≡ seen_at a k found.port
      part_seen x e =
          ap (part_step (part_of (instance_of a k)) (active_at a k) (own_state asking can found f) (seen_at a k) (own_below asking can found f) c p) (sym (part_port_is x e))
          ∙ cell_seen asking can found f c p (OfInstance stands.0) port stands.1

      pub done_seen : ItsDone ≡ part_port part p → bit_of (is_done_cell (active_at a k).done_cell c) ≡ seen_at a k found.port
      done_seen e = part_seen ItsDone e

      pub output_looked : (output : ℕ) → AnOutput output ≡ part_port part p → (marks : List NodeMark) (r : Found) → Looked (output_node a k c (AnOutput output)) (child_seen a k c output) marks r → Looked (leads_of a (Some found)) (seen_at a k found.port) marks r
      output_looked output e marks r l =
          let own = own_cell asking can found f c (OfInstance stands.0) stands.1 in
          let value : child_seen a k c output ≡ seen_at a k found.port = sym (output_below a asking.nodes.now can.network k f.from f.within c output stands.0 own) ∙ part_seen (AnOutput output) e in
          let nodes : output_node a k c (AnOutput output) ≡ below_nodes a k found.port =
          ap (output_node a k c) (sym (part_port_is (AnOutput output) e)) ∙ ap (child_node a k c p) (sym own) ∙ ap (below_nodes a k) (sym port) in
          looked_right (nodes_of a k (lead_ports (instance_of a k) (active_at a k) found.port)) (below_nodes a k found.port) (seen_at a k found.port) marks r
          (subst (λ ns. Looked ns (seen_at a k found.port) marks r) nodes (subst (λ x. Looked (output_node a k c (AnOutput output)) x marks r) value l))
