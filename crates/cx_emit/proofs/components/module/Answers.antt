use Rattle.std.proofs.Common.{◌≡◌, ◌∙◌, List, [], ◌∷◌, ◌++◌, ap, map, rules}
use Rattle.std.specs.List.{flat_map}
use Rattle.std.proofs.lemmas.List.{map_push}
use Rattle.cx_net.specs.PlainNets.{plain_net_component}
use Rattle.cx_vtree.specs.Plain.{PlainAssign}
use Rattle.cx_vtree.specs.PlainParts.{plain_assign}
use Rattle.cx_emit.specs.Driven.{PlainDriven, edge_with, present}
use Rattle.cx_emit.specs.PlainForms.{plain_cell_ports, plain_driven}
use Rattle.cx_emit.proofs.DrivenLemmas.{assigns_of, module_from}
use Rattle.cx_emit.proofs.components.module.Goals as goal

pub returns : goal.returns
returns c =
    let s : PlainDriven = plain_driven c.in_ok-driven.driven in
    let none : map plain_assign c.new-assigns.result.items ≡ [] = ap (map plain_assign) c.new-assigns.ensures.items in
    let cells : map plain_assign c.add_cell_assigns.new.assigns.items ≡ flat_map present s.cells = c.in_ok-add_cell_assigns.ensures.value ∙ ap (λ (a : List PlainAssign). a ++ flat_map present s.cells) none in
    let wires : map plain_assign c.add_assigns.new.assigns.items ≡ flat_map present s.cells ++ s.wires = c.in_ok-add_assigns.ensures.value ∙ ap (λ (a : List PlainAssign). a ++ s.wires) cells in
    let outputs : map plain_assign c.add_assigns-2.new.assigns.items ≡ flat_map present s.cells ++ s.wires ++ s.outputs =
    c.in_ok-add_assigns-2.ensures.value ∙ ap (λ (a : List PlainAssign). a ++ s.outputs) wires in
    let all : map plain_assign c.push.new.self.items ≡ assigns_of s =
    ap (map plain_assign) c.in_ok-push.ensures.items ∙ map_push plain_assign _ _ ∙ ap (λ (a : List PlainAssign). a ++ s.done ∷ []) outputs in
    let named : c.name.inside.bytes.items ≡ c.args.name = search rules in record {
      value = module_from c.args.name (plain_net_component c.args.part.now) (map plain_cell_ports c.args.cells.now) s _ c.in_ok-driven.ensures.value named
          c.in_ok-module_ports.ensures.value c.in_ok-decls.ensures.value all c.in_ok-instances.ensures.value
          (c.in_ok-edge.ensures.value ∙ ap (λ widths. edge_with widths s.registers) c.deref.ensures.value);
    }
