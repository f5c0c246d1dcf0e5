use Rattle.std.proofs.Common.{◌≡◌, ◌-◌, ◌++◌, ◌∙◌, length, replicate, sym, ap, ap₂, rules}
use Rattle.std.proofs.lemmas.List.{length-map}
use Rattle.cx_design.specs.PlainForms.{plain_group}
use Rattle.cx_net.specs.PlainNets.{plain_net_drivers}
use Rattle.cx_static.specs.PlainLowered.{plain_lowered, plain_lowereds}
use Rattle.cx_wiring.specs.Trees.{by_target, driven, trees, tree_widths}
use Rattle.cx_wiring.specs.Wiring.{component_driven, groups, plain_wires, target_width}
use Rattle.cx_fsm.proofs.ComponentLemmas.{wires_split}
use Rattle.cx_fsm.proofs.components.wires_and_drivers.Goals as goal

pub add_trees-requires : goal.add_trees-requires
add_trees-requires c =
    let lowered = plain_lowered c.args.component.now in
    let first = c.in_ok-drivers.first in
    let items = c.args.component.now.part.groups.items in
    let count : c.len.result ≡ groups lowered = let own : c.len.result ≡ length items = search rules in own ∙ sym (length-map items plain_group) in
    record {
      registers = c.requires;
      wires =
          c.deref.ensures.value ∙ c.in_ok-wires.ensures.value
          ∙ ap (λ n. replicate n 32 ++ replicate (first - n) 1) count
          ∙ wires_split lowered first c.in_ok-drivers.ensures.wires;
    }

pub returns : goal.returns
returns c =
    let d = plain_lowereds c.args.design.now in
    let lowered = plain_lowered c.args.component.now in
    let first = c.in_ok-drivers.first in
    let items = c.args.component.now.part.groups.items in
    let whole = c.in_ok-finished.ensures.whole in
    let count : c.len.result ≡ groups lowered = let own : c.len.result ≡ length items = search rules in own ∙ sym (length-map items plain_group) in
    let plain : c.in_ok-wires.wires.items ≡ plain_wires lowered =
    c.in_ok-wires.ensures.value
    ∙ ap (λ n. replicate n 32 ++ replicate (first - n) 1) count
    ∙ wires_split lowered first c.in_ok-drivers.ensures.wires in
    let sorted : driven (plain_net_drivers c.in_ok-drivers-2.drivers.items) ≡ component_driven lowered =
    ap driven (c.in_ok-drivers-2.ensures.value ∙ ap by_target c.in_ok-drivers.ensures.drivers) in
    record {
      wires =
          c.in_ok-extend_from_slice.ensures.items
          ∙ ap₂ (λ a b. a ++ b) plain
          (c.deref-2.ensures.value
          ∙ c.add_trees.ensures.widths whole
          ∙ ap₂ (λ l gs. l ++ tree_widths (target_width d lowered) gs) c.new-trees.ensures.widths sorted);
      drivers =
          ap plain_net_drivers c.in_ok-finished.ensures.value
          ∙ c.add_trees.ensures.drivers whole
          ∙ ap₂ (λ l gs. plain_net_drivers l ++ trees c.new-trees.result.next gs) c.new-trees.ensures.drivers sorted
          ∙ ap (λ n. trees n (component_driven lowered)) (c.new-trees.ensures.next ∙ c.in_ok-drivers.ensures.wires);
    }
