use Rattle.std.proofs.Common.{◌≡◌, ◌+◌, ◌∷◌, [], length, map, take, sym, ap, ◌∙◌, subst, arith}
use Rattle.std.proofs.lemmas.List.{length-append, length-map, map-append, take_all}
use Rattle.cx_meaning.specs.Active.{source_order}
use Rattle.cx_meaning.specs.Designs.{component_at}
use Rattle.cx_rules.specs.Ports.{component_of}
use Rattle.cx_design.specs.PlainDesigns.{plain_design}
use Rattle.cx_design_parts.specs.Plain.{plain_owned}
use Rattle.cx_design_leads.proofs.NodeLemmas.{within}
use Rattle.cx_eval_drives.specs.Drivers.{ArePartDrivers, lists_of}
use Rattle.cx_eval_drives.proofs.DriverLemmas.{bare_lists, bare_more, none_added, one_added, taken_more}
use Rattle.cx_eval_drives.proofs.driving.part_drivers.Goals as goal

pub ports-preserved : goal.ports-preserved
ports-preserved c = record {
  sized = ap length c.in_ok-push.ensures.items ∙ length-append c.ports.ports.items _ ∙ ap (λ k. k + 1) c.ports.invariant.sized;
  none = bare_more (lists_of c.ports.ports.items) (lists_of c.push.new.self.items) c.new-in-ports.result.items
      (ap lists_of c.in_ok-push.ensures.items ∙ map-append _ c.ports.ports.items (c.new-in-ports.result ∷ [])) c.new-in-ports.ensures.items c.ports.invariant.none;
}

pub loop-owned-init : goal.loop-owned-init
loop-owned-init c =
    let i = component_of (plain_design c.args.design.now) c.args.number in
    let sized = c.ports.invariant.sized in
    let all = c.count-port-end.ensures.value i c.in_ok-numbers.ensures.value in
    let few : c.ports._port ≡ c.count-port-end.result = omega arith in
    bare_lists i (lists_of c.ports.ports.items) (length-map c.ports.ports.items _ ∙ sized ∙ few ∙ all) c.ports.invariant.none

pub add-requires : goal.add-requires
add-requires c = record {
  within =
      let i = component_of (plain_design c.args.design.now) c.args.number in
      let lt = within i _ c.in-Some.port (sym (c.in-Some.ensures.value i c.in_ok-numbers.ensures.value)) in
      let sized = c.loop-owned.invariant.count in
      let long : length (lists_of c.loop-owned.ports.items) ≡ length c.loop-owned.ports.items = length-map c.loop-owned.ports.items _ in
      omega (arith, lt, sized, long);
}

pub loop-owned-preserved : goal.loop-owned-preserved
loop-owned-preserved c =
    let i = component_of (plain_design c.args.design.now) c.args.number in
    let items = c.deref-owned-items.result.now in
    let n = c.loop-owned.owned-index in
    let lists = lists_of c.loop-owned.ports.items in
    let node = sym (c.in-Some.ensures.value i c.in_ok-numbers.ensures.value) in
    let lt = within i _ c.in-Some.port node in
    let sized = c.loop-owned.invariant.count in
    subst (λ xs. ArePartDrivers i xs (lists_of c.add.new.ports.items)) (sym (taken_more items n c.owned-item.result c.loop-owned-test.true c.owned-item.is))
    (one_added i (map plain_owned (take n items)) c.owned-item.result lists (lists_of c.add.new.ports.items) c.in-Some.port c.loop-owned.invariant node (omega (arith, lt, sized)) c.in_ok-add.ensures.value)

pub loop-owned-preserved-in_default : goal.loop-owned-preserved-in_default
loop-owned-preserved-in_default c =
    let i = component_of (plain_design c.args.design.now) c.args.number in
    let items = c.deref-owned-items.result.now in
    let n = c.loop-owned.owned-index in
    subst (λ xs. ArePartDrivers i xs (lists_of c.loop-owned.ports.items)) (sym (taken_more items n c.owned-item.result c.loop-owned-test.true c.owned-item.is))
    (none_added i (map plain_owned (take n items)) c.owned-item.result (lists_of c.loop-owned.ports.items) c.loop-owned.invariant (sym (c.in_default.ensures.value i c.in_ok-numbers.ensures.value)))

pub returns : goal.returns
returns c = record {
  value =
      let d = plain_design c.args.design.now in
      let i = component_of d c.args.number in
      let items = c.deref-owned-items.result.now in
      let all : map plain_owned (take c.loop-owned.owned-index items) ≡ source_order (component_at d c.args.number) =
      ap (map plain_owned) (take_all c.loop-owned.owned-index items c.loop-owned-test.false ∙ c.deref-owned-items.ensures.value) ∙ c.in_ok-assigns.ensures.value ∙ ap source_order c.component.ensures.value in
      subst (λ xs. ArePartDrivers i xs (lists_of c.loop-owned.ports.items)) all c.loop-owned.invariant;
}
