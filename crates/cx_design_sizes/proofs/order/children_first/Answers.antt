use Rattle.std.proofs.Common.{◌≡◌, ◌-◌, take, ◌<◌, ◌++◌, [], false, length, map, replicate, sym, ap, ◌∙◌, subst}
use Rattle.std.proofs.lemmas.List.{length-map, length-replicate}
use Rattle.cx_meaning.specs.Designs.{component_at}
use Rattle.cx_design.proofs.DesignFacts.{main_there}
use Rattle.cx_design.specs.PlainForms.{plain_cell, plain_component}
use Rattle.cx_design.specs.PlainDesigns.{plain_design}
use Rattle.cx_design_sizes.proofs.OrderLemmas.{IsOnWay, IsUnderWay}
use Rattle.cx_design_sizes.proofs.WayLemmas.{own_cells, begin_at, top_of, push_at, place_at, finish_at, push_smaller, place_smaller}
use Rattle.cx_design_sizes.proofs.order.children_first.Goals as goal

pub loop-step-init : goal.loop-step-init
loop-step-init c =
    let d = plain_design c.args.design.now in
    let count : length c.as_slice-components.result.now ≡ length d.components =
    ap length c.as_slice-components.ensures.value ∙ sym (length-map c.args.design.now.components.items plain_component) in
    let made : c.in_ok-placed.placed.items ≡ replicate (length d.components) false = c.in_ok-placed.ensures.items_if_clones_equal (λ y h. h) ∙ ap (λ n. replicate n false) count in
    begin_at d c.in_ok-placed.placed.items c.new-order.result.items c.new-path.result.items c.push.new.self.items (main_there d c.args.design.now.keeps)
    made (ap length made ∙ length-replicate (length d.components) false) c.new-order.ensures.items c.new-path.ensures.items c.in_ok-push.ensures.items

pub bounds-components-step : goal.bounds-components-step
bounds-components-step c =
    let d = plain_design c.args.design.now in
    let top : IsOnWay d c.loop-step.placed.items c.in-Some.step =
    top_of d c.loop-step.placed.items c.loop-step.order.items c.loop-step.path.items c.pop.new.self.items c.in-Some.step c.loop-step.invariant c.in-Some.ensures.items in
    subst (λ n. c.in-Some.step.component < n)
    (length-map c.args.design.now.components.items plain_component ∙ sym (ap length c.as_slice-components.ensures.value)) top.within

pub loop-step-preserved-in-Continue-branch-4 : goal.loop-step-preserved-in-Continue-branch-4
loop-step-preserved-in-Continue-branch-4 c =
    let d = plain_design c.args.design.now in
    let top : IsOnWay d c.loop-step.placed.items c.in-Some.step =
    top_of d c.loop-step.placed.items c.loop-step.order.items c.loop-step.path.items c.pop.new.self.items c.in-Some.step c.loop-step.invariant c.in-Some.ensures.items in
    let own : map plain_cell c.as_slice-cells.result.now ≡ (component_at d c.in-Some.step.component).cells =
    own_cells c.args.design.now.components.items c.args.design.now.main c.in-Some.step.component c.as_slice-components.result.now c.index-components-step.result c.as_slice-cells.result.now
    top.within c.as_slice-components.ensures.value c.index-components-step.is c.as_slice-cells.ensures.value in
    push_at d c.loop-step.placed.items c.deref.result.now c.loop-step.order.items c.loop-step.path.items c.pop.new.self.items c.push-in-Some-next_unplaced.new.self.items
    c.push-in-Some-next_unplaced-2.new.self.items c.in-Some.step (map plain_cell c.as_slice-cells.result.now) c.in-Some-next_unplaced.next c.in-Some-next_unplaced.component
    c.loop-step.invariant c.in-Some.ensures.items c.deref.ensures.value own c.in-Some-next_unplaced.ensures.some
    c.in_ok-push-in-Some-next_unplaced.ensures.items c.in_ok-push-in-Some-next_unplaced-2.ensures.items

pub loop-step-smaller-in-Continue-branch-4 : goal.loop-step-smaller-in-Continue-branch-4
loop-step-smaller-in-Continue-branch-4 c =
    let d = plain_design c.args.design.now in
    let top : IsOnWay d c.loop-step.placed.items c.in-Some.step =
    top_of d c.loop-step.placed.items c.loop-step.order.items c.loop-step.path.items c.pop.new.self.items c.in-Some.step c.loop-step.invariant c.in-Some.ensures.items in
    let own : map plain_cell c.as_slice-cells.result.now ≡ (component_at d c.in-Some.step.component).cells =
    own_cells c.args.design.now.components.items c.args.design.now.main c.in-Some.step.component c.as_slice-components.result.now c.index-components-step.result c.as_slice-cells.result.now
    top.within c.as_slice-components.ensures.value c.index-components-step.is c.as_slice-cells.ensures.value in
    let more : IsUnderWay d c.loop-step.placed.items c.loop-step.order.items c.push-in-Some-next_unplaced-2.new.self.items =
    push_at d c.loop-step.placed.items c.deref.result.now c.loop-step.order.items c.loop-step.path.items c.pop.new.self.items c.push-in-Some-next_unplaced.new.self.items
    c.push-in-Some-next_unplaced-2.new.self.items c.in-Some.step (map plain_cell c.as_slice-cells.result.now) c.in-Some-next_unplaced.next c.in-Some-next_unplaced.component
    c.loop-step.invariant c.in-Some.ensures.items c.deref.ensures.value own c.in-Some-next_unplaced.ensures.some
    c.in_ok-push-in-Some-next_unplaced.ensures.items c.in_ok-push-in-Some-next_unplaced-2.ensures.items in
    push_smaller d c.args.design.now.keeps (length c.as_slice-components.result.now) c.loop-step.placed.items c.loop-step.order.items c.loop-step.path.items c.pop.new.self.items
    c.push-in-Some-next_unplaced.new.self.items c.push-in-Some-next_unplaced-2.new.self.items c.in-Some.step _ _ more
    (ap length c.as_slice-components.ensures.value ∙ sym (length-map c.args.design.now.components.items plain_component))
    c.in-Some.ensures.items c.in_ok-push-in-Some-next_unplaced.ensures.items c.in_ok-push-in-Some-next_unplaced-2.ensures.items

pub index_mut-requires : goal.index_mut-requires
index_mut-requires c =
    let d = plain_design c.args.design.now in
    let top : IsOnWay d c.loop-step.placed.items c.in-Some.step =
    top_of d c.loop-step.placed.items c.loop-step.order.items c.loop-step.path.items c.pop.new.self.items c.in-Some.step c.loop-step.invariant c.in-Some.ensures.items in
    subst (λ n. c.in-Some.step.component < n) (sym c.loop-step.invariant.sized ∙ sym (ap length c.deref.ensures.value) ∙ c.deref.ensures.len) top.within

pub loop-step-preserved : goal.loop-step-preserved
loop-step-preserved c =
    let d = plain_design c.args.design.now in
    let top : IsOnWay d c.loop-step.placed.items c.in-Some.step =
    top_of d c.loop-step.placed.items c.loop-step.order.items c.loop-step.path.items c.pop.new.self.items c.in-Some.step c.loop-step.invariant c.in-Some.ensures.items in
    let own : map plain_cell c.as_slice-cells.result.now ≡ (component_at d c.in-Some.step.component).cells =
    own_cells c.args.design.now.components.items c.args.design.now.main c.in-Some.step.component c.as_slice-components.result.now c.index-components-step.result c.as_slice-cells.result.now
    top.within c.as_slice-components.ensures.value c.index-components-step.is c.as_slice-cells.ensures.value in
    place_at d c.args.design.now.keeps c.loop-step.placed.items c.deref.result.now c.loop-step.order.items c.push-in-None.new.self.items c.loop-step.path.items c.pop.new.self.items
    c.in-Some.step c.as_slice-cells.result.now c.loop-step.invariant c.in-Some.ensures.items c.deref.ensures.value own c.in-None.ensures.none c.in_ok-push-in-None.ensures.items

pub loop-step-smaller : goal.loop-step-smaller
loop-step-smaller c =
    let d = plain_design c.args.design.now in
    place_smaller d c.args.design.now.keeps (length c.as_slice-components.result.now) c.loop-step.placed.items c.loop-step.order.items c.push-in-None.new.self.items c.loop-step.path.items c.pop.new.self.items c.in-Some.step
    c.loop-step.invariant (ap length c.as_slice-components.ensures.value ∙ sym (length-map c.args.design.now.components.items plain_component)) c.in-Some.ensures.items c.in_ok-push-in-None.ensures.items

pub returns : goal.returns
returns c =
    let d = plain_design c.args.design.now in
    let none : c.loop-step.path.items ≡ [] =
    c.in_default.ensures.items ∙ ap (λ xs. xs ++ []) (c.in_default.ensures.rest ∙ ap (λ n. take (n - 1) c.loop-step.path.items) c.in_default.ensures.cases.0) in
    finish_at d c.args.design.now.keeps c.loop-step.placed.items c.loop-step.order.items c.loop-step.path.items c.loop-step.invariant none
