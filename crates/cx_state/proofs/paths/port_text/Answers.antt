use Rattle.std.proofs.Common.{◌≡◌, ◌<◌, [], ◌++◌, length, map, get_or, sym, ap, ◌∙◌, subst}
use Rattle.std.specs.Prelude.{codes}
use Rattle.std.proofs.lemmas.List.{length-map}
use Rattle.std.proofs.lemmas.Option.{get_or_from_slice_get}
use Rattle.cx_meaning.specs.Designs.{component_at}
use Rattle.cx_meaning.specs.Instances.{tree_of, paths_of}
use Rattle.cx_rules.specs.Ports.{cell_name}
use Rattle.cx_design.specs.PlainForms.{plain_cell}
use Rattle.cx_design.specs.PlainDesigns.{plain_design}
use Rattle.cx_design_sizes.proofs.WayLemmas.{own_cells}
use Rattle.cx_rules.specs.FullPaths.{full_path}
use Rattle.cx_state.specs.Steps.{next_step}
use Rattle.cx_state.proofs.WayLemmas.{IsOnWay, IsTurn, turn, way_ends}
use Rattle.cx_state.proofs.paths.port_text.Goals as goal

pub append_cell-requires : goal.append_cell-requires
append_cell-requires c =
    let d = plain_design c.args.design.now in
    let own : map plain_cell c.as_slice.result.now ≡ (component_at d c.loop-step.component).cells =
    own_cells c.args.design.now.components.items c.args.design.now.main c.loop-step.component c.as_slice-components.result.now c.index-components-component.result c.as_slice.result.now
    (c.requires.first.there c.loop-step.component c.loop-step.invariant.here) c.as_slice-components.ensures.value c.index-components-component.is c.as_slice.ensures.value in
    let part : map plain_cell c.index-components-component-in-Some.result.cells.items ≡ (component_at d c.loop-step.component).cells =
    own_cells c.args.design.now.components.items c.args.design.now.main c.loop-step.component c.as_slice-components.result.now c.index-components-component-in-Some.result
    c.index-components-component-in-Some.result.cells.items (c.requires.first.there c.loop-step.component c.loop-step.invariant.here) c.as_slice-components.ensures.value
    c.index-components-component-in-Some.is (ap (λ p. p.cells.items) c.index-components-component-in-Some.is) in
    let next : IsTurn d c.args.order.now c.args.port (full_path (tree_of d) (get_or (paths_of (tree_of d)) c.args.instance []) c.args.port) c.loop-step.component c.loop-step.left c.loop-step.text.items c.in-Some.step =
    turn d c.args.order.now c.args.tallies.now c.args.port (full_path (tree_of d) (get_or (paths_of (tree_of d)) c.args.instance []) c.args.port) c.loop-step.component c.loop-step.left c.loop-step.text.items c.in-Some.step
    c.requires.first c.requires.known c.loop-step.invariant (ap (λ cs. next_step c.args.tallies.now cs c.loop-step.left) (sym own) ∙ sym c.next_step.ensures ∙ c.in-Some.is) in
    record {
      within = subst (λ n. c.in-Some.step.cell < n) (sym (ap length part) ∙ length-map c.index-components-component-in-Some.result.cells.items plain_cell) next.within;
    }

pub loop-step-smaller : goal.loop-step-smaller
loop-step-smaller c =
    let d = plain_design c.args.design.now in
    let own : map plain_cell c.as_slice.result.now ≡ (component_at d c.loop-step.component).cells =
    own_cells c.args.design.now.components.items c.args.design.now.main c.loop-step.component c.as_slice-components.result.now c.index-components-component.result c.as_slice.result.now
    (c.requires.first.there c.loop-step.component c.loop-step.invariant.here) c.as_slice-components.ensures.value c.index-components-component.is c.as_slice.ensures.value in
    let next : IsTurn d c.args.order.now c.args.port (full_path (tree_of d) (get_or (paths_of (tree_of d)) c.args.instance []) c.args.port) c.loop-step.component c.loop-step.left c.loop-step.text.items c.in-Some.step =
    turn d c.args.order.now c.args.tallies.now c.args.port (full_path (tree_of d) (get_or (paths_of (tree_of d)) c.args.instance []) c.args.port) c.loop-step.component c.loop-step.left c.loop-step.text.items c.in-Some.step
    c.requires.first c.requires.known c.loop-step.invariant (ap (λ cs. next_step c.args.tallies.now cs c.loop-step.left) (sym own) ∙ sym c.next_step.ensures ∙ c.in-Some.is) in
    next.less

pub loop-step-preserved : goal.loop-step-preserved
loop-step-preserved c =
    let d = plain_design c.args.design.now in
    let own : map plain_cell c.as_slice.result.now ≡ (component_at d c.loop-step.component).cells =
    own_cells c.args.design.now.components.items c.args.design.now.main c.loop-step.component c.as_slice-components.result.now c.index-components-component.result c.as_slice.result.now
    (c.requires.first.there c.loop-step.component c.loop-step.invariant.here) c.as_slice-components.ensures.value c.index-components-component.is c.as_slice.ensures.value in
    let part : map plain_cell c.index-components-component-in-Some.result.cells.items ≡ (component_at d c.loop-step.component).cells =
    own_cells c.args.design.now.components.items c.args.design.now.main c.loop-step.component c.as_slice-components.result.now c.index-components-component-in-Some.result
    c.index-components-component-in-Some.result.cells.items (c.requires.first.there c.loop-step.component c.loop-step.invariant.here) c.as_slice-components.ensures.value
    c.index-components-component-in-Some.is (ap (λ p. p.cells.items) c.index-components-component-in-Some.is) in
    let next : IsTurn d c.args.order.now c.args.port (full_path (tree_of d) (get_or (paths_of (tree_of d)) c.args.instance []) c.args.port) c.loop-step.component c.loop-step.left c.loop-step.text.items c.in-Some.step =
    turn d c.args.order.now c.args.tallies.now c.args.port (full_path (tree_of d) (get_or (paths_of (tree_of d)) c.args.instance []) c.args.port) c.loop-step.component c.loop-step.left c.loop-step.text.items c.in-Some.step
    c.requires.first c.requires.known c.loop-step.invariant (ap (λ cs. next_step c.args.tallies.now cs c.loop-step.left) (sym own) ∙ sym c.next_step.ensures ∙ c.in-Some.is) in
    subst (IsOnWay d c.args.order.now c.args.port (full_path (tree_of d) (get_or (paths_of (tree_of d)) c.args.instance []) c.args.port) c.in-Some.step.component c.in-Some.step.left)
    (sym (c.in_ok-append_cell.ensures ∙ ap (λ cs. c.loop-step.text.items ++ cell_name cs c.in-Some.step.cell ++ codes ".") part)) next.further

pub returns : goal.returns
returns c path at =
    let d = plain_design c.args.design.now in
    let own : map plain_cell c.as_slice.result.now ≡ (component_at d c.loop-step.component).cells =
    own_cells c.args.design.now.components.items c.args.design.now.main c.loop-step.component c.as_slice-components.result.now c.index-components-component.result c.as_slice.result.now
    (c.requires.first.there c.loop-step.component c.loop-step.invariant.here) c.as_slice-components.ensures.value c.index-components-component.is c.as_slice.ensures.value in
    c.in_ok-extend_from_slice.ensures.items
    ∙ ap (λ xs. c.loop-step.text.items ++ xs) (c.bytes.ensures.value ∙ c.in_ok-own.ensures.value)
    ∙ way_ends d c.args.order.now c.args.tallies.now c.args.port (full_path (tree_of d) (get_or (paths_of (tree_of d)) c.args.instance []) c.args.port) c.loop-step.component c.loop-step.left
    c.loop-step.text.items c.requires.first c.requires.known c.loop-step.invariant (ap (λ cs. next_step c.args.tallies.now cs c.loop-step.left) (sym own) ∙ sym c.next_step.ensures ∙ c.in_default.is)
    ∙ ap (λ p. full_path (tree_of d) p c.args.port) (get_or_from_slice_get (paths_of (tree_of d)) c.args.instance path [] at)
