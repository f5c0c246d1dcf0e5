use Rattle.std.proofs.Common.{rules, ◌+◌, ◌∙◌, ◌∷◌, ap, sym, drop, flat_map, map}
use Rattle.std.proofs.lemmas.List.{drop_more, drop_all}
use Rattle.cx_rules.specs.Ports.{component_of}
use Rattle.cx_design.specs.PlainDesigns.{plain_design}
use Rattle.cx_design.specs.PlainForms.{plain_assign}
use Rattle.cx_graphs.specs.Graphs.{edges_of}
use Rattle.cx_shape_state.specs.Waits.{group_waits}
use Rattle.cx_shape_state.specs.Joining.{joined}
use Rattle.cx_shape_state.proofs.Joins.{next_joined, all_joined}
use Rattle.cx_shape_state.proofs.waiting.add_group.Goals as goal

pub loop-assign-preserved : goal.loop-assign-preserved
loop-assign-preserved c =
    let f = group_waits (component_of (plain_design c.args.design.now) c.args.number) in
    let assigns = c.args.assigns.now in
    let k = c.loop-assign.assign-index in
    record {
      count = c.in_ok-add_driven.ensures.count ∙ c.loop-assign.invariant.count;
      value = next_joined plain_assign f k assigns c.assign-item.result (edges_of c.loop-assign.graph.items) (edges_of c.add_driven.new.graph.items) (joined (edges_of c.args.graph.now.items) 0 (λ n. flat_map (f n) (map plain_assign assigns)))
          (drop_more assigns k c.assign-item.result (search rules) ∙ ap (λ x. x ∷ drop (k + 1) assigns) (sym c.assign-item.is)) c.in_ok-add_driven.ensures.value c.loop-assign.invariant.value;
    }

pub returns-clause-value : goal.returns-clause-value
returns-clause-value c =
    let f = group_waits (component_of (plain_design c.args.design.now) c.args.number) in
    let assigns = c.args.assigns.now in
    all_joined plain_assign f (drop c.loop-assign.assign-index assigns) (edges_of c.loop-assign.graph.items) (joined (edges_of c.args.graph.now.items) 0 (λ n. flat_map (f n) (map plain_assign assigns)))
    (drop_all c.loop-assign.assign-index assigns (search rules)) c.loop-assign.invariant.value
