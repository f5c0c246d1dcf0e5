use Rattle.std.proofs.Common.{rules, ◌+◌, ◌∙◌, ◌∷◌, ℕ, List, ap, sym, drop, flat_map, map}
use Rattle.std.proofs.lemmas.List.{drop_more, drop_all}
use Rattle.cx_meaning.specs.Designs.{PlainGroup}
use Rattle.cx_rules.specs.Ports.{component_of}
use Rattle.cx_design.specs.PlainDesigns.{plain_design}
use Rattle.cx_design.specs.PlainForms.{plain_group, plain_assigns}
use Rattle.cx_design.specs.declared.groups.Assign.{Assign}
use Rattle.cx_graphs.specs.Graphs.{edges_of}
use Rattle.cx_shape_state.specs.Waits.{group_waits}
use Rattle.cx_shape_state.specs.Joining.{joined}
use Rattle.cx_shape_state.proofs.Joins.{next_joined, all_joined}
use Rattle.cx_shape_state.proofs.waiting.add_groups.Goals as goal

pub loop-group-preserved : goal.loop-group-preserved
loop-group-preserved c =
    let f : ℕ → PlainGroup → List ℕ = λ n g. flat_map (group_waits (component_of (plain_design c.args.design.now) c.args.number) n) g.assigns in
    let groups = c.args.groups.now in
    let k = c.loop-group.group-index in
    record {
      count = c.in_ok-add_group.ensures.count ∙ c.loop-group.invariant.count;
      value = next_joined plain_group f k groups c.group-item.result (edges_of c.loop-group.graph.items) (edges_of c.add_group.new.graph.items) (joined (edges_of c.args.graph.now.items) 0 (λ n. flat_map (f n) (map plain_group groups)))
          (drop_more groups k c.group-item.result (search rules) ∙ ap (λ x. x ∷ drop (k + 1) groups) (sym c.group-item.is))
          (c.in_ok-add_group.ensures.value ∙ ap (λ (ls : List Assign). joined (edges_of c.loop-group.graph.items) 0 (λ n. flat_map (group_waits (component_of (plain_design c.args.design.now) c.args.number) n) (plain_assigns ls))) c.as_slice.ensures.value) c.loop-group.invariant.value;
    }

pub returns : goal.returns
returns c =
    let f : ℕ → PlainGroup → List ℕ = λ n g. flat_map (group_waits (component_of (plain_design c.args.design.now) c.args.number) n) g.assigns in
    let groups = c.args.groups.now in
    record {
      value = all_joined plain_group f (drop c.loop-group.group-index groups) (edges_of c.loop-group.graph.items) (joined (edges_of c.args.graph.now.items) 0 (λ n. flat_map (f n) (map plain_group groups)))
          (drop_all c.loop-group.group-index groups (search rules)) c.loop-group.invariant.value;
    }
