use Rattle.std.proofs.Common.{◌∙◌, ap, sym}
use Rattle.cx_graphs.specs.Graphs.{edges_of}
use Rattle.cx_shape_state.specs.Waits.{waits_on}
use Rattle.cx_shape_state.specs.Joining.{with_edges}
use Rattle.cx_shape_state.proofs.Joins.{with_edges-none}
use Rattle.cx_shape_state.proofs.WaitLemmas.{waits_for}
use Rattle.cx_shape_state.proofs.waiting.add_wait.Goals as goal

pub returns-in-State-clause-value : goal.returns-in-State-clause-value
returns-in-State-clause-value c =
    let g = edges_of c.args.graph.now.items in
    sym (with_edges-none g c.args.cell) ∙ ap (λ b. with_edges g c.args.cell (waits_on c.args.cell b)) (sym c.in-State.is)

pub returns-in_ok-add_link-in-Nothing-clause-value : goal.returns-in_ok-add_link-in-Nothing-clause-value
returns-in_ok-add_link-in-Nothing-clause-value c =
    waits_for (edges_of c.args.graph.now.items) _ c.args.cell c.args.cell c.args.basis (ap (waits_on c.args.cell) c.in-Nothing.is) c.in_ok-add_link-in-Nothing.ensures.value

pub returns-in_ok-add_link-in-Cell-clause-value : goal.returns-in_ok-add_link-in-Cell-clause-value
returns-in_ok-add_link-in-Cell-clause-value c =
    waits_for (edges_of c.args.graph.now.items) _ c.args.cell c.in-Cell.other c.args.basis (ap (waits_on c.args.cell) c.in-Cell.is) c.in_ok-add_link-in-Cell.ensures.value
