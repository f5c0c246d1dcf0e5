use Rattle.std.proofs.Common.{◌<◌, ◌∙◌, sym, subst}
use Rattle.cx_rules.specs.Ports.{component_of}
use Rattle.cx_design.specs.PlainDesigns.{plain_design}
use Rattle.cx_design.specs.PlainForms.{plain_assign}
use Rattle.cx_graphs.specs.Graphs.{edges_of}
use Rattle.cx_shape_state.proofs.Cells.{reader_within}
use Rattle.cx_shape_state.proofs.WaitLemmas.{no_driven, one_driven}
use Rattle.cx_shape_state.proofs.waiting.add_driven.Goals as goal

pub returns-in_default-clause-value : goal.returns-in_default-clause-value
returns-in_default-clause-value c =
    no_driven (component_of (plain_design c.args.design.now) c.args.number) (plain_assign c.args.assign.now) (edges_of c.args.graph.now.items) (sym c.reader.ensures.value ∙ c.in_default.is)

pub add_link-requires : goal.add_link-requires
add_link-requires c =
    let i = component_of (plain_design c.args.design.now) c.args.number in
    record { within = subst (λ k. c.in-Some.cell < k) (sym c.requires.count) (reader_within i c.args.assign.now.target c.in-Some.cell (sym c.in-Some.ensures.value)) }

pub returns-clause-value : goal.returns-clause-value
returns-clause-value c =
    one_driven (component_of (plain_design c.args.design.now) c.args.number) (plain_assign c.args.assign.now) (edges_of c.args.graph.now.items) (edges_of c.add_link.new.graph.items) c.in-Some.cell (sym c.in-Some.ensures.value) c.in_ok-add_link.ensures.value
