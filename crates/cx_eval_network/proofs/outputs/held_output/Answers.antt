use Rattle.std.proofs.Common.{sym, ap, ◌∙◌}
use Rattle.cx_prim.specs.Table.{row_of}
use Rattle.cx_meaning.specs.Sights as sights
use Rattle.cx_eval_network.proofs.GatheredLemmas.{front_nothing, nothing_fits, nothing_given, nothing_sized}
use Rattle.cx_eval_network.proofs.ShortLemmas.{rows_are_short}
use Rattle.cx_eval_network.proofs.outputs.held_output.Goals as goal

pub slice_bounds-inputs-end : goal.slice_bounds-inputs-end
slice_bounds-inputs-end c =
    let ports = (row_of c.args.primitive.now).ports in
    let is = front_nothing c.nothing.result.now c.port_count.result ports (c.nothing.ensures.value ∙ c.requires.can.can.network.numbered.nothing) c.port_count.ensures.value (rows_are_short c.args.primitive.now) in
    c.port_count.ensures.value ∙ sym (nothing_sized ports _ is)

pub output-requires-clause-inputs_fit : goal.output-requires-clause-inputs_fit
output-requires-clause-inputs_fit c =
    let ports = (row_of c.args.primitive.now).ports in
    let is = front_nothing c.nothing.result.now c.port_count.result ports (c.nothing.ensures.value ∙ c.requires.can.can.network.numbered.nothing) c.port_count.ensures.value (rows_are_short c.args.primitive.now) in
    nothing_fits ports _ is

pub returns : goal.returns
returns c =
    let row = row_of c.args.primitive.now in
    let is = front_nothing c.nothing.result.now c.port_count.result row.ports (c.nothing.ensures.value ∙ c.requires.can.can.network.numbered.nothing) c.port_count.ensures.value (rows_are_short c.args.primitive.now) in
    record { value = λ look. c.seen_of.ensures.value ∙ ap sights.of_option c.output.ensures.value ∙ nothing_given row.ports _ is look (λ given. row.output c.args.state.now given c.args.port) }
