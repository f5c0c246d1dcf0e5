use Rattle.std.proofs.Common.{ap, ◌∙◌, arith}
use Rattle.cx_prim.specs.Table.{row_of}
use Rattle.cx_meaning.specs.Sights as sights
use Rattle.cx_eval_network.proofs.GatheredLemmas.{gathered_fits, output_given, output_lacks, shown_agrees, shown_look}
use Rattle.cx_eval_network.proofs.OutputLemmas.{front_bare, none_count}
use Rattle.cx_eval_network.proofs.ShortLemmas.{rows_are_short}
use Rattle.cx_eval_network.proofs.outputs.output_by.Goals as goal

pub whole_as_front-inputs : goal.whole_as_front-inputs
whole_as_front-inputs c = let few = rows_are_short c.args.primitive.now in let is = c.port_count-count.ensures.value in (omega (arith, few, is), omega arith)

pub gather_known-requires-clause-bare : goal.gather_known-requires-clause-bare
gather_known-requires-clause-bare c = front_bare c.port_count-count.result

pub output-requires-clause-inputs_fit : goal.output-requires-clause-inputs_fit
output-requires-clause-inputs_fit c =
    let few = rows_are_short c.args.primitive.now in
    let is = c.port_count-count.ensures.value in
    let own = c.args.own.now in
    gathered_fits own c.args.first c.args.reads (row_of c.args.primitive.now).ports c.gather_known.new.inputs (c.gather_known.ensures.sized ∙ none_count c.port_count-count.result (omega (arith, few, is)) ∙ is)
    c.requires.widths (c.in-None.ensures.value (shown_look own c.args.first c.args.reads) (shown_agrees own c.args.first c.args.reads))

pub returns-in-Some : goal.returns-in-Some
returns-in-Some c =
    let few = rows_are_short c.args.primitive.now in
    let is = c.port_count-count.ensures.value in
    record {
      value = λ look agree.
          output_lacks c.args.own.now c.args.first c.args.reads look (row_of c.args.primitive.now).ports (λ given. (row_of c.args.primitive.now).output c.args.state.now given c.args.port) c.gather_known.new.inputs c.in-Some.found
          (c.gather_known.ensures.sized ∙ none_count c.port_count-count.result (omega (arith, few, is)) ∙ is) (c.in-Some.ensures.value look agree);
    }

pub returns-in-None : goal.returns-in-None
returns-in-None c =
    let few = rows_are_short c.args.primitive.now in
    let is = c.port_count-count.ensures.value in
    record {
      value = λ look agree.
          c.seen_of.ensures.value ∙ ap sights.of_option c.output.ensures.value
          ∙ output_given c.args.own.now c.args.first c.args.reads look (row_of c.args.primitive.now).ports (λ given. (row_of c.args.primitive.now).output c.args.state.now given c.args.port) c.gather_known.new.inputs
          (c.gather_known.ensures.sized ∙ none_count c.port_count-count.result (omega (arith, few, is)) ∙ is) (c.in-None.ensures.value look agree);
    }
