use Rattle.std.proofs.Common.{length, sym, ◌∙◌}
use Rattle.cx_prim.specs.Table.{row_of}
use Rattle.cx_prim.proofs.TableLaws.{row_of_lawful}
use Rattle.cx_meaning.specs.declared.ports.PortRef.TheVariants.{Cell}
use Rattle.cx_meaning.specs.Instances.{tree_of}
use Rattle.cx_rules.proofs.WidthRulesLemmas.{not_bad}
use Rattle.cx_state.specs.ReadStates.{state_in}
use Rattle.cx_eval_network.specs.Askings.{asked_of}
use Rattle.cx_eval_network.specs.Networks.{active_at, path_at, seen_at}
use Rattle.cx_eval_network.proofs.NetworkLemmas.{number_at}
use Rattle.cx_eval.proofs.OwnLemmas.{seen_is}
use Rattle.cx_eval.proofs.SourceLaws.{input_there, input_width, operator_holds, operator_reads, operator_side, operator_state, operator_value}
use Rattle.cx_eval.proofs.operators.primitive_seen.Goals as goal

pub output_seen-requires-clause-sources : goal.output_seen-requires-clause-sources
output_seen-requires-clause-sources c = λ q source at. (c.requires.inputs q source at).can

pub output_seen-requires-clause-state : goal.output_seen-requires-clause-state
output_seen-requires-clause-state c =
    let o = c.args.operator.now in
    operator_state c.args.asking.now c.requires.can.can o.cell o.port (length o.inputs.items) (row_of c.args.primitive.now) c.requires.plan c.requires.row c.cells_of.result.now c.cells_of.ensures.value c.in-Some.state.now c.in-Some.ensures.some

pub output_seen-requires-clause-output : goal.output_seen-requires-clause-output
output_seen-requires-clause-output c =
    let o = c.args.operator.now in
    operator_side c.args.asking.now c.requires.can.can o.cell o.port (length o.inputs.items) (row_of c.args.primitive.now) c.requires.plan c.requires.row

pub output_seen-requires-clause-reads : goal.output_seen-requires-clause-reads
output_seen-requires-clause-reads c =
    let o = c.args.operator.now in
    operator_reads c.args.asking.now c.requires.can.can o.cell o.port (length o.inputs.items) (row_of c.args.primitive.now) c.requires.plan c.requires.row

pub output_seen-requires-clause-widths : goal.output_seen-requires-clause-widths
output_seen-requires-clause-widths c = λ q source port b at there is.
    let asking = c.args.asking.now in
    let a = asked_of asking in
    let can = c.requires.can.can in
    let o = c.args.operator.now in
    let row = row_of c.args.primitive.now in
    let reads = length o.inputs.items in
    let seen = sym (c.requires.inputs q source at).value ∙ is in
    let stands = c.rows_stand.ensures a.design a.rows a.children a.state can.network.table can.fits in
    let width = c.state_seen_has_width.ensures a.design a.state (state_in (tree_of a.design) a.state) asking.instance (path_at a.design asking.instance) (active_at a asking.instance) (Cell o.cell q) b
    can.network.design can.accepted (can.network.acyclic asking.instance) can.fits stands (number_at a asking.nodes.now can.network asking.instance can.within)
    (input_there asking can o.cell o.port reads row c.requires.plan c.requires.row q port there) (not_bad o.cell q) (sym (seen_is asking (Cell o.cell q)) ∙ seen) in
    input_width asking can o.cell o.port reads row c.requires.plan c.requires.row q port there b width

pub unreachable-requires : goal.unreachable-requires
unreachable-requires c =
    let o = c.args.operator.now in
    operator_holds c.args.asking.now c.requires.can.can o.cell o.port (length o.inputs.items) (row_of c.args.primitive.now) c.requires.plan c.requires.row c.cells_of.result.now c.cells_of.ensures.value c.in-None.ensures.none

pub returns : goal.returns
returns c =
    let asking = c.args.asking.now in
    let a = asked_of asking in
    let can = c.requires.can.can in
    let o = c.args.operator.now in
    let p = c.args.primitive.now in
    let stands = c.rows_stand.ensures a.design a.rows a.children a.state can.network.table can.fits in
    record {
      value = operator_value asking can o.cell o.port (length o.inputs.items) (row_of p) c.requires.plan c.requires.row c.cells_of.result.now c.cells_of.ensures.value stands (c.outputs_read_first.ensures p) (row_of_lawful p).registered
          c.in-Some.state.now c.output_seen.result c.in-Some.ensures.some (c.output_seen.ensures.value (λ q. seen_at a asking.instance (Cell o.cell q)) (λ q source at. (c.requires.inputs q source at).value));
    }
