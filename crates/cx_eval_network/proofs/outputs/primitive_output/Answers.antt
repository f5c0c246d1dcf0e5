use Rattle.std.proofs.Common.{None, get_or, sym, subst}
use Rattle.cx_prim.specs.Table.{row_of}
use Rattle.cx_prim.proofs.TableLaws.{row_of_lawful}
use Rattle.cx_meaning.specs.declared.ports.PortRef.TheVariants.{Cell}
use Rattle.cx_meaning.specs.declared.sights.Seen.TheVariants.{Value}
use Rattle.cx_meaning.specs.Instances.{part_of, tree_of}
use Rattle.cx_rules.specs.Wellformed.{IsThere}
use Rattle.cx_rules.proofs.WidthRulesLemmas.{not_bad}
use Rattle.cx_state.specs.States.{under_path}
use Rattle.cx_state.specs.Tables.{row_at}
use Rattle.cx_state.specs.ReadStates.{state_in}
use Rattle.cx_eval_network.specs.Askings.{asked_of}
use Rattle.cx_eval_network.specs.Networks.{active_at, held_at, instance_of, path_at, seen_at}
use Rattle.cx_eval_network.proofs.AskLemmas.{held_wide, is_there, there as there_is}
use Rattle.cx_eval_network.proofs.NetworkLemmas.{number_at}
use Rattle.cx_eval_network.proofs.OwnLemmas.{cells_hold_there, few_inputs, held_is, input_wide, inputs_agree, inputs_fit_in, is_output, output_looked}
use Rattle.cx_eval_network.proofs.StepLemmas.{component_holds, held_state, no_state}
use Rattle.cx_eval_network.proofs.outputs.primitive_output.Goals as goal

pub output_by-requires-clause-output : goal.output_by-requires-clause-output
output_by-requires-clause-output c = is_output c.args.asking.now c.requires.can.can c.args.found c.requires.found c.args.cell c.args.port c.args.reads (row_of c.args.primitive.now) c.requires.port c.requires.row c.requires.reads

pub output_by-requires-clause-reads : goal.output_by-requires-clause-reads
output_by-requires-clause-reads c = few_inputs c.args.asking.now c.requires.can.can c.args.found c.requires.found c.args.cell c.args.port c.args.reads (row_of c.args.primitive.now) c.requires.port c.requires.row c.requires.reads

pub output_by-requires-clause-fits : goal.output_by-requires-clause-fits
output_by-requires-clause-fits c = inputs_fit_in c.args.asking.now c.requires.can.can c.args.found c.requires.found c.args.cell c.args.port c.args.reads (row_of c.args.primitive.now) c.requires.port c.requires.row

pub output_by-requires-clause-state : goal.output_by-requires-clause-state
output_by-requires-clause-state c =
    let asking = c.args.asking.now in
    let a = asked_of asking in
    let row = row_of c.args.primitive.now in
    let k = c.args.found.instance in
    let cells = c.cells_of-cells.result.now in
    held_state row (get_or cells c.args.cell None) c.in-Some.state.now
    (component_holds a.design (row_at a.rows k).component cells c.args.cell row (cells_hold_there asking c.requires.can.can c.args.found c.requires.found c.args.cell c.args.port c.args.reads row c.requires.port c.requires.row cells c.cells_of-cells.ensures.value) c.requires.row)
    c.in-Some.ensures.some

pub unreachable-requires : goal.unreachable-requires
unreachable-requires c =
    let asking = c.args.asking.now in
    let a = asked_of asking in
    let row = row_of c.args.primitive.now in
    let k = c.args.found.instance in
    let cells = c.cells_of-cells.result.now in
    no_state row (get_or cells c.args.cell None)
    (component_holds a.design (row_at a.rows k).component cells c.args.cell row (cells_hold_there asking c.requires.can.can c.args.found c.requires.found c.args.cell c.args.port c.args.reads row c.requires.port c.requires.row cells c.cells_of-cells.ensures.value) c.requires.row)
    c.in-None.ensures.none

pub output_by-requires-clause-widths : goal.output_by-requires-clause-widths
output_by-requires-clause-widths c = λ q port b there lt known.
    let asking = c.args.asking.now in
    let a = asked_of asking in
    let can = c.requires.can.can in
    let found = c.args.found in
    let f = c.requires.found in
    let row = row_of c.args.primitive.now in
    let cell = c.args.cell in
    let k = found.instance in
    let whole = state_in (tree_of a.design) a.state in
    let number = number_at a asking.nodes.now can.network k f.within in
    let stands = c.rows_stand.ensures a.design a.rows a.children a.state can.network.table can.fits in
    let seen = inputs_agree asking can found f cell c.args.port c.args.reads row c.requires.port c.requires.row c.requires.reads c.args.own.now c.requires.seen q (Value b) lt known in
    let width = c.found_has_width.ensures a.design (path_at a.design k) (held_at a k) (active_at a k) (under_path (path_at a.design k) whole) (Cell cell q) b can.network.design can.accepted (can.network.acyclic k)
    (held_wide a k (part_of (instance_of a k)) (c.states_hold_widths.ensures.inputs a.design a.state k (path_at a.design k) can.fits number))
    (c.states_hold_widths.ensures.cells a.design a.state whole (path_at a.design k) can.fits stands)
    (subst (λ i. IsThere i (Cell cell q)) (sym (there_is asking can found f)) (is_there a.design (row_at a.rows k).component cell q row port (can.network.table.there k f.within) c.requires.row there)) (not_bad cell q) (sym seen) in
    input_wide asking can found f cell c.args.port c.args.reads row c.requires.port c.requires.row c.requires.reads c.args.own.now c.requires.seen q port b there width

pub returns : goal.returns
returns c =
    let asking = c.args.asking.now in
    let a = asked_of asking in
    let can = c.requires.can.can in
    let found = c.args.found in
    let f = c.requires.found in
    let row = row_of c.args.primitive.now in
    let cell = c.args.cell in
    let k = found.instance in
    let own = c.args.own.now in
    let cells = c.cells_of-cells.result.now in
    let stands = c.rows_stand.ensures a.design a.rows a.children a.state can.network.table can.fits in
    let held = held_is asking can found f cell c.args.port c.args.reads row c.requires.port c.requires.row cells c.in-Some.state.now stands c.cells_of-cells.ensures.value c.in-Some.ensures.some in
    record {
      found = output_looked asking can found f cell c.args.port c.args.reads row c.requires.port c.requires.row c.requires.reads own c.requires.seen c.in-Some.state.now c.output_by.result (c.outputs_read_first.ensures c.args.primitive.now)
          (row_of_lawful c.args.primitive.now).registered held
          (c.output_by.ensures.value (λ q. seen_at a k (Cell cell q)) (inputs_agree asking can found f cell c.args.port c.args.reads row c.requires.port c.requires.row c.requires.reads own c.requires.seen));
    }
