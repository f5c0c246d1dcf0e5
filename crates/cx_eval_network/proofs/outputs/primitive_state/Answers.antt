use Rattle.std.proofs.Common.{None, [], get_or, refl}
use Rattle.cx_prim.specs.Table.{row_of}
use Rattle.cx_prim.proofs.TableLaws.{row_of_lawful}
use Rattle.cx_meaning.specs.declared.ports.PortRef.TheVariants.{Cell}
use Rattle.cx_state.specs.Tables.{row_at}
use Rattle.cx_eval_network.specs.declared.network.Found.TheVariants.{Worth}
use Rattle.cx_eval_network.specs.Askings.{asked_of}
use Rattle.cx_eval_network.specs.Networks.{seen_at}
use Rattle.cx_eval_network.proofs.OwnLemmas.{cell_port, cell_port_found, cells_hold_there, held_is, is_output, none_seen, output_looked}
use Rattle.cx_eval_network.proofs.StepLemmas.{component_holds, held_state, no_state}
use Rattle.cx_eval_network.proofs.outputs.primitive_state.Goals as goal

pub held_output-requires-clause-output : goal.held_output-requires-clause-output
held_output-requires-clause-output c =
    let a = asked_of c.args.asking.now in
    let found = cell_port a c.args.instance c.args.cell c.args.port c.requires.found in
    let f = cell_port_found a c.args.instance c.args.cell c.args.port c.requires.found in
    is_output c.args.asking.now c.requires.can.can found f c.args.cell c.args.port 0 (row_of c.args.primitive.now) refl c.requires.row c.requires.reads

pub held_output-requires-clause-state : goal.held_output-requires-clause-state
held_output-requires-clause-state c =
    let asking = c.args.asking.now in
    let a = asked_of asking in
    let row = row_of c.args.primitive.now in
    let cells = c.cells_of.result.now in
    let found = cell_port a c.args.instance c.args.cell c.args.port c.requires.found in
    let f = cell_port_found a c.args.instance c.args.cell c.args.port c.requires.found in
    held_state row (get_or cells c.args.cell None) c.in-Some.state.now
    (component_holds a.design (row_at a.rows c.args.instance).component cells c.args.cell row (cells_hold_there asking c.requires.can.can found f c.args.cell c.args.port 0 row refl c.requires.row cells c.cells_of.ensures.value) c.requires.row)
    c.in-Some.ensures.some

pub unreachable-requires : goal.unreachable-requires
unreachable-requires c =
    let asking = c.args.asking.now in
    let a = asked_of asking in
    let row = row_of c.args.primitive.now in
    let cells = c.cells_of.result.now in
    let found = cell_port a c.args.instance c.args.cell c.args.port c.requires.found in
    let f = cell_port_found a c.args.instance c.args.cell c.args.port c.requires.found in
    no_state row (get_or cells c.args.cell None)
    (component_holds a.design (row_at a.rows c.args.instance).component cells c.args.cell row (cells_hold_there asking c.requires.can.can found f c.args.cell c.args.port 0 row refl c.requires.row cells c.cells_of.ensures.value) c.requires.row)
    c.in-None.ensures.none

pub returns : goal.returns
returns c =
    let asking = c.args.asking.now in
    let a = asked_of asking in
    let can = c.requires.can.can in
    let row = row_of c.args.primitive.now in
    let cell = c.args.cell in
    let cells = c.cells_of.result.now in
    let found = cell_port a c.args.instance cell c.args.port c.requires.found in
    let f = cell_port_found a c.args.instance cell c.args.port c.requires.found in
    let stands = c.rows_stand.ensures a.design a.rows a.children a.state can.network.table can.fits in
    let held = held_is asking can found f cell c.args.port 0 row refl c.requires.row cells c.in-Some.state.now stands c.cells_of.ensures.value c.in-Some.ensures.some in
    record {
      value = output_looked asking can found f cell c.args.port 0 row refl c.requires.row c.requires.reads [] (none_seen a c.args.instance cell c.args.port c.requires.found) c.in-Some.state.now (Worth c.held_output.result)
          (c.outputs_read_first.ensures c.args.primitive.now) (row_of_lawful c.args.primitive.now).registered held (c.held_output.ensures.value (λ q. seen_at a c.args.instance (Cell cell q)));
    }
