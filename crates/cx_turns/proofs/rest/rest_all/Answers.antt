use Rattle.std.proofs.Common.{rules, ◌≡◌, length, ap, arith}
use Rattle.std.proofs.lemmas.List.{with_items_is}
use Rattle.std.specs.Vec.{with_items}
use Rattle.cx_meaning.specs.Cycles.{every_cell}
use Rattle.cx_turns.specs.Machines.{design_of, rows_of}
use Rattle.cx_turns.proofs.RestStands.{cells_hold, has_rested}
use Rattle.cx_turns.proofs.rest.rest_all.Goals as goal

pub rest_every-requires : goal.rest_every-requires
rest_every-requires c = record {
  fits = cells_hold c.args.plan.now.design.now.components.items c.args.plan.now.design.now.main c.args.plan.now.table.rows.items c.args.plan.now.table.children.items c.requires.plan.table c.args.machine.now.sight.state.instances.items c.requires.machine.state
      c.args.instance c.requires.instance c.index.result.now c.index.ensures c.index-component.result.now c.index-component.ensures c.index_mut-row.result.now c.index_mut-row.ensures.value c.deref.result.now c.deref.ensures.value c.deref_mut.result.now
      c.deref_mut.ensures.value;
}

pub returns-clause-rested : goal.returns-clause-rested
returns-clause-rested c =
    let count : length c.rest_every.new.held ≡ c.index_mut-row.result.now.cells.len = first_of (omega (arith, c.rest_every.auto.held, c.deref_mut.ensures.len), search (rules, c.rest_every.auto.held, c.deref_mut.ensures.len)) in
    has_rested c.args.plan.now.design.now.components.items c.args.plan.now.design.now.main c.args.plan.now.table.rows.items c.args.plan.now.table.children.items c.requires.plan.table c.args.machine.now.sight.state.instances.items c.requires.machine.state
    c.args.instance c.requires.instance c.index.result.now c.index.ensures c.index-component.result.now c.index-component.ensures c.index_mut-row.result.now c.index_mut-row.ensures.value c.deref.result.now c.deref.ensures.value c.deref_mut.result.now
    c.deref_mut.ensures.value every_cell (record { cells = with_items c.index_mut-row.result.now.cells c.rest_every.new.held; held = c.index_mut-row.result.now.held }) c.rest_every.new.held c.rest_every.ensures.value
    c.rest_every.ensures.fits (ap (λ hs. record { cells = hs; held = c.index_mut-row.result.now.held.items }) (with_items_is c.index_mut-row.result.now.cells c.rest_every.new.held count))
    (λ s after path r inside stands number own top deeper. c.one_row_changes.ensures (design_of c.args.plan.now) (rows_of c.args.machine.now) s after c.args.instance path r inside stands number own top deeper)
