use Rattle.std.proofs.Common.{rules, ◌≡◌, length, map, sym, ap, ◌∙◌, subst, arith}
use Rattle.std.proofs.lemmas.List.{with_items_is}
use Rattle.std.specs.Vec.{with_items}
use Rattle.cx_design.specs.PlainForms.{plain_cell}
use Rattle.cx_eval_cycle.specs.Passes.{IsAscending, listed_in}
use Rattle.cx_turns.specs.Groups.{ListWithin}
use Rattle.cx_turns.specs.Rests.{rested_cells}
use Rattle.cx_turns.specs.Machines.{design_of, rows_of}
use Rattle.cx_turns.proofs.RestStands.{cells_hold, cells_within, has_rested}
use Rattle.cx_turns.proofs.rest.rest_listed.Goals as goal

pub rest_cells-requires-clause-fits : goal.rest_cells-requires-clause-fits
rest_cells-requires-clause-fits c =
    cells_hold c.args.plan.now.design.now.components.items c.args.plan.now.design.now.main c.args.plan.now.table.rows.items c.args.plan.now.table.children.items c.requires.plan.table c.args.machine.now.sight.state.instances.items c.requires.machine.state
    c.args.instance c.requires.instance c.index.result.now c.index.ensures c.index-component.result.now c.index-component.ensures c.index_mut-row.result.now c.index_mut-row.ensures.value c.deref.result.now c.deref.ensures.value c.deref_mut.result.now
    c.deref_mut.ensures.value

pub rest_cells-requires-clause-within : goal.rest_cells-requires-clause-within
rest_cells-requires-clause-within c =
    cells_within c.args.plan.now.design.now.components.items c.args.plan.now.design.now.main c.args.plan.now.table.rows.items c.args.plan.now.table.children.items c.requires.plan.table c.args.machine.now.sight.state.instances.items c.requires.machine.state
    c.args.instance c.requires.instance c.index.result.now c.index.ensures c.index-component.result.now c.index-component.ensures c.index_mut-row.result.now c.index_mut-row.ensures.value c.deref.result.now c.deref.ensures.value c.deref_mut.result.now
    c.deref_mut.ensures.value c.as_slice-listed.result.now (subst (λ xs. ListWithin (design_of c.args.plan.now) c.args.instance xs) (sym c.as_slice-listed.ensures.value) c.requires.within)

pub rest_cells-requires-clause-ascending : goal.rest_cells-requires-clause-ascending
rest_cells-requires-clause-ascending c = subst IsAscending (sym c.as_slice-listed.ensures.value) c.requires.ascending

pub returns-clause-rested : goal.returns-clause-rested
returns-clause-rested c =
    let count : length c.rest_cells.new.held ≡ c.index_mut-row.result.now.cells.len = first_of (omega (arith, c.rest_cells.auto.held, c.deref_mut.ensures.len), search (rules, c.rest_cells.auto.held, c.deref_mut.ensures.len)) in
    has_rested c.args.plan.now.design.now.components.items c.args.plan.now.design.now.main c.args.plan.now.table.rows.items c.args.plan.now.table.children.items c.requires.plan.table c.args.machine.now.sight.state.instances.items c.requires.machine.state
    c.args.instance c.requires.instance c.index.result.now c.index.ensures c.index-component.result.now c.index-component.ensures c.index_mut-row.result.now c.index_mut-row.ensures.value c.deref.result.now c.deref.ensures.value c.deref_mut.result.now
    c.deref_mut.ensures.value (listed_in c.args.machine.now.room.cells.items) (record { cells = with_items c.index_mut-row.result.now.cells c.rest_cells.new.held; held = c.index_mut-row.result.now.held }) c.rest_cells.new.held (c.rest_cells.ensures.value ∙ ap (λ xs. rested_cells (listed_in xs) (map plain_cell c.deref.result.now) c.deref_mut.result.now) c.as_slice-listed.ensures.value)
    c.rest_cells.ensures.fits (ap (λ hs. record { cells = hs; held = c.index_mut-row.result.now.held.items }) (with_items_is c.index_mut-row.result.now.cells c.rest_cells.new.held count))
    (λ s after path r inside stands number own top deeper. c.one_row_changes.ensures (design_of c.args.plan.now) (rows_of c.args.machine.now) s after c.args.instance path r inside stands number own top deeper)
