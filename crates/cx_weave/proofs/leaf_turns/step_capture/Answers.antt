use Rattle.std.proofs.Common.{[], get_or, refl, sym, subst}
use Rattle.cx_meaning.specs.Instances.{paths_of, tree_of}
use Rattle.cx_state.specs.ReadStates.{state_in}
use Rattle.cx_state.specs.Tables.{IsNumber}
use Rattle.cx_eval_cycle.specs.Passes.{IsAscending}
use Rattle.cx_turns.specs.declared.turns.Turn.TheVariants as turns
use Rattle.cx_turns.specs.Machines.{design_of, rows_of}
use Rattle.cx_turns.specs.Turns.{cycle_as}
use Rattle.cx_turns.proofs.GroupLemmas.{row_ascends}
use Rattle.cx_orders.specs.Leaves.{own_capture}
use Rattle.cx_weave.specs.declared.strands.Strand.TheVariants as strands
use Rattle.cx_orders.specs.Open.{Closing}
use Rattle.cx_weave.specs.Strands.{Shows}
use Rattle.cx_weave.specs.Strides.{TakesTurn}
use Rattle.cx_weave.proofs.Amounts.{amount_closing}
use Rattle.cx_weave.proofs.StrandFolds.{is_closing}
use Rattle.cx_weave.proofs.LeafSteps.{capture_goes, capture_faults}
use Rattle.std.proofs.lemmas.Option.{slice_get-get_or}
use Rattle.cx_weave.proofs.leaf_turns.step_capture.Goals as goal

pub take_capture-requires-clause-ascending : goal.take_capture-requires-clause-ascending
take_capture-requires-clause-ascending c =
    subst (λ xs. IsAscending xs) (sym c.as_slice-cells.ensures.value) (row_ascends (design_of c.args.plan.now) c.args.instance c.args.group c.group_row-row.result.now c.requires.instance c.group_row-row.ensures)

pub returns-in-Ok-clause-stepped : goal.returns-in-Ok-clause-stepped
returns-in-Ok-clause-stepped c =
    let d = design_of c.args.plan.now in
    let rows = rows_of c.args.machine.now in
    let path = get_or (paths_of (tree_of d)) c.args.instance [] in
    let number : IsNumber d c.args.instance path = slice_get-get_or (paths_of (tree_of d)) c.args.instance [] c.requires.instance in
    let stood = c.rows_stand.ensures d c.args.plan.now.table.rows.items c.args.plan.now.table.children.items rows c.requires.plan.table c.requires.machine.state in
    let taken : TakesTurn d rows (rows_of c.take_capture.new.machine) c.args.instance turns.Goes (λ i held s. own_capture i held c.args.group c.args.cell s) =
    subst (λ r. TakesTurn d rows (rows_of c.take_capture.new.machine) c.args.instance (cycle_as r) (λ i held s. own_capture i held c.args.group c.args.cell s)) c.in-Ok.is c.take_capture.ensures.taken in
    capture_goes d c.args.instance c.args.leaf rows (rows_of c.take_capture.new.machine) c.args.group path (state_in (tree_of d) rows) number stood c.args.cell (strands.Closing c.args.group) taken (subst (λ p. Shows d c.args.instance p (Closing c.args.group)) (sym (is_closing c.args.group)) (refl, c.requires.group))

pub returns-in-Err-clause-stepped : goal.returns-in-Err-clause-stepped
returns-in-Err-clause-stepped c =
    let d = design_of c.args.plan.now in
    let rows = rows_of c.args.machine.now in
    let path = get_or (paths_of (tree_of d)) c.args.instance [] in
    let number : IsNumber d c.args.instance path = slice_get-get_or (paths_of (tree_of d)) c.args.instance [] c.requires.instance in
    let stood = c.rows_stand.ensures d c.args.plan.now.table.rows.items c.args.plan.now.table.children.items rows c.requires.plan.table c.requires.machine.state in
    let taken : TakesTurn d rows (rows_of c.take_capture.new.machine) c.args.instance (turns.Faults c.in-Err.fault) (λ i held s. own_capture i held c.args.group c.args.cell s) =
    subst (λ r. TakesTurn d rows (rows_of c.take_capture.new.machine) c.args.instance (cycle_as r) (λ i held s. own_capture i held c.args.group c.args.cell s)) c.in-Err.is c.take_capture.ensures.taken in
    capture_faults d c.args.instance c.args.leaf rows (rows_of c.take_capture.new.machine) c.args.group path (state_in (tree_of d) rows) number stood c.args.cell c.in-Err.fault taken

pub returns-in-Ok-clause-ledger : goal.returns-in-Ok-clause-ledger
returns-in-Ok-clause-ledger c x = amount_closing x c.args.group
