use Rattle.std.proofs.Common.{[], get_or, refl, sym, subst}
use Rattle.cx_meaning.specs.Control.{group_drives}
use Rattle.cx_meaning.specs.Instances.{paths_of, tree_of}
use Rattle.cx_state.specs.ReadStates.{state_in}
use Rattle.cx_state.specs.Tables.{IsNumber}
use Rattle.cx_eval_cycle.specs.Passes.{IsAscending}
use Rattle.cx_turns.specs.declared.turns.Turn.TheVariants as turns
use Rattle.cx_turns.specs.Groups.{ListGroup, ListWithin}
use Rattle.cx_turns.specs.Machines.{design_of, rows_of}
use Rattle.cx_turns.proofs.GroupLemmas.{row_ascends, row_lists, row_within}
use Rattle.cx_orders.specs.Leaves.{own_turn}
use Rattle.cx_weave.specs.declared.strands.Strand.TheVariants as strands
use Rattle.cx_orders.specs.Open.{InGroup}
use Rattle.cx_weave.specs.Strands.{Shows}
use Rattle.cx_weave.specs.Strides.{TakesTurn}
use Rattle.cx_weave.proofs.StrandFolds.{is_group}
use Rattle.cx_weave.proofs.LeafSteps.{group_ends, group_goes, group_faults}
use Rattle.std.proofs.lemmas.Option.{slice_get-get_or}
use Rattle.cx_weave.proofs.leaf_turns.step_group.Goals as goal

pub take_group-requires-clause-ascending : goal.take_group-requires-clause-ascending
take_group-requires-clause-ascending c =
    subst (λ xs. IsAscending xs) (sym c.as_slice-cells.ensures.value) (row_ascends (design_of c.args.plan.now) c.args.instance c.args.group c.group_row-row.result.now c.requires.instance c.group_row-row.ensures)

pub rest_listed-requires-clause-ascending : goal.rest_listed-requires-clause-ascending
rest_listed-requires-clause-ascending c =
    subst (λ xs. IsAscending xs) (sym c.as_slice-cells.ensures.value) (row_ascends (design_of c.args.plan.now) c.args.instance c.args.group c.group_row-row.result.now c.requires.instance c.group_row-row.ensures)

pub rest_listed-requires-clause-within : goal.rest_listed-requires-clause-within
rest_listed-requires-clause-within c =
    subst (λ xs. ListWithin (design_of c.args.plan.now) c.args.instance xs) (sym c.as_slice-cells.ensures.value)
    (row_within (design_of c.args.plan.now) c.requires.plan.design c.args.plan.now.table.rows.items c.args.plan.now.table.children.items c.requires.plan.table c.args.instance c.args.group c.group_row-row.result.now c.requires.group c.group_row-row.ensures)

pub returns-in-Ends-clause-stepped : goal.returns-in-Ends-clause-stepped
returns-in-Ends-clause-stepped c =
    let d = design_of c.args.plan.now in
    let rows = rows_of c.args.machine.now in
    let path = get_or (paths_of (tree_of d)) c.args.instance [] in
    let number : IsNumber d c.args.instance path = slice_get-get_or (paths_of (tree_of d)) c.args.instance [] c.requires.instance in
    let stood = c.rows_stand.ensures d c.args.plan.now.table.rows.items c.args.plan.now.table.children.items rows c.requires.plan.table c.requires.machine.state in
    let taken : TakesTurn d rows (rows_of c.take_group.new.machine) c.args.instance turns.Ends (λ i held s. own_turn i held c.args.group s) =
    subst (λ t. TakesTurn d rows (rows_of c.take_group.new.machine) c.args.instance t (λ i held s. own_turn i held c.args.group s)) c.in-Ends.is c.take_group.ensures.taken in
    let rests = c.rest_listed.ensures.rested (λ part. group_drives part c.args.group)
    (λ path k number. subst (λ xs. ListGroup d c.args.instance c.args.group xs) (sym c.as_slice-cells.ensures.value) (row_lists d c.args.instance c.args.group c.group_row-row.result.now c.group_row-row.ensures) path k number) in
    group_ends d c.args.instance c.args.leaf rows (rows_of c.take_group.new.machine) c.args.group path (state_in (tree_of d) rows) number stood (rows_of c.rest_listed.new.machine) taken rests

pub returns-in-Goes-clause-stepped : goal.returns-in-Goes-clause-stepped
returns-in-Goes-clause-stepped c =
    let d = design_of c.args.plan.now in
    let rows = rows_of c.args.machine.now in
    let path = get_or (paths_of (tree_of d)) c.args.instance [] in
    let number : IsNumber d c.args.instance path = slice_get-get_or (paths_of (tree_of d)) c.args.instance [] c.requires.instance in
    let stood = c.rows_stand.ensures d c.args.plan.now.table.rows.items c.args.plan.now.table.children.items rows c.requires.plan.table c.requires.machine.state in
    let taken : TakesTurn d rows (rows_of c.take_group.new.machine) c.args.instance turns.Goes (λ i held s. own_turn i held c.args.group s) =
    subst (λ t. TakesTurn d rows (rows_of c.take_group.new.machine) c.args.instance t (λ i held s. own_turn i held c.args.group s)) c.in-Goes.is c.take_group.ensures.taken in
    group_goes d c.args.instance c.args.leaf rows (rows_of c.take_group.new.machine) c.args.group path (state_in (tree_of d) rows) number stood (strands.InGroup c.args.group) taken (subst (λ p. Shows d c.args.instance p (InGroup c.args.group)) (sym (is_group c.args.group)) (refl, c.requires.group))

pub returns-in-Faults-clause-stepped : goal.returns-in-Faults-clause-stepped
returns-in-Faults-clause-stepped c =
    let d = design_of c.args.plan.now in
    let rows = rows_of c.args.machine.now in
    let path = get_or (paths_of (tree_of d)) c.args.instance [] in
    let number : IsNumber d c.args.instance path = slice_get-get_or (paths_of (tree_of d)) c.args.instance [] c.requires.instance in
    let stood = c.rows_stand.ensures d c.args.plan.now.table.rows.items c.args.plan.now.table.children.items rows c.requires.plan.table c.requires.machine.state in
    let taken : TakesTurn d rows (rows_of c.take_group.new.machine) c.args.instance (turns.Faults c.in-Faults.fault) (λ i held s. own_turn i held c.args.group s) =
    subst (λ t. TakesTurn d rows (rows_of c.take_group.new.machine) c.args.instance t (λ i held s. own_turn i held c.args.group s)) c.in-Faults.is c.take_group.ensures.taken in
    group_faults d c.args.instance c.args.leaf rows (rows_of c.take_group.new.machine) c.args.group path (state_in (tree_of d) rows) number stood c.in-Faults.fault taken
