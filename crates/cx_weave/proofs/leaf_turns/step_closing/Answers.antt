use Rattle.std.proofs.Common.{sym, subst}
use Rattle.cx_meaning.specs.Control.{group_drives}
use Rattle.cx_eval_cycle.specs.Passes.{IsAscending}
use Rattle.cx_turns.specs.Groups.{ListGroup, ListWithin}
use Rattle.cx_turns.specs.Machines.{design_of, rows_of}
use Rattle.cx_turns.proofs.GroupLemmas.{row_ascends, row_lists, row_within}
use Rattle.cx_weave.proofs.LeafSteps.{closing_ends}
use Rattle.cx_weave.proofs.leaf_turns.step_closing.Goals as goal

pub rest_listed-requires-clause-ascending : goal.rest_listed-requires-clause-ascending
rest_listed-requires-clause-ascending c =
    subst (λ xs. IsAscending xs) (sym c.as_slice.ensures.value) (row_ascends (design_of c.args.plan.now) c.args.instance c.args.group c.group_row-row.result.now c.requires.instance c.group_row-row.ensures)

pub rest_listed-requires-clause-within : goal.rest_listed-requires-clause-within
rest_listed-requires-clause-within c =
    subst (λ xs. ListWithin (design_of c.args.plan.now) c.args.instance xs) (sym c.as_slice.ensures.value)
    (row_within (design_of c.args.plan.now) c.requires.plan.design c.args.plan.now.table.rows.items c.args.plan.now.table.children.items c.requires.plan.table c.args.instance c.args.group c.group_row-row.result.now c.requires.group c.group_row-row.ensures)

pub returns-clause-stepped : goal.returns-clause-stepped
returns-clause-stepped c =
    let d = design_of c.args.plan.now in
    closing_ends d c.args.instance c.args.leaf (rows_of c.args.machine.now) (rows_of c.rest_listed.new.machine) c.args.group
    (c.rest_listed.ensures.rested (λ part. group_drives part c.args.group)
    (λ path k number. subst (λ xs. ListGroup d c.args.instance c.args.group xs) (sym c.as_slice.ensures.value) (row_lists d c.args.instance c.args.group c.group_row-row.result.now c.group_row-row.ensures) path k number))
