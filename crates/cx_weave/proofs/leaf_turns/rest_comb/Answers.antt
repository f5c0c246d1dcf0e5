use Rattle.std.proofs.Common.{Some, sym, subst}
use Rattle.cx_eval_cycle.specs.Passes.{IsAscending}
use Rattle.cx_turns.specs.Groups.{ListGroup}
use Rattle.cx_turns.specs.Machines.{design_of, rows_of}
use Rattle.cx_turns.proofs.GroupLemmas.{row_ascends, row_lists}
use Rattle.cx_orders.specs.Leaves.{test_drives}
use Rattle.cx_weave.specs.Strides.{HasRested}
use Rattle.cx_weave.proofs.CombSteps.{lists_comb, none_rested}
use Rattle.cx_weave.proofs.leaf_turns.rest_comb.Goals as goal

pub rest_listed-requires-clause-ascending : goal.rest_listed-requires-clause-ascending
rest_listed-requires-clause-ascending c =
    subst (λ xs. IsAscending xs) (sym c.as_slice.ensures.value) (row_ascends (design_of c.args.plan.now) c.args.instance c.in-Some.group c.group_row-row.result.now c.requires.instance c.group_row-row.ensures)

pub returns-in-Some-clause-rested : goal.returns-in-Some-clause-rested
returns-in-Some-clause-rested c =
    subst (λ o. HasRested (design_of c.args.plan.now) (rows_of c.args.machine.now) (rows_of c.rest_listed.new.machine) c.args.instance (λ part. test_drives part o)) (sym c.in-Some.is)
    (c.rest_listed.ensures.rested (λ part. test_drives part (Some c.in-Some.group))
    (lists_comb (design_of c.args.plan.now) c.args.instance c.in-Some.group c.as_slice.result.now
    (subst (λ xs. ListGroup (design_of c.args.plan.now) c.args.instance c.in-Some.group xs) (sym c.as_slice.ensures.value) (row_lists (design_of c.args.plan.now) c.args.instance c.in-Some.group c.group_row-row.result.now c.group_row-row.ensures))))

pub returns-in-None-clause-rested : goal.returns-in-None-clause-rested
returns-in-None-clause-rested c =
    subst (λ o. HasRested (design_of c.args.plan.now) (rows_of c.args.machine.now) (rows_of c.args.machine.now) c.args.instance (λ part. test_drives part o)) (sym c.in-None.is) (none_rested (design_of c.args.plan.now) (rows_of c.args.machine.now) c.args.instance)
