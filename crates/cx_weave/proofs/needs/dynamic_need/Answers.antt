use Rattle.std.proofs.Common.{rules, ◌<◌, get_or, length, refl, sym, ◌∙◌, arith}
use Rattle.cx_meaning.specs.Instances.{paths_of, tree_of}
use Rattle.cx_turns.specs.Children.{IsPart}
use Rattle.cx_turns.specs.Machines.{design_of}
use Rattle.cx_turns.proofs.ChildLemmas.{callee_part, child_instance}
use Rattle.cx_weave.proofs.NeedSteps.{enable_call, enable_none}
use Rattle.cx_weave.proofs.needs.dynamic_need.Goals as goal

pub child_number-number-requires-clause-part : goal.child_number-number-requires-clause-part
child_number-number-requires-clause-part c = callee_part (design_of c.args.plan.now) c.args.instance c.args.group c.in-Some.cell c.group_row-row.result.now c.group_row-row.ensures c.in-Some.is

pub offset_bounds-table-number : goal.offset_bounds-table-number
offset_bounds-table-number c =
    let few = c.requires.plan.few in
    let long = c.requires.table in
    let below : c.child_number-number.result < length (paths_of (tree_of (design_of c.args.plan.now))) = child_instance (design_of c.args.plan.now) c.args.instance c.in-Some.cell c.child_number-number.result c.requires.instance c.child_number-number.ensures in
    first_of (omega (arith, few, below), search (rules, few, below, long))

pub bounds-table-number : goal.bounds-table-number
bounds-table-number c =
    let long = c.requires.table in
    let below : c.child_number-number.result < length (paths_of (tree_of (design_of c.args.plan.now))) = child_instance (design_of c.args.plan.now) c.args.instance c.in-Some.cell c.child_number-number.result c.requires.instance c.child_number-number.ensures in
    first_of (omega (arith, long, below), search (rules, long, below))

pub returns-in-None : goal.returns-in-None
returns-in-None c path number = enable_none (design_of c.args.plan.now) c.args.instance c.args.piece c.args.group 0 refl c.requires.dynamic path number (sym (c.group_row-row.ensures path number).callee ∙ c.in-None.is)

pub returns-in-Some : goal.returns-in-Some
returns-in-Some c path number =
    let d = design_of c.args.plan.now in
    let part : IsPart d c.args.instance c.in-Some.cell = callee_part d c.args.instance c.args.group c.in-Some.cell c.group_row-row.result.now c.group_row-row.ensures c.in-Some.is in
    enable_call d c.args.instance c.args.piece c.args.group c.in-Some.cell c.child_number-number.result c.sum_of.result (get_or c.args.table.now c.child_number-number.result 0) c.call_takes.result c.args.table.now c.requires.dynamic part c.child_number-number.ensures c.requires.known
    refl c.call_takes.ensures c.sum_of.ensures path number (sym (c.group_row-row.ensures path number).callee ∙ c.in-Some.is)
