use Rattle.std.proofs.Common.{rules, ◌+◌, ◌<◌, length, arith}
use Rattle.cx_turns.specs.Machines.{design_of}
use Rattle.cx_turns.proofs.ChildLemmas.{child_inside, child_read}
use Rattle.cx_turns.proofs.children.child_number.Goals as goal

pub overflow_add-first : goal.overflow_add-first
overflow_add-first c =
    let within : c.index.result.now.first + c.args.cell < length c.args.plan.now.table.children.items =
    child_inside (design_of c.args.plan.now) c.args.plan.now.table.rows.items c.args.plan.now.table.children.items c.requires.plan.table c.args.instance c.args.cell c.index.result.now c.requires.instance c.requires.part c.index.ensures in
    first_of (omega (arith, within), search (rules, within))

pub index-requires-2 : goal.index-requires-2
index-requires-2 c =
    let within : c.index.result.now.first + c.args.cell < length c.args.plan.now.table.children.items =
    child_inside (design_of c.args.plan.now) c.args.plan.now.table.rows.items c.args.plan.now.table.children.items c.requires.plan.table c.args.instance c.args.cell c.index.result.now c.requires.instance c.requires.part c.index.ensures in
    first_of (omega (arith, within), search (rules, within))

pub returns : goal.returns
returns c =
    child_read (design_of c.args.plan.now) c.args.plan.now.table.rows.items c.args.plan.now.table.children.items c.requires.plan.table c.args.instance c.args.cell c.index.result.now c.index-2.result.now c.requires.instance c.requires.part c.index.ensures
    c.index-2.ensures
