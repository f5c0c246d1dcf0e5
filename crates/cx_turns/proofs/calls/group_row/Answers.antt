use Rattle.std.proofs.Common.{rules, ◌<◌, length, arith}
use Rattle.cx_turns.specs.Machines.{design_of}
use Rattle.cx_turns.proofs.GroupLemmas.{row_read, group_there}
use Rattle.cx_turns.proofs.calls.group_row.Goals as goal

pub index-requires-3 : goal.index-requires-3
index-requires-3 c =
    let within : c.args.group < length c.index-2.result.now.rows.items =
    group_there (design_of c.args.plan.now) c.args.plan.now.table.rows.items c.args.plan.now.table.children.items c.args.plan.now.groups.items c.requires.plan.table c.requires.plan.groups c.args.instance c.args.group c.index.result.now
    c.index-2.result.now c.requires.instance c.requires.group c.index.ensures c.index-2.ensures in
    first_of (omega (arith, within), search (rules, within))

pub returns : goal.returns
returns c =
    row_read (design_of c.args.plan.now) c.args.plan.now.table.rows.items c.args.plan.now.table.children.items c.args.plan.now.groups.items c.requires.plan.table c.requires.plan.groups c.args.instance c.args.group c.index.result.now
    c.index-2.result.now c.index-3.result.now c.requires.instance c.requires.group c.index.ensures c.index-2.ensures c.index-3.ensures
