use Rattle.cx_turns.specs.Machines.{design_of}
use Rattle.cx_turns.proofs.ChildLemmas.{control_read}
use Rattle.cx_turns.proofs.children.control_of.Goals as goal

pub returns : goal.returns
returns c =
    control_read (design_of c.args.plan.now) c.args.plan.now.table.rows.items c.args.plan.now.table.children.items c.requires.plan.table c.args.instance c.index.result.now c.component.result.now c.requires.instance c.index.ensures c.component.ensures.value
