use Rattle.cx_design.specs.PlainDesigns.{plain_design}
use Rattle.cx_design.specs.declared.actives.Active.TheVariants.{Group}
use Rattle.cx_eval_network.proofs.ListLemmas.{list_as}
use Rattle.cx_eval_network.proofs.demands.Marks.fill.Goals as goal

pub fill-requires-clause-list : goal.fill-requires-clause-list
fill-requires-clause-list c =
    let asking = c.args.asking.now in
    let can = c.requires.can.can in
    list_as (Group c.in-Some.group) asking.active.now c.in-Some.ensures.value (plain_design asking.design.now) asking.table.now.rows.items asking.instance c.listed-list.result
    (c.listed-list.ensures.value (plain_design asking.design.now) asking.table.now.rows.items can.network.numbered can.within)
