use Rattle.std.proofs.Common.{[], sym, ◌∙◌, arith}
use Rattle.cx_design.specs.PlainDesigns.{plain_design}
use Rattle.cx_eval_network.proofs.NodeLemmas.{nodes_within}
use Rattle.cx_eval_network.proofs.ValueLemmas.{value_there}
use Rattle.cx_eval_network.specs.Askings.{asked_of}
use Rattle.cx_eval.proofs.ShownLemmas.{literal_shown}
use Rattle.cx_eval.proofs.demanding.demand_port.Goals as goal

pub demand_node-requires-clause-node : goal.demand_node-requires-clause-node
demand_node-requires-clause-node c =
    let a = c.args.asking.now in
    let design = plain_design a.design.now in
    let rows = a.table.now.rows.items in
    nodes_within design rows a.instance c.args.port c.in-Some.node c.requires.can.can.within (sym (c.node.ensures.value design rows a.instance c.requires.own) ∙ c.in-Some.is)

pub returns-in-Some-clause-value : goal.returns-in-Some-clause-value
returns-in-Some-clause-value c =
    let a = c.args.asking.now in
    let can = c.requires.can.can in
    let is = sym (c.node.ensures.value (plain_design a.design.now) a.table.now.rows.items a.instance c.requires.own) ∙ c.in-Some.is in
    c.demand_node.ensures.value ∙ value_there (asked_of a) a.nodes.now can.network [] a.instance c.in-Some.node c.args.port (omega arith) can.within is

pub returns-in-None-clause-value : goal.returns-in-None-clause-value
returns-in-None-clause-value c =
    let a = c.args.asking.now in
    let can = c.requires.can.can in
    let is = sym (c.node.ensures.value (plain_design a.design.now) a.table.now.rows.items a.instance c.requires.own) ∙ c.in-None.is in
    c.literal_seen.ensures.value ∙ literal_shown (asked_of a) a.nodes.now can.network can.within c.args.port c.requires.port is
