use Rattle.std.proofs.Common.{ap, ◌∙◌}
use Rattle.cx_state.specs.States.{plain_state}
use Rattle.cx_eval_network.specs.Networks.{Asked, seen_at}
use Rattle.cx_eval.specs.Tables.{design_of}
use Rattle.cx_eval.proofs.AskedLemmas.{can_demand}
use Rattle.cx_eval.proofs.SightLemmas.{is_seen}
use Rattle.cx_eval.proofs.sights.seen_in.Goals as goal

pub returns-clause-value : goal.returns-clause-value
returns-clause-value c =
    let t = c.args.tables.now in
    is_seen (design_of t) t.table.rows.items t.table.children.items (plain_state c.args.state.now) c.args.instance c.args.active.now c.requires.tables.table c.requires.state c.args.port c.demand_port.result
    (c.demand_port.ensures.value ∙ ap (λ (a : Asked). seen_at a a.instance c.args.port) c.ask-asking.ensures.asked)

pub fill_list-requires : goal.fill_list-requires
fill_list-requires c = record {
  can = c.ask-asking.ensures.can;
  ready = can_demand c.args.tables.now (plain_state c.args.state.now) c.args.instance c.args.active.now c.ask-asking.result c.ask-asking.ensures.asked c.ask-asking.ensures.nodes c.args.marks.now c.requires.ready;
}
