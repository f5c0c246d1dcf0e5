use Rattle.std.proofs.Common.{sym, ◌∙◌, subst, arith}
use Rattle.cx_eval_network.specs.Askings.{asked_of}
use Rattle.cx_eval_network.specs.Demands.{StaysWithin}
use Rattle.cx_eval_network.specs.Networks.{leads_at}
use Rattle.cx_eval_network.proofs.NetworkLemmas.{network_grounded, stays_within}
use Rattle.cx_eval.proofs.demanding.demand_node.Goals as goal

pub demand-requires : goal.demand-requires
demand-requires c =
    let a = c.args.asking.now in
    let ready = c.requires.ready in
    let can = c.requires.can.can in
    let count = ready.count in
    let node = c.requires.node in
    record {
      sound = c.requires.can;
      root = omega (arith, node, count);
      within = subst (StaysWithin (leads_at (asked_of a) a.nodes.now)) (sym count) (stays_within (asked_of a) a.nodes.now can.network);
      grounded = network_grounded (asked_of a) a.nodes.now can.network;
      ready = ready.ready;
    }

pub returns : goal.returns
returns c = record {
  value = c.demand.ensures.seen;
  ready = record { count = c.demand.ensures.count ∙ c.requires.ready.count; ready = c.demand.ensures.value.ready };
}
