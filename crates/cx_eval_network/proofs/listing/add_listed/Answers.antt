use Rattle.std.proofs.Common.{sym}
use Rattle.cx_eval_network.proofs.ListingLemmas.{listed_more}
use Rattle.cx_eval_network.proofs.listing.add_listed.Goals as goal

pub returns-in_ok-push : goal.returns-in_ok-push
returns-in_ok-push c = record {
  value =
      listed_more c.args.part.now.ports.items c.args.plans.now c.args.active.now c.args.listed.now.items _ _
      (record { port = c.in-Some.port; stands = sym c.in-Some.ensures.value; plan = c.in-Some-port_plan.plan.now; there = c.in-Some-port_plan.ensures.some; found_by = c.found_by.ensures.value }) c.in_ok-push.ensures.items;
}
