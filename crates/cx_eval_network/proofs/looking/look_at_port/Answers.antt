use Rattle.std.proofs.Common.{◌≡◌, ℕ, Some, ◌+◌, ◌-◌, drop, sym, ap, ◌∙◌, subst, arith}
use Rattle.cx_eval_network.specs.Askings.{asked_of}
use Rattle.cx_eval_network.specs.Demands.{Looked}
use Rattle.cx_eval_network.specs.LeadPorts.{lead_ports}
use Rattle.cx_eval_network.specs.Networks.{active_at, below_nodes, instance_of, leads_of, seen_at}
use Rattle.cx_eval_network.specs.Nodes.{first_node}
use Rattle.cx_eval_network.specs.Plans.{planned}
use Rattle.cx_eval_network.proofs.LookLemmas.{driven_known, own_seen, placed_looked}
use Rattle.cx_eval_network.proofs.OwnLemmas.{placed_fits}
use Rattle.cx_eval_network.proofs.looking.look_at_port.Goals as goal

first_is : (first number node : ℕ) → first + number ≡ node → node - number ≡ first
first_is first number node e = omega (arith, e)

pub from_first-requires : goal.from_first-requires
from_first-requires c = record {
  fits = λ n e.
      let a = asked_of c.args.asking.now in
      let first = first_is (first_node a.design a.rows c.args.found.instance) c.args.found.number c.args.node c.requires.node in
      let fits = placed_fits c.args.asking.now c.requires.can.can c.args.found c.requires.found c.own_from.result c.driven_found.result (driven_known c.args.asking.now c.requires.can.can c.args.found c.requires.found c.in-Driven.plan c.active_of-active.result.now c.args.marks.now c.own_from.result c.driven_found.result
      (ap planned (sym c.in-Driven.is) ∙ c.found_plan.ensures.value) c.active_of-active.ensures.value c.requires.right
      (c.own_from.ensures.value ∙ ap (λ m. drop m c.args.marks.now) first) c.driven_found.ensures.value) n e in
      omega (arith, first, fits);
}

pub output_found-requires-clause-seen : goal.output_found-requires-clause-seen
output_found-requires-clause-seen c =
    let asking = c.args.asking.now in
    let a = asked_of asking in
    let f = c.requires.found in
    let k = c.args.found.instance in
    let own = c.own_from-in-Output.result in
    let is : own ≡ drop (first_node a.design a.rows k) c.args.marks.now = c.own_from-in-Output.ensures.value ∙ ap (λ m. drop m c.args.marks.now) (first_is (first_node a.design a.rows k) c.args.found.number c.args.node c.requires.node) in
    own_seen a asking.nodes.now c.requires.can.can.network k f.from f.within c.args.marks.now c.requires.right own is

pub from_first-requires-in-Output : goal.from_first-requires-in-Output
from_first-requires-in-Output c = record {
  fits = λ n e.
      let a = asked_of c.args.asking.now in
      let first = first_is (first_node a.design a.rows c.args.found.instance) c.args.found.number c.args.node c.requires.node in
      let fits = placed_fits c.args.asking.now c.requires.can.can c.args.found c.requires.found c.own_from-in-Output.result c.output_found.result c.output_found.ensures.found n e in
      omega (arith, first, fits);
}

pub returns-in-Driven : goal.returns-in-Driven
returns-in-Driven c =
    let asking = c.args.asking.now in
    let a = asked_of asking in
    let f = c.requires.found in
    let k = c.args.found.instance in
    let own = c.own_from.result in
    let first = first_is (first_node a.design a.rows k) c.args.found.number c.args.node c.requires.node in
    let is : own ≡ drop (first_node a.design a.rows k) c.args.marks.now = c.own_from.ensures.value ∙ ap (λ m. drop m c.args.marks.now) first in
    record {
      found = subst (Looked (leads_of a (Some c.args.found)) (seen_at a k c.args.found.port) c.args.marks.now) (sym c.from_first.ensures.value)
          (placed_looked a asking.nodes.now c.requires.can.can.network k f.from f.within c.args.marks.now c.requires.right own is (c.args.node - c.args.found.number) (lead_ports (instance_of a k) (active_at a k) c.args.found.port)
          (below_nodes a k c.args.found.port) (seen_at a k c.args.found.port) c.driven_found.result first (driven_known c.args.asking.now c.requires.can.can c.args.found c.requires.found c.in-Driven.plan c.active_of-active.result.now c.args.marks.now c.own_from.result c.driven_found.result
          (ap planned (sym c.in-Driven.is) ∙ c.found_plan.ensures.value) c.active_of-active.ensures.value c.requires.right
          (c.own_from.ensures.value ∙ ap (λ m. drop m c.args.marks.now) first) c.driven_found.ensures.value));
    }

pub returns-in-Output : goal.returns-in-Output
returns-in-Output c =
    let asking = c.args.asking.now in
    let a = asked_of asking in
    let f = c.requires.found in
    let k = c.args.found.instance in
    let own = c.own_from-in-Output.result in
    let first = first_is (first_node a.design a.rows k) c.args.found.number c.args.node c.requires.node in
    let is : own ≡ drop (first_node a.design a.rows k) c.args.marks.now = c.own_from-in-Output.ensures.value ∙ ap (λ m. drop m c.args.marks.now) first in
    record {
      found = subst (Looked (leads_of a (Some c.args.found)) (seen_at a k c.args.found.port) c.args.marks.now) (sym c.from_first-in-Output.ensures.value)
          (placed_looked a asking.nodes.now c.requires.can.can.network k f.from f.within c.args.marks.now c.requires.right own is (c.args.node - c.args.found.number) (lead_ports (instance_of a k) (active_at a k) c.args.found.port)
          (below_nodes a k c.args.found.port) (seen_at a k c.args.found.port) c.output_found.result first c.output_found.ensures.found);
    }
