use Rattle.std.proofs.Common.{◌++◌, get_or, sym, ap, ◌∙◌}
use Rattle.std.proofs.lemmas.List.{append-nil, take_all}
use Rattle.cx_meaning.specs.declared.ports.PortRef.TheVariants.{Cell}
use Rattle.cx_meaning.specs.declared.ports.PlacedPort.{PlacedPort}
use Rattle.cx_eval_network.specs.Plans.{instance_of}
use Rattle.cx_eval_network.proofs.FoundLemmas.{get_same}
use Rattle.cx_eval_network.proofs.PlanLemmas.{numbers_more, placed_numbers}
use Rattle.cx_eval_network.proofs.planning.add_numbers.Goals as goal

pub loop-port-init : goal.loop-port-init
loop-port-init c = sym (append-nil c.args.found.now.items)

pub loop-port-preserved : goal.loop-port-preserved
loop-port-preserved c =
    let none : PlacedPort = record { port = Cell 0 0; place = record { line = 0; column = 0 } } in
    let ports = c.args.ports.now in
    let k = c.loop-port.port-index in
    let p = get_or ports k none in
    numbers_more (instance_of c.args.part.now) c.args.found.now.items c.loop-port.found.items c.add_number.new.found.items ports k p c.loop-port-test.true (get_same ports k none p c.loop-port-test.true) c.loop-port.invariant
    c.in_ok-add_number.ensures.value

pub returns : goal.returns
returns c = record {
  value = c.loop-port.invariant ∙ ap (λ ps. c.args.found.now.items ++ placed_numbers (instance_of c.args.part.now) ps) (take_all c.loop-port.port-index c.args.ports.now c.loop-port-test.false);
}
