use Rattle.std.proofs.Common.{◌≡◌, length, sym, subst, arith}
use Rattle.cx_meaning.specs.declared.ports.PortRef.TheVariants.{Cell}
use Rattle.cx_eval_network.specs.declared.planned.PortPlan.TheVariants.{Output}
use Rattle.cx_eval.specs.declared.sources.Source.TheVariants.{Slot}
use Rattle.cx_eval.specs.Sources.{HasPlan, IsSeenBy}
use Rattle.cx_eval.proofs.SourceLemmas.{operator_seen, operators_more}
use Rattle.cx_eval.proofs.closing.add_operator.Goals as goal

pub returns-in_ok-push-in-Some-clause-operators : goal.returns-in_ok-push-in-Some-clause-operators
returns-in_ok-push-in-Some-clause-operators c = λ i h known plan before.
    operators_more i c.args.of.now.active.now c.args.operators.now.items _ (record { cell = c.args.cell; port = c.args.port; inputs = c.in-Some.inputs }) c.in_ok-push-in-Some.ensures.items
    (record {
      plan = subst (λ n. HasPlan i (Cell c.args.cell c.args.port) (Output n)) (sym (rw c.in-Some.is at c.in_ok-inputs.ensures.count)) plan;
      inputs = (rw c.in-Some.is at c.in_ok-inputs.ensures.value) i c.args.operators.now.items h known;
    })
    before

pub returns-in_ok-push-in-Some-clause-seen : goal.returns-in_ok-push-in-Some-clause-seen
returns-in_ok-push-in-Some-clause-seen c = λ i.
    let place : length c.args.operators.now.items ≡ c.len-place.result = omega (arith, c.len-place.ensures, c.args.operators.now.ok.0) in
    subst (λ n. IsSeenBy i c.args.of.now.active.now c.push.new.self.items (Cell c.args.cell c.args.port) (Slot n)) place
    (operator_seen i c.args.of.now.active.now c.args.operators.now.items _ (record { cell = c.args.cell; port = c.args.port; inputs = c.in-Some.inputs }) c.in_ok-push-in-Some.ensures.items)
