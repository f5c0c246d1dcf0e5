use Rattle.std.proofs.Common.{refl}
use Rattle.cx_eval.proofs.TestLemmas.{ends_there}
use Rattle.cx_eval.proofs.sights.up_to.Goals as goal

pub returns-then-is_port-clause-last : goal.returns-then-is_port-clause-last
returns-then-is_port-clause-last c =
    ends_there c.args.port c.args.operators.now c.loop-place.place c.index-operators-place.result c.loop-place-test.true c.index-operators-place.is (c.if-is_port.ensures.value refl)
