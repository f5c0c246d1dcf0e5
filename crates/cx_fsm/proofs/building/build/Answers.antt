use Rattle.cx_net.specs.NetsAsData.{plain_net}
use Rattle.cx_static.specs.PlainLowered.{plain_lowereds}
use Rattle.cx_fsm.proofs.BuiltLemmas.{built_owes, built_writable}
use Rattle.cx_fsm.proofs.building.build.Goals as goal

pub returns-clause-meaning : goal.returns-clause-meaning
returns-clause-meaning c = λ d rules flat accepted same.
    built_owes plain_net d (plain_lowereds c.args.design.now) rules flat accepted same c.reached_net.result (c.design_is_realised.ensures d rules flat accepted) c.reached_net.ensures.value

pub returns-clause-writable : goal.returns-clause-writable
returns-clause-writable c = λ d rules flat accepted same can.
    built_writable plain_net d (plain_lowereds c.args.design.now) rules flat accepted same c.reached_net.result can c.reached_net.ensures.value
