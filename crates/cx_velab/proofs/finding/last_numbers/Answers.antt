use Rattle.cx_velab.proofs.FoundLemmas.{last_step}
use Rattle.cx_velab.proofs.finding.last_numbers.Goals as goal

pub loop-i-preserved : goal.loop-i-preserved
loop-i-preserved c =
    last_step c.loop-i.found c.insert.new.self c.args.modules.now c.loop-i.i c.index-modules-i.result c.loop-i.invariant c.in_ok-insert.ensures.updates.0
    c.loop-i-test.true c.index-modules-i.is
