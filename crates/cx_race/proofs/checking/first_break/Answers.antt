use Rattle.std.proofs.Common.{None}
use Rattle.cx_design.specs.PlainDesigns.{plain_design}
use Rattle.cx_race.proofs.RaceLemmas.{next_component}
use Rattle.cx_race.proofs.checking.first_break.Goals as goal

pub loop-number-preserved : goal.loop-number-preserved
loop-number-preserved c =
    next_component (plain_design c.args.design.now) c.loop-number.number None c.loop-number.first c.add_component.new.first c.loop-number.invariant c.in_ok-add_component.ensures.looked
