use Rattle.cx_interp.specs.Counts.{plain_counts}
use Rattle.cx_interp.proofs.TableCounts.{entry_counted}
use Rattle.cx_interp.proofs.counts.Counts.add_each.Goals as goal

pub loop-place-preserved : goal.loop-place-preserved
loop-place-preserved c =
    entry_counted c.args.instance c.args.entries.now c.loop-place.place _ c.loop-place-test.true (plain_counts c.args.self.now) (plain_counts c.loop-place.self)
    (plain_counts c.add_new.new.self)
    c.add_new.ensures.known c.add_new.ensures.unknown c.loop-place.invariant
