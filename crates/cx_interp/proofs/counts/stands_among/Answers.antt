use Rattle.std.proofs.Common.{sym}
use Rattle.cx_interp.proofs.TableCounts.{not_yet, stands_there}
use Rattle.cx_interp.proofs.counts.stands_among.Goals as goal

pub returns-then-entry-group : goal.returns-then-entry-group
returns-then-entry-group c = sym (stands_there c.args.entries.now c.loop-entry.entry-index _ c.args.group c.loop-entry-test.true c.if-entry-group.true)

pub loop-entry-preserved : goal.loop-entry-preserved
loop-entry-preserved c = not_yet c.args.entries.now c.loop-entry.entry-index _ c.args.group c.loop-entry-test.true c.loop-entry.invariant c.if-entry-group.false
