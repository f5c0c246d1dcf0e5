use Rattle.std.proofs.Common.{sym}
use Rattle.cx_vsound.proofs.FirstLemmas.{entered}
use Rattle.cx_vsound.proofs.earlier.enter.Goals as goal

pub returns-in_ok-insert-clause-entered : goal.returns-in_ok-insert-clause-entered
returns-in_ok-insert-clause-entered c = entered c.args.first.now c.insert.new.self c.args.name c.args.number (sym c.if-not-contains_key.ensures) c.in_ok-insert.ensures.updates
