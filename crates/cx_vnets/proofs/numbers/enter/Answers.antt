use Rattle.std.proofs.Common.{sym}
use Rattle.cx_vnets.proofs.CodeSteps.{entered}
use Rattle.cx_vnets.proofs.numbers.enter.Goals as goal

pub returns-in_ok-insert : goal.returns-in_ok-insert
returns-in_ok-insert c = entered c.args.numbers.now c.insert.new.self c.args.name c.args.number (sym c.if-not-contains_key.ensures) c.in_ok-insert.ensures.updates
