use Rattle.std.proofs.Common.{sym, subst}
use Rattle.cx_eval_network.specs.Askings.{asked_of}
use Rattle.cx_eval_network.specs.Networks.{value_at}
use Rattle.cx_eval_network.proofs.ListLemmas.{Filled, known_filled}
use Rattle.cx_eval_network.proofs.filling.fill_looked.Goals as goal

pub returns-in-Worth : goal.returns-in-Worth
returns-in-Worth c =
    let asking = c.args.asking.now in
    let value = value_at (asked_of asking) asking.nodes.now in
    let marks = c.args.marks.now in
    let f = subst (Filled value marks) (sym c.know.ensures.marks) (known_filled value marks c.args.node c.in-Worth.seen c.requires.ready c.in-Worth.ensures.found) in
    record { ready = f.ready; kept = f.kept; count = f.count }
