use Rattle.cx_eval.proofs.SourceLemmas.{place_found}
use Rattle.cx_eval.proofs.closing.place_of.Goals as goal

pub returns-in-Ok : goal.returns-in-Ok
returns-in-Ok c = record { value = place_found c.args.numbers.now c.in-Ok.place c.args.number c.in-Ok.ensures.bound c.in-Ok.ensures.ok }
