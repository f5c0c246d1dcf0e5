use Rattle.cx_velab.proofs.PathLemmas.{port-some, port-none}
use Rattle.cx_velab.proofs.paths.port.Goals as goal

pub returns-in-Some : goal.returns-in-Some
returns-in-Some c = port-some c.args.ports.now c.args.number c.in-Some.port.now c.in-Some.ensures.lookup.3.0 c.in-Some.ensures.lookup.1

pub returns-in-None : goal.returns-in-None
returns-in-None c = port-none c.args.ports.now c.args.number c.in-None.ensures.lookup.3
