use Rattle.cx_rewrites.proofs.DriverLemmas.{driven_between, driven_moved}
use Rattle.cx_rewrites.proofs.sight_laws.moved_ports_are_driven.Goals as goal

pub returns-clause-between : goal.returns-clause-between
returns-clause-between c = λ move act more p part other between. driven_between move act more p part other between

pub returns-clause-alone : goal.returns-clause-alone
returns-clause-alone c = λ move act more p part other offsets always groups apart. driven_moved move act more p offsets part other always groups apart
