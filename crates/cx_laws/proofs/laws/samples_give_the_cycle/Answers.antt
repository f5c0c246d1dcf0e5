use Rattle.cx_laws.specs.Positions.{entry_at, no_entry, no_port, port_at}
use Rattle.cx_laws.proofs.SampleLemmas.{by_samples}
use Rattle.cx_laws.proofs.laws.samples_give_the_cycle.Goals as goal

pub returns-clause-active : goal.returns-clause-active
returns-clause-active c = λ part form h t kept k. by_samples part form h t kept entry_at no_entry k

pub returns-clause-begun : goal.returns-clause-begun
returns-clause-begun c = λ part form h t kept k. by_samples part form h t kept no_port port_at k
