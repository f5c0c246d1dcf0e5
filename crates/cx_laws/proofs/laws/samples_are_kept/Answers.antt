use Rattle.cx_laws.proofs.SampleLemmas.{first_kept, next_kept}
use Rattle.cx_laws.proofs.laws.samples_are_kept.Goals as goal

pub returns-clause-first : goal.returns-clause-first
returns-clause-first c = λ part form h look kept. first_kept part form h look kept

pub returns-clause-later : goal.returns-clause-later
returns-clause-later c = λ part form h t look kept k. next_kept part form h t look kept k
