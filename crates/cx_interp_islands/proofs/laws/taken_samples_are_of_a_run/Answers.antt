use Rattle.cx_meaning.specs.Islands.{no_history, and_now}
use Rattle.cx_interp_islands.proofs.laws.taken_samples_are_of_a_run.Goals as goal
use Rattle.std.proofs.Common.{suc}

pub returns-clause-first : goal.returns-clause-first
returns-clause-first c = λ part form look kept. (and_now no_history 0 look, c.samples_are_kept.ensures.first part form no_history look kept)

pub returns-clause-later : goal.returns-clause-later
returns-clause-later c = λ part form t look kept sampled. (and_now sampled.0 (suc t) look, c.samples_are_kept.ensures.later part form sampled.0 t look kept sampled.1)
