use Rattle.cx_rewrites.proofs.MoveLemmas as moved
use Rattle.cx_rewrites.proofs.sight_laws.seen_moves.Goals as goal

pub returns-clause-seen : goal.returns-clause-seen
returns-clause-seen g c = λ move i j held twin_held act more s z p x moves acyclic deeper here sees.
    moved.seen_moves move i j held twin_held act more s z g.W.Rewriting.inside moves acyclic deeper p x here sees

pub returns-clause-found : goal.returns-clause-found
returns-clause-found g c = λ move i j held twin_held act more s z p moves acyclic deeper first_acyclic first_deeper here.
    moved.found_moves move i j held twin_held act more s z g.W.Rewriting.inside moves acyclic deeper first_acyclic first_deeper p here
