use Rattle.cx_rewrites.proofs.SolvedLemmas as solved
use Rattle.cx_rewrites.proofs.sight_laws.solved_is_seen.Goals as goal

pub returns-clause-seen : goal.returns-clause-seen
returns-clause-seen g c = λ i held act s look p x solves here sees. solved.solved_is_seen solves here sees

pub returns-clause-found : goal.returns-clause-found
returns-clause-found g c = λ i held act s look p acyclic deeper solves here. solved.solved_is_found i held act s g.W.Rewriting.inside look acyclic deeper solves p here
