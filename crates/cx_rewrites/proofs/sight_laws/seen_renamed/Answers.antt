use Rattle.cx_rewrites.proofs.RenamedLemmas as lemmas
use Rattle.cx_rewrites.proofs.sight_laws.seen_renamed.Goals as goal

pub returns-clause-seen : goal.returns-clause-seen
returns-clause-seen g c = λ cell i j held twin_held act more s z p x renames acyclic deeper here sees. lemmas.seen_renamed renames acyclic deeper p x here sees

pub returns-clause-found : goal.returns-clause-found
returns-clause-found g c = λ cell i j held twin_held act more s z p renames acyclic deeper first_acyclic first_deeper here.
    lemmas.found_renamed renames acyclic deeper first_acyclic first_deeper p here
