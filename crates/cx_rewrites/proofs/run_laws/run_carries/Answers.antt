use Rattle.cx_meaning.specs.Control.{run}
use Rattle.cx_rewrites.specs.Tallies.{count}
use Rattle.cx_rewrites.proofs.BesideLemmas as beside
use Rattle.cx_rewrites.proofs.MovedLemmas.{moved_carries}
use Rattle.cx_rewrites.proofs.FollowLemmas.{ends_carried}
use Rattle.cx_rewrites.proofs.run_laws.run_carries.Goals as goal

pub returns-clause-statements : goal.returns-clause-statements
returns-clause-statements g c = λ pace faults old new counting s t rests h. beside.run_carries pace g.W.Rewriting.stands faults old counting new rests h

pub returns-clause-moved : goal.returns-clause-moved
returns-clause-moved g c = λ pace faults old new counting move context s leaves keep.
    moved_carries pace g.W.Rewriting.stands faults old counting new move g.W.Rewriting.groups g.W.Rewriting.forms leaves context s keep

pub returns-clause-ends : goal.returns-clause-ends
returns-clause-ends g c = λ pace faults old new counting s t before a b after n m k rests h room stands ends.
    ends_carried g.W.Rewriting.stands faults before (count old counting s a n) (run old s a n) (run new t b m) pace after k ends
    (beside.run_carries pace g.W.Rewriting.stands faults old counting new rests h before a b n m room stands)
