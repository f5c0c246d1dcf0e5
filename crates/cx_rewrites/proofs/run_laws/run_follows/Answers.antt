use Rattle.std.proofs.Common.{refl}
use Rattle.cx_meaning.specs.Control.{run}
use Rattle.cx_rewrites.specs.Tallies.{count}
use Rattle.cx_rewrites.specs.Carrying.{Exact}
use Rattle.cx_rewrites.proofs.BesideLemmas.{run_carries}
use Rattle.cx_rewrites.proofs.FollowLemmas.{end_followed, fault_followed, more_followed}
use Rattle.cx_rewrites.proofs.run_laws.run_follows.Goals as goal

pub returns-clause-ends : goal.returns-clause-ends
returns-clause-ends g c = λ faults old new counting s t before a b after n k rests h stands ends.
    end_followed g.W.Rewriting.stands faults before (count old counting s a n) (run old s a n) (run new t b n) after k ends
    (run_carries Exact g.W.Rewriting.stands faults old counting new rests h before a b n n refl stands)

pub returns-clause-faults : goal.returns-clause-faults
returns-clause-faults g c = λ faults old new counting s t before a b f n k rests h stands stops.
    fault_followed g.W.Rewriting.stands faults before (count old counting s a n) (run old s a n) (run new t b n) f k stops
    (run_carries Exact g.W.Rewriting.stands faults old counting new rests h before a b n n refl stands)

pub returns-clause-more : goal.returns-clause-more
returns-clause-more g c = λ faults old new counting s t before a b n rests h stands more.
    more_followed g.W.Rewriting.stands faults before (count old counting s a n) (run old s a n) (run new t b n) more
    (run_carries Exact g.W.Rewriting.stands faults old counting new rests h before a b n n refl stands)
