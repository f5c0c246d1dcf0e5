use Rattle.cx_rewrites.proofs.TurnLemmas.{call_carries}
use Rattle.cx_rewrites.proofs.leaf_laws.calls_carry.Goals as goal

pub returns : goal.returns
returns w c = λ pace faults child_faults i j held twin_held g h called twin children others counts carries kids.
    call_carries pace w.W.Rewriting.stands faults i j held twin_held w.V.Rewriting.stands child_faults g h called twin carries children others counts kids
