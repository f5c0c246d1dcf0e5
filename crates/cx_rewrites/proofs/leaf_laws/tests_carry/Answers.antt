use Rattle.cx_rewrites.proofs.TurnLemmas.{test_carried}
use Rattle.cx_rewrites.proofs.leaf_laws.tests_carry.Goals as goal

pub returns : goal.returns
returns w c = λ pace faults i j held twin_held p q one two before s z same told stands.
    test_carried pace w.W.Rewriting.stands faults i j held twin_held p q one two same told before s z stands
