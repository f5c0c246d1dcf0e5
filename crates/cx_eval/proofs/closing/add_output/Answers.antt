use Rattle.cx_eval.proofs.closing.add_output.Goals as goal

pub returns-in-Ok-clause-operators : goal.returns-in-Ok-clause-operators
returns-in-Ok-clause-operators c = λ i h known before. c.in-Ok.ensures.operators i h known (c.in-Some.ensures.value i h) before
