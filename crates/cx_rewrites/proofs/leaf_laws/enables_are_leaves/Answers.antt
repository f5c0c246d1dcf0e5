use Rattle.cx_rewrites.proofs.TurnLemmas.{enable-turns, enable-call, enable-island}
use Rattle.cx_rewrites.proofs.leaf_laws.enables_are_leaves.Goals as goal

pub returns-clause-turns : goal.returns-clause-turns
returns-clause-turns c = λ i kids held g s n none calls. enable-turns i kids held g none calls s n

pub returns-clause-call : goal.returns-clause-call
returns-clause-call c = λ i kids held g cell s n none calls. enable-call i kids held g cell none calls s n

pub returns-clause-island : goal.returns-clause-island
returns-clause-island c = λ i kids held g k s n some. enable-island i kids held g k some s n
