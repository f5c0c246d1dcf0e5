use Rattle.cx_stateful.proofs.LocateLemmas.{IsLocating}
use Rattle.cx_stateful.proofs.layout.locate.Given as goal

abbrev pub invariant-loop-port : goal.invariant-loop-port
invariant-loop-port l = IsLocating l.sizes l.inputs l.port l.number
