use Rattle.cx_state.proofs.StartLemmas.{past_next}
use Rattle.cx_state.proofs.starts.past.Goals as goal

pub returns-then-next-memories : goal.returns-then-next-memories
returns-then-next-memories c = past_next c.args.memories.now c.args.next c.args.external c.if-external.true c.if-next-memories.true
