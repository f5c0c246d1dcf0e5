use Rattle.cx_fsm.proofs.OrderingLemmas.{place_begins}
use Rattle.cx_fsm.proofs.ordering.place_in.Goals as goal

pub loop-place-init : goal.loop-place-init
loop-place-init c = place_begins c.args.component c.args.order.now
