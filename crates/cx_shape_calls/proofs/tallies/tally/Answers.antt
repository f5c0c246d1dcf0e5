use Rattle.std.proofs.Common.{rules, arith}
use Rattle.cx_meaning.specs.declared.ports.PortRef.TheVariants as refs
use Rattle.cx_shape_calls.specs.Forms.{times}
use Rattle.cx_shape_calls.proofs.DoneLemmas.{count_more, count_taken}
use Rattle.cx_shape_calls.proofs.tallies.tally.Goals as goal

pub count-requires : goal.count-requires
count-requires c = record { room = λ d q. omega (arith, c.loop-port.invariant d q, count_taken (refs.Cell d q) c.args.ports.now c.loop-port.port-index) }

pub loop-port-preserved : goal.loop-port-preserved
loop-port-preserved c =
    count_more (times c.loop-port.tally) (times c.count.new.tally) c.args.ports.now c.loop-port.port-index _ (omega arith) (search rules) c.loop-port.invariant c.in_ok-count.ensures.value
