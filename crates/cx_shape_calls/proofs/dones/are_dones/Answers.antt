use Rattle.std.proofs.Common.{rules}
use Rattle.cx_callees.specs.Callees.{plain_callee, done_of}
use Rattle.cx_shape_calls.specs.Forms.{times}
use Rattle.cx_shape_calls.proofs.DoneLemmas.{dones_counted}
use Rattle.cx_shape_calls.proofs.dones.are_dones.Goals as goal

pub returns : goal.returns
returns c = record {
  value = dones_counted (done_of (plain_callee c.args.callee)) (times c.in_ok-tally.tally) c.args.ports.now c.args.captured.now c.have_dones.result c.in_ok-tally.ensures.value (search rules) (search rules) c.have_dones.ensures.value;
}
