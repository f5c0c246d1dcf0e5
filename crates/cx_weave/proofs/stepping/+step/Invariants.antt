use Rattle.std.proofs.Common.{◌+◌, ◌*◌}
use Rattle.cx_weave.specs.Strands.{plain_arms, plain_strand}
use Rattle.cx_weave.proofs.StrandSizes.{size_of, sizes_of}
use Rattle.cx_weave.proofs.stepping.+step.Given as goal

abbrev pub decreases-step : goal.decreases-step
decreases-step l = 4 * size_of (plain_strand l.strand.now) + 2

abbrev pub decreases-step_whole : goal.decreases-step_whole
decreases-step_whole l = 4 * size_of (plain_strand l.strand.now) + 1

abbrev pub decreases-step_out : goal.decreases-step_out
decreases-step_out l = 4 * size_of (plain_strand l.strand)

abbrev pub decreases-step_arms : goal.decreases-step_arms
decreases-step_arms l = 4 * sizes_of (plain_arms l.arms.now) + 2

abbrev pub decreases-step_both : goal.decreases-step_both
decreases-step_both l = 4 * sizes_of (plain_arms l.arms) + 1

abbrev pub decreases-step_front : goal.decreases-step_front
decreases-step_front l = 4 * sizes_of (plain_arms l.one.value) + 3

abbrev pub decreases-step_back : goal.decreases-step_back
decreases-step_back l = 4 * sizes_of (plain_arms l.other.value) + 3

abbrev pub decreases-step_call : goal.decreases-step_call
decreases-step_call l = 4 * size_of (plain_strand l.child.value) + 3
