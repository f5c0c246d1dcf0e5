use Rattle.cx_weave.specs.Strands.{plain_strand}
use Rattle.cx_weave.proofs.StrandSizes.{size_of}
use Rattle.cx_weave.proofs.levels.+below.Given as goal

abbrev pub decreases-step_below : goal.decreases-step_below
decreases-step_below l = size_of (plain_strand l.strand.now)
