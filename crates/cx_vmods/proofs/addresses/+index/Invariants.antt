use Rattle.std.proofs.Common.{length}
use Rattle.cx_vmods.proofs.addresses.+index.Given as goal

abbrev pub decreases-index : goal.decreases-index
decreases-index l = length l.sizes.now
