use Rattle.std.proofs.Common.{length}
use Rattle.cx_vmods.proofs.addresses.+in_range.Given as goal

abbrev pub decreases-in_range : goal.decreases-in_range
decreases-in_range l = length l.sizes.now
