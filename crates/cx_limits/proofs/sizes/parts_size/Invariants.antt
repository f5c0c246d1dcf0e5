use Rattle.std.proofs.Common.{◌≡◌}
use Rattle.cx_design.specs.PlainDesigns.{plain_design}
use Rattle.cx_rules.specs.Counts.{counted_sizes}
use Rattle.cx_design_sizes.specs.Capped.{capped}
use Rattle.cx_limits.proofs.sizes.parts_size.Given as goal

abbrev pub invariant-loop-number : goal.invariant-loop-number
invariant-loop-number l = l.size ≡ capped (counted_sizes (plain_design l.design) l.number)
