use Rattle.std.proofs.Common.{◌≡◌, ◌-◌}
use Rattle.cx_vmods.specs.BitCounts.{bits_for, bits_from}
use Rattle.cx_vmods.proofs.widths.bits_for.Given as goal

abbrev pub invariant-loop-width : goal.invariant-loop-width
invariant-loop-width l = bits_for l.numbers ≡ bits_from (32 - l.width) l.width l.numbers
