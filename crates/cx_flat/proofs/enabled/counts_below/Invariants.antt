use Rattle.std.proofs.Common.{◌≡◌, map}
use Rattle.std.specs.List.{range_with_len}
use Rattle.cx_flattening.specs.Copies.{enabled_below}
use Rattle.cx_flat.proofs.enabled.counts_below.Given as goal

abbrev pub invariant-loop-group : goal.invariant-loop-group
invariant-loop-group l = record {
  all : l.all.items ≡ map (enabled_below l.groups) (range_with_len 0 l.group);
  count : l.count ≡ enabled_below l.groups l.group;
}
